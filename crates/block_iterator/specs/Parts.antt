-- What the private functions answer, and what they ask of a row that is to be given.
use Rattle.std.specs.Prelude.{ℕ, suc, ◌+◌, ◌≤◌, List, ◌++◌, ◌≡◌, length, take, drop, Result, Ok, Err, ⊤}
use Rattle.layout.specs.Res.{Res}
use Rattle.layout.specs.RowRead.{RowRead as RowReadL, key_length}
use Rattle.layout.specs.Trailer.{Trailer as TrailerL, data_of}
use Rattle.layout.specs.Cursor.{Direction}
use Rattle.layout_v1.specs.Cursor.{Cursor, cursor_is, found, Step, step_is, number_of, step_to, open_block}
use Rattle.layout_v1.specs.Seek.{Sought as SoughtL, sought_is}
use Rattle.basics.specs.Answers.{says}
use Rattle.basics.specs.Says.{says_order}
use Rattle.basics.specs.declared.Refusal.{Refusal}
use Rattle.row_decode_v2.specs.Says.{row_from}
use Rattle.block_iterator.specs.declared.BlockIterator.{BlockIterator}
use Rattle.block_iterator.specs.declared.Loaded.{Loaded}
use Rattle.block_iterator.specs.declared.Landed.{Landed}
use Rattle.block_iterator.specs.declared.Next.{Next}
use Rattle.block_iterator.specs.Promise.{Steps}
use Rattle.block_iterator.specs.Says.{view_of}

-- a row's key, in two parts that lie in the data: of the first key, which starts at `at`, and its suffix
abbrev pub key_at : List ℕ → ℕ → RowReadL → List ℕ
key_at d at r = take r.shared (drop at d) ++ take r.suffix_len (drop r.suffix_at d)

-- both lie there, and the lent buffer holds them
pub record Fits (d : List ℕ) (at room : ℕ) (r : RowReadL) : Type 0 where
  pub first : at + r.shared ≤ length d
  pub suffix : r.suffix_at + r.suffix_len ≤ length d
  pub held : key_length r ≤ room

abbrev pub step_from : Cursor → List ℕ → ℕ → Loaded → Step
step_from c d i l = step_is (cursor_is c.order (suc c.passed)) (found i (row_from l.row) (key_at d l.first_at (row_from l.row)))

abbrev pub says_loaded : Cursor → List ℕ → ℕ → Result Loaded Refusal → Res Step
says_loaded c d i = says (step_from c d i)

abbrev pub Ready : List ℕ → ℕ → Result Loaded Refusal → Type 0
Ready d room (Ok l) = Fits d l.first_at room (row_from l.row)
Ready d room (Err r) = Unit {0}

-- what the step to row i answers, whatever cursor makes it
pub record Loads (b : List ℕ) (t : TrailerL) (i room : ℕ) (a : Result Loaded Refusal) : Type 0 where
  pub says : (c : Cursor) → says_loaded c (data_of b t) i a ≡ step_to c b t room i
  pub ready : Ready (data_of b t) room a

abbrev pub Gives : BlockIterator → List ℕ → TrailerL → List ℕ → Next → List ℕ → Type 0
Gives c b t out r out' = Steps (step_to (view_of c) b t (length out) (number_of (says_order c.order) t.count c.passed)) c out r out'

abbrev pub refused_with : BlockIterator → Refusal → Next
refused_with c x = record { iterator = c; answer = Err x }

-- what an opening tests, in either direction
abbrev pub Tests : List ℕ → Result ⊤ Refusal → Type 0
Tests b r = (d : Direction) → says (λ v. cursor_is d 0) r ≡ open_block b d

-- what a seek finds
abbrev pub sought_from : Direction → Landed → SoughtL
sought_from d l = sought_is (cursor_is d l.passed) l.reads

abbrev pub says_landed : Direction → Result Landed Refusal → Res SoughtL
says_landed d = says (sought_from d)

-- What the private functions answer and leave.
use Rattle.std.specs.Prelude.{ℕ, ◌+◌, ◌*◌, ◌<◌, ◌≤◌, Bool, true, false, cond, ◌≡◌, List, [], ◌++◌, length, take, drop, Result, Ok, Err}
use Rattle.layout.specs.Res.{Res, ok, bind}
use Rattle.layout.specs.Cursor.{Cursor, done, step_is, next}
use Rattle.layout.specs.Limits.{max_key}
use Rattle.layout.specs.Place.{splice}
use Rattle.basics.specs.Answers.{says}
use Rattle.basics.specs.Number.{number}
use Rattle.basics.specs.declared.Refusal.{Refusal}
use Rattle.step_in_place_v2.specs.Promise.{Kept}
use Rattle.row_plain_v2.specs.declared.PlainRow.{PlainRow}
use Rattle.place_v2.specs.Says.{view_in}
use Rattle.place_v2.specs.declared.Place.{Place}
use Rattle.row_words.specs.Words.{done_code, set_by, cursor_words, row_count}
use Rattle.block_rows_v2.specs.declared.Gave.{Gave}
use Rattle.block_rows_v2.specs.declared.Ran.{Ran}
use Rattle.block_rows_v2.specs.declared.Went.{Went}
use Rattle.block_rows_v2.specs.declared.Went.TheVariants.{On, Stopped}
use Rattle.block_rows_v2.specs.Rows.{Run, next_rows, keys_of, words_of}
use Rattle.block_rows_v2.specs.Chain.{Gone}

-- a run without its rows: how many there are
pub record End : Type 0 where
  pub over : Bool
  pub cursor : Cursor
  pub count : ℕ

abbrev pub end_is : Bool → Cursor → ℕ → End
end_is o c n = record { over = o; cursor = c; count = n }

abbrev pub end_of : Run → Res End
end_of r = ok (end_is r.over r.cursor (length r.rows))

abbrev pub gave_is : Bool → Place → ℕ → Gave
gave_is o p n = record { over = o; place = p; count = n }

abbrev pub says_gave : List ℕ → Result Gave Refusal → Res End
says_gave key = says (λ g. end_is g.over (view_in g.place key) g.count)

pub record Gives (want : Res Run) (key keys rows : List ℕ) (r : Result Gave Refusal) (key' keys' rows' : List ℕ) : Type 0 where
  pub answer : says_gave key' r ≡ bind want end_of
  pub whole : Kept want key' key
  pub keys-given : keys' ≡ set_by want (λ x. splice keys 0 (keys_of x.rows)) keys
  pub row_words : rows' ≡ set_by want (λ x. splice rows 0 (words_of x.rows)) rows

-- ---- what is stored of it

abbrev pub gave_code : Result Gave Refusal → ℕ
gave_code (Ok g) = cond g.over done_code 0
gave_code (Err x) = number x

abbrev pub gave_words : Result Gave Refusal → List ℕ → List ℕ
gave_words (Ok g) ws = cursor_words (view_in g.place [])
gave_words (Err x) ws = ws

abbrev pub gave_count : Result Gave Refusal → ℕ → ℕ
gave_count (Ok g) old = g.count
gave_count (Err x) old = old

pub record PutsGave (g : Result Gave Refusal) (ws : List ℕ) (n code : ℕ) (ws' : List ℕ) (n' : ℕ) : Type 0 where
  pub answer : code ≡ gave_code g
  pub state : ws' ≡ gave_words g ws
  pub number : n' ≡ gave_count g n

-- ---- plain rows

-- a place with the mark set
abbrev pub marked_at : Place → Place
marked_at p = record { order = p.order; region = p.region; at = p.at; number = p.number; key_len = p.key_len; done = true }

abbrev pub ran_to_of : Place → ℕ → ℕ → Ran
ran_to_of p used n = record { place = p; used = used; count = n; ended = false }

-- the key of a plain row in its two parts: what the carried key begins with, and the suffix
abbrev pub key_at : List ℕ → List ℕ → ℕ → PlainRow → List ℕ
key_at key d at r = take r.shared key ++ take r.unshared (drop (at + 3) d)

pub record Carried (key out d : List ℕ) (at : ℕ) (r : PlainRow) (key' out' : List ℕ) : Type 0 where
  pub carried : take (r.shared + r.unshared) key' ≡ key_at key d at r
  pub given : out' ≡ splice out 0 (key_at key d at r)
  pub long : length key' ≡ length key

-- a run that has room for as many
pub record Roomy (came : Ran) (most : ℕ) (key keys rows : List ℕ) : Type 0 where
  pub whole : length key ≡ max_key
  pub inside : came.used ≤ length keys
  pub few : came.count ≤ most
  pub words : most * row_count ≤ length rows

-- where no row is left, a step says "done"
abbrev pub Ended : List ℕ → Ran → List ℕ → Type 0
Ended b r key = r.ended ≡ true → (room : ℕ) → next (view_in r.place key) b room ≡ ok (step_is (view_in (marked_at r.place) key) done)

-- rows given on the way: whatever rows were given before these, all are. Where none is, the key's bytes are those that came
pub record RunsOn (b : List ℕ) (most : ℕ) (came : Ran) (key keys rows : List ℕ) (r : Ran) (key' keys' rows' : List ℕ) : Type 0 where
  pub more : came.count ≤ r.count
  pub few : r.count ≤ most
  pub on : (keys₀ rows₀ : List ℕ) (c₀ : Cursor) → Gone b keys₀ rows₀ c₀ (view_in came.place key) keys rows came.used came.count
      → Gone b keys₀ rows₀ c₀ (view_in r.place key') keys' rows' r.used r.count
  pub long : length key' ≡ length key
  pub kept : r.count ≡ came.count → key' ≡ key
  pub still : r.ended ≡ true → r.count ≡ came.count
  pub ends : Ended b r key'

-- what is answered of all that were asked for
abbrev pub StopsOn : List ℕ → Ran → List ℕ → List ℕ → List ℕ → Result Gave Refusal → List ℕ → List ℕ → List ℕ → Type 0
StopsOn b here key keys rows a key' keys' rows' =
    (most : ℕ) (key₀ keys₀ rows₀ : List ℕ) (c₀ : Cursor) → here.count < most → (here.count ≡ 0 → key ≡ key₀)
    → Gone b keys₀ rows₀ c₀ (view_in here.place key) keys rows here.used here.count → Gives (next_rows most c₀ b (length keys₀)) key₀ keys₀ rows₀ a key' keys' rows'

-- one more row; or what is answered
abbrev pub StepsOn : List ℕ → Ran → List ℕ → List ℕ → List ℕ → Result Went Refusal → List ℕ → List ℕ → List ℕ → Type 0
StepsOn b here key keys rows (Ok (On r)) key' keys' rows' = RunsOn b (here.count + 1) here key keys rows r key' keys' rows' × (r.count ≡ here.count + 1) × (r.ended ≡ false)
StepsOn b here key keys rows (Ok (Stopped g)) key' keys' rows' = StopsOn b here key keys rows (Ok g) key' keys' rows'
StepsOn b here key keys rows (Err x) key' keys' rows' = StopsOn b here key keys rows (Err x) key' keys' rows'

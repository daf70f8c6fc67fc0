-- What each public function promises: equations to the definitions of `layout`, that settle each number answered and each byte lent. A cursor is known by its
-- view; one that a refusal gives back is the one that came, array and all.
use Rattle.std.specs.Prelude.{ℕ, ◌≡◌, Bool, List, length, replicate, Result}
use Rattle.layout.specs.Res.{Res, ok, refuse, bind, whether}
use Rattle.layout.specs.Limits.{max_key}
use Rattle.layout.specs.Cursor.{cursor_or, open_block, Step, next, cursor_after, key_after, is_empty}
use Rattle.layout.specs.Seek.{Sought as SoughtL, seek, sought_after}
use Rattle.basics.specs.Answers.{says_same, says_verdict}
use Rattle.basics.specs.Says.{says_order}
use Rattle.basics.specs.declared.IterationOrder.{IterationOrder}
use Rattle.basics.specs.declared.Refusal.{Refusal}
use Rattle.step_in_place_v2.specs.Says.{told}
use Rattle.seek_in_place_v2.specs.Says.{reported}
use Rattle.block_iterator_v2.specs.declared.BlockIteratorV2.{BlockIteratorV2}
use Rattle.block_iterator_v2.specs.declared.Opened.{Opened}
use Rattle.block_iterator_v2.specs.declared.Next.{Next}
use Rattle.block_iterator_v2.specs.declared.Sought.{Sought}
use Rattle.block_iterator_v2.specs.Says.{view_of, says_next, says_seek}

-- a cursor, and beside a refusal one in region 0 at 0; its key's bytes are zeros
pub record Opens (b : List ℕ) (order : IterationOrder) (r : Opened) : Type 0 where
  pub answer : says_verdict r.answer ≡ whether (open_block b (says_order order))
  pub view : view_of r.iterator ≡ cursor_or (says_order order) (open_block b (says_order order))
  pub bytes : r.iterator.key ≡ replicate max_key 0

-- beside a refusal, a is b whole
abbrev pub Whole : {A : Type 0} → Res A → BlockIteratorV2 → BlockIteratorV2 → Type 0
Whole (ok x) a b = Unit {0}
Whole (refuse n) a b = a ≡ b

-- a step that is wanted of a cursor: its answer r, and the lent key buffer that it leaves
pub record Steps (want : Res Step) (self : BlockIteratorV2) (out : List ℕ) (r : Next) (out' : List ℕ) : Type 0 where
  pub answer : says_next r.answer ≡ bind want told
  pub view : view_of r.iterator ≡ cursor_after want (view_of self)
  pub whole : Whole want r.iterator self
  pub lent : out' ≡ key_after want out

abbrev pub StepsNext : BlockIteratorV2 → List ℕ → List ℕ → Next → List ℕ → Type 0
StepsNext self b out r out' = Steps (next (view_of self) b (length out)) self out r out'

-- a seek that is wanted of a cursor: its answer r
pub record Seeks (want : Res SoughtL) (self : BlockIteratorV2) (r : Sought) : Type 0 where
  pub answer : says_seek r.answer ≡ bind want reported
  pub view : view_of r.iterator ≡ sought_after want (view_of self)
  pub whole : Whole want r.iterator self

abbrev pub SeeksTarget : BlockIteratorV2 → List ℕ → List ℕ → Sought → Type 0
SeeksTarget self b target r = Seeks (seek (says_order self.place.order) b target) self r

abbrev pub TellsEmpty : BlockIteratorV2 → List ℕ → Result Bool Refusal → Type 0
TellsEmpty self b r = says_same r ≡ is_empty (view_of self) b

-- What each public function promises: equations to the definitions of `layout_v1`, that settle each number answered and each byte lent. A cursor is known by its view, which
-- tells all of it.
use Rattle.std.specs.Prelude.{ℕ, Bool, ◌≡◌, List, length, Result}
use Rattle.layout.specs.Res.{Res, bind, whether}
use Rattle.layout_v1.specs.Cursor.{cursor_or, open_block, Step, next, cursor_after, key_after, is_empty}
use Rattle.layout_v1.specs.Seek.{Sought as SoughtL, seek, sought_after}
use Rattle.basics.specs.Answers.{says_verdict}
use Rattle.basics.specs.Says.{says_order}
use Rattle.basics.specs.declared.IterationOrder.{IterationOrder}
use Rattle.basics.specs.declared.Refusal.{Refusal}
use Rattle.block_iterator.specs.declared.BlockIterator.{BlockIterator}
use Rattle.block_iterator.specs.declared.Opened.{Opened}
use Rattle.block_iterator.specs.declared.Next.{Next}
use Rattle.block_iterator.specs.declared.Sought.{Sought}
use Rattle.block_iterator.specs.Says.{view_of, says_empty, told, says_next, reported, says_seek}

-- a cursor, and beside a refusal one that has passed no row
pub record Opens (b : List ℕ) (order : IterationOrder) (r : Opened) : Type 0 where
  pub answer : says_verdict r.answer ≡ whether (open_block b (says_order order))
  pub view : view_of r.iterator ≡ cursor_or (says_order order) (open_block b (says_order order))

abbrev pub TellsEmpty : BlockIterator → List ℕ → Result Bool Refusal → Type 0
TellsEmpty self b r = says_empty r ≡ is_empty (view_of self) b

-- a step that is wanted of a cursor: its answer r, and the lent key buffer that it leaves
pub record Steps (want : Res Step) (self : BlockIterator) (out : List ℕ) (r : Next) (out' : List ℕ) : Type 0 where
  pub answer : says_next r.answer ≡ bind want told
  pub view : view_of r.iterator ≡ cursor_after want (view_of self)
  pub lent : out' ≡ key_after want out

abbrev pub StepsNext : BlockIterator → List ℕ → List ℕ → Next → List ℕ → Type 0
StepsNext self b out r out' = Steps (next (view_of self) b (length out)) self out r out'

-- a seek that is wanted of a cursor: its answer r
pub record Seeks (want : Res SoughtL) (self : BlockIterator) (r : Sought) : Type 0 where
  pub answer : says_seek r.answer ≡ bind want reported
  pub view : view_of r.iterator ≡ sought_after want (view_of self)

abbrev pub SeeksTarget : BlockIterator → List ℕ → List ℕ → Sought → Type 0
SeeksTarget self b target r = Seeks (seek (says_order self.order) b target) self r

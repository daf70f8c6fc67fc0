-- Each promise admits one outcome: two results, with the buffers that they leave, that both keep it are equal; but for the bytes past the length of the key
-- that a moved cursor carries.
use Rattle.std.specs.Prelude.{ℕ, ◌≡◌, Bool, List, length, Result, ⊤}
use Rattle.std.proofs.Common.{ap, sym, ◌∙◌}
use Rattle.layout.specs.Res.{Res, ok, refuse}
use Rattle.layout.specs.Cursor.{next}
use Rattle.layout.specs.Seek.{seek}
use Rattle.basics.specs.Answers.{says_same-one, says_verdict-one}
use Rattle.basics.specs.Says.{says_order}
use Rattle.basics.specs.declared.IterationOrder.{IterationOrder}
use Rattle.basics.specs.declared.Refusal.{Refusal}
use Rattle.block_iterator_v2.specs.declared.BlockIteratorV2.{BlockIteratorV2}
use Rattle.block_iterator_v2.specs.declared.Opened.{Opened}
use Rattle.block_iterator_v2.specs.declared.Next.{Next}
use Rattle.block_iterator_v2.specs.declared.Sought.{Sought}
use Rattle.block_iterator_v2.specs.Says.{view_of, view_of-one, says_next-one, says_seek-one}
use Rattle.block_iterator_v2.specs.Promise.{Opens, Whole, StepsNext, SeeksTarget, TellsEmpty}

pub new-settled : (b : List ℕ) (order : IterationOrder) (r q : Opened) → Opens b order r → Opens b order q → r ≡ q
new-settled b order r q m n =
    let i = view_of-one r.iterator q.iterator (m.view ∙ sym n.view) (m.bytes ∙ sym n.bytes) in
    let a = says_verdict-one r.answer q.answer (m.answer ∙ sym n.answer) in
    ap (λ (x : BlockIteratorV2). record { iterator = x; answer = r.answer }) i ∙ ap (λ (x : Result ⊤ Refusal). record { iterator = q.iterator; answer = x }) a

wholes : {A : Type 0} (want : Res A) (a b self : BlockIteratorV2) → Whole want a self → Whole want b self → Whole want a b
wholes (ok x) a b self m n = tt
wholes (refuse k) a b self m n = m ∙ sym n

-- answers, cursors by their views, and after a refusal whole; and the key buffers
pub next-settled : (self : BlockIteratorV2) (b out : List ℕ) (r q : Next) (ys zs : List ℕ) → StepsNext self b out r ys → StepsNext self b out q zs
    → (r.answer ≡ q.answer) × (view_of r.iterator ≡ view_of q.iterator) × Whole (next (view_of self) b (length out)) r.iterator q.iterator × (ys ≡ zs)
next-settled self b out r q ys zs m n = (
  says_next-one r.answer q.answer (m.answer ∙ sym n.answer),
  m.view ∙ sym n.view,
  wholes (next (view_of self) b (length out)) r.iterator q.iterator self m.whole n.whole,
  m.lent ∙ sym n.lent,
)

pub seek-settled : (self : BlockIteratorV2) (b target : List ℕ) (r q : Sought) → SeeksTarget self b target r → SeeksTarget self b target q
    → (r.answer ≡ q.answer) × (view_of r.iterator ≡ view_of q.iterator) × Whole (seek (says_order self.place.order) b target) r.iterator q.iterator
seek-settled self b target r q m n = (
  says_seek-one r.answer q.answer (m.answer ∙ sym n.answer),
  m.view ∙ sym n.view,
  wholes (seek (says_order self.place.order) b target) r.iterator q.iterator self m.whole n.whole,
)

pub is-empty-settled : (self : BlockIteratorV2) (b : List ℕ) (r q : Result Bool Refusal) → TellsEmpty self b r → TellsEmpty self b q → r ≡ q
is-empty-settled self b r q m n = says_same-one r q (m ∙ sym n)

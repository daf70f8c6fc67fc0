-- Each promise admits one outcome: two results, with the buffers that they leave, that both keep it are equal.
use Rattle.std.specs.Prelude.{ℕ, Bool, ◌≡◌, List, Result, Option, ⊤}
use Rattle.std.proofs.Common.{ap₂, sym, ◌∙◌}
use Rattle.basics.specs.Answers.{says_verdict-one}
use Rattle.basics.specs.declared.IterationOrder.{IterationOrder}
use Rattle.basics.specs.declared.Refusal.{Refusal}
use Rattle.block_iterator.specs.declared.BlockIterator.{BlockIterator}
use Rattle.block_iterator.specs.declared.Found.{Found}
use Rattle.block_iterator.specs.declared.Opened.{Opened}
use Rattle.block_iterator.specs.declared.Next.{Next}
use Rattle.block_iterator.specs.declared.Sought.{Sought}
use Rattle.block_iterator.specs.Promise.{Opens, TellsEmpty, StepsNext, SeeksTarget}
use Rattle.block_iterator.specs.Says.{view_of-one, says_empty-one, says_next-one, says_seek-one}

pub new-settled : (b : List ℕ) (order : IterationOrder) (r q : Opened) → Opens b order r → Opens b order q → r ≡ q
new-settled b order r q m n =
    ap₂ (λ (x : BlockIterator) (y : Result ⊤ Refusal). record { iterator = x; answer = y })
    (view_of-one r.iterator q.iterator (m.view ∙ sym n.view))
    (says_verdict-one r.answer q.answer (m.answer ∙ sym n.answer))

pub is-empty-settled : (self : BlockIterator) (b : List ℕ) (r q : Result Bool Refusal) → TellsEmpty self b r → TellsEmpty self b q → r ≡ q
is-empty-settled self b r q m n = says_empty-one r q (m ∙ sym n)

pub next-settled : (self : BlockIterator) (b out : List ℕ) (r q : Next) (ys zs : List ℕ) → StepsNext self b out r ys → StepsNext self b out q zs → (r ≡ q) × (ys ≡ zs)
next-settled self b out r q ys zs m n = (
  ap₂ (λ (x : BlockIterator) (y : Result (Option Found) Refusal). record { iterator = x; answer = y })
      (view_of-one r.iterator q.iterator (m.view ∙ sym n.view))
      (says_next-one r.answer q.answer (m.answer ∙ sym n.answer)),
  m.lent ∙ sym n.lent,
)

pub seek-settled : (self : BlockIterator) (b target : List ℕ) (r q : Sought) → SeeksTarget self b target r → SeeksTarget self b target q → r ≡ q
seek-settled self b target r q m n =
    ap₂ (λ (x : BlockIterator) (y : Result ℕ Refusal). record { iterator = x; answer = y })
    (view_of-one r.iterator q.iterator (m.view ∙ sym n.view))
    (says_seek-one r.answer q.answer (m.answer ∙ sym n.answer))

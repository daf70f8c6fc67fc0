-- Each promise admits one outcome: two results, with the words and bytes that they leave, that both keep it are equal.
use Rattle.std.specs.Prelude.{Bool, ◌≡◌, List, ℕ}
use Rattle.std.proofs.Common.{sym, ◌∙◌}
use Rattle.state_v2.specs.declared.State.{State}
use Rattle.block_v2.specs.declared.BlockBuilderV2.{BlockBuilderV2}
use Rattle.block_iterator_v2.specs.declared.BlockIteratorV2.{BlockIteratorV2}
use Rattle.by_value_words.specs.Promise.{MakesOver, PutsIterator}

pub builder-over-settled : (s : State) (last : List ℕ) (r q : BlockBuilderV2) → MakesOver s last r → MakesOver s last q → r ≡ q
builder-over-settled s last r q m n = m ∙ sym n

pub put_iterator_settled : (c : BlockIteratorV2) (ws key : List ℕ) (r q : Bool) (ys zs ks ls : List ℕ) → PutsIterator c ws key r ys ks → PutsIterator c ws key q zs ls
    → (r ≡ q) × (ys ≡ zs) × (ks ≡ ls)
put_iterator_settled c ws key r q ys zs ks ls m n = (m.answer ∙ sym n.answer, m.words ∙ sym n.words, m.bytes ∙ sym n.bytes)

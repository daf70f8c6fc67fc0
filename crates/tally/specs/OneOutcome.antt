-- Each promise admits one outcome: two results that both keep it are equal.
use Rattle.std.specs.Prelude.{ℕ, ◌≡◌, List, Result, ⊤}
use Rattle.std.proofs.Common.{sym, ◌∙◌}
use Rattle.basics.specs.declared.ValueDeletable.{ValueDeletable}
use Rattle.tally.specs.declared.Tally.{Tally}
use Rattle.basics.specs.declared.Refusal.{Refusal}
use Rattle.tally.specs.Promise.{CountsRow, CountsBlock}
use Rattle.tally.specs.Says.{told-one}

-- of `tallied`, where r is the tally returned, and of `tally_row`, where t is the lent tally at entry and r the same at exit
pub tallied_settled : (t : Tally) (held : ValueDeletable) (r q : Tally) → CountsRow t held r → CountsRow t held q → r ≡ q
tallied_settled t held r q m n = m ∙ sym n

-- of `tally_block`, where t is the lent tally at entry and r the same at exit, and of `tallied_block`, where r is the tally returned
pub tally-block-settled : (t : Tally) (b : List ℕ) (r q : Tally) (x y : Result ⊤ Refusal) → CountsBlock t b r x → CountsBlock t b q y → (r ≡ q) × (x ≡ y)
tally-block-settled t b r q x y m n = told-one (m ∙ sym n)

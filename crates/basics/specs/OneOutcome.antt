-- Each promise admits one outcome.
use Rattle.std.specs.Prelude.{ℕ, Bool, ◌≡◌, Result}
use Rattle.std.proofs.Common.{sym, ◌∙◌}
use Rattle.basics.specs.declared.Refusal.{Refusal}
use Rattle.basics.specs.Promise.{Numbered, RefusalOf, TellsWrong}

pub number-settled : (r : Refusal) (m n : ℕ) → Numbered r m → Numbered r n → m ≡ n
number-settled r m n p q = p ∙ sym q

pub refusal-settled : {T : Type 0} (a : Result T Refusal) (r q : Refusal) → RefusalOf a r → RefusalOf a q → r ≡ q
refusal-settled a r q m n = m ∙ sym n

pub wrong_after-settled : (passed n : ℕ) (x y : Bool) → TellsWrong passed n x → TellsWrong passed n y → x ≡ y
wrong_after-settled passed n x y p q = p ∙ sym q

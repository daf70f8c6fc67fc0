-- What is answered of a block: the tally after it, and the verdict. No two answers say the same.
use Rattle.std.specs.Prelude.{◌≡◌, Result, ⊤}
use Rattle.std.proofs.Common.{ap}
use Rattle.layout.specs.Res.{Res, ok, refuse}
use Rattle.basics.specs.Answers.{says_verdict, says_verdict-one}
use Rattle.basics.specs.declared.Refusal.{Refusal}
use Rattle.tally.specs.declared.Tally.{Tally}

pub record Told : Type 0 where
  pub tally : Tally
  pub verdict : Res (Unit {0})

abbrev pub told : Tally → Res (Unit {0}) → Told
told t v = record { tally = t; verdict = v }

-- what a tally wanted of a block leaves: beside a refusal, the tally that came
abbrev pub after_block : Tally → Res Tally → Told
after_block t (ok s) = told s (ok tt)
after_block t (refuse n) = told t (refuse n)

-- ---- one to one

pub told-one : {t s : Tally} {a b : Result ⊤ Refusal} → told t (says_verdict a) ≡ told s (says_verdict b) → (t ≡ s) × (a ≡ b)
told-one {a = a} {b = b} e = (ap (λ (x : Told). x.tally) e, says_verdict-one a b (ap (λ (x : Told). x.verdict) e))

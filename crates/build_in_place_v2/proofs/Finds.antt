-- What finding nothing tells of the tests of adding: they refuse, and the refusal is the one that they tell.
use Rattle.std.specs.Prelude.{ℕ, ◌≡◌, Result, Ok, Err}
use Rattle.std.proofs.Common.{ap, sym, ◌∙◌}
use Rattle.layout.specs.Res.{Res, refuse}
use Rattle.basics.specs.Answers.{apart, says_same, refusal_of}
use Rattle.basics.specs.Number.{number}
use Rattle.basics.specs.declared.Refusal.{Refusal}
use Rattle.build_in_place_v2.specs.declared.Planned.{Planned}

pub found_none : {want : Res Planned} {n : ℕ} → refuse n ≡ want → (i : ℕ) × (want ≡ refuse i)
found_none {n = n} e = (n, sym e)

-- the refusal is the one that is told
pub refusal-told : {want : Res Planned} (p : Result Planned Refusal) {x : Refusal} → says_same p ≡ want → ((n : ℕ) × (want ≡ refuse n)) → x ≡ refusal_of p → want ≡ refuse (number x)
refusal-told (Ok v) e k q = absurd (apart (e ∙ k.1))
refusal-told (Err r) e k q = sym e ∙ ap (λ (y : Refusal). refuse (number y)) (sym q)

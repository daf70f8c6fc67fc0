-- The promise of `new_state` from what was met: a law for a refusal and one for a builder that is made.
-- The builder that is made carries no key, so each law holds whatever its last key's bytes are.
use Prim.Native.Nat.{ℕ}
use mathlib.Core.Path.{◌≡◌, refl}
use Rattle.std.specs.Prelude.{Ok, Err}
use Rattle.layout.specs.Res.{ok, refuse}
use Rattle.layout.specs.Builder.{fresh, new_builder}
use Rattle.basics.specs.declared.Refusal.TheVariants.{BadSettings}
use Rattle.state_v2.specs.declared.State.{State}
use Rattle.state_v2.specs.Says.{state_from}
use Rattle.state_v2.specs.Promise.{MakesState}

module _ (size interval : ℕ) where
  pub made-not : {s : State} → s ≡ state_from (fresh 0 1) → new_builder size interval ≡ refuse 8 → MakesState size interval (record { state = s; answer = Err BadSettings })
  made-not e q = rw (e, q) (record { answer = refl; view = λ last. refl })

  pub made-good : {s : State} → s ≡ state_from (fresh size interval) → new_builder size interval ≡ ok (fresh size interval) → MakesState size interval (record { state = s; answer = Ok tt })
  made-good e q = rw (e, q) (record { answer = refl; view = λ last. refl })

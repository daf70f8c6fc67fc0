-- The promises of the builder's methods, from what `build_in_place_v2` did with its numbers and the bytes of its last key: these are always as many as the longest
-- key has, so nothing is refused for them.
use Prim.Native.Nat.{ℕ}
use mathlib.Core.Path.{◌≡◌, refl, ap, sym, ◌∙◌}
use mathlib.Core.List.{List}
use native.Mathlib.Omega.{arith}
use lib.ListN.{length}
use Rattle.std.specs.Prelude.{Result, Ok, Err}
use Rattle.layout.specs.Limits.{max_key}
use Rattle.layout.specs.Res.{Res, ok, bind}
use Rattle.layout.specs.Builder.{would_fit, grown, add}
use Rattle.layout.specs.Key.{Key}
use Rattle.layout.specs.Row.{Fields}
use Rattle.layout.proofs.Laws.Made.{add-tells}
use Rattle.layout.proofs.Laws.Splice.{key-over}
use Rattle.basics.specs.declared.Refusal.{Refusal}
use Rattle.build_in_place_v2.specs.Promise.{entered, AddsInPlaceAs}
use Rattle.finish_in_place_v2.specs.Promise.{Finishes}
use Rattle.state_v2.specs.Says.{state_from}
use Rattle.state_v2.specs.declared.State.{State}
use Rattle.build_in_place_v2.proofs.Tests.{passed-not, passed}
use Rattle.build_in_place_v2.proofs.Writes.{entered-is}
use Rattle.block_v2.specs.declared.BlockBuilderV2.{BlockBuilderV2}
use Rattle.block_v2.specs.Says.{view_of, builder_from}
use Rattle.block_v2.specs.Promise.{AddsAs, Builds}

-- ---- the other methods, over the builder's numbers and the bytes of its last key

module _ (self : BlockBuilderV2) where
  pub fits : (data_len places_len : ℕ) (key : Key) (f : Fields) {x : Res (Unit {0})} → length self.last_key ≡ max_key
      → x ≡ (bind (entered self.state self.last_key) λ v. would_fit v data_len places_len key f) → x ≡ would_fit (view_of self) data_len places_len key f
  fits data_len places_len key f long q = rw (entered-is self.state self.last_key long) at q

  module _ (bytes places : List ℕ) (key : Key) (f : Fields) (long : length self.last_key ≡ max_key) {r : Result State Refusal} {last' bytes' places' : List ℕ}
      (g : AddsInPlaceAs (bind (entered self.state self.last_key) λ v. add v (length bytes) (length places) key f) self.state self.last_key bytes places key f r last' bytes' places') where
    added : AddsInPlaceAs (add (view_of self) (length bytes) (length places) key f) self.state self.last_key bytes places key f r last' bytes' places'
    added = rw (entered-is self.state self.last_key long) at g

    pub adds-not : {x : Refusal} → r ≡ Err x
        → AddsAs (add (view_of self) (length bytes) (length places) key f) self bytes places key f (record { builder = builder_from self.state last'; answer = Err x }) bytes' places'
    adds-not q =
        let h = rw q at added in
        let e = passed-not (add (view_of self) (length bytes) (length places) key f) state_from (sym h.answer) in
        let k = rw e at h in
        rw (e, k.last-after) (record { answer = refl; view = refl; whole = refl; bytes_after = k.bytes_after; places-after = k.places-after })

    pub adds-good : {t : State} → r ≡ Ok t
        → AddsAs (add (view_of self) (length bytes) (length places) key f) self bytes places key f (record { builder = builder_from t last'; answer = Ok tt }) bytes' places'
    adds-good {t} q =
        let h = rw q at added in
        let p = passed (add (view_of self) (length bytes) (length places) key f) state_from (sym h.answer) in
        let a = add-tells (view_of self) (length bytes) (length places) key f p.0 p.1 in
        let e : add (view_of self) (length bytes) (length places) key f ≡ ok (grown (view_of self) key f) = p.1 ∙ ap ok (sym a.is) in
        let n : t ≡ state_from (grown (view_of self) key f) = sym p.2 ∙ ap state_from (sym a.is) in
        let k = rw e at h in
        let over = key-over self.last_key key (omega (arith, a.key_fits)) in
        rw (e, n, k.last-after)
        (record { answer = refl; view = rw over refl; whole = refl; bytes_after = k.bytes_after; places-after = k.places-after })

  pub builds : (bytes places : List ℕ) {r : Result ℕ Refusal} {bytes' : List ℕ} → Finishes self.state bytes places r bytes' → Builds self bytes places (record { builder = self; answer = r }) bytes'
  builds bytes places f =
      let e = f self.last_key in
      record { answer = e.answer; whole = refl; bytes_after = e.bytes_after }

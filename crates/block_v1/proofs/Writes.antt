-- The promises of the builder's methods, from what `build_in_place_v1` did with its numbers and the bytes of its first key: these are always as many as the longest
-- key has, so nothing is refused for them. The first row's key stands at their start after it; later rows leave it there.
use Prim.Native.Nat.{ℕ, ◌≤◌}
use mathlib.Core.Path.{◌≡◌, refl, ap₂, ◌∙◌}
use mathlib.Core.Bool.{Bool, true, false, cond}
use mathlib.Core.List.{List}
use native.Mathlib.Omega.{arith}
use lib.Dec.{eqb}
use lib.ListN.{length, take}
use Rattle.std.specs.Prelude.{Result}
use Rattle.layout.specs.Key.{Key}
use Rattle.layout.specs.Limits.{max_key}
use Rattle.layout.specs.Place.{splice}
use Rattle.layout.specs.Res.{Res, ok, refuse, bind}
use Rattle.layout.specs.Row.{Fields}
use Rattle.layout.proofs.Laws.Splice.{key-over}
use Rattle.layout_v1.specs.Builder.{Builder, would_fit, grown, add}
use Rattle.layout_v1.proofs.Laws.Builder.{add-tells}
use Rattle.basics.specs.declared.Refusal.{Refusal}
use Rattle.build_in_place_v1.specs.Promise.{entered, kept_after, AddsInPlaceAs}
use Rattle.build_in_place_v1.specs.declared.Grown.{Grown}
use Rattle.build_in_place_v1.proofs.Writes.{entered-is}
use Rattle.finish_in_place_v1.specs.Promise.{Finishes}
use Rattle.state_v1.specs.Says.{view_from, state_from}
use Rattle.block_v1.specs.declared.BlockBuilderV1.{BlockBuilderV1}
use Rattle.block_v1.specs.Says.{view_of, builder_from}
use Rattle.block_v1.specs.Promise.{AddsAs, Builds}

module _ (self : BlockBuilderV1) where
  pub fits : (data_len places_len : ℕ) (key : Key) (f : Fields) {x : Res (Unit {0})} → length self.first_key ≡ max_key
      → x ≡ (bind (entered self.state self.first_key) λ v. would_fit v data_len places_len key f) → x ≡ would_fit (view_of self) data_len places_len key f
  fits data_len places_len key f long q = rw (entered-is self.state self.first_key long) at q

  module _ (bytes places : List ℕ) (key : Key) (f : Fields) (long : length self.first_key ≡ max_key) where
    abbrev wanted : Res Builder
    wanted = add (view_of self) (length bytes) (length places) key f

    kept : (t : Bool) → length key ≤ max_key
        → take (cond t (length key) self.state.first_key_len) (cond t (splice self.first_key 0 key) self.first_key)
        ≡ cond t key (take self.state.first_key_len self.first_key)
    kept true h = key-over self.first_key key (omega (arith, long))
    kept false h = refl

    -- the numbers and the bytes that an accepted row leaves are the builder that is wanted
    viewed : length key ≤ max_key
        → view_from (state_from (grown (view_of self) key f)) (kept_after (ok (grown (view_of self) key f)) self.state.rows key self.first_key) ≡ grown (view_of self) key f
    viewed h = rw (kept (eqb self.state.rows 0) h)

    pub adds : {r : Grown} {first' bytes' places' : List ℕ}
        → AddsInPlaceAs (bind (entered self.state self.first_key) λ v. add v (length bytes) (length places) key f) self.state self.first_key bytes places key f r
        first' bytes' places'
        → AddsAs wanted self bytes places key f (record { builder = builder_from r.state first'; answer = r.answer }) bytes' places'
    adds {r} {first'} {bytes'} {places'} g = go wanted refl (rw (entered-is self.state self.first_key long) at g)
      where
        go : (want : Res Builder) → wanted ≡ want → AddsInPlaceAs want self.state self.first_key bytes places key f r first' bytes' places'
            → AddsAs want self bytes places key f (record { builder = builder_from r.state first'; answer = r.answer }) bytes' places'
        go (ok b') e h =
            let a = add-tells (view_of self) (length bytes) (length places) key f b' e in
            record {
              answer = h.answer;
              view = ap₂ view_from h.state h.first-after ∙ rw (← a.is) (viewed a.key_fits);
              whole = ap₂ builder_from h.state h.first-after;
              bytes_after = h.bytes_after;
              places-after = h.places-after;
            }
        go (refuse n) e h =
            record {
              answer = h.answer;
              view = ap₂ view_from h.state h.first-after;
              whole = ap₂ builder_from h.state h.first-after;
              bytes_after = h.bytes_after;
              places-after = h.places-after;
            }

  pub builds : (bytes places : List ℕ) {r : Result ℕ Refusal} {bytes' : List ℕ} → Finishes self.state bytes places r bytes'
      → Builds self bytes places (record { builder = self; answer = r }) bytes'
  builds bytes places f =
      let e = f self.first_key in
      record { answer = e.answer; whole = refl; bytes_after = e.bytes_after }

-- The promises of `open_place` and `is_empty_place` from what was met: one law for each of their exits.
-- A fresh cursor carries no key and the question reads none, so each law holds whatever the key's bytes are. Backwards the last region's rows are counted to
-- the data's end: that number is the true one there.
use Prim.Native.Nat.{ℕ, ◌-◌}
use mathlib.Core.Path.{◌≡◌, refl, ap, sym, ◌∙◌}
use mathlib.Core.Bool.{Bool, true, false}
use mathlib.Core.List.{List, []}
use lib.Dec.{leb}
use Rattle.layout.specs.Res.{Res, ok, refuse, bind, whether}
use Rattle.layout.specs.Trailer.{Trailer, trailer_of, data_of, Region, region_of}
use Rattle.layout.specs.Cursor.{Direction, ascending, descending, Cursor, cursor_is, Keyed, row_ending_at, open_along, open_block, cursor_or, exhausted, is_empty}
use Rattle.layout.proofs.Laws.Res.{whether-good, whether-refused}
use Rattle.layout.proofs.Laws.Cursor.{along-up, along-region, along-no, along-down, empty-is}
use Rattle.basics.specs.Answers.{yes, says_verdict}
use Rattle.basics.specs.Number.{number}
use Rattle.basics.specs.Says.{says_order}
use Rattle.basics.specs.declared.IterationOrder.{IterationOrder}
use Rattle.basics.specs.declared.IterationOrder.TheVariants.{Ascending, Descending}
use Rattle.basics.specs.declared.Refusal.{Refusal}
use Rattle.std.specs.Prelude.{Result, Ok, Err, ⊤}
use Rattle.whole_regions_v2.specs.Regions.{rows_in}
use Rattle.whole_regions_v2.specs.Laws.{rows-used}
use Rattle.place_v2.specs.declared.Place.{Place}
use Rattle.place_v2.specs.Parts.{fresh, last_rows}
use Rattle.place_v2.specs.Promise.{OpensPlace}
use Rattle.place_v2.specs.Says.{view_in}

-- ---- opening

module _ (b : List ℕ) (order : IterationOrder) where
  pub opens_so : {p : Place} → ((key : List ℕ) → ok (view_in p key) ≡ open_block b (says_order order)) → OpensPlace b order (record { place = p; answer = Ok tt })
  opens_so e = record { answer = ap whether (e []); view = λ key. ap (cursor_or (says_order order)) (e key) }

  pub opens_not : {p : Place} {x : Refusal} → ((key : List ℕ) → refuse (number x) ≡ open_block b (says_order order)) → p ≡ fresh order 0 0 0
      → OpensPlace b order (record { place = p; answer = Err x })
  opens_not e is = rw (is, sym (e [])) (record { answer = refl; view = λ key. refl })

  -- the cursor of a block whose offsets were tested
  module _ (t : Trailer) (e : open_block b (says_order order) ≡ open_along (says_order order) b t) where
    pub opened_up : {p : Place} → order ≡ Ascending → p ≡ fresh order 0 0 0 → (key : List ℕ) → ok (view_in p key) ≡ open_block b (says_order order)
    opened_up o is key = rw (is, e, o, along-up b t)

    module _ (o : order ≡ Descending) where
      abbrev opened_after : ℕ → Res Cursor
      opened_after n = ok (cursor_is descending (t.count - 1) t.size n [] false)

      down_is : open_block b (says_order order) ≡ bind (last_rows b t) opened_after
      down_is = e ∙ rw o (go (region_of b t (t.count - 1)) refl)
        where
          read : (g : Region) → region_of b t (t.count - 1) ≡ ok g → (x : Res Keyed) → row_ending_at t.size (data_of b t) g t.size g.start [] ≡ x
              → open_along descending b t ≡ bind (rows_in (data_of b t) g) opened_after
          read g e (ok k) q = rw (rows-used b t g e, q) (along-down b t g e k q)
          read g e (refuse i) q = rw (rows-used b t g e, q) (along-no b t g e q)

          go : (x : Res Region) → region_of b t (t.count - 1) ≡ x → open_along descending b t ≡ bind (last_rows b t) opened_after
          go (ok g) e = rw e (read g e (row_ending_at t.size (data_of b t) g t.size g.start []) refl)
          go (refuse i) e = rw e (along-region b t e)

      pub opened_down : {n : ℕ} {p : Place} → last_rows b t ≡ ok n → p ≡ fresh order (t.count - 1) t.size n → (key : List ℕ) → ok (view_in p key) ≡ open_block b (says_order order)
      opened_down e is key = rw (is, o) (sym (rw o at down_is ∙ rw e))

      pub opened_not : {i : ℕ} → last_rows b t ≡ refuse i → refuse i ≡ open_block b (says_order order)
      opened_not e = sym (down_is ∙ rw e)

-- what was answered of an opening w, with the cursor v beside it, tells how it ended
module _ (d : Direction) (w : Res Cursor) {a : Result ⊤ Refusal} (says : says_verdict a ≡ whether w) where
  pub opened-so : {v : Cursor} → v ≡ cursor_or d w → a ≡ Ok tt → w ≡ ok v
  opened-so {v} is e = whether-good w v (yes says_verdict says e) (λ c z. is ∙ ap (cursor_or d) z)

  pub opened-not : {x : Refusal} → a ≡ Err x → w ≡ refuse (number x)
  opened-not {x} e = whether-refused w (number x) (yes says_verdict says e)

-- ---- whether a row is left

module _ (p : Place) (b : List ℕ) (t : Trailer) (e : trailer_of b ≡ ok t) where
  pub empty-marked : p.done ≡ true → (key : List ℕ) → ok true ≡ is_empty (view_in p key) b
  empty-marked m key = sym (empty-is (view_in p key) b t e ∙ ap (λ (x : Bool). ok x) (either (says_order p.order)))
    where
      either : (d : Direction) → exhausted d (view_in p key) t ≡ true
      either ascending = rw m
      either descending = m

  module _ (m : p.done ≡ false) where
    pub empty-up : p.order ≡ Ascending → (key : List ℕ) → ok (leb t.size p.at) ≡ is_empty (view_in p key) b
    empty-up o key = sym (empty-is (view_in p key) b t e ∙ rw (o, m))

    pub empty-down : p.order ≡ Descending → (key : List ℕ) → ok false ≡ is_empty (view_in p key) b
    empty-down o key = sym (empty-is (view_in p key) b t e ∙ rw (o, m))

-- The test of a trailer that is handed in, by what was met: one law for each exit of the code. For callers: a trailer that was read from the block passes
-- it, so the definitions of `layout` are left (`region-used`, `offsets-used`).
use Rattle.std.specs.Prelude.{ℕ, ◌+◌, ◌*◌, ◌≤◌, ◌<◌, ◌≡◌, refl, Bool, true, false, not, ◌&&◌, List, ltb, eqb, length}
use Rattle.std.proofs.Common.{sym, ◌∙◌}
use borrow.Author.Tests.{not-false, ltb-true, lt-ltb, le-ltb, eqb-true, eq-eqb}
use Rattle.layout.specs.Res.{Res, ok, refuse}
use Rattle.layout.specs.Trailer.{Trailer, Region, trailer_of, region_of, all_offsets}
use Rattle.layout.proofs.Laws.Res.{guard_ok}
use Rattle.layout.proofs.Laws.Trailer.{trailer_of-tells}
use Rattle.trailer.specs.Handed.{has_region, handed, region_at, offsets_at}

both : (p q : Bool) → (p && q) ≡ true → (p ≡ true) × (q ≡ true)
both true q e = (refl, e)
both false q e = (e, cc)

-- what the test tells
pub has-is : (len : ℕ) (t : Trailer) (r : ℕ) → not (has_region len t r) ≡ false → (t.size + (2 + 2 * t.count) ≡ len) × (r < t.count)
has-is len t r e =
    let w = both (ltb r t.count) (eqb (t.size + (2 + 2 * t.count)) len) (not-false (has_region len t r) e) in
    (eqb-true (t.size + (2 + 2 * t.count)) len w.1, ltb-true r t.count w.0)

module _ {A : Type 0} (b : List ℕ) (t : Trailer) (r : ℕ) (x : Res A) where
  pub handed_strange : not (has_region (length b) t r) ≡ true → refuse 18 ≡ handed b t r x
  unfolding handed
  handed_strange e = rw e

  pub handed-past : t.count ≤ r → refuse 18 ≡ handed b t r x
  unfolding handed
  handed-past h = rw (le-ltb r t.count h)

  pub handed-known : (t.size + (2 + 2 * t.count) ≡ length b) × (r < t.count) → handed b t r x ≡ x
  unfolding handed
  handed-known k = rw (lt-ltb r t.count k.1, eq-eqb (t.size + (2 + 2 * t.count)) (length b) k.0)

  -- a good answer tells that the test was passed
  pub handed-tells : (a : A) → handed b t r x ≡ ok a → (t.size + (2 + 2 * t.count) ≡ length b) × (r < t.count) × (x ≡ ok a)
  unfolding handed
  handed-tells a e =
      let p = guard_ok (not (has_region (length b) t r)) 18 x a e in
      let k = has-is (length b) t r p.0 in
      (k.0, k.1, p.1)

-- ---- for callers

-- what is answered for a trailer that is known to be the block's and to have the region
pub region-known : (b : List ℕ) (t : Trailer) (r : ℕ) → (t.size + (2 + 2 * t.count) ≡ length b) × (r < t.count) → {x : Res Region} → x ≡ region_at b t r → region_of b t r ≡ x
region-known b t r k e = sym (e ∙ handed-known b t r _ k)

module _ (b : List ℕ) (t : Trailer) (read : trailer_of b ≡ ok t) where
  pub region-used : (r : ℕ) → r < t.count → region_at b t r ≡ region_of b t r
  region-used r h = handed-known b t r _ ((trailer_of-tells b t read).0, h)

  pub offsets-used : offsets_at b t ≡ all_offsets b t
  offsets-used = handed-known b t 0 _ (trailer_of-tells b t read)

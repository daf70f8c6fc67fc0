-- The joined tests of a trailer and of a region, which the code makes at once: true where the definition refuses, and else its numbers are
-- the definition's. One law for each exit of the code.
use Rattle.std.specs.Prelude.{ℕ, ◌+◌, ◌-◌, ◌*◌, ◌≤◌, ◌<◌, ◌≡◌, Bool, true, false, cond, ◌||◌, List, ltb, leb, eqb, length}
use Rattle.std.proofs.Common.{sym, ◌∙◌, ⊎_elim, arith, le-leb, leb-false, ltb-false}
use Rattle.std.proofs.lemmas.Bool.{lt-leb, eqb-false}
use Rattle.layout.specs.Res.{ok, refuse}
use Rattle.layout.specs.Trailer.{count_of, Trailer, trailer_is, trailer_of, offset_at, Region, region_is, first_of, region_of}
use Rattle.layout.proofs.Laws.Res.{ltb-cases, eqb-cases, bool_cases, clash, bind-then}
use Rattle.layout.proofs.Laws.Plain.{or-false}
use Rattle.layout.proofs.Laws.Trailer.{trailer-short, trailer-none, trailer-long, trailer-good, region-first, region-far, region-falls, region-next-far, region-inner, region-last}
use Rattle.basics.specs.Answers.{apart}
use Rattle.trailer.specs.Handed.{region_at, region_by}
use Rattle.trailer.specs.Laws.{handed-known, handed-past, handed-tells, region-used}

-- ---- the trailer

-- what a count that passed leaves
pub trailer-fits : (n len : ℕ) → (eqb n 0 || ltb len (2 + 2 * n)) ≡ false → 2 + 2 * n ≤ len
trailer-fits n len e = ltb-false len (2 + 2 * n) (or-false {a = eqb n 0} {b = ltb len (2 + 2 * n)} e).1

module _ (b : List ℕ) where
  -- no count, or a trailer longer than the block
  abbrev pub bad_trailer : Bool
  bad_trailer = eqb (count_of b) 0 || ltb (length b) (2 + 2 * count_of b)

  pub trailer_bad : 2 ≤ length b → bad_trailer ≡ true → refuse 14 ≡ trailer_of b
  trailer_bad h e =
      ⊎_elim
      (λ x. trailer-none b h x.1)
      (λ x. ⊎_elim (λ y. trailer-long b h x.1 y.1) (λ y. absurd (clash e (rw (x.0, y.0)))) (ltb-cases (length b) (2 + 2 * count_of b)))
      (eqb-cases (count_of b) 0)

  pub trailer-fine : 2 ≤ length b → bad_trailer ≡ false → ok (trailer_is (count_of b) (length b - (2 + 2 * count_of b))) ≡ trailer_of b
  trailer-fine h e =
      let w = or-false {a = eqb (count_of b) 0} {b = ltb (length b) (2 + 2 * count_of b)} e in
      trailer-good b h (eqb-false (count_of b) 0 w.0) (ltb-false (length b) (2 + 2 * count_of b) w.1)

  -- one that is refused is refused with 14
  pub trailer-not : {n : ℕ} → trailer_of b ≡ refuse n → refuse 14 ≡ trailer_of b
  trailer-not e =
      ⊎_elim (λ x. trailer-short b x.1)
      (λ x. ⊎_elim (trailer_bad x.1) (λ f. absurd (apart (trailer-fine x.1 f ∙ e))) (bool_cases bad_trailer))
      (ltb-cases (length b) 2)

-- ---- a region

-- what bounds that passed leave
pub region-ends : (first start end limit : ℕ) → (ltb 0 first || leb end start || leb limit end) ≡ false → 1 ≤ end
region-ends first start end limit e =
    let w = or-false {a = ltb 0 first || leb end start} {b = leb limit end} e in
    let h = leb-false end start (or-false {a = ltb 0 first} {b = leb end start} w.0).1 in
    omega arith

module _ (b : List ℕ) (t : Trailer) (r : ℕ) where
  abbrev last_of : Bool
  last_of = leb t.count (r + 1)

  abbrev pub end_of : ℕ
  end_of = cond last_of t.size (offset_at b t (r + 1))

  -- what the end must be below
  abbrev pub limit_of : ℕ
  limit_of = cond last_of (t.size + 1) t.size

  abbrev pub bad_region : Bool
  bad_region = ltb 0 (first_of r (offset_at b t r)) || leb end_of (offset_at b t r) || leb limit_of end_of

  -- the first test is passed, and so is that of the start; then the next offset's, where there is one
  pub region_bad : bad_region ≡ true → refuse 15 ≡ region_of b t r
  region_bad e =
      ⊎_elim (λ x. region-first b t r x.1)
      (λ x.
      ⊎_elim
      (λ y.
      let last : last_of ≡ false = lt-leb t.count (r + 1) y.1 in
      ⊎_elim
      (λ z.
      ⊎_elim
      (λ u.
      ⊎_elim
      (λ v. absurd (clash e (rw (last, x.0, lt-leb (offset_at b t (r + 1)) (offset_at b t r) u.1, lt-leb t.size (offset_at b t (r + 1)) v.1))))
      (λ v. region-next-far b t r x.1 z.1 y.1 u.1 v.1)
      (ltb-cases (offset_at b t (r + 1)) t.size))
      (λ u. region-falls b t r x.1 z.1 y.1 u.1)
      (ltb-cases (offset_at b t r) (offset_at b t (r + 1))))
      (λ z. region-far b t r x.1 z.1)
      (ltb-cases (offset_at b t r) t.size))
      (λ y.
      let last : last_of ≡ true = le-leb t.count (r + 1) y.1 in
      ⊎_elim
      (λ z. absurd (clash e (rw (last, x.0, lt-leb t.size (offset_at b t r) z.1, lt-leb (t.size + 1) t.size (omega arith)))))
      (λ z. region-far b t r x.1 z.1)
      (ltb-cases (offset_at b t r) t.size))
      (ltb-cases (r + 1) t.count))
      (ltb-cases 0 (first_of r (offset_at b t r)))

  pub region-fine : bad_region ≡ false → ok (region_is (offset_at b t r) end_of (cond last_of end_of (end_of - 1))) ≡ region_of b t r
  region-fine e =
      let w₁ = or-false {a = ltb 0 (first_of r (offset_at b t r)) || leb end_of (offset_at b t r)} {b = leb limit_of end_of} e in
      let w₂ = or-false {a = ltb 0 (first_of r (offset_at b t r))} {b = leb end_of (offset_at b t r)} w₁.0 in
      let first : first_of r (offset_at b t r) ≤ 0 = ltb-false 0 (first_of r (offset_at b t r)) w₂.0 in
      ⊎_elim
      (λ y.
      let last : last_of ≡ false = lt-leb t.count (r + 1) y.1 in
      let rises : offset_at b t r < offset_at b t (r + 1) = leb-false (offset_at b t (r + 1)) (offset_at b t r) (rw last at w₂.1) in
      let below : offset_at b t (r + 1) < t.size = leb-false t.size (offset_at b t (r + 1)) (rw last at w₁.1) in
      rw last (region-inner b t r first (omega arith) y.1 rises below))
      (λ y.
      let last : last_of ≡ true = le-leb t.count (r + 1) y.1 in
      let below : offset_at b t r < t.size = leb-false t.size (offset_at b t r) (rw last at w₂.1) in
      rw last (region-last b t r first below y.1))
      (ltb-cases (r + 1) t.count)

  -- one that is refused is refused with 15
  pub region-not : {n : ℕ} → region_of b t r ≡ refuse n → refuse 15 ≡ region_of b t r
  region-not e = ⊎_elim region_bad (λ f. absurd (apart (region-fine f ∙ e))) (bool_cases bad_region)

  -- and so is one of a trailer that is handed in and has it
  pub known-not : (t.size + (2 + 2 * t.count) ≡ length b) × (r < t.count) → {n : ℕ} → region_at b t r ≡ refuse n → region_of b t r ≡ refuse 15
  known-not k e = sym (region-not (sym (handed-known b t r _ k) ∙ e))

-- ---- a region of the trailer that is read

-- what a region that is good tells
pub region_by-tells : {A : Type 0} (b : List ℕ) (r : ℕ) (g : Region) → region_by b r ≡ ok g → ((t : Trailer) → trailer_of b ≡ ok t → r < t.count → region_of b t r ≡ ok g → A) → A
region_by-tells b r g e f =
    bind-then (trailer_of b) _ g e λ t q e₁.
    let k = handed-tells b t r (region_of b t r) g e₁ in
    f t q k.1 k.2

-- what a count that passed leaves
pub by-inside : (n r len : ℕ) → (leb n r || ltb len (2 + 2 * n)) ≡ false → (r < n) × (2 + 2 * n ≤ len)
by-inside n r len e =
    let w = or-false {a = leb n r} {b = ltb len (2 + 2 * n)} e in
    (leb-false n r w.0, ltb-false len (2 + 2 * n) w.1)

module _ (b : List ℕ) (r : ℕ) where
  pub by-short : length b < 2 → refuse 14 ≡ region_by b r
  by-short h = rw (← trailer-short b h)

  -- no such region, which it is where there is none; or a trailer longer than the block
  abbrev pub bad_by : Bool
  bad_by = leb (count_of b) r || ltb (length b) (2 + 2 * count_of b)

  abbrev pub trailer_by : Trailer
  trailer_by = trailer_is (count_of b) (length b - (2 + 2 * count_of b))

  -- a trailer that is read is no longer than the block, so it is the number that did not pass
  pub by-past : 2 ≤ length b → (t : Trailer) → trailer_of b ≡ ok t → bad_by ≡ true → refuse 18 ≡ region_by b r
  by-past h t read e =
      ⊎_elim (λ x. never (trailer-none b h x.1))
      (λ x.
      ⊎_elim (λ y. never (trailer-long b h x.1 y.1))
      (λ y.
      ⊎_elim (λ z. absurd (clash e (rw (lt-leb (count_of b) r z.1, y.0))))
      (λ z. rw (← trailer-good b h x.1 y.1) (handed-past b trailer_by r (region_of b trailer_by r) z.1))
      (ltb-cases r (count_of b)))
      (ltb-cases (length b) (2 + 2 * count_of b)))
      (eqb-cases (count_of b) 0)
    where
      never : {A : Type 0} {n : ℕ} → refuse n ≡ trailer_of b → A
      never q = absurd (apart (sym (q ∙ read)))

  -- and any block is refused, by its trailer or by the number
  pub by_bad : {A : Type 0} → 2 ≤ length b → bad_by ≡ true → ((n : ℕ) → refuse n ≡ region_by b r → A) → A
  by_bad {A} h e f =
      ⊎_elim (λ x. f 14 (by-not (trailer-none b h x.1)))
      (λ x.
      ⊎_elim (λ y. f 14 (by-not (trailer-long b h x.1 y.1)))
      (λ y. f 18 (by-past h trailer_by (sym (trailer-good b h x.1 y.1)) e))
      (ltb-cases (length b) (2 + 2 * count_of b)))
      (eqb-cases (count_of b) 0)
    where
      by-not : {n : ℕ} → refuse n ≡ trailer_of b → refuse n ≡ region_by b r
      by-not q = rw (← q)

  pub by-fine : 2 ≤ length b → bad_by ≡ false → region_of b trailer_by r ≡ region_by b r
  by-fine h e =
      let w = by-inside (count_of b) r (length b) e in
      let read : ok trailer_by ≡ trailer_of b = trailer-good b h (λ z. absurd (omega (arith, w.0))) w.1 in
      rw (← read) (sym (region-used b trailer_by (sym read) r w.0))

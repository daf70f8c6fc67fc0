-- A plain row is read as the rules say; and each way through the test of one, as code meets it.
use Rattle.std.specs.Prelude.{ℕ, ◌+◌, ◌-◌, ◌<◌, ◌≤◌, ◌≡◌, refl, Bool, true, false, cond, not, ◌||◌, List, ltb, eqb, length, get_or, Option, Some, None}
use Rattle.std.proofs.Common.{ap, sym, ◌∙◌, arith}
use Rattle.std.proofs.Math.Logic.{⊎_elim}
use borrow.Author.Tests.{lt-ltb, le-ltb, ltb-false, eqb-true, eqb-false, not-false}
use Rattle.layout.specs.Res.{ok}
use Rattle.layout.specs.Limits.{max_key, max_value}
use Rattle.layout.specs.Place.{num_at, fixed_at}
use Rattle.layout.specs.Row.{value, Absent}
use Rattle.layout.specs.RowRead.{flags_is, flags_at, holds, Times, times_is, times_at}
use Rattle.layout.specs.Plain.{Plain, plain_is}
use Rattle.layout.proofs.Laws.Res.{ltb-cases, clash}
use Rattle.layout.proofs.Laws.Plain.{or-false, some-one, none-apart, fixed_at-is, flags_at-plain}
use Rattle.layout.proofs.Laws.RowExits.{time-none, times-good}
use Rattle.layout_v1.specs.RowRead.{Head, head_is, head_at, Body, body_is, body_at, span_is, HeldAt, held_is, held_at, read_row}
use Rattle.layout_v1.specs.Plain.{spelt, plain_value, not_plain_by, not_plain_held, plain_of, plain_at, plain_read}
use Rattle.layout_v1.proofs.Laws.RowReads.{head-good, body-good, value-good, held-good, row-good, read-good}

-- ---- what a plain row is

pub record PlainTells (d : List ℕ) (at end most : ℕ) (p : Plain) : Type 0 where
  pub inside : end ≤ length d
  pub shared-is : p.shared ≡ spelt 2 d at
  pub unshared-is : p.unshared ≡ spelt 2 d (at + 2)
  pub shares : p.shared ≤ most
  pub some : 1 ≤ p.shared + p.unshared
  pub fits : p.shared + p.unshared ≤ max_key
  pub next-is : p.next ≡ end
  pub ends : plain_value at p.unshared + p.value_len ≡ end
  pub flags-none : get_or d (plain_value at p.unshared - 5) 0 ≡ 0
  pub value-fits : p.value_len ≤ max_value
  pub value_len-is : spelt 4 d (plain_value at p.unshared - 4) ≡ p.value_len

-- the tests passed, by the lengths
plain_of-tells : (d : List ℕ) (at end most s u : ℕ) → end ≤ length d → s ≡ spelt 2 d at → u ≡ spelt 2 d (at + 2) → {p : Plain} → plain_of d at end most s u ≡ Some p
    → PlainTells d at end most p
plain_of-tells d at end most s u i es eu {p} = go (not_plain_by at end most s u) (not_plain_held d at u (end - plain_value at u)) refl refl
  where
    go : (a b : Bool) → not_plain_by at end most s u ≡ a → not_plain_held d at u (end - plain_value at u) ≡ b
        → cond a None (cond b None (Some (plain_is end s u (end - plain_value at u)))) ≡ Some p
        → PlainTells d at end most p
    go true b w q h = absurd (none-apart h)
    go false true w q h = absurd (none-apart h)
    go false false w q h =
        let t₁ = or-false {a = ltb most s || eqb (s + u) 0 || ltb max_key (s + u)} {b = ltb end (plain_value at u)} w in
        let t₂ = or-false {a = ltb most s || eqb (s + u) 0} {b = ltb max_key (s + u)} t₁.0 in
        let t₃ = or-false {a = ltb most s} {b = eqb (s + u) 0} t₂.0 in
        let v₁ = or-false {a = ltb 0 (get_or d (plain_value at u - 5) 0) || ltb max_value (end - plain_value at u)} {b = not (eqb (spelt 4 d (plain_value at u - 4)) (end - plain_value at u))} q in
        let v₂ = or-false {a = ltb 0 (get_or d (plain_value at u - 5) 0)} {b = ltb max_value (end - plain_value at u)} v₁.0 in
        let room = ltb-false end (plain_value at u) t₁.1 in
        let some = eqb-false (s + u) 0 t₃.1 in
        let flags = ltb-false 0 (get_or d (plain_value at u - 5) 0) v₂.0 in
        rw (← some-one h) record {
          inside = i;
          shared-is = es;
          unshared-is = eu;
          shares = ltb-false most s t₃.0;
          some = omega arith;
          fits = ltb-false max_key (s + u) t₂.1;
          next-is = refl;
          ends = omega arith;
          flags-none = omega arith;
          value-fits = ltb-false max_value (end - plain_value at u) v₂.1;
          value_len-is = eqb-true (spelt 4 d (plain_value at u - 4)) (end - plain_value at u) (not-false (eqb (spelt 4 d (plain_value at u - 4)) (end - plain_value at u)) v₁.1);
        }

pub plain_at-tells : (d : List ℕ) (at end most : ℕ) {p : Plain} → plain_at d at end most ≡ Some p → PlainTells d at end most p
unfolding plain_at
plain_at-tells d at end most {p} = go (ltb (length d) end || ltb end (at + 17)) refl
  where
    go : (a : Bool) → (ltb (length d) end || ltb end (at + 17)) ≡ a → cond a None (plain_of d at end most (spelt 2 d at) (spelt 2 d (at + 2))) ≡ Some p
        → PlainTells d at end most p
    go true w h = absurd (none-apart h)
    go false w h = plain_of-tells d at end most _ _ (ltb-false (length d) end (or-false {a = ltb (length d) end} {b = ltb end (at + 17)} w).0) refl refl h

-- ---- it is read as the rules say

-- the number at a place inside, however it and the place after it are named
spelt_is : (n : ℕ) (d : List ℕ) (at v next : ℕ) → at + n ≤ length d → v ≡ spelt n d at → next ≡ at + n → fixed_at n d at ≡ ok (num_at v next)
spelt_is n d at v next h e m = fixed_at-is n d at h ∙ rw (e, m)

module _ (d : List ℕ) (at end most : ℕ) (p : Plain) (t : PlainTells d at end most p) where
  abbrev seq_place : ℕ
  seq_place = at + 4 + p.unshared

  abbrev h : Head
  h = head_is p.shared p.unshared (at + 4)

  abbrev b : Body
  b = body_is (spelt 8 d seq_place) (flags_is value false false) (seq_place + 9)

  abbrev ts : Times
  ts = times_is Absent Absent (seq_place + 9)

  abbrev v : HeldAt
  v = held_is (holds (plain_value at p.unshared) p.value_len) (plain_value at p.unshared + p.value_len)

  ends-inside : plain_value at p.unshared + p.value_len ≤ length d
  ends-inside = omega (arith, t.ends, t.inside)

  head : head_at d at most ≡ ok h
  head =
      let i = ends-inside in
      let n = t.some in
      sym (head-good d at most
      {s = num_at p.shared (at + 2)} {u = num_at p.unshared (at + 4)}
      (spelt_is 2 d at p.shared (at + 2) (omega arith) t.shared-is refl)
      (spelt_is 2 d (at + 2) p.unshared (at + 4) (omega arith) t.unshared-is (omega arith))
      t.shares (λ z. absurd (omega arith)) t.fits)

  body : body_at d h ≡ ok b
  body =
      let i = ends-inside in
      let flags : plain_value at p.unshared - 5 ≡ seq_place + 8 = omega arith in
      sym (body-good d h (omega arith)
      {q = num_at (spelt 8 d seq_place) (seq_place + 8)} {f = flags_is value false false}
      (spelt_is 8 d seq_place (spelt 8 d seq_place) (seq_place + 8) (omega arith) refl refl)
      (ap (λ (k : ℕ). flags_at (get_or d k 0)) (sym flags) ∙ ap flags_at t.flags-none ∙ flags_at-plain))

  times : times_at d (seq_place + 9) (flags_is value false false) ≡ ok ts
  times = sym (times-good d (seq_place + 9) (flags_is value false false) (sym (time-none d (seq_place + 9))) (sym (time-none d (seq_place + 9))))

  held : held_at value d (seq_place + 9) ≡ ok v
  held =
      let i = ends-inside in
      let place : plain_value at p.unshared - 4 ≡ seq_place + 9 = omega arith in
      sym (held-good value d (seq_place + 9) (λ z. absurd (let w : ◌≡◌ {A = ℕ} 0 1 = cc in omega arith))
      {v = span_is (plain_value at p.unshared) p.value_len}
      (sym (value-good d (seq_place + 9)
      {n = num_at p.value_len (plain_value at p.unshared)}
      (spelt_is 4 d (seq_place + 9) p.value_len (plain_value at p.unshared) (omega arith) (sym (rw place at t.value_len-is)) (omega arith))
      t.value-fits i)))

  pub plain-read : ok (plain_read d at p) ≡ read_row d at end most
  plain-read =
      ap (λ (n : ℕ). ok (plain_read d at (plain_is n p.shared p.unshared p.value_len))) (t.next-is ∙ sym t.ends)
      ∙ read-good d at end most (sym (row-good d at most head body times held)) t.ends

-- by the test alone
pub plain-is : (d : List ℕ) (at end most : ℕ) {p : Plain} → plain_at d at end most ≡ Some p → read_row d at end most ≡ ok (plain_read d at p)
plain-is d at end most h = sym (plain-read d at end most _ (plain_at-tells d at end most h))

-- ---- each way through the test, as code meets it; answer on the left

module _ (d : List ℕ) (at end most : ℕ) where
  -- it ends past the data, or before 17 bytes
  pub plain-short : (ltb end 17 || ltb (length d) end) ≡ true → None ≡ plain_at d at end most
  unfolding plain_at
  plain-short e =
      ⊎_elim
      (λ x. rw x.0)
      (λ x. rw (x.0, lt-ltb end (at + 17) (⊎_elim (λ y. omega (arith, y.1)) (λ y. absurd (clash e (rw (y.0, x.0)))) (ltb-cases end 17))))
      (ltb-cases (length d) end)

  module _ (e : (ltb end 17 || ltb (length d) end) ≡ false) where
    plain-inside : end ≤ length d
    plain-inside = ltb-false (length d) end (or-false {a = ltb end 17} {b = ltb (length d) end} e).1

    pub plain-enough : 17 ≤ end
    plain-enough = ltb-false end 17 (or-false {a = ltb end 17} {b = ltb (length d) end} e).0

    -- it starts too near to the end
    pub plain_late : end - 17 < at → None ≡ plain_at d at end most
    unfolding plain_at
    plain_late h = let k = plain-enough in rw (le-ltb (length d) end plain-inside, lt-ltb end (at + 17) (omega arith))

    module _ (h : at ≤ end - 17) where
      -- where the two lengths stand
      pub plain-starts : at + 17 ≤ length d
      plain-starts = let k = plain-enough in let i = plain-inside in omega arith

      room : at + 17 ≤ end
      room = let k = plain-enough in omega arith

      module _ (s u : ℕ) (es : s ≡ spelt 2 d at) (eu : u ≡ spelt 2 d (at + 2)) where
        of : plain_of d at end most s u ≡ plain_at d at end most
        unfolding plain_at
        of = rw (le-ltb (length d) end plain-inside, le-ltb end (at + 17) room, es, eu)

        pub plain-odd : not_plain_by at end most s u ≡ true → None ≡ plain_at d at end most
        plain-odd q = rw q at of

        module _ (q : not_plain_by at end most s u ≡ false) where
          -- where the value starts
          pub plain-room : (plain_value at u ≤ end) × (end ≤ length d)
          plain-room = (ltb-false end (plain_value at u) (or-false {a = ltb most s || eqb (s + u) 0 || ltb max_key (s + u)} {b = ltb end (plain_value at u)} q).1, plain-inside)

          module _ (w : ℕ) (ew : w ≡ spelt 4 d (plain_value at u - 4)) where
            -- flags, and the value's length, as code reads them
            abbrev pub held_odd : Bool
            held_odd = ltb 0 (get_or d (plain_value at u - 5) 0) || ltb max_value (end - plain_value at u) || not (eqb w (end - plain_value at u))

            same : held_odd ≡ not_plain_held d at u (end - plain_value at u)
            same = rw ew

            pub plain_flagged : held_odd ≡ true → None ≡ plain_at d at end most
            plain_flagged f = rw (q, sym same ∙ f) at of

            pub plain-good : held_odd ≡ false → Some (plain_is end s u (end - plain_value at u)) ≡ plain_at d at end most
            plain-good f = rw (q, sym same ∙ f) at of

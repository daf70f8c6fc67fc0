-- A plain row is read as the rules say; and each way through the test of one, as code meets it.
use Rattle.std.specs.Prelude.{ℕ, suc, ◌+◌, ◌-◌, ◌<◌, ◌≤◌, ◌≡◌, refl, Bool, true, false, cond, ◌||◌, List, ltb, eqb, length, take, drop, get_or, Some, None}
use Rattle.std.proofs.Common.{ap, sym, ◌∙◌, arith, drop-cons}
use Rattle.std.proofs.Math.Logic.{⊎_elim}
use borrow.Author.Tests.{lt-ltb, le-ltb, ltb-false, eqb-false}
use Rattle.layout.specs.Res.{Res, ok, refuse}
use Rattle.layout.specs.Fixed.{unbig}
use Rattle.layout.specs.Place.{num_at, varint_at, fixed_at}
use Rattle.layout.specs.Row.{value, Absent}
use Rattle.layout.specs.RowRead.{Lengths, lengths_is, lengths_at, may_share, head_at, flags_is, flags_at, holds, body_is, body_at, times_is, times_at, RowRead, read_row, read_key}
use Rattle.layout.specs.Plain.{Plain, plain_is, plain_end, not_plain_by, plain_of, plain_at, plain_read, RowSpan, span_is, span_of, spans, not_plain_key, plain_key_at, plain_key_is}
use Rattle.layout.proofs.Laws.Varint.{read_varint-byte}
use Rattle.layout.proofs.Laws.Res.{ltb-cases, clash, ok-inj, refuse-inj}
use Rattle.layout.proofs.Laws.RowExits.{lengths-good, head-good, body-good, time-none, times-good, row-good, key-good}
use Rattle.layout.specs.Laws.Plain.{PlainKeyTells, PlainTells}

-- ---- tests joined by "or"

pub or-false : {a b : Bool} → (a || b) ≡ false → (a ≡ false) × (b ≡ false)
or-false {a = true} {b} e = let z : ◌≡◌ {A = ℕ} 0 1 = cc in absurd (omega arith)
or-false {a = false} {b} e = (refl, e)

-- ---- a length of one byte

pub varint_at-byte : (d : List ℕ) (at : ℕ) → at < length d → get_or d at 0 < 128 → varint_at d at ≡ ok (num_at (get_or d at 0) (at + 1))
unfolding varint_at
varint_at-byte d at h k = rw (drop-cons d at 0 h, read_varint-byte (get_or d at 0) (drop (suc at) d) k)

pub fixed_at-is : (n : ℕ) (d : List ℕ) (at : ℕ) → at + n ≤ length d → fixed_at n d at ≡ ok (num_at (unbig (take n (drop at d))) (at + n))
unfolding fixed_at
fixed_at-is n d at h = rw (le-ltb (length d) (at + n) h)

pub flags_at-plain : flags_at 0 ≡ ok (flags_is value false false)
unfolding flags_at
flags_at-plain = refl

-- ---- what is there, and what is not

pub some-one : {A : Type 0} {a b : A} → Some a ≡ Some b → a ≡ b
some-one e = cc

pub none-apart : {A : Type 0} {a : A} → None ≡ Some a → ⊥
none-apart e = let z : ◌≡◌ {A = ℕ} 0 1 = cc in omega arith

-- ---- what a plain row is

-- the tests passed, by the lengths
pub plain_of-tells : (d : List ℕ) (at end most s u v : ℕ) → end ≤ length d → s ≡ get_or d at 0 → u ≡ get_or d (at + 1) 0 → v ≡ get_or d (at + 2) 0
    → {p : Plain} → plain_of d at end most s u v ≡ Some p → PlainTells d at end most p
plain_of-tells d at end most s u v i es eu ev {p} = go (not_plain_by at end most s u v) (ltb 0 (get_or d (plain_end at u v - 1) 0)) refl refl
  where
    go : (a b : Bool) → not_plain_by at end most s u v ≡ a → ltb 0 (get_or d (plain_end at u v - 1) 0) ≡ b → cond a None (cond b None (Some (plain_is (plain_end at u v) s u v))) ≡ Some p
        → PlainTells d at end most p
    go true b w q h = absurd (none-apart h)
    go false true w q h = absurd (none-apart h)
    go false false w q h =
        let t₁ = or-false w in
        let t₂ = or-false t₁.0 in
        let t₃ = or-false t₂.0 in
        let t₄ = or-false t₃.0 in
        let t₅ = or-false t₄.0 in
        let w₁ = ltb-false end (plain_end at u v) t₁.1 in
        let w₂ = eqb-false (s + u) 0 t₂.1 in
        let w₃ = ltb-false most s t₃.1 in
        let w₄ = ltb-false 127 v t₄.1 in
        let w₅ = ltb-false 127 u t₅.1 in
        let w₆ = ltb-false 127 s t₅.0 in
        let f = ltb-false 0 (get_or d (plain_end at u v - 1) 0) q in
        rw (← some-one h) record { inside = i; shared-is = es; unshared-is = eu; value_len-is = ev; shared-small = w₆; unshared-small = w₅; value_len-small = w₄; shares = w₃; some = omega arith; next-is = refl; within = w₁; flags-none = omega arith }

pub plain_at-tells : (d : List ℕ) (at end most : ℕ) {p : Plain} → plain_at d at end most ≡ Some p → PlainTells d at end most p
unfolding plain_at
plain_at-tells d at end most {p} = go (ltb (length d) end || ltb end (at + 12)) refl
  where
    go : (a : Bool) → (ltb (length d) end || ltb end (at + 12)) ≡ a → cond a None (plain_of d at end most (get_or d at 0) (get_or d (at + 1) 0) (get_or d (at + 2) 0)) ≡ Some p
        → PlainTells d at end most p
    go true w h = absurd (none-apart h)
    go false w h = plain_of-tells d at end most _ _ _ (ltb-false (length d) end (or-false w).0) refl refl refl h

-- ---- it is read as the rules say

length-is : (d : List ℕ) (q v n : ℕ) → q < length d → v ≡ get_or d q 0 → v ≤ 127 → n ≡ q + 1 → varint_at d q ≡ ok (num_at v n)
length-is d q v n h e k m = varint_at-byte d q h (omega arith) ∙ rw (e, m)

module _ (d : List ℕ) (at end prev_len : ℕ) (restart : Bool) (p : Plain) (t : PlainTells d at end (may_share restart prev_len) p) where
  abbrev l : Lengths
  l = lengths_is p.shared p.unshared p.value_len (at + 3)

  lengths : lengths_at d at ≡ ok l
  lengths =
      sym (lengths-good d at
      {a = num_at p.shared (at + 1)} {b = num_at p.unshared (at + 2)} {c = num_at p.value_len (at + 3)}
      (length-is d at p.shared (at + 1) (omega arith) t.shared-is t.shared-small refl)
      (length-is d (at + 1) p.unshared (at + 2) (omega arith) t.unshared-is t.unshared-small (omega arith))
      (length-is d (at + 2) p.value_len (at + 3) (omega arith) t.value_len-is t.value_len-small (omega arith)))

  head : head_at d at prev_len restart ≡ ok l
  head = sym (head-good d at prev_len restart lengths t.shares (λ z. absurd (omega arith)) (omega arith))

  -- the eight bytes of seq
  pub plain-seq : fixed_at 8 d (p.next - 9) ≡ ok (num_at (unbig (take 8 (drop (p.next - 9) d))) (p.next - 1))
  plain-seq = fixed_at-is 8 d (p.next - 9) (omega arith) ∙ ap (λ (n : ℕ). ok (num_at (unbig (take 8 (drop (p.next - 9) d))) n)) (omega arith)

  seq-at : at + 3 + p.unshared + p.value_len ≡ p.next - 9
  seq-at = omega arith

  body : body_at d l ≡ ok (body_is (holds (at + 3 + p.unshared) p.value_len) (unbig (take 8 (drop (p.next - 9) d))) (flags_is value false false) p.next)
  body =
      sym (body-good d l {q = num_at (unbig (take 8 (drop (p.next - 9) d))) (p.next - 1)} {f = flags_is value false false} (omega arith) (omega arith)
      (ap (fixed_at 8 d) seq-at ∙ plain-seq)
      (ap flags_at t.flags-none ∙ flags_at-plain))
      ∙ ap (λ (n : ℕ). ok (body_is (holds (at + 3 + p.unshared) p.value_len) (unbig (take 8 (drop (p.next - 9) d))) (flags_is value false false) n)) (omega arith)

  times : times_at d p.next (flags_is value false false) ≡ ok (times_is Absent Absent p.next)
  times = sym (times-good d p.next (flags_is value false false) (sym (time-none d p.next)) (sym (time-none d p.next)))

  pub plain-read : ok (plain_read d at p) ≡ read_row d at end prev_len restart
  plain-read = row-good d at end prev_len restart head body times t.within

-- by the test alone
pub plain-is : (d : List ℕ) (at end prev_len : ℕ) (restart : Bool) {p : Plain} → plain_at d at end (may_share restart prev_len) ≡ Some p
    → read_row d at end prev_len restart ≡ ok (plain_read d at p)
plain-is d at end prev_len restart h = sym (plain-read d at end prev_len restart _ (plain_at-tells d at end (may_share restart prev_len) h))

-- ---- each way through the test, as code meets it; answer on the left

module _ (d : List ℕ) (at end most : ℕ) where
  -- the region ends past the data, or before 12 bytes
  pub plain-short : (ltb end 12 || ltb (length d) end) ≡ true → None ≡ plain_at d at end most
  unfolding plain_at
  plain-short e =
      ⊎_elim
      (λ x. rw x.0)
      (λ x. rw (x.0, lt-ltb end (at + 12) (⊎_elim (λ y. omega (arith, y.1)) (λ y. absurd (clash e (rw (y.0, x.0)))) (ltb-cases end 12))))
      (ltb-cases (length d) end)

  module _ (e : (ltb end 12 || ltb (length d) end) ≡ false) where
    pub plain-inside : end ≤ length d
    plain-inside = ltb-false (length d) end (or-false {a = ltb end 12} {b = ltb (length d) end} e).1

    pub plain-enough : 12 ≤ end
    plain-enough = ltb-false end 12 (or-false {a = ltb end 12} {b = ltb (length d) end} e).0

    -- it starts too near to the end
    pub plain_late : end - 12 < at → None ≡ plain_at d at end most
    unfolding plain_at
    plain_late h = let k = plain-enough in rw (le-ltb (length d) end plain-inside, lt-ltb end (at + 12) (omega arith))

    module _ (h : at ≤ end - 12) where
      -- where the three lengths stand
      pub plain-starts : at + 12 ≤ length d
      plain-starts = let k = plain-enough in let i = plain-inside in omega arith

      room : at + 12 ≤ end
      room = let k = plain-enough in omega arith

      module _ (s u v : ℕ) (es : s ≡ get_or d at 0) (eu : u ≡ get_or d (at + 1) 0) (ev : v ≡ get_or d (at + 2) 0) where
        of : plain_of d at end most s u v ≡ plain_at d at end most
        unfolding plain_at
        of = rw (le-ltb (length d) end plain-inside, le-ltb end (at + 12) room, es, eu, ev)

        pub plain-odd : not_plain_by at end most s u v ≡ true → None ≡ plain_at d at end most
        plain-odd q = rw q at of

        module _ (q : not_plain_by at end most s u v ≡ false) where
          -- where the flags stand
          pub plain-flags : plain_end at u v - 1 < length d
          plain-flags = let i = plain-inside in let w = ltb-false end (plain_end at u v) (or-false {a = ltb 127 s || ltb 127 u || ltb 127 v || ltb most s || eqb (s + u) 0} {b = ltb end (plain_end at u v)} q).1 in omega arith

          pub plain_flagged : 0 < get_or d (plain_end at u v - 1) 0 → None ≡ plain_at d at end most
          plain_flagged f = rw (q, lt-ltb 0 (get_or d (plain_end at u v - 1) 0) f) at of

          pub plain-good : get_or d (plain_end at u v - 1) 0 ≤ 0 → Some (plain_is (plain_end at u v) s u v) ≡ plain_at d at end most
          plain-good f = rw (q, le-ltb 0 (get_or d (plain_end at u v - 1) 0) f) at of

-- ---- a row's span

-- of a plain row
pub span-plain : (d : List ℕ) (at end prev_len : ℕ) (restart : Bool) {most : ℕ} (p : Plain) → most ≡ may_share restart prev_len → Some p ≡ plain_at d at end most
    → ok (span_is p.next p.shared (at + 3) p.unshared) ≡ spans (read_row d at end prev_len restart)
span-plain d at end prev_len restart p m e = rw (plain-is d at end prev_len restart (sym (rw m at e)))

-- of a row that was read, or refused
pub span-read : (x : Res RowRead) {r : RowRead} → x ≡ ok r → ok (span_is r.next r.shared r.suffix_at r.suffix_len) ≡ spans x
span-read x e = rw e

pub span-refused : (x : Res RowRead) {n : ℕ} → x ≡ refuse n → refuse n ≡ spans x
span-refused x e = rw e

-- what one tells: the row that was read
pub span-row : {A : Type 0} (x : Res RowRead) (s : RowSpan) → ok s ≡ spans x → ((r : RowRead) → x ≡ ok r → span_of r ≡ s → A) → A
span-row (ok r) s e f = f r refl (sym (ok-inj e))
span-row (refuse n) s e f = absurd (let z : ◌≡◌ {A = ℕ} 0 1 = cc in omega arith)

-- and what its refusal tells
pub span-no : (x : Res RowRead) {n : ℕ} → refuse n ≡ spans x → x ≡ refuse n
span-no (ok r) e = absurd (let z : ◌≡◌ {A = ℕ} 0 1 = cc in omega arith)
span-no (refuse m) {n} e = ap refuse (refuse-inj (sym e))

-- ---- the key of a restart, read alone

pub plain_key_at-tells : (d : List ℕ) (at end : ℕ) {n : ℕ} → plain_key_at d at end ≡ Some n → PlainKeyTells d at end n
unfolding plain_key_at
plain_key_at-tells d at end {n} = go (ltb (length d) end || ltb end (at + 3)) (not_plain_key at end (get_or d at 0) (get_or d (at + 1) 0) (get_or d (at + 2) 0)) refl refl
  where
    go : (a b : Bool) → (ltb (length d) end || ltb end (at + 3)) ≡ a → not_plain_key at end (get_or d at 0) (get_or d (at + 1) 0) (get_or d (at + 2) 0) ≡ b
        → cond a None (cond b None (Some (get_or d (at + 1) 0))) ≡ Some n → PlainKeyTells d at end n
    go true b p q h = absurd (none-apart h)
    go false true p q h = absurd (none-apart h)
    go false false p q h =
        let t₁ = or-false q in
        let t₂ = or-false t₁.0 in
        let t₃ = or-false t₂.0 in
        let t₄ = or-false t₃.0 in
        let w = eqb-false (get_or d (at + 1) 0) 0 t₄.1 in
        let t₀ = or-false {a = ltb (length d) end} {b = ltb end (at + 3)} p in
        rw (← some-one h) record {
          inside = ltb-false (length d) end t₀.0;
          starts = ltb-false end (at + 3) t₀.1;
          none-shared = ltb-false 0 (get_or d at 0) t₄.0;
          unshared-is = refl;
          some = omega arith;
          small = ltb-false 127 (get_or d (at + 1) 0) t₃.1;
          value_len-small = ltb-false 127 (get_or d (at + 2) 0) t₂.1;
          within = ltb-false end (at + 3 + get_or d (at + 1) 0) t₁.1;
        }

module _ (d : List ℕ) (at end prev_len n : ℕ) (t : PlainKeyTells d at end n) where
  abbrev lk : Lengths
  lk = lengths_is 0 n (get_or d (at + 2) 0) (at + 3)

  key-lengths : lengths_at d at ≡ ok lk
  key-lengths =
      sym (lengths-good d at
      {a = num_at 0 (at + 1)} {b = num_at n (at + 2)} {c = num_at (get_or d (at + 2) 0) (at + 3)}
      (length-is d at 0 (at + 1) (omega (arith, t.starts, t.inside)) (omega (arith, t.none-shared)) (omega arith) refl)
      (length-is d (at + 1) n (at + 2) (omega (arith, t.starts, t.inside)) t.unshared-is t.small (omega arith))
      (length-is d (at + 2) (get_or d (at + 2) 0) (at + 3) (omega (arith, t.starts, t.inside)) refl t.value_len-small (omega arith)))

  pub plain-key-read : ok (plain_key_is at n) ≡ read_key d at end prev_len true
  plain-key-read =
      let s = t.small in
      let w = t.within in
      let i = t.inside in
      key-good d at end prev_len true (sym (head-good d at prev_len true key-lengths (omega arith) (λ z. absurd (omega (arith, t.some))) (omega arith))) (omega arith) (omega arith)

pub plain-key-is : (d : List ℕ) (at end prev_len : ℕ) {n : ℕ} → Some n ≡ plain_key_at d at end → read_key d at end prev_len true ≡ ok (plain_key_is at n)
plain-key-is d at end prev_len e = sym (plain-key-read d at end prev_len _ (plain_key_at-tells d at end (sym e)))

-- each way through the test, as code meets it
module _ (d : List ℕ) (at end : ℕ) where
  pub key-short : (ltb end 3 || ltb (length d) end) ≡ true → None ≡ plain_key_at d at end
  unfolding plain_key_at
  key-short e =
      ⊎_elim
      (λ x. rw x.0)
      (λ x. rw (x.0, lt-ltb end (at + 3) (⊎_elim (λ y. omega (arith, y.1)) (λ y. absurd (clash e (rw (y.0, x.0)))) (ltb-cases end 3))))
      (ltb-cases (length d) end)

  module _ (e : (ltb end 3 || ltb (length d) end) ≡ false) where
    pub key-enough : 3 ≤ end
    key-enough = ltb-false end 3 (or-false {a = ltb end 3} {b = ltb (length d) end} e).0

    key-inside : end ≤ length d
    key-inside = ltb-false (length d) end (or-false {a = ltb end 3} {b = ltb (length d) end} e).1

    pub key_late : end - 3 < at → None ≡ plain_key_at d at end
    unfolding plain_key_at
    key_late h = let k = key-enough in rw (le-ltb (length d) end key-inside, lt-ltb end (at + 3) (omega arith))

    module _ (h : at ≤ end - 3) where
      pub key-starts : at + 3 ≤ length d
      key-starts = let k = key-enough in let i = key-inside in omega arith

      module _ (s u v : ℕ) (es : s ≡ get_or d at 0) (eu : u ≡ get_or d (at + 1) 0) (ev : v ≡ get_or d (at + 2) 0) where
        key_of : cond (not_plain_key at end s u v) None (Some u) ≡ plain_key_at d at end
        unfolding plain_key_at
        key_of = let k = key-enough in rw (le-ltb (length d) end key-inside, le-ltb end (at + 3) (omega arith), es, eu, ev)

        pub key-odd : not_plain_key at end s u v ≡ true → None ≡ plain_key_at d at end
        key-odd q = rw q at key_of

        pub key-plain : not_plain_key at end s u v ≡ false → Some u ≡ plain_key_at d at end
        key-plain q = rw q at key_of

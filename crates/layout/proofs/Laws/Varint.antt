-- Varints: what is written reads back; a written number has the length that its bits give; and the reader at a place of a slice, byte by byte,
-- as a loop meets it: one record, `Reading`, with a law for each thing that the loop does.
use Rattle.std.specs.Prelude.{ℕ, zero, suc, ◌+◌, ◌-◌, ◌*◌, ◌/◌, ◌%◌, ◌^◌, ◌<◌, ◌≤◌, ◌≡◌, Bool, true, false, cond, ◌&&◌, List, [], ◌∷◌, ◌++◌, ◌⊎◌, ltb, eqb, length, get_or, take, drop}
use Rattle.std.proofs.Math.Path.{refl, sym}
use Rattle.std.proofs.Common.{ap, ap₂, ◌∙◌, ⊎_elim, arith, pow-suc, mul-le-mul, mul-le-mul_left, le_of_lt, add-zero, sub-eq-zero_of_le, add-one, drop_of_length-le, pow-add, pow_mono, drop-cons, lt-ltb, le-ltb, eq-eqb, ne_eqb, ltb-false}
use Rattle.std.proofs.Math.Nat.{pow-le-pow_right}
use Rattle.std.specs.Int.Count.{count_leading_zeros}
use Rattle.std.proofs.lemmas.Nat.{leading_length}
use Rattle.std.proofs.lemmas.Bool.{eqb-false}
use Rattle.layout.specs.Res.{Res, ok, refuse, bind, guard}
use Rattle.layout.specs.Varint.{varint_in, varint, varint_length, Num, num, above, read_varint_in, read_varint}
use Rattle.layout.proofs.Laws.Res.{ltb-cases, eqb-cases, bind-then, guard-then, cond-ok, ok-inj}
use Rattle.layout.specs.Laws.Varint.{VarintAnswer, ends, reads, spells_wrong}

-- ---- what is written reads back

read_varint_in-varint_in : (room v : ℕ) (rest : List ℕ) → v < 16 * 128 ^ room → read_varint_in room (varint_in room v ++ rest) ≡ ok (num v (length (varint_in room v)))
unfolding read_varint_in varint_in
read_varint_in-varint_in zero v rest h = rw (le-ltb 15 v (omega arith))
read_varint_in-varint_in (suc room) v rest h =
    ⊎_elim (λ t. rw (t.0, t.0))
    (λ t. rw (t.0, le-ltb (128 + v % 128) 128 (omega arith), read_varint_in-varint_in room (v / 128) rest (omega (arith, pow-suc 128 room)), ne_eqb (v / 128) 0 (λ z. absurd (omega (arith, t.1)))) (ap (λ k. ok (num k (suc (length (varint_in room (v / 128)))))) (omega arith)))
    (ltb-cases v 128)

pub read_varint-varint : (v : ℕ) (rest : List ℕ) → v < 2 ^ 32 → read_varint (varint v ++ rest) ≡ ok (num v (length (varint v)))
unfolding read_varint varint
read_varint-varint v rest h = read_varint_in-varint_in 4 v rest (omega arith)

-- ---- the reader at a place of a slice: what a loop over `data[at + i]` uses. Nothing else about the reader is needed there

-- what a loop has read: the low bytes' number, the weight of the next byte, and how many bytes. After a byte, what follows may not spell 0
abbrev carry : ℕ → ℕ → ℕ → Num → Res Num
carry acc w i r = guard (ltb 0 i && eqb r.val 0) 10 (ok (num (acc + w * r.val) (i + r.len)))

carry-none : (x : Res Num) → bind x (carry 0 1 0) ≡ x
carry-none (ok r) = ap₂ (λ a b. ok (num a b)) (omega arith) (omega arith)
carry-none (refuse n) = refl

-- a number that may follow: the first, or one that is not 0
carry-good : (acc w i : ℕ) (r : Num) → (1 ≤ i → r.val ≡ 0 → ⊥) → carry acc w i r ≡ ok (num (acc + w * r.val) (i + r.len))
carry-good acc w zero r h = refl
carry-good acc w (suc i) r h = rw (lt-ltb 0 (suc i) (omega arith), ne_eqb r.val 0 (h (omega arith)))

carry-zero : (acc w i : ℕ) (r : Num) → 1 ≤ i → r.val ≡ 0 → carry acc w i r ≡ refuse 10
carry-zero acc w i r h z = rw (lt-ltb 0 i h, eq-eqb r.val 0 z)

carry-end : (room acc w i p : ℕ) (d : List ℕ) → length d ≤ p → bind (read_varint_in room (drop p d)) (carry acc w i) ≡ refuse 9
unfolding read_varint_in
carry-end zero acc w i p d h = rw (drop_of_length-le d h)
carry-end (suc room) acc w i p d h = rw (drop_of_length-le d h)

carry-fifth : (acc w i p : ℕ) (d : List ℕ) → p < length d → 15 < get_or d p 0 → bind (read_varint_in 0 (drop p d)) (carry acc w i) ≡ refuse 10
unfolding read_varint_in
carry-fifth acc w i p d h k = rw (drop-cons d p 0 h, lt-ltb 15 (get_or d p 0) k)

carry-last : (acc w i p : ℕ) (d : List ℕ) → p < length d → get_or d p 0 ≤ 15 → bind (read_varint_in 0 (drop p d)) (carry acc w i) ≡ carry acc w i (num (get_or d p 0) 1)
unfolding read_varint_in
carry-last acc w i p d h k = rw (drop-cons d p 0 h, le-ltb 15 (get_or d p 0) k)

carry-small : (room acc w i p : ℕ) (d : List ℕ) → p < length d → get_or d p 0 < 128
    → bind (read_varint_in (suc room) (drop p d)) (carry acc w i) ≡ carry acc w i (num (get_or d p 0) 1)
unfolding read_varint_in
carry-small room acc w i p d h k = rw (drop-cons d p 0 h, lt-ltb (get_or d p 0) 128 k)

carry-more : (room acc w i p : ℕ) (d : List ℕ) → p < length d → 128 ≤ get_or d p 0
    → bind (read_varint_in (suc room) (drop p d)) (carry acc w i)
    ≡ bind (read_varint_in room (drop (p + 1) d)) (carry (acc + w * (get_or d p 0 - 128)) (w * 128) (i + 1))
unfolding read_varint_in
carry-more room acc w i p d h k = rw (add-one p, drop-cons d p 0 h, le-ltb (get_or d p 0) 128 k) (go (read_varint_in room (drop (suc p) d)) (get_or d p 0))
  where
    go : (x : Res Num) (b : ℕ) → bind (bind x (above b)) (carry acc w i) ≡ bind x (carry (acc + w * (b - 128)) (w * 128) (i + 1))
    go (ok r) b = ⊎_elim (λ t. rw (t.0, lt-ltb 0 (i + 1) (omega arith))) (λ t. passed t.0 ∙ carry-good acc w i (num (b - 128 + 128 * r.val) (suc r.len)) (λ h z. absurd (omega (arith, t.1))) ∙ joined t) (eqb-cases r.val 0)
      where
        sum : (c v : ℕ) → acc + w * (c + 128 * v) ≡ acc + w * c + w * 128 * v
        sum c v = omega arith

        passed : eqb r.val 0 ≡ false → bind (above b r) (carry acc w i) ≡ carry acc w i (num (b - 128 + 128 * r.val) (suc r.len))
        passed e = rw e

        joined : (eqb r.val 0 ≡ false) × (r.val ≡ 0 → ⊥) → ok (num (acc + w * (b - 128 + 128 * r.val)) (i + suc r.len)) ≡ carry (acc + w * (b - 128)) (w * 128) (i + 1) r
        joined t = ap₂ (λ a n. ok (num a n)) (sum (b - 128) r.val) (omega arith) ∙ sym (carry-good (acc + w * (b - 128)) (w * 128) (i + 1) r (λ h. t.1))
    go (refuse n) b = refl

-- ---- a loop's invariant, with a law for each thing the loop does

-- a byte that ends the number after i others: below 128, or as the fifth at most 15
abbrev pub IsLast : ℕ → ℕ → Type 0
IsLast b i = ((b < 128) × (i < 4)) ⊎ ((b ≤ 15) × (4 ≤ i))

-- i bytes from `at` on are read, each with its top bit set: their number is acc, and the next byte weighs w
pub record Reading (d : List ℕ) (at acc w i : ℕ) : Type 0 where
  pub few : i ≤ 4
  pub weight : w ≡ 128 ^ i
  pub small : acc < w
  pub so_far : read_varint (drop at d) ≡ bind (read_varint_in (4 - i) (drop (at + i) d)) (carry acc w i)

pub reading_start : (d : List ℕ) (at : ℕ) → Reading d at 0 1 0
reading_start d at =
    record { few = omega arith; weight = refl; small = omega arith; so_far = rw (add-zero at) (unfold read_varint in sym (carry-none (read_varint_in 4 (drop at d)))) }

module _ {d : List ℕ} {at acc w i : ℕ} (r : Reading d at acc w i) where
  pub reading_light : w ≤ 268435456
  reading_light = rw r.weight (pow-le-pow_right {n = 128} (omega arith) {i = i} {j = 4} r.few)

  pub reading_low : i < 4 → w ≤ 2097152
  reading_low h = rw r.weight (pow-le-pow_right {n = 128} (omega arith) {i = i} {j = 3} (omega arith))

  -- no sum or product of the loop wraps 32 bits
  pub reading_fits32 : (b : ℕ) → i < 4 → b < 256 → acc + w * b < 2 ^ 32
  reading_fits32 b k h = omega (arith, mul-le-mul (reading_low k) (le_of_lt h), r.small, reading_low k)

  pub reading_fits-last : (b : ℕ) → b ≤ 15 → acc + w * b < 2 ^ 32
  reading_fits-last b h = omega (arith, mul-le-mul reading_light h, r.small, reading_light)

  pub reading_end : length d ≤ at + i → refuse 9 ≡ read_varint (drop at d)
  reading_end h = sym (r.so_far ∙ carry-end (4 - i) acc w i (at + i) d h)

  reading_byte : {b : ℕ} → at + i < length d → b ≡ get_or d (at + i) 0 → IsLast b i → read_varint (drop at d) ≡ carry acc w i (num b 1)
  reading_byte {b} k e last =
      r.so_far
      ∙ ⊎_elim (λ t. rw (e, room t.1) (carry-small (3 - i) acc w i (at + i) d k (omega (arith, t.0)))) (λ t. rw (e, sub-eq-zero_of_le t.1) (carry-last acc w i (at + i) d k (omega (arith, t.0)))) last
    where
      room : i < 4 → 4 - i ≡ suc (3 - i)
      room h = omega arith

  pub reading_good : {b : ℕ} → at + i < length d → b ≡ get_or d (at + i) 0 → IsLast b i → (1 ≤ i → b ≡ 0 → ⊥) → ok (num (acc + w * b) (i + 1)) ≡ read_varint (drop at d)
  reading_good {b} k e last some = sym (reading_byte k e last ∙ carry-good acc w i (num b 1) some)

  -- a last byte that adds nothing to those before it
  pub reading_zero : {b : ℕ} → at + i < length d → b ≡ get_or d (at + i) 0 → IsLast b i → 1 ≤ i → b ≡ 0 → refuse 10 ≡ read_varint (drop at d)
  reading_zero {b} k e last some z = sym (reading_byte k e last ∙ carry-zero acc w i (num b 1) some z)

  pub reading_more : {b : ℕ} → i < 4 → at + i < length d → b ≡ get_or d (at + i) 0 → 128 ≤ b → b < 256 → Reading d at (acc + w * (b - 128)) (w * 128) (i + 1)
  reading_more {b} h k e l u =
      record {
        few = omega arith;
        weight = rw (r.weight, add-one i) (sym (pow-suc 128 i));
        small = omega (arith, mul-le-mul_left {m = b - 128} {n = 127} w (omega arith), r.small);
        so_far = r.so_far ∙ rw (room, left, place, e) (carry-more (3 - i) acc w i (at + i) d k (omega arith));
      }
    where
      room : 4 - i ≡ suc (3 - i)
      room = omega arith

      left : 4 - (i + 1) ≡ 3 - i
      left = omega arith

      place : at + (i + 1) ≡ at + i + 1
      place = omega arith

  pub reading_fifth : {b : ℕ} → 4 ≤ i → at + i < length d → b ≡ get_or d (at + i) 0 → 15 < b → refuse 10 ≡ read_varint (drop at d)
  reading_fifth {b} h k e l = sym (r.so_far ∙ rw (sub-eq-zero_of_le h) (carry-fifth acc w i (at + i) d k (omega arith)))

-- ---- how long a varint is

-- b is the count of significant bits of v: 2 ^ b is the first power above v
varint_in-length : (room v b : ℕ) → 1 ≤ b → b ≤ 7 * suc room → v < 2 ^ b → 2 ^ b ≤ 2 * v + 1 → length (varint_in room v) ≡ (b + 6) / 7
unfolding varint_in
varint_in-length zero v b h1 h2 lo hi = omega arith
varint_in-length (suc room) v b h1 h2 lo hi =
    ⊎_elim
    (λ t. rw t.0 (short t.1))
    (λ t. rw t.0 (long t.1 (b - 7) (omega (arith, eight t.1)) (varint_in-length room (v / 128))))
    (ltb-cases v 128)
  where
    -- 2 ^ b ≤ 255, so b is at most 7
    short : v < 128 → 1 ≡ (b + 6) / 7
    short w = ⊎_elim (λ u. absurd (omega (arith, pow_mono {i = 8} {j = b} u.1))) (λ u. omega arith) (ltb-cases 7 b)

    eight : 128 ≤ v → 8 ≤ b
    eight w = ⊎_elim (λ u. u.1) (λ u. absurd (omega (arith, pow_mono {i = b} {j = 7} u.1))) (ltb-cases 7 b)

    long : 128 ≤ v → (c : ℕ) → b ≡ c + 7 → ((b : ℕ) → 1 ≤ b → b ≤ 7 * suc room → v / 128 < 2 ^ b → 2 ^ b ≤ 2 * (v / 128) + 1 → length (varint_in room (v / 128)) ≡ (b + 6) / 7)
        → suc (length (varint_in room (v / 128))) ≡ (b + 6) / 7
    long w c e ih =
        let q : 2 ^ b ≡ 2 ^ c * 128 = rw e (pow-add 2 c 7) in
        omega (arith, ih c (omega (arith, eight w)) (omega arith) (omega arith) (omega arith))

varint-bits : (v : ℕ) → 1 ≤ v → v < 2 ^ 32 → length (varint v) ≡ (32 - count_leading_zeros 32 v + 6) / 7
unfolding varint
varint-bits v h k =
    let m = leading_length 32 v k in
    varint_in-length 4 v m.0 (some m.0 m.2) (omega (arith, m.1)) m.2 m.3 ∙ ap (λ (x : ℕ). (x + 6) / 7) (omega (arith, m.1))
  where
    some : (b : ℕ) → v < 2 ^ b → 1 ≤ b
    some zero w = absurd (omega arith)
    some (suc b) w = omega arith

pub varint_in-few : (room v : ℕ) → (1 ≤ length (varint_in room v)) × (length (varint_in room v) ≤ suc room)
unfolding varint_in
varint_in-few zero v = omega arith
varint_in-few (suc room) v = ⊎_elim (λ t. rw t.0 (omega arith)) (λ t. rw t.0 (omega (arith, varint_in-few room (v / 128)))) (ltb-cases v 128)

pub varint-few : (v : ℕ) → (1 ≤ length (varint v)) × (length (varint v) ≤ 5)
unfolding varint
varint-few v = varint_in-few 4 v

-- the bytes written are as many as the rule of significant bits says
pub length-varint : (v : ℕ) → v < 2 ^ 32 → length (varint v) ≡ varint_length v
unfolding varint_length
length-varint v h = ⊎_elim (λ t. rw (t.0, t.1) zero-takes-one) (λ t. rw t.0 (varint-bits v (omega (arith, t.1)) h)) (eqb-cases v 0)
  where
    zero-takes-one : length (varint 0) ≡ 1
    zero-takes-one = unfold varint varint_in in refl

-- ---- any bytes: a number that is read has at least a byte

read_varint_in-len : (room : ℕ) (s : List ℕ) (r : Num) → read_varint_in room s ≡ ok r → (1 ≤ r.len) × (r.len ≤ length s)
unfolding read_varint_in
read_varint_in-len room [] r e = absurd (let z : ◌≡◌ {A = ℕ} 0 1 = cc in omega arith)
read_varint_in-len zero (b ∷ bs) r e =
    ⊎_elim (λ t. absurd (let p = t.1 in let z : ◌≡◌ {A = ℕ} 0 1 = cc in omega arith)) (λ t. let p = ap (λ (x : Num). x.len) (ok-inj t.1) in omega arith)
    (cond-ok (ltb 15 b) (refuse 10) (ok (num b 1)) r e)
read_varint_in-len (suc room) (b ∷ bs) r e =
    ⊎_elim
    (λ t. let p = ap (λ (x : Num). x.len) (ok-inj t.1) in omega arith)
    (λ t.
    bind-then (read_varint_in room bs) _ r t.1 λ u e₁ e₂.
    guard-then (eqb u.val 0) 10 _ r e₂ λ z e₃.
    let p = ap (λ (x : Num). x.len) (ok-inj e₃) in
    omega (arith, read_varint_in-len room bs u e₁))
    (cond-ok (ltb b 128) (ok (num b 1)) (bind (read_varint_in room bs) _) r e)

pub read_varint-len : (s : List ℕ) (r : Num) → read_varint s ≡ ok r → (1 ≤ r.len) × (r.len ≤ length s)
unfolding read_varint
read_varint-len s r e = read_varint_in-len 4 s r e

-- ---- what else callers need of the reader, so that nothing else opens it

pub read_varint-none : read_varint [] ≡ refuse 9
unfolding read_varint read_varint_in
read_varint-none = refl

-- a byte below 128 is a number by itself
pub read_varint-byte : (b : ℕ) (bs : List ℕ) → b < 128 → read_varint (b ∷ bs) ≡ ok (num b 1)
unfolding read_varint read_varint_in
read_varint-byte b bs h = rw (lt-ltb b 128 h)

-- no byte past a number's own tells
read_varint_in-local : (room : ℕ) (q s s' : List ℕ) (r : Num) → read_varint_in room (q ++ s) ≡ ok r → r.len ≤ length q → read_varint_in room (q ++ s') ≡ ok r
unfolding read_varint_in
read_varint_in-local room [] s s' r e h = absurd (omega (arith, read_varint_in-len room s r e))
read_varint_in-local zero (b ∷ q) s s' r e h = e
read_varint_in-local (suc room) (b ∷ q) s s' r e h =
    ⊎_elim
    (λ t. rw t.0 t.1)
    (λ t.
    bind-then (read_varint_in room (q ++ s)) _ r t.1 λ u e₁ e₂.
    guard-then (eqb u.val 0) 10 _ r e₂ λ z e₃.
    let n = ap (λ (x : Num). x.len) (ok-inj e₃) in
    rw (t.0, read_varint_in-local room q s s' u e₁ (omega arith)) e₂)
    (cond-ok (ltb b 128) (ok (num b 1)) (bind (read_varint_in room (q ++ s)) _) r e)

pub read_varint-local : (q s s' : List ℕ) (r : Num) → read_varint (q ++ s) ≡ ok r → r.len ≤ length q → read_varint (q ++ s') ≡ ok r
unfolding read_varint
read_varint-local q s s' r e h = read_varint_in-local 4 q s s' r e h

read_varint_in-answers : (room : ℕ) (s : List ℕ) → VarintAnswer (read_varint_in room s)
unfolding read_varint_in
read_varint_in-answers room [] = ends
read_varint_in-answers zero (b ∷ bs) = fifth (ltb 15 b)
  where
    fifth : (t : Bool) → VarintAnswer (cond t (refuse 10) (ok (num b 1)))
    fifth true = spells_wrong
    fifth false = reads (num b 1)
read_varint_in-answers (suc room) (b ∷ bs) = first (ltb b 128) (more (read_varint_in room bs) (read_varint_in-answers room bs))
  where
    more : (x : Res Num) → VarintAnswer x → VarintAnswer (bind x (above b))
    more x (reads r) = needed (eqb r.val 0)
      where
        needed : (t : Bool) → VarintAnswer (guard t 10 (ok (num (b - 128 + 128 * r.val) (suc r.len))))
        needed true = spells_wrong
        needed false = reads (num (b - 128 + 128 * r.val) (suc r.len))
    more x ends = ends
    more x spells_wrong = spells_wrong

    first : (t : Bool) → VarintAnswer (bind (read_varint_in room bs) (above b)) → VarintAnswer (cond t (ok (num b 1)) (bind (read_varint_in room bs) (above b)))
    first true m = reads (num b 1)
    first false m = m

pub read_varint-answers : (s : List ℕ) → VarintAnswer (read_varint s)
unfolding read_varint
read_varint-answers s = read_varint_in-answers 4 s

-- ---- a varint that is read is the one that is written

read_varint_in-written : (room : ℕ) (s : List ℕ) (r : Num) → ((i : ℕ) → get_or s i 0 < 256) → read_varint_in room s ≡ ok r → take r.len s ≡ varint_in room r.val
unfolding read_varint_in varint_in
read_varint_in-written room [] r bytes e = absurd (let z : ◌≡◌ {A = ℕ} 0 1 = cc in omega arith)
read_varint_in-written zero (b ∷ bs) r bytes e =
    ⊎_elim (λ t. absurd (let p = t.1 in let z : ◌≡◌ {A = ℕ} 0 1 = cc in omega arith)) (λ t. let is : num b 1 ≡ r = ok-inj t.1 in rw (← is))
    (cond-ok (ltb 15 b) (refuse 10) (ok (num b 1)) r e)
read_varint_in-written (suc room) (b ∷ bs) r bytes e =
    ⊎_elim
    (λ t. let is : num b 1 ≡ r = ok-inj t.1 in rw (← is, t.0))
    (λ t.
    bind-then (read_varint_in room bs) _ r t.1 λ u e₁ e₂.
    guard-then (eqb u.val 0) 10 _ r e₂ λ z e₃.
    let is : num (b - 128 + 128 * u.val) (suc u.len) ≡ r = ok-inj e₃ in
    let low : b < 256 = bytes 0 in
    let high : 128 ≤ b = ltb-false b 128 t.0 in
    let some = eqb-false u.val 0 z in
    let large : 128 ≤ b - 128 + 128 * u.val = omega arith in
    let rest : (b - 128 + 128 * u.val) / 128 ≡ u.val = omega arith in
    let first : 128 + (b - 128 + 128 * u.val) % 128 ≡ b = omega arith in
    rw (← is, le-ltb (b - 128 + 128 * u.val) 128 large, rest, first) (ap (λ (x : List ℕ). b ∷ x) (read_varint_in-written room bs u (λ i. bytes (suc i)) e₁)))
    (cond-ok (ltb b 128) (ok (num b 1)) (bind (read_varint_in room bs) _) r e)

pub varint-read-is-written : (s : List ℕ) (r : Num) → ((i : ℕ) → get_or s i 0 < 256) → read_varint s ≡ ok r → take r.len s ≡ varint r.val
unfolding read_varint varint
varint-read-is-written s r bytes e = read_varint_in-written 4 s r bytes e

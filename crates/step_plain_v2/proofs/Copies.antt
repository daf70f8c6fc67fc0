-- Copies that overlap: what is written twice is written once. A suffix of up to 16 bytes is two copies of a
-- power of two, or three of one byte; and a key is the first 16 bytes of the one before it with the suffix
-- over them.
use Prim.Native.Nat.{ℕ, ◌+◌, ◌-◌, ◌≤◌}
use mathlib.Core.Path.{◌≡◌, ap, sym, ◌∙◌}
use mathlib.Core.Bool.{false, ◌||◌}
use mathlib.Core.List.{List, ◌++◌, append_assoc}
use native.Mathlib.Nat.{zero-add}
use native.Mathlib.Omega.{arith}
use lib.Dec.{ltb}
use lib.ListN.{length, take, drop, length-append, length-drop}
use lib.Seq.{take-take, take-add, take-append-le, drop-drop, length-take-le}
use Rattle.layout.specs.Place.{splice}
use borrow.Author.Tests.{ltb-false}
use Rattle.layout.proofs.Laws.Plain.{or-false}
use Rattle.layout.proofs.Laws.Splice.{length-splice, take-splice, drop-splice, drop-past-splice, take-past-splice, splice-none}
use Rattle.step_plain_v2.specs.Ahead.{Moved}

-- w, written over the end of u
module _ (xs : List ℕ) (a s : ℕ) (u w : List ℕ) (h : s ≤ length u) (k : length u ≤ s + length w) (f : a + (s + length w) ≤ length xs) where
  before : take (a + s) (splice xs a u) ≡ take a xs ++ take s u
  before = take-add a s (splice xs a u) ∙ rw (take-splice xs a u (omega arith), drop-splice xs a u (omega arith), take-append-le s u (drop (a + length u) xs) h)

  after : drop (a + s + length w) (splice xs a u) ≡ drop (a + (s + length w)) xs
  after =
      let m : a + s + length w ≡ a + length u + (s + length w - length u) = omega arith in
      let n : a + length u + (s + length w - length u) ≡ a + (s + length w) = omega arith in
      rw m (sym (drop-drop (s + length w - length u) (a + length u) (splice xs a u))
      ∙ ap (drop (s + length w - length u)) (drop-past-splice xs a u (omega arith))
      ∙ drop-drop (s + length w - length u) (a + length u) xs)
      ∙ ap (λ (i : ℕ). drop i xs) n

  long : length (take s u ++ w) ≡ s + length w
  long = length-append (take s u) w ∙ ap (λ (i : ℕ). i + length w) (length-take-le s u h)

  over : splice (splice xs a u) (a + s) w ≡ splice xs a (take s u ++ w)
  unfolding splice
  over =
      ap (λ (l : List ℕ). l ++ (w ++ drop (a + s + length w) (splice xs a u))) before
      ∙ ap (λ (l : List ℕ). (take a xs ++ take s u) ++ (w ++ l)) after
      ∙ rw (long, append_assoc (take a xs) (take s u) (w ++ drop (a + (s + length w)) xs), append_assoc (take s u) w (drop (a + (s + length w)) xs))

-- two parts of a source that overlap are one
pub parts : (src : List ℕ) (from : ℕ) (xs : List ℕ) {ys zs : List ℕ} (a i j k : ℕ) → ys ≡ splice xs a (take i (drop from src)) → zs ≡ splice ys (a + j) (take k (drop (from + j) src))
    → j ≤ i → i ≤ j + k → from + (j + k) ≤ length src → a + (j + k) ≤ length xs → zs ≡ splice xs a (take (j + k) (drop from src))
parts src from xs {ys} {zs} a i j k p q h l m f =
    let w : List ℕ = drop from src in
    let long : length w ≡ length src - from = length-drop from src in
    let e₁ : length (take i w) ≡ i = length-take-le i w (rw long (omega arith)) in
    let e₂ : length (take k (drop j w)) ≡ k = length-take-le k (drop j w) (rw (length-drop j w, long) (omega arith)) in
    q ∙ rw (p, ← drop-drop j from src)
    (over xs a j (take i w) (take k (drop j w)) (rw e₁ h) (rw (e₁, e₂) l) (rw e₂ f)
    ∙ ap (splice xs a) (ap (λ (l : List ℕ). l ++ take k (drop j w)) (take-take j i w h) ∙ sym (take-add j k w)))

-- the key: its first 16 bytes were given as they were carried, then the suffix w to both
pub given-over : (key out w : List ℕ) (shared : ℕ) {out₁ out₂ key' out' : List ℕ} → 16 ≤ length key → shared ≤ 16 → 16 ≤ shared + length w → shared + length w ≤ length key → shared + length w ≤ length out
    → out₁ ≡ splice out 0 (take 8 (drop 0 key)) → out₂ ≡ splice out₁ 8 (take 8 (drop 8 key)) → key' ≡ splice key shared w → out' ≡ splice out₂ shared w
    → Moved key out shared w key' out'
given-over key out w shared {out₁} {out₂} {key'} {out'} h s l f g p q r o =
    let first : out₂ ≡ splice out 0 (take 16 key) = parts key 0 out 0 8 8 8 p q (omega arith) (omega arith) (omega arith) (omega arith) in
    let e : length (take 16 key) ≡ 16 = length-take-le 16 key h in
    record {
      carried = r;
      given =
          o ∙ rw first
          (rw (zero-add shared) at (over out 0 shared (take 16 key) w (rw e s) (rw e l) (omega arith))
          ∙ ap (splice out 0) (ap (λ (x : List ℕ). x ++ w) (take-take shared 16 key s) ∙ sym (take-past-splice key shared w f) ∙ ap (take (shared + length w)) (sym r)));
    }

-- the same by copies of the whole
pub given-whole : (key out w : List ℕ) (shared n : ℕ) {key' out' : List ℕ} → length w ≡ n → key' ≡ splice key shared w → out' ≡ splice out 0 (take (shared + n) key') → Moved key out shared w key' out'
given-whole key out w shared n e r o = record { carried = r; given = rw e o }

-- nothing is written
pub put-none : (xs : List ℕ) (a n : ℕ) (w : List ℕ) → n ≡ 0 → xs ≡ splice xs a (take n w)
put-none xs a n w e = rw e (sym (splice-none xs a))

-- the part of a source that is written has its length, and what is written to keeps its own
pub part_length : (src : List ℕ) (from n : ℕ) → from + n ≤ length src → length (take n (drop from src)) ≡ n
part_length src from n h = length-take-le n (drop from src) (rw (length-drop from src) (omega arith))

pub key-room : (src key : List ℕ) (from n shared : ℕ) {key' : List ℕ} → from + n ≤ length src → shared + n ≤ length key → key' ≡ splice key shared (take n (drop from src)) → shared + n ≤ length key'
key-room src key from n shared h k e = rw (e, length-splice key shared (take n (drop from src)) (rw (part_length src from n h) k)) k

-- what the test for the wide copies leaves
pub wide-tells : (whole shared n : ℕ) → (ltb whole 16 || ltb 16 shared || ltb 16 n) ≡ false → (16 ≤ whole) × (shared ≤ 16) × (n ≤ 16)
wide-tells whole shared n e =
    let w = or-false {a = ltb whole 16 || ltb 16 shared} {b = ltb 16 n} e in
    let v = or-false {a = ltb whole 16} {b = ltb 16 shared} w.0 in
    (ltb-false whole 16 v.0, ltb-false 16 shared v.1, ltb-false 16 n w.1)

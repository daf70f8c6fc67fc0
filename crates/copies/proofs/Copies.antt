-- Copies by groups of bytes. A group that is stored byte by byte is one write of a part of the source; groups that follow one another are one write of both;
-- and a last group that goes over the end of what is written already ends the whole.
use Prim.Native.Nat.{ℕ, zero, suc, ◌+◌, ◌-◌, ◌≤◌, ◌<◌}
use mathlib.Core.Path.{◌≡◌, refl, ap, sym, ◌∙◌}
use mathlib.Core.List.{List, [], ◌∷◌, ◌++◌}
use native.Mathlib.Nat.{add-zero}
use native.Mathlib.Omega.{arith}
use lib.ListN.{length, take, drop, set, get_or, length-set, length-drop, take-append-drop}
use lib.Seq.{take-add, take_all, drop-drop, drop-cons, length-take-le}
use Rattle.layout.specs.Place.{splice}
use borrow.Author.Tests.{lt-ltb, le-ltb}
use borrow.Rule.Slice.PartMut.{mid_of, put_mid, mid_len}
use Rattle.layout.proofs.Laws.Splice.{length-splice, take-splice, drop-past-splice, splice-splice, splice-none, set-splice, splice-lent}
use Rattle.copies.specs.Promise.{first_copied, CopiesFirst}

-- n bytes of src, of which the first has number k from `from` on, stored one by one from `at` on
abbrev pub stored : ℕ → ℕ → List ℕ → ℕ → List ℕ → ℕ → List ℕ
stored zero k src from buf at = buf
stored (suc n) k src from buf at = stored n (suc k) src from (set buf (at + k) (get_or src (from + k) 0)) at

length-stored : (n k : ℕ) (src : List ℕ) (from : ℕ) (buf : List ℕ) (at : ℕ) → length (stored n k src from buf at) ≡ length buf
length-stored zero k src from buf at = refl
length-stored (suc n) k src from buf at = length-stored n (suc k) src from (set buf (at + k) (get_or src (from + k) 0)) at ∙ length-set buf (at + k) (get_or src (from + k) 0)

stored-splice : (n k : ℕ) (src : List ℕ) (from : ℕ) (buf : List ℕ) (at : ℕ) → at + k + n ≤ length buf → from + k + n ≤ length src
    → stored n k src from buf at ≡ splice buf (at + k) (take n (drop (from + k) src))
stored-splice zero k src from buf at h f = sym (splice-none buf (at + k))
stored-splice (suc n) k src from buf at h f =
    let x = get_or src (from + k) 0 in
    let one : set buf (at + k) x ≡ splice buf (at + k) (x ∷ []) = set-splice buf (at + k) x (omega arith) in
    let next : at + suc k ≡ at + k + 1 = omega arith in
    let after : from + suc k ≡ suc (from + k) = omega arith in
    stored-splice n (suc k) src from (set buf (at + k) x) at (rw length-set (omega arith)) (omega arith)
    ∙ rw (one, next, after, drop-cons src (from + k) 0 (omega arith)) (splice-splice buf (at + k) (x ∷ []) (omega arith) (take n (drop (suc (from + k)) src)))

-- the first is stored at `at`
pub all-copied : (n : ℕ) (src : List ℕ) (from : ℕ) (buf : List ℕ) (at : ℕ) → at + suc n ≤ length buf → from + suc n ≤ length src
    → stored n 1 src from (set buf at (get_or src from 0)) at ≡ splice buf at (take (suc n) (drop from src))
all-copied n src from buf at h f =
    rw (add-zero at, add-zero from) at (stored-splice (suc n) 0 src from buf at (omega arith) (omega arith))

-- the place of the next byte, after n + 1 were stored
pub next-within : (n m : ℕ) (src : List ℕ) (from : ℕ) (buf : List ℕ) (at : ℕ) → n < m → at + suc m ≤ length buf → at + suc n < length (stored n 1 src from (set buf at (get_or src from 0)) at)
next-within n m src from buf at h k = rw (length-stored n 1 src from (set buf at (get_or src from 0)) at, length-set) (omega arith)

-- ---- the first n bytes of a source at the start of a buffer

module _ (n : ℕ) (src buf : List ℕ) where
  pub first-none : length buf < n → buf ≡ first_copied n src buf
  first-none h = rw (lt-ltb (length buf) n h)

  pub first_short : n ≤ length buf → length src < n → buf ≡ first_copied n src buf
  first_short h k = rw (le-ltb (length buf) n h, lt-ltb (length src) n k)

  pub first-all : {ys : List ℕ} → n ≤ length buf → n ≤ length src → ys ≡ splice buf 0 (take n src) → ys ≡ first_copied n src buf
  first-all h k e = e ∙ rw (le-ltb (length buf) n h, le-ltb (length src) n k)

-- parts that are lent for n bytes: said of the wholes
pub part-copied : (n : ℕ) (xs src : List ℕ) (at from : ℕ) {ys : List ℕ} → at + n ≤ length xs → from + n ≤ length src
    → CopiesFirst n (take (from + n - from) (drop from src)) (mid_of at (at + n - at) xs) ys → put_mid at (at + n - at) xs ys ≡ splice xs at (take n (drop from src))
part-copied n xs src at from h k e =
    let m : at + n - at ≡ n = omega arith in
    let l : from + n - from ≡ n = omega arith in
    let w = take n (drop from src) in
    let long : length w ≡ n = length-take-le n (drop from src) (rw length-drop (omega arith)) in
    let room : length (mid_of at n xs) ≡ n = rw m at (mid_len at (at + n) xs h) in
    let all : take n w ≡ w = take_all n w (omega arith) in
    let is = (rw (m, l) at e) ∙ sym (first-all n w (mid_of at n xs) (omega (arith, room)) (omega (arith, long)) refl) in
    rw m (ap (put_mid at n xs) (is ∙ ap (splice (mid_of at n xs) 0) all) ∙ splice-lent xs at n 0 w (omega (arith, room, long)) ∙ ap (λ (i : ℕ). splice xs i w) (add-zero at))

-- a write is lost under a longer one at its place
under : (xs : List ℕ) (a : ℕ) (u w : List ℕ) → length u ≤ length w → a + length w ≤ length xs → splice (splice xs a u) a w ≡ splice xs a w
unfolding splice
under xs a u w h f =
    let ends : drop (a + length w) (splice xs a u) ≡ drop (a + length w) xs =
    let m : a + length w ≡ a + length u + (length w - length u) = omega arith in
    rw m (sym (drop-drop (length w - length u) (a + length u) (splice xs a u)) ∙ ap (drop (length w - length u)) (drop-past-splice xs a u (omega arith)) ∙ drop-drop (length w - length u) (a + length u) xs) in
    ap (λ (l : List ℕ). l ++ (w ++ drop (a + length w) (splice xs a u))) (take-splice xs a u (omega arith)) ∙ ap (λ (l : List ℕ). take a xs ++ (w ++ l)) ends

module _ (buf : List ℕ) (at : ℕ) (src : List ℕ) (fits : at + length src ≤ length buf) where
  -- one group after another
  more : (i n : ℕ) → i + n ≤ length src → splice (splice buf at (take i src)) (at + i) (take n (drop i src)) ≡ splice buf at (take (i + n) src)
  more i n h =
      let long : length (take i src) ≡ i = length-take-le i src (omega arith) in
      rw (take-add i n src) (rw long at (splice-splice buf at (take i src) (rw long (omega arith)) (take n (drop i src))))

  -- the last n bytes, from before the place where the groups stopped
  last : (i n : ℕ) → n ≤ length src → i ≤ length src → length src - n ≤ i
      → splice (splice buf at (take i src)) (at + (length src - n)) (take n (drop (length src - n) src)) ≡ splice buf at src
  last i n h k o =
      let j = length src - n in
      let m : j + (i - j) ≡ i = omega arith in
      let long : length (take j src) ≡ j = length-take-le j src (omega arith) in
      let rest : length (drop j src) ≡ n = rw length-drop (omega arith) in
      let before : splice (splice buf at (take j src)) (at + j) (take (i - j) (drop j src)) ≡ splice buf at (take i src) = rw m at (more j (i - j) (omega arith)) in
      let short : length (take (i - j) (drop j src)) ≤ length (drop j src) = rw (length-take-le (i - j) (drop j src) (rw rest (omega arith)), rest) (omega arith) in
      let room : at + j + length (drop j src) ≤ length (splice buf at (take j src)) = rw (length-splice buf at (take j src) (rw long (omega arith)), rest) (omega arith) in
      let whole : splice (splice buf at (take j src)) (at + j) (drop j src) ≡ splice buf at src =
      rw (long, take-append-drop) at (splice-splice buf at (take j src) (rw long (omega arith)) (drop j src)) in
      rw (take_all n (drop j src) (omega arith), ← before)
      (under (splice buf at (take j src)) (at + j) (take (i - j) (drop j src)) (drop j src) short room ∙ whole)

-- a loop over groups of eight: so far ys has the first i bytes, and some are left
pub record Copying (buf : List ℕ) (at : ℕ) (src ys : List ℕ) (i : ℕ) : Type 0 where
  pub left : i < length src
  pub is : ys ≡ splice buf at (take i src)
  pub long : length ys ≡ length buf

pub copying_start : (buf : List ℕ) (at : ℕ) (src : List ℕ) → 0 < length src → Copying buf at src buf 0
copying_start buf at src h = record { left = h; is = sym (splice-none buf at); long = refl }

module _ {buf : List ℕ} {at : ℕ} {src ys zs : List ℕ} {i : ℕ} (fits : at + length src ≤ length buf) (c : Copying buf at src ys i) where
  pub copying_more : i + 8 < length src → zs ≡ splice ys (at + i) (take 8 (drop i src)) → Copying buf at src zs (i + 8)
  copying_more h e =
      let is : zs ≡ splice buf at (take (i + 8) src) = e ∙ ap (λ (l : List ℕ). splice l (at + i) (take 8 (drop i src))) c.is ∙ more buf at src fits i 8 (omega arith) in
      record { left = h; is = is; long = ap length is ∙ length-splice buf at (take (i + 8) src) (rw (length-take-le (i + 8) src (omega arith)) (omega arith)) }

  pub copying_last : 8 ≤ length src → length src ≤ i + 8 → zs ≡ splice ys (at + (length src - 8)) (take 8 (drop (length src - 8) src)) → zs ≡ splice buf at src
  copying_last h k e =
      e ∙ ap (λ (l : List ℕ). splice l (at + (length src - 8)) (take 8 (drop (length src - 8) src))) c.is ∙ last buf at src fits i 8 h (omega (arith, c.left)) (omega arith)

-- all of it was copied, so the whole is as long as before
pub copied-length : (buf : List ℕ) (at : ℕ) (src : List ℕ) {ys : List ℕ} → at + length src ≤ length buf → ys ≡ splice buf at src → length ys ≡ length buf
copied-length buf at src h e = ap length e ∙ length-splice buf at src h

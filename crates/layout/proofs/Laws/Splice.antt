-- Writes: what they leave, said of the whole list. `Wrote` says that bytes were put at a place and gives the place after them; writes that follow
-- one another are one write of all their bytes.
use Rattle.std.proofs.Math.Path.{◌≡◌, refl, sym, ap}
use Rattle.std.proofs.Common.{◌∙◌, subst, add_assoc, add-zero, zero-add, arith, length-drop, take-append-drop, take-add, take-take, length-take-le}
use Rattle.std.specs.Prelude.{Bool, ℕ, ◌+◌, ◌-◌, ◌≤◌, ◌<◌, take, set}
use Rattle.std.proofs.Math.Bool.{true, false}
use mathlib.Core.List.{List, [], ◌∷◌, ◌++◌, append_assoc}
use Rattle.std.proofs.Math.Dec.{ltb}
use Rattle.std.proofs.Math.ListN.{length, drop, length-append, length-take}
use Rattle.std.proofs.Math.Seq.{drop-drop, take_at, drop_at}
use Rattle.std.proofs.lemmas.List.{drop-append-le}
use Rattle.std.proofs.lemmas.List.Edits.{sets, sets-eq}
use borrow.Author.Tests.{lt-ltb, le-ltb, ltb-true, ltb-false}
use borrow.Rule.Slice.PartMut.{mid_of, put_mid}
use Rattle.layout.specs.Res.{ok, refuse, guard}
use Rattle.layout.specs.Place.{splice, put_at, after_put}
use Rattle.layout.proofs.Laws.Res.{guard-then, ok-inj}
use Rattle.layout.specs.Laws.Splice.{Wrote}

module _ (xs : List ℕ) (a : ℕ) (w : List ℕ) (fits : a + length w ≤ length xs) where
  pub length-splice : length (splice xs a w) ≡ length xs
  unfolding splice
  length-splice = simp (length-append, length-take, length-drop) (omega arith)

  -- what lies before, there and after
  pub take-splice : take a (splice xs a w) ≡ take a xs
  unfolding splice
  take-splice = take_at (take a xs) (w ++ drop (a + length w) xs) a (length-take-le a xs (omega arith))

  pub drop-splice : drop a (splice xs a w) ≡ w ++ drop (a + length w) xs
  unfolding splice
  drop-splice = drop_at (take a xs) (w ++ drop (a + length w) xs) a (length-take-le a xs (omega arith))

  pub drop-past-splice : drop (a + length w) (splice xs a w) ≡ drop (a + length w) xs
  drop-past-splice = sym (drop-drop (length w) a (splice xs a w)) ∙ rw drop-splice (drop_at w (drop (a + length w) xs) (length w) refl)

  pub take-past-splice : take (a + length w) (splice xs a w) ≡ take a xs ++ w
  take-past-splice = take-add a (length w) (splice xs a w) ∙ rw (take-splice, drop-splice, take_at w (drop (a + length w) xs) (length w) refl)

  -- one write after another is one write of both
  pub splice-splice : (w' : List ℕ) → splice (splice xs a w) (a + length w) w' ≡ splice xs a (w ++ w')
  unfolding splice
  splice-splice w' =
      ap (λ (l : List ℕ). l ++ (w' ++ drop (a + length w + length w') (splice xs a w))) take-past-splice
      ∙ ap (λ (l : List ℕ). (take a xs ++ w) ++ (w' ++ l)) (sym (drop-drop (length w') (a + length w) (splice xs a w)) ∙ ap (drop (length w')) drop-past-splice ∙ drop-drop (length w') (a + length w) xs)
      ∙ simp (append_assoc, length-append, add_assoc)

-- a key put over the start of a list stands there
pub key-over : (xs key : List ℕ) → length key ≤ length xs → take (length key) (splice xs 0 key) ≡ key
key-over xs key h = ap (λ (n : ℕ). take n (splice xs 0 key)) (sym (zero-add (length key))) ∙ take-past-splice xs 0 key (omega arith)

-- a list that is cut at k, from n on
seam : (n k : ℕ) (ys : List ℕ) → n ≤ length (take k ys) → drop n (take k ys) ++ drop k ys ≡ drop n ys
seam n k ys h = sym (drop-append-le n (take k ys) (drop k ys) h) ∙ ap (drop n) (take-append-drop k ys)

-- a write in a lent part, said of the whole
pub splice-lent : (xs : List ℕ) (a k b : ℕ) (w : List ℕ) → b + length w ≤ length (mid_of a k xs)
    → put_mid a k xs (splice (mid_of a k xs) b w) ≡ splice xs (a + b) w
unfolding splice
splice-lent xs a k b w h =
    let short : b ≤ k = omega (arith, length-take k (drop a xs)) in
    simp append_assoc
    (rw (seam (b + length w) k (drop a xs) h, take-take b k (drop a xs) short, drop-drop (b + length w) a xs, take-add a b xs)
    (simp (append_assoc, add_assoc)))

-- a run of stores is one write
pub sets-splice : (xs : List ℕ) (a : ℕ) (w : List ℕ) → a + length w ≤ length xs → sets xs a w ≡ splice xs a w
unfolding splice
sets-splice xs a w h = sets-eq w xs a h ∙ simp append_assoc

-- nothing is written yet
pub splice-none : (xs : List ℕ) (a : ℕ) → splice xs a [] ≡ xs
unfolding splice
splice-none xs a = rw add-zero (take-append-drop a xs)

-- a write at the start of a lent rest, `&mut xs[a..]`
pub write-rest : (xs : List ℕ) (a : ℕ) (w part : List ℕ) → a + length w ≤ length xs → part ≡ splice (mid_of a (length xs - a) xs) 0 w
    → put_mid a (length xs - a) xs part ≡ splice xs a w
write-rest xs a w part h e =
    ap (put_mid a (length xs - a) xs) e
    ∙ splice-lent xs a (length xs - a) 0 w (simp (length-take, length-drop, zero-add) (omega arith))
    ∙ ap (λ (n : ℕ). splice xs n w) (add-zero a)

-- ys is xs with w written at a. The next write, at n, is appended to w
pub then-write : (xs ys zs : List ℕ) (a n : ℕ) (w w' : List ℕ) → ys ≡ splice xs a w → n ≡ a + length w → n + length w' ≤ length xs
    → zs ≡ splice ys n w' → zs ≡ splice xs a (w ++ w')
then-write xs ys zs a n w w' so at h e = e ∙ (λ k. splice (so k) (at k) w') ∙ splice-splice xs a w (omega arith) w'

-- one store is a write of one
pub set-splice : (xs : List ℕ) (a x : ℕ) → a < length xs → set xs a x ≡ splice xs a (x ∷ [])
set-splice xs a x h = sets-splice xs a (x ∷ []) (omega arith)

-- writes compose
pub wrote_then : {xs ys zs : List ℕ} {a n m : ℕ} {w w' : List ℕ} → Wrote xs a w ys n → Wrote ys n w' zs m → Wrote xs a (w ++ w') zs m
wrote_then {xs} {ys} {zs} {a} {n} {m} {w} {w'} p q =
    let fits : a + length w ≤ length xs = omega (arith, p.next, p.room) in
    let long : length ys ≡ length xs = ap length p.is ∙ length-splice xs a w fits in
    record {
      is = then-write xs ys zs a n w w' p.is p.next (omega (arith, long, q.next, q.room)) q.is;
      next = simp length-append (omega (arith, p.next, q.next));
      room = omega (arith, long, q.room);
    }

-- a write into the rest that is lent from `a` on
pub wrote-rest : (xs : List ℕ) (a n : ℕ) (w part : List ℕ) → a + length w ≤ length xs → n ≡ a + length w → part ≡ splice (mid_of a (length xs - a) xs) 0 w
    → Wrote xs a w (put_mid a (length xs - a) xs part) n
wrote-rest xs a n w part h e i = record { is = write-rest xs a w part h i; next = e; room = omega arith }

-- a store
pub wrote-set : (xs : List ℕ) (a x : ℕ) → a < length xs → Wrote xs a (x ∷ []) (set xs a x) (a + 1)
wrote-set xs a x h = record { is = set-splice xs a x h; next = refl; room = omega arith }

pub wrote-length : {xs ys : List ℕ} {a n : ℕ} {w : List ℕ} → Wrote xs a w ys n → length ys ≡ length xs
wrote-length {xs} {ys} {a} {n} {w} p = ap length p.is ∙ length-splice xs a w (omega (arith, p.next, p.room))

-- the bytes may be grouped in another way
pub wrote_as : {xs ys : List ℕ} {a n : ℕ} {w w' : List ℕ} → w ≡ w' → Wrote xs a w ys n → Wrote xs a w' ys n
wrote_as {xs} {ys} {a} {n} e p = subst (λ (v : List ℕ). Wrote xs a v ys n) e p

-- nothing is written
pub wrote_none : (xs : List ℕ) (a : ℕ) → a ≤ length xs → Wrote xs a [] xs a
wrote_none xs a h = record { is = sym (splice-none xs a); next = sym (add-zero a); room = h }

-- ---- a put, which tests its room

module _ (buf : List ℕ) (at : ℕ) (w : List ℕ) where
  pub put-short : length buf < at + length w → (refuse 6 ≡ put_at (length buf) at w) × (buf ≡ after_put buf at w)
  unfolding put_at after_put
  put-short h = rw (lt-ltb (length buf) (at + length w) h) (refl, refl)

  pub put-wrote : {ys : List ℕ} {n : ℕ} → Wrote buf at w ys n → (ok n ≡ put_at (length buf) at w) × (ys ≡ after_put buf at w)
  unfolding put_at after_put
  put-wrote p = rw (le-ltb (length buf) (at + length w) (omega (arith, p.next, p.room))) (ap ok p.next, p.is)

  -- what a put that was taken tells, and that one with room is taken
  pub wrote-put : (ys : List ℕ) (n : ℕ) → ok n ≡ put_at (length buf) at w → ys ≡ after_put buf at w → Wrote buf at w ys n
  unfolding put_at after_put
  wrote-put ys n e q =
      guard-then (ltb (length buf) (at + length w)) 6 _ n (sym e) λ t e₁.
      record { is = rw t at q; next = sym (ok-inj e₁); room = omega (arith, ltb-false (length buf) (at + length w) t, ok-inj e₁) }

  pub put-taken : (k : ℕ) → refuse k ≡ put_at (length buf) at w → length buf < at + length w
  unfolding put_at
  put-taken k e = go (ltb (length buf) (at + length w)) refl e
    where
      go : (t : Bool) → ltb (length buf) (at + length w) ≡ t → refuse k ≡ guard t 6 (ok (at + length w)) → length buf < at + length w
      go true q e = ltb-true (length buf) (at + length w) q
      go false q e = absurd (let z : ◌≡◌ {A = ℕ} 0 1 = cc in omega arith)

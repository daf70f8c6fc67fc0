-- A writer's promise from what it did, for the writers; and what it did from its promise, for those who call them.
-- The promise settles the answer: 6 with nothing written where there is too little room, else the bytes written. So a caller who has tested the room meets no refusal (`puts-fits`).
use Prim.Native.Nat.{ℕ, ◌+◌, ◌-◌, ◌≤◌, ◌<◌}
use mathlib.Core.Path.{◌≡◌, refl, sym, ap, ◌∙◌, subst}
use mathlib.Core.List.{List, ◌++◌}
use native.Mathlib.Omega.{arith}
use lib.ListN.{length, take, drop, length-append, length-drop}
use lib.Seq.{length-take-le}
use Rattle.layout.specs.Place.{splice}
use Rattle.layout.specs.Laws.Splice.{Wrote}
use Rattle.layout.proofs.Laws.Splice.{put-short, put-wrote, wrote-put, put-taken, wrote_then, wrote-length}
use Rattle.basics.specs.Number.{number}
use Rattle.basics.specs.declared.Refusal.{Refusal}
use Rattle.basics.specs.declared.Refusal.TheVariants.{BufferTooSmall}
use Rattle.std.specs.Prelude.{Result, Ok, Err}
use Rattle.basics.specs.Answers.{says_same-one}
use Rattle.buf_mut.specs.Promise.{Puts, place_after}

-- too little room was refused
pub puts-short : (w buf : List ℕ) (at : ℕ) → length buf < at + length w → Puts w buf at (Err BufferTooSmall) buf
puts-short w buf at h =
    let p = put-short buf at w h in
    record { answer = p.0; bytes = p.1 }

-- the bytes were written
pub puts-wrote : {w buf ys : List ℕ} {at n : ℕ} → Wrote buf at w ys n → Puts w buf at (Ok n) ys
puts-wrote {w} {buf} {ys} {at} {n} p =
    let q = put-wrote buf at w p in
    record { answer = q.0; bytes = q.1 }

-- ---- for callers

module _ {w buf ys : List ℕ} {at : ℕ} where
  pub puts-at : {n : ℕ} → Puts w buf at (Ok n) ys → Wrote buf at w ys n
  puts-at {n} p = wrote-put buf at w ys n p.answer p.bytes

  pub puts-refused : {r : Refusal} → Puts w buf at (Err r) ys → (r ≡ BufferTooSmall) × (ys ≡ buf) × (length buf < at + length w)
  puts-refused {r} p =
      let short = put-taken buf at w (number r) p.answer in
      let q = put-short buf at w short in
      (same (says_same-one (Err r) (Err BufferTooSmall) (p.answer ∙ sym q.0)), p.bytes ∙ sym q.1, short)
    where
      same : {a b : Refusal} → ◌≡◌ {A = Result ℕ Refusal} (Err a) (Err b) → a ≡ b
      same e = cc

  -- where there is room, it is taken
  pub puts-fits : {r : Result ℕ Refusal} → at + length w ≤ length buf → Puts w buf at r ys → r ≡ Ok (at + length w)
  puts-fits {r} h p =
      let q = put-wrote buf at w (record { is = refl; next = refl; room = h }) in
      says_same-one r (Ok (at + length w)) (p.answer ∙ sym q.0)

  -- a put never changes the length
  pub puts-length : (r : Result ℕ Refusal) → Puts w buf at r ys → length ys ≡ length buf
  puts-length (Ok n) p = wrote-length (puts-at p)
  puts-length (Err r) p = ap length (puts-refused p).1

-- a copy that had room was made
pub copied : {w buf ys : List ℕ} {at : ℕ} {p : Result ℕ Refusal} → at + length w ≤ length buf → Puts w buf at p ys → ys ≡ splice buf at w
copied {w} {buf} {ys} {at} h q = (puts-at (subst (λ (r : Result ℕ Refusal). Puts w buf at r ys) (puts-fits h q) q)).is

-- so was that of a part of another slice
pub copied-part : (d : List ℕ) (from n : ℕ) {buf ys : List ℕ} {at : ℕ} {p : Result ℕ Refusal} → at + n ≤ length buf → from + n ≤ length d → Puts (take (from + n - from) (drop from d)) buf at p ys
    → ys ≡ splice buf at (take n (drop from d))
copied-part d from n {buf} {ys} {at} {p} h k q =
    let is : from + n - from ≡ n = omega arith in
    let long : length (take n (drop from d)) ≡ n = length-take-le n (drop from d) (rw (length-drop from d) (omega arith)) in
    copied (rw long h) (subst (λ (m : ℕ). Puts (take m (drop from d)) buf at p ys) is q)

-- ---- writes that follow one another, with room for all

-- room for both is room for the first, and after it for the second
pub room-first : (a : ℕ) (w w' : List ℕ) {k : ℕ} → a + length (w ++ w') ≤ k → a + length w ≤ k
room-first a w w' h = omega (arith, length-append w w')

pub room_next : {xs ys w : List ℕ} {a n : ℕ} (w' : List ℕ) → Wrote xs a w ys n → a + length (w ++ w') ≤ length xs → n + length w' ≤ length ys
room_next {w = w} w' p h = omega (arith, length-append w w', p.next, wrote-length p)

-- a writer that had room wrote, and the place after is in its answer
pub put_one : {xs ys w : List ℕ} {at n : ℕ} {p : Result ℕ Refusal} → at + length w ≤ length xs → Puts w xs at p ys → n ≡ place_after p → Wrote xs at w ys n
put_one {w = w} {at} {n} h q e =
    let is = puts-fits h q in
    let m : n ≡ at + length w = e ∙ ap place_after is in
    rw m (puts-at (rw is at q))

pub put_two : {xs ys zs w w' : List ℕ} {at a n : ℕ} {p q : Result ℕ Refusal} → at + length (w ++ w') ≤ length xs → Puts w xs at p ys → a ≡ place_after p → Puts w' ys a q zs
    → n ≡ place_after q → Wrote xs at (w ++ w') zs n
put_two {w = w} {w'} {at} h x d y e =
    let one = put_one (room-first at w w' h) x d in
    wrote_then one (put_one (room_next w' one h) y e)

pub put_three : {xs ys zs out w w' w'' : List ℕ} {at a b n : ℕ} {p q r : Result ℕ Refusal} → at + length (w ++ (w' ++ w'')) ≤ length xs → Puts w xs at p ys → a ≡ place_after p
    → Puts w' ys a q zs → b ≡ place_after q → Puts w'' zs b r out → n ≡ place_after r → Wrote xs at (w ++ (w' ++ w'')) out n
put_three {w = w} {w'} {w''} {at} h x d y e z f =
    let one = put_one (room-first at w (w' ++ w'') h) x d in
    wrote_then one (put_two (room_next (w' ++ w'') one h) y e z f)

-- what the last writer answers, all of them have put
pub puts_then : {xs ys zs w w' : List ℕ} {at a : ℕ} {p : Result ℕ Refusal} → at + length (w ++ w') ≤ length xs → Wrote xs at w ys a → Puts w' ys a p zs → Puts (w ++ w') xs at p zs
puts_then {xs} {zs = zs} {w} {w'} {at} h one q =
    let is = puts-fits (room_next w' one h) q in
    subst (λ (r : Result ℕ Refusal). Puts (w ++ w') xs at r zs) (sym is) (puts-wrote (wrote_then one (puts-at (rw is at q))))

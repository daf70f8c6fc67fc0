use Prim.Native.Nat.{ℕ, ◌+◌, ◌*◌, ◌%◌, ◌≤◌, ◌<◌, min, zero-le}
use mathlib.Core.Path.{◌≡◌, refl, sym, ◌∙◌}
use mathlib.Core.List.{List, ◌++◌}
use native.Mathlib.Omega.{arith}
use lib.ListN.{length, take, get_or, length-take}
use lib.Seq.{take-take, take-length}
use Rattle.layout.specs.Block.{offset_bytes, trailer}
use Rattle.layout.specs.Fixed.{big}
use Rattle.layout.proofs.Laws.Fixed.{length-big}
use Rattle.layout.proofs.Laws.Offsets.{offsets-none, offsets-more, trailer-counted}
use Rattle.layout.specs.Laws.Splice.{Wrote}
use Rattle.layout.proofs.Laws.Splice.{wrote_none, wrote_then, wrote_as, wrote-length}
use Rattle.layout.proofs.Laws.Trailer.{length-trailer}
use Rattle.buf_mut.specs.Promise.{Puts}
use Rattle.basics.specs.declared.Refusal.{Refusal}
use Rattle.std.specs.Prelude.{Result, Ok, Err}
use Rattle.buf_mut.proofs.Laws.{puts-short, puts-wrote, puts-at, puts-fits}
use Rattle.trailer_encode.proofs.put_trailer.Invariants.{Laying}
use Rattle.trailer_encode.proofs.put_trailer.Goals as goal

none-laid : (os buf : List ℕ) (at n : ℕ) → at ≤ length buf → Laying os buf at n buf at 0
none-laid os buf at n h = record { few = zero-le; place = omega arith; wrote = wrote_as (offsets-none os) (wrote_none buf at h) }

module _ {os start buf : List ℕ} {at n next i : ℕ} (l : Laying os start at n buf next i) (room : at + (2 * n + 2) ≤ length start) where
  -- a write of two bytes has room
  fits : (v : ℕ) {r : Result ℕ Refusal} {ys : List ℕ} → Puts (big 2 v) buf next r ys → r ≡ Ok (next + 2)
  fits v p = rw (length-big 2 v) at (puts-fits (omega (arith, l.few, l.place, wrote-length l.wrote, length-big 2 v)) p)

  two : (v : ℕ) {r : Result ℕ Refusal} {ys : List ℕ} → Puts (big 2 v) buf next r ys → Wrote buf next (big 2 v) ys (next + 2)
  two v p = puts-at (rw (fits v p) at p)

  not-refused : (v : ℕ) {r : Result ℕ Refusal} {x : Refusal} {ys : List ℕ} → Puts (big 2 v) buf next r ys → r ≡ Err x → ⊥
  not-refused v p e =
      let f = fits v p in
      let z : ◌≡◌ {A = ℕ} 0 1 = cc in
      omega arith

  one_more : {r : Result ℕ Refusal} {after : ℕ} {ys : List ℕ} → i < n → n ≤ length os → Puts (big 2 (get_or os i 0)) buf next r ys → r ≡ Ok after
      → Laying os start at n ys after (i + 1)
  one_more {r} {after} h k p e =
      let f = fits (get_or os i 0) p in
      let there : next + 2 ≡ after = cc in
      rw (← there)
      (record { few = omega arith; place = omega (arith, l.place); wrote = wrote_as (offsets-more os i (omega arith)) (wrote_then l.wrote (two (get_or os i 0) p)) })

  -- all are written, and then their count
  all_laid : (ws : List ℕ) (count : ℕ) {r : Result ℕ Refusal} {ys : List ℕ} → n ≤ i → os ≡ take n ws → n ≡ min count (length ws) → Puts (big 2 (n % 65536)) buf next r ys
      → Wrote start at (trailer (take count ws)) ys (next + 2)
  all_laid ws count h is e p =
      wrote_as bytes (wrote_then l.wrote (two (n % 65536) p))
    where
      long : n ≡ length (take count ws)
      long = e ∙ sym (length-take count ws)

      whole : take i os ≡ take count ws
      whole =
          let k = length (take count ws) in
          let m : i ≡ k = omega (arith, long, l.few) in
          rw is (take-take i n ws l.few ∙ rw m (sym (take-take k count ws (omega (arith, length-take count ws))) ∙ take-length (take count ws)))

      bytes : offset_bytes (take i os) ++ big 2 (n % 65536) ≡ trailer (take count ws)
      bytes = rw (whole, long) (trailer-counted (take count ws))

pub returns-then-buf-at : goal.returns-then-buf-at
returns-then-buf-at c =
    let a = c.args in
    puts-short _ _ _ (omega (arith, length-trailer (take a.count a.offsets.now)))

pub returns-then-buf-at-2 : goal.returns-then-buf-at-2
returns-then-buf-at-2 c =
    let a = c.args in
    puts-short _ _ _ (omega (arith, length-trailer (take a.count a.offsets.now), length-take a.count a.offsets.now))

pub loop-offset-init : goal.loop-offset-init
loop-offset-init c = none-laid _ _ _ _ (omega arith)

-- no write of an offset is refused
pub returns-in_err-next : goal.returns-in_err-next
returns-in_err-next c = absurd (not-refused c.loop-offset.invariant (omega arith) _ c.put_u16.ensures c.in_err-next.was)

pub loop-offset-preserved : goal.loop-offset-preserved
loop-offset-preserved c = one_more c.loop-offset.invariant (omega arith) (omega (arith, length-take c.least-n.result c.args.offsets.now)) (omega (arith, length-take c.least-n.result c.args.offsets.now)) c.put_u16.ensures c.in_ok-next.was

pub returns : goal.returns
returns c =
    let l = c.loop-offset.invariant in
    let p = rw c.low_16.ensures at c.put_u16-2.ensures in
    rw (fits l (omega arith) _ p) (puts-wrote (all_laid l (omega arith) c.args.offsets.now _ (omega (arith, length-take c.least-n.result c.args.offsets.now)) refl c.least-n.ensures p))

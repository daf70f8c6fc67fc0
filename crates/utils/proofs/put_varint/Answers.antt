use Prim.Native.Nat.{ℕ, zero, suc, ◌+◌, ◌-◌, ◌*◌, ◌/◌, ◌%◌, ◌^◌, ◌≤◌, ◌<◌}
use mathlib.Core.Path.{◌≡◌, refl, sym, ap, ◌∙◌}
use mathlib.Core.List.{List}
use native.Mathlib.Nat.{pow-suc}
use native.Mathlib.Numerals.{add-one}
use native.Mathlib.Omega.{arith}
use lib.ListN.{length, set, length-set}
use lib.Seq.{sets}
use Rattle.layout.specs.Varint.{varint, varint_in}
use Rattle.layout.proofs.Laws.Byte.{varint_in-last, varint_in-more, varint-whole}
use Rattle.layout.proofs.Laws.Splice.{sets-splice}
use Rattle.layout.proofs.Laws.Varint.{varint_in-few, varint-few}
use Rattle.buf_mut.proofs.Laws.{puts-short, puts-wrote}
use Rattle.utils.proofs.put_varint.Invariants.{Going}
use Rattle.utils.proofs.put_varint.Goals as goal

start : (buf : List ℕ) (at v n : ℕ) → v < 2 ^ 32 → n ≡ length (varint v) → n ≤ length buf - at
    → Going (sets buf at (varint v)) (at + length (varint v)) (length buf) buf v at
start buf at v n h e k = record {
  more = 4;
  small = omega arith;
  makes = ap (sets buf at) (sym (varint-whole v));
  ends = ap (λ (w : List ℕ). at + length w) (sym (varint-whole v));
  same = refl;
  fits = omega (arith, varint-few v);
}

turn : {done : List ℕ} {end size : ℕ} (buf : List ℕ) (rest i more : ℕ) → rest < 16 * 128 ^ more → sets buf i (varint_in more rest) ≡ done
    → i + length (varint_in more rest) ≡ end → length buf ≡ size → end ≤ size → 128 ≤ rest
    → Going done end size (set buf i (128 + rest % 128)) (rest / 128) (i + 1)
turn buf rest i zero small makes ends same fits h = absurd (omega arith)
turn buf rest i (suc more) small makes ends same fits h = record {
  more = more;
  small = omega (arith, pow-suc 128 more);
  makes = rw (add-one i) (rw (varint_in-more more rest h) at makes);
  ends = omega (arith, rw (varint_in-more more rest h) at ends);
  same = rw length-set same;
  fits = fits;
}

-- the next byte has a place
in_slice : {done : List ℕ} {end size : ℕ} {buf : List ℕ} {rest i : ℕ} → Going done end size buf rest i → i < length buf
in_slice {rest = rest} g = omega (arith, varint_in-few g.more rest)

pub returns-then-rest_from-varint_len : goal.returns-then-rest_from-varint_len
returns-then-rest_from-varint_len c = puts-short _ _ _ (omega (arith, c.varint_len.ensures.bytes))

pub loop-rest-init : goal.loop-rest-init
loop-rest-init c = start _ _ _ _ (omega arith) c.varint_len.ensures.bytes (omega arith)

pub bounds-buf-i : goal.bounds-buf-i
bounds-buf-i c = in_slice c.loop-rest.invariant

pub overflow_add-i : goal.overflow_add-i
overflow_add-i c = omega (arith, in_slice c.loop-rest.invariant)

pub loop-rest-preserved : goal.loop-rest-preserved
loop-rest-preserved c =
    let g = c.loop-rest.invariant in
    turn _ _ _ g.more g.small g.makes g.ends g.same g.fits c.loop-rest-test.true

pub bounds-buf-i-2 : goal.bounds-buf-i-2
bounds-buf-i-2 c = in_slice c.loop-rest.invariant

pub overflow_add-result : goal.overflow_add-result
overflow_add-result c = omega (arith, in_slice c.loop-rest.invariant)

pub shape_of-buf : goal.shape_of-buf
shape_of-buf c = simp length-set c.loop-rest.invariant.same

pub returns : goal.returns
returns c =
    let g = c.loop-rest.invariant in
    let a = c.args in
    let last = varint_in-last g.more c.loop-rest.rest c.loop-rest-test.false in
    let ends : c.loop-rest.i + 1 ≡ a.at + length (varint a.v) = rw last at g.ends in
    puts-wrote (record {
      is = (rw last at g.makes) ∙ sets-splice a.buf.now a.at (varint a.v) g.fits;
      next = ends;
      room = omega (arith, ends, g.fits);
    })

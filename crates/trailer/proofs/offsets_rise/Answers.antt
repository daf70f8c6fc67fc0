use Prim.Native.Nat.{ℕ, ◌+◌, ◌≤◌, ◌<◌, zero-le}
use mathlib.Core.Path.{◌≡◌, ap, sym, ◌∙◌}
use mathlib.Core.List.{List}
use native.Mathlib.Omega.{arith}
use Rattle.layout.specs.Res.{Res, refuse}
use Rattle.layout.specs.Trailer.{Trailer, short_at, offset_at, rising_from, all_offsets}
use Rattle.layout.specs.Laws.Trailer.{RisesFrom}
use Rattle.layout.proofs.Laws.Trailer.{rising-start, rising-over, rising-falls, rising-past, rising-next, offsets-first, offsets-rest}
use Rattle.trailer.proofs.offsets_rise.Goals as goal

module _ (b : List ℕ) (t : Trailer) (first : ℕ) (read : first ≡ short_at b t.size) where
  same : offset_at b t 0 ≡ first
  same = ap (short_at b) (omega arith) ∙ sym read

  not-zero : 0 < first → refuse 15 ≡ all_offsets b t
  not-zero h = offsets-first b t (rw same h)

  rest : {x : Res (Unit {0})} → first ≤ 0 → x ≡ rising_from t.count b t 0 0 → x ≡ all_offsets b t
  rest h = offsets-rest b t (rw same h)

  no_data : 1 ≤ t.count → t.size ≤ first → refuse 15 ≡ rising_from t.count b t 0 0
  no_data n k = rising-past b t 0 0 (rising-start b t) n zero-le (rw same k)

  start : 1 ≤ t.count → first < t.size → RisesFrom b t 1 (first + 1)
  start n k = rw same at (rising-next b t 0 0 (rising-start b t) n zero-le (rw same k))

-- the offset that a turn read is the definition's
module _ (b : List ℕ) (t : Trailer) (r previous offset : ℕ) (s : RisesFrom b t r (previous + 1)) (h : r < t.count) (read : offset ≡ offset_at b t r) where
  falls : offset ≤ previous → refuse 15 ≡ rising_from t.count b t 0 0
  falls k = rising-falls b t r (previous + 1) s h (omega (arith, read))

  beyond : previous < offset → t.size ≤ offset → refuse 15 ≡ rising_from t.count b t 0 0
  beyond k m = rising-past b t r (previous + 1) s h (omega (arith, read)) (omega (arith, read))

  turn : previous < offset → offset < t.size → RisesFrom b t (r + 1) (offset + 1)
  turn k m = rw read (rising-next b t r (previous + 1) s h (omega (arith, read)) (omega (arith, read)))

pub returns-then-first-gt0 : goal.returns-then-first-gt0
returns-then-first-gt0 c = not-zero _ _ _ c.short_at-first.ensures.0 c.if-first-gt0.true

pub returns-then-size-first : goal.returns-then-size-first
returns-then-size-first c =
    let e = c.short_at-first.ensures.0 in
    rest _ _ _ e c.if-first-gt0.false (no_data _ _ _ e c.requires.1 c.if-size-first.true)

pub loop-r-init : goal.loop-r-init
loop-r-init c =
    start _ _ _ c.short_at-first.ensures.0 c.requires.1 c.if-size-first.false

pub returns-then-offset-previous : goal.returns-then-offset-previous
returns-then-offset-previous c =
    rest _ _ _ c.short_at-first.ensures.0 c.if-first-gt0.false (falls _ _ _ _ _ c.loop-r.invariant c.loop-r-test.true c.short_at-offset.ensures.0 c.if-offset-previous.true)

pub returns-then-size-offset : goal.returns-then-size-offset
returns-then-size-offset c =
    rest _ _ _ c.short_at-first.ensures.0 c.if-first-gt0.false
    (beyond _ _ _ _ _ c.loop-r.invariant c.loop-r-test.true c.short_at-offset.ensures.0 c.if-offset-previous.false c.if-size-offset.true)

pub loop-r-preserved : goal.loop-r-preserved
loop-r-preserved c =
    turn _ _ _ _ _ c.loop-r.invariant c.loop-r-test.true c.short_at-offset.ensures.0 c.if-offset-previous.false c.if-size-offset.false

pub returns : goal.returns
returns c =
    rest _ _ _ c.short_at-first.ensures.0 c.if-first-gt0.false (rising-over _ _ _ _ c.loop-r.invariant c.loop-r-test.false)

-- `is_bad_state` keeps its promise: each test that fails breaks one fact of a good state (`state_bad`), whatever the order; where none fails, all of them hold.
-- Restarts that are counted right hold all rows, so these are few, and twelve times their number does not wrap.
use native.Mathlib.Omega.{arith}
use Rattle.layout.specs.Builder.{restarts_of}
use Rattle.layout.proofs.Laws.Builder.{state_bad}
use Rattle.finish_in_place_v2.proofs.Counts.{product_small, rows-held, miscounted_not, counted_is}
use Rattle.finish_in_place_v2.proofs.Ends.{stray_none, stray_some, state-passed}
use Rattle.finish_in_place_v2.proofs.is_bad_state.Goals as goal

pub returns-then-s-gt-MAX_BLOCK : goal.returns-then-s-gt-MAX_BLOCK
returns-then-s-gt-MAX_BLOCK c = λ last. state_bad _ _ _ (λ o. absurd (omega (arith, o.block)))

pub returns-then-s-eq0 : goal.returns-then-s-eq0
returns-then-s-eq0 c = λ last. state_bad _ _ _ (λ o. absurd (omega (arith, o.some)))

pub returns-then-s-gt-MAX_INTERVAL : goal.returns-then-s-gt-MAX_INTERVAL
returns-then-s-gt-MAX_INTERVAL c = λ last. state_bad _ _ _ (λ o. absurd (omega (arith, o.few)))

pub returns-then-data_len-s : goal.returns-then-data_len-s
returns-then-data_len-s c = λ last. state_bad _ _ _ (λ o. absurd (omega (arith, o.in_data)))

pub returns-then-places_len-s : goal.returns-then-places_len-s
returns-then-places_len-s c = λ last. state_bad _ _ _ (λ o. absurd (omega (arith, o.in_places)))

pub returns-then-s-gt-MAX_RESTARTS : goal.returns-then-s-gt-MAX_RESTARTS
returns-then-s-gt-MAX_RESTARTS c = λ last. state_bad _ _ _ (λ o. absurd (omega (arith, o.allowed)))

pub returns-then-is_miscounted : goal.returns-then-is_miscounted
returns-then-is_miscounted c = λ last. state_bad _ _ _ (λ o. miscounted_not _ _ c.is_miscounted.ensures c.if-is_miscounted.true o.counted)

pub overflow_mul-s : goal.overflow_mul-s
overflow_mul-s c =
    let s = c.args.s in
    let counted = counted_is s.restarts (restarts_of s.counter s.restart_interval) c.is_miscounted.ensures c.if-is_miscounted.false in
    omega (arith, rows-held s.counter s.restart_interval (omega (arith, c.if-s-eq0.false)) s.restarts counted, product_small c.if-s-gt-MAX_RESTARTS.false c.if-s-gt-MAX_INTERVAL.false)

pub returns-then-s : goal.returns-then-s
returns-then-s c = λ last. state_bad _ _ _ (λ o. absurd (omega (arith, o.least)))

pub returns-then-stray_bytes-gt0 : goal.returns-then-stray_bytes-gt0
returns-then-stray_bytes-gt0 c = λ last. state_bad _ _ _ (λ o. stray_some _ _ c.stray_bytes.ensures c.if-stray_bytes-gt0.true o.no_rows)

pub returns-then-s-gt-MAX_KEY : goal.returns-then-s-gt-MAX_KEY
returns-then-s-gt-MAX_KEY c = λ last. state_bad _ _ _ (λ o. absurd (omega (arith, o.last_fits)))

pub returns : goal.returns
returns c =
    λ last. state-passed _ _ _ c.if-s-gt-MAX_BLOCK.false c.if-s-eq0.false c.if-s-gt-MAX_INTERVAL.false c.if-data_len-s.false c.if-places_len-s.false c.if-s-gt-MAX_RESTARTS.false
    (counted_is _ _ c.is_miscounted.ensures c.if-is_miscounted.false) c.if-s.false (stray_none _ _ c.stray_bytes.ensures c.if-stray_bytes-gt0.false) c.if-s-gt-MAX_KEY.false

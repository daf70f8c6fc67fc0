-- `is_bad_state` keeps its promise: each test that fails breaks one fact of a good state (`state_bad`), whatever the order; where none fails, all of them hold.
-- The rows are few before they are multiplied, so no product wraps.
use native.Mathlib.Omega.{arith}
use Rattle.layout_v1.proofs.Laws.Builder.{state_bad}
use Rattle.finish_in_place_v1.proofs.Ends.{state-none, state-some}
use Rattle.finish_in_place_v1.proofs.is_bad_state.Goals as goal

pub returns-then-s-gt-MAX_BLOCK : goal.returns-then-s-gt-MAX_BLOCK
returns-then-s-gt-MAX_BLOCK c = λ first. state_bad _ _ _ (λ o. absurd (omega (arith, o.block)))

pub returns-then-data_len-s : goal.returns-then-data_len-s
returns-then-data_len-s c = λ first. state_bad _ _ _ (λ o. absurd (omega (arith, o.in_data)))

pub returns-then-places_len-s : goal.returns-then-places_len-s
returns-then-places_len-s c = λ first. state_bad _ _ _ (λ o. absurd (omega (arith, o.in_places)))

pub returns-then-s-gt-MAX_RESTARTS : goal.returns-then-s-gt-MAX_RESTARTS
returns-then-s-gt-MAX_RESTARTS c = λ first. state_bad _ _ _ (λ o. absurd (omega (arith, o.allowed)))

pub returns-then-s : goal.returns-then-s
returns-then-s c = λ first. state_bad _ _ _ (λ o. absurd (omega (arith, o.least)))

pub returns-then-s-gt-MAX_KEY : goal.returns-then-s-gt-MAX_KEY
returns-then-s-gt-MAX_KEY c = λ first. state_bad _ _ _ (λ o. absurd (omega (arith, o.first_fits)))

pub returns-then-s-eq0 : goal.returns-then-s-eq0
returns-then-s-eq0 c = λ first. state-none _ _ _ c.if-s-gt-MAX_BLOCK.false c.if-data_len-s.false c.if-places_len-s.false c.if-s-gt-MAX_RESTARTS.false c.if-s.false c.if-s-gt-MAX_KEY.false c.if-s-eq0.true

pub returns : goal.returns
returns c = λ first. state-some _ _ _ c.if-s-gt-MAX_BLOCK.false c.if-data_len-s.false c.if-places_len-s.false c.if-s-gt-MAX_RESTARTS.false c.if-s.false c.if-s-gt-MAX_KEY.false c.if-s-eq0.false

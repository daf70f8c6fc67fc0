-- `accept_row` keeps its promise: the fit question's refusals, then 5 and 6 in their order, or what was found of the row.
-- What `plan_row` found are the definition's share and size, for a value of this length whatever its bytes are; so the three tests after it are those of adding, and each exit is one
-- law of `Tests`.
use Rattle.row_flags.specs.Says.{fields_from}
use Rattle.state_v1.specs.Says.{view_from}
use Rattle.build_in_place_v1.proofs.Tests.{planning-handed, accept_no, accept_far, accept_short, accept_places, accept_good}
use Rattle.build_in_place_v1.proofs.accept_row.Goals as goal

pub returns-in_err-planned : goal.returns-in_err-planned
returns-in_err-planned c v long = planning-handed (view_from c.args.s c.args.first_key.now) c.args.key.now (fields_from c.args.row v) _ _ c.from_residual.ensures.1 (accept_no _ _ _ _ _ (c.in_err-planned.ensures v long))

pub returns-then-s-gt-MAX_OFFSET : goal.returns-then-s-gt-MAX_OFFSET
returns-then-s-gt-MAX_OFFSET c v long = accept_far _ _ _ _ _ (c.in_ok-planned.ensures v long) c.if-s-gt-MAX_OFFSET.true

pub returns-then-data_len-planned : goal.returns-then-data_len-planned
returns-then-data_len-planned c v long = accept_short _ _ _ _ _ (c.in_ok-planned.ensures v long) c.if-s-gt-MAX_OFFSET.false c.if-data_len-planned.true

pub returns-then-places_len-s : goal.returns-then-places_len-s
returns-then-places_len-s c v long = accept_places _ _ _ _ _ (c.in_ok-planned.ensures v long) c.if-s-gt-MAX_OFFSET.false c.if-data_len-planned.false c.if-places_len-s.true

pub returns : goal.returns
returns c v long = accept_good _ _ _ _ _ (c.in_ok-planned.ensures v long) c.if-s-gt-MAX_OFFSET.false c.if-data_len-planned.false c.if-places_len-s.false

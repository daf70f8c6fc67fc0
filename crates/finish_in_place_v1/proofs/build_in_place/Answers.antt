-- `build_in_place` keeps its promise, whatever the first key's bytes are: 18, 7, 6, or the block's length with the trailer after the rows.
-- The state is judged for any such bytes. `put_trailer` refuses where there is too little room, and that is the room of 6: what is used and the trailer make the present size.
use Rattle.finish_in_place_v2.proofs.Ends.{state-refused, state-taken}
use Rattle.finish_in_place_v1.proofs.Ends.{ends_bad, ends-none, ends-put}
use Rattle.finish_in_place_v1.proofs.build_in_place.Goals as goal

pub returns-then-is_bad_state : goal.returns-then-is_bad_state
returns-then-is_bad_state c = λ first. ends_bad _ _ _ first (state-refused _ (c.is_bad_state.ensures first) c.if-is_bad_state.true)

pub returns-then-s-eq0 : goal.returns-then-s-eq0
returns-then-s-eq0 c = λ first. ends-none _ _ _ first (state-taken _ (c.is_bad_state.ensures first) c.if-is_bad_state.false) c.if-s-eq0.true

pub returns : goal.returns
returns c = λ first. ends-put _ _ _ first (state-taken _ (c.is_bad_state.ensures first) c.if-is_bad_state.false) c.if-s-eq0.false _ c.put_trailer.ensures

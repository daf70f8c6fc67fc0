-- `held_against` answers how the key stands to the target in its order: each arm is what the match tells, descending the other way round.
use Rattle.block_keys_v1.specs.Laws.{stands_up, stands-down}
use Rattle.block_keys_v1.proofs.held_against.Goals as goal

pub returns-in-Ascending : goal.returns-in-Ascending
returns-in-Ascending c = stands_up _ _ c.in-Ascending.is c.match_of-m.ensures

pub returns-in-Descending : goal.returns-in-Descending
returns-in-Descending c = stands-down _ _ c.in-Descending.is c.match_of-m-in-Descending.ensures

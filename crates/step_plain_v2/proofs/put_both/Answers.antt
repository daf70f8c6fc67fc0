-- `put_both` keeps its promise: in each branch all bytes go to each buffer, of sixteen or fewer down to eight
-- to both at once; of none nothing is written.
use Rattle.step_plain_v2.proofs.Copies.{put-none}
use Rattle.step_plain_v2.proofs.put_both.Goals as goal

pub returns-then-n-eq0 : goal.returns-then-n-eq0
returns-then-n-eq0 c = (put-none c.args.key.now _ _ _ c.if-n-eq0.true, put-none c.args.out.now _ _ _ c.if-n-eq0.true)

-- `would_fit` keeps its promise: what the fit question answers of the builder.
-- Its array has as many bytes as the longest key, so `would_fit_in_place` refuses nothing for them; and the builder's numbers beside this array are the builder.
use borrow.Author.Rules.{rules}
use Rattle.block_v1.proofs.Writes.{fits}
use Rattle.block_v1.proofs.BlockBuilderV1.would_fit.Goals as goal

pub returns : goal.returns
returns c = fits _ _ _ _ _ (search rules) c.would_fit_in_place.ensures

-- `encoded_size` answers the size of a row with this share, or 1, 2, 3.
-- It is asked with the key's length less the share; the share is no longer than the key, so nothing wraps.
use Rattle.build_in_place_v1.proofs.encoded_size.Goals as goal

pub returns : goal.returns
returns c = c.encoded_size.ensures

-- `put_suffix` puts the suffix, where it stands in the data, over the key.
-- What it requires is room in the key; so the copy is made.
use Rattle.buf_mut.proofs.Laws.{copied-part}
use Rattle.step_in_place_v2.proofs.put_suffix.Goals as goal

pub returns : goal.returns
returns c =
    copied-part _ _ _ c.requires.0 c.requires.1 c.copy_in.ensures

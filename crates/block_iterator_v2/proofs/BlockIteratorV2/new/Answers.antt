-- `new` keeps its promise: the place is that of `open_place`, and the key's bytes are zeros in any case.
use mathlib.Core.Path.{refl}
use Rattle.block_iterator_v2.proofs.BlockIteratorV2.new.Goals as goal

pub returns : goal.returns
returns c =
    let m = c.open_place-opened.ensures in
    record { answer = m.answer; view = m.view _; bytes = refl }

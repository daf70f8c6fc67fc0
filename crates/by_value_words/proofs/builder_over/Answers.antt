-- `builder_over` makes a builder by value from a builder's numbers and the bytes of its last key, which lie over zeros.
-- The array after the copy is what `copy_in` promised, for any number of bytes: too many are not copied. The numbers are taken over one by one.
use mathlib.Core.Path.{ap}
use Rattle.block_v2.specs.Says.{builder_from}
use Rattle.by_value_words.proofs.builder_over.Goals as goal

pub returns : goal.returns
returns c =
    ap (builder_from c.args.s) c.copy_in.ensures.bytes

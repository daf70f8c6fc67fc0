-- `pass_plain` keeps its promise: the suffix is copied over the key, which has room, and the sum is that of the parts.
use Rattle.std.proofs.Common.{◌+◌, arith}
use Rattle.buf_mut.proofs.Laws.{copied-part}
use Rattle.region_rows_v2.specs.Region.{seq-read}
use Rattle.compare_walks.proofs.pass_plain.Goals as goal

pub returns : goal.returns
returns c =
    record {
      carried = copied-part c.args.data.now (c.args.at + 3) c.args.row.unshared (omega (arith, c.requires)) (omega (arith, c.requires)) c.copy_in.ensures;
      summed = rw (seq-read c.args.data.now c.args.at c.args.row c.requires.1 c.eight-seq.ensures) at c.with_parts.ensures;
    }

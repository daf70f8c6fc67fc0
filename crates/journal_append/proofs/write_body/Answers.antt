-- `write_body` writes card, retry number and amount one after another: three writes are one (`body-wrote`).
use Rattle.journal_append.proofs.Writes.{body-wrote}
use Rattle.journal_append.proofs.write_body.Goals as goal

pub returns : goal.returns
returns c =
    body-wrote c.args.buffer.now c.args.at c.args.card c.args.retry c.args.amount c.requires c.put_u64.ensures c.put_u64-2.ensures c.put_u32.ensures

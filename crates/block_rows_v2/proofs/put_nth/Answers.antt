-- `put_nth` writes the words of a row in their place: the part that is lent for them has as many, so it is all of them.
use Rattle.row_decode_v2.specs.Says.{row_from}
use Rattle.block_rows_v2.proofs.Laws.{put-words}
use Rattle.block_rows_v2.proofs.put_nth.Goals as goal

pub returns : goal.returns
returns c =
    put-words c.args.rows.now c.args.n c.args.region c.args.number (row_from c.args.row) c.put_row.new.words c.requires c.put_row.ensures

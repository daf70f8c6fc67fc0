-- `row_of` makes of a plain row's numbers the row that is read: its sequence number stands before its flags.
use Prim.Native.Nat.{ℕ, ◌+◌}
use mathlib.Core.Path.{ap}
use Rattle.layout.specs.Row.{Absent}
use Rattle.layout.specs.RowRead.{holds}
use Rattle.region_rows_v2.specs.Region.{seq-read}
use Rattle.block_rows_v2.proofs.row_of.Goals as goal

pub returns : goal.returns
returns c =
    ap
    (λ (q : ℕ). record { start = c.args.at; next = c.args.row.next; shared = c.args.row.shared; suffix_at = c.args.at + 3; suffix_len = c.args.row.unshared; held = holds (c.args.at + 3 + c.args.row.unshared) c.args.row.value_len; seq = q; expire = Absent; create = Absent })
    (seq-read c.args.data.now c.args.at c.args.row c.requires c.eight.ensures)

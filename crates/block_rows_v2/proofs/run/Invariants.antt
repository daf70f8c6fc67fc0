-- `run` keeps its promise: each turn gives a plain row of the region, so all rows given before are given, with one more, and the cursor goes on in the region until its end.
use Prim.Native.Nat.{ℕ, ◌-◌, ◌*◌, ◌≤◌}
use mathlib.Core.Path.{◌≡◌}
use mathlib.Core.List.{List}
use lib.ListN.{length}
use Rattle.layout.specs.Cursor.{Cursor}
use Rattle.layout.specs.Limits.{max_key}
use Rattle.trailer.specs.Says.{region_from}
use Rattle.place_v2.specs.Says.{view_in}
use Rattle.row_words.specs.Words.{row_count}
use Rattle.region_rows_v2.specs.Bounds.{Inside}
use Rattle.block_rows_v2.specs.Chain.{Gone}
use Rattle.block_rows_v2.proofs.run.Given as goal

abbrev pub invariant-loop-n : goal.invariant-loop-n
invariant-loop-n l =
    ((ks rs : List ℕ) (c₀ : Cursor) → Gone l.block ks rs c₀ (view_in l.initial.p l.initial.key) l.initial.keys l.initial.rows l.initial.used l.initial.n → Gone l.block ks rs c₀ (view_in l.p l.key) l.keys l.rows l.used l.n)
    × Inside l.block l.size (region_from l.g) (view_in l.p l.key) × (length l.key ≡ max_key) × (l.used ≤ length l.keys) × (length l.keys ≡ length l.initial.keys) × (length l.rows ≡ length l.initial.rows) × (l.initial.n ≤ l.n) × (l.n ≤ l.most) × (l.n ≡ l.initial.n → l.key ≡ l.initial.key)
    × (l.most * row_count ≤ length l.rows)

abbrev pub decreases-loop-n : goal.decreases-loop-n
decreases-loop-n l = l.most - l.n

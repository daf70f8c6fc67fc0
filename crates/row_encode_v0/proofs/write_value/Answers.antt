-- `write_value` writes the value after its length, and of a tombstone nothing. In each arm the kind is known, and with it the bytes: what `put_value` wrote, or none.
use Prim.Native.Nat.{ℕ}
use mathlib.Core.Path.{◌≡◌, ap, sym}
use mathlib.Core.List.{List}
use native.Mathlib.Omega.{arith}
use Rattle.layout.proofs.Laws.Splice.{wrote_as, wrote_none}
use Rattle.layout_v1.specs.Row.{value_bytes_of}
use Rattle.basics.specs.Says.{says_kind}
use Rattle.basics.specs.declared.Kind.{Kind}
use Rattle.row_encode_v0.proofs.write_value.Goals as goal

bytes_of : {k known : Kind} (v : List ℕ) → k ≡ known → value_bytes_of (says_kind known) v ≡ value_bytes_of (says_kind k) v
bytes_of v e = sym (ap (λ (k : Kind). value_bytes_of (says_kind k) v) e)

pub put_value-requires : goal.put_value-requires
put_value-requires c =
    (rw c.in-Value.is at c.requires.value_bound, rw c.in-Value.is at c.requires.value_in_bounds)

pub put_value-requires-in-Merge : goal.put_value-requires-in-Merge
put_value-requires-in-Merge c =
    (rw c.in-Merge.is at c.requires.value_bound, rw c.in-Merge.is at c.requires.value_in_bounds)

pub returns-in-Value : goal.returns-in-Value
returns-in-Value c = wrote_as (bytes_of _ c.in-Value.is) c.put_value.ensures

pub returns-in-Merge : goal.returns-in-Merge
returns-in-Merge c = wrote_as (bytes_of _ c.in-Merge.is) c.put_value-in-Merge.ensures

pub returns-in-Tombstone : goal.returns-in-Tombstone
returns-in-Tombstone c =
    wrote_as (bytes_of c.args.value.now c.in-Tombstone.is) (wrote_none _ _ (omega (arith, c.requires.value_in_bounds)))

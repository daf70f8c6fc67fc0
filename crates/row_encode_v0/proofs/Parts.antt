-- The three parts that a row is written in: its bytes are those before its flags, its flags and times, and its value, one after another (`row-parts`); so room for the row is room for each
-- part where the one before it ended.
use Prim.Native.Nat.{ℕ, ◌+◌, ◌≤◌}
use mathlib.Core.Path.{◌≡◌, ap}
use mathlib.Core.List.{List, ◌++◌}
use native.Mathlib.Omega.{arith}
use lib.ListN.{length}
use Rattle.layout.specs.Laws.Splice.{Wrote}
use Rattle.layout_v1.specs.Row.{value_bytes_of, row_bytes}
use Rattle.layout_v1.proofs.Laws.RowWrites.{row_bytes-parts}
use Rattle.basics.specs.Says.{says_kind}
use Rattle.buf_mut.proofs.Laws.{room-first, room_next}
use Rattle.row_flags.specs.Says.{fields_from, mark_bytes}
use Rattle.row_flags.specs.declared.RowFields.{RowFields}
use Rattle.row_encode_v0.specs.Parts.{key_bytes}

module _ (shared : ℕ) (suffix v : List ℕ) (row : RowFields) where
  abbrev key : List ℕ
  key = key_bytes shared suffix row.seq

  abbrev held : List ℕ
  held = value_bytes_of (says_kind row.kind) v

  pub row-parts : row_bytes shared suffix (fields_from row v) ≡ key ++ (mark_bytes row ++ held)
  row-parts = row_bytes-parts shared suffix (fields_from row v)

  row_room : {k : ℕ} → length (row_bytes shared suffix (fields_from row v)) ≤ k → 0 + length (key ++ (mark_bytes row ++ held)) ≤ k
  row_room h = omega (arith, ap length row-parts)

  pub key-room : {k : ℕ} → length (row_bytes shared suffix (fields_from row v)) ≤ k → 0 + length key ≤ k
  key-room h = room-first 0 key (mark_bytes row ++ held) (row_room h)

  module _ {xs ys : List ℕ} {a : ℕ} (h : length (row_bytes shared suffix (fields_from row v)) ≤ length xs) (p : Wrote xs 0 key ys a) where
    rest-room : a + length (mark_bytes row ++ held) ≤ length ys
    rest-room = room_next (mark_bytes row ++ held) p (row_room h)

    pub marks-room : a + length (mark_bytes row) ≤ length ys
    marks-room = room-first a (mark_bytes row) held rest-room

    pub value_room : {zs : List ℕ} {b : ℕ} → Wrote ys a (mark_bytes row) zs b → b + length held ≤ length zs
    value_room q = room_next held q rest-room

-- What the proofs cite: the three parts that a row is written in.
-- A row's bytes are its lengths, its body and its marks, one after another (`row-parts`); so room for the row is room for each part where the one before it ended.
use Prim.Native.Nat.{ℕ, ◌+◌, ◌≤◌}
use mathlib.Core.Path.{◌≡◌, refl, ap, ◌∙◌}
use mathlib.Core.List.{List, ◌++◌}
use native.Mathlib.Omega.{arith}
use lib.ListN.{length, take}
use lib.Seq.{take_all}
use Rattle.layout.specs.Row.{Kind, value, tombstone, merge, kept, kept_length, row_bytes}
use Rattle.layout.proofs.Laws.RowWrite.{row_bytes-parts}
use Rattle.layout.proofs.Laws.Row.{length-kept}
use Rattle.layout.specs.Laws.Splice.{Wrote}
use Rattle.basics.specs.Says.{says_kind}
use Rattle.buf_mut.proofs.Laws.{room-first, room_next}
use Rattle.row_flags.specs.Says.{fields_from, mark_bytes}
use Rattle.row_flags.specs.declared.RowFields.{RowFields}
use Rattle.row_encode_v2.specs.Parts.{length_bytes, body_bytes}

-- the bytes of the value that are kept
pub take-kept : (k : Kind) (v : List ℕ) → take (kept_length k (length v)) v ≡ kept k v
take-kept value v = take_all (length v) v (omega arith)
take-kept tombstone v = refl
take-kept merge v = take_all (length v) v (omega arith)

-- ---- the three parts, one after another

module _ (shared : ℕ) (suffix v : List ℕ) (row : RowFields) {n : ℕ} (is : n ≡ kept_length (says_kind row.kind) (length v)) where
  pub row-parts : row_bytes shared suffix (fields_from row v) ≡ length_bytes shared (length suffix) n ++ (body_bytes suffix (take n v) row.seq ++ mark_bytes row)
  row-parts = row_bytes-parts shared suffix (fields_from row v) ∙ rw (length-kept (says_kind row.kind) v, is, take-kept (says_kind row.kind) v)

  -- room for the row is room for its lengths, after them for its body, and after that for its marks
  row_room : {k : ℕ} → length (row_bytes shared suffix (fields_from row v)) ≤ k
      → 0 + length (length_bytes shared (length suffix) n ++ (body_bytes suffix (take n v) row.seq ++ mark_bytes row)) ≤ k
  row_room h = omega (arith, ap length row-parts)

  pub lengths-room : {k : ℕ} → length (row_bytes shared suffix (fields_from row v)) ≤ k → 0 + length (length_bytes shared (length suffix) n) ≤ k
  lengths-room h = room-first 0 (length_bytes shared (length suffix) n) (body_bytes suffix (take n v) row.seq ++ mark_bytes row) (row_room h)

  module _ {xs ys : List ℕ} {a : ℕ} (h : length (row_bytes shared suffix (fields_from row v)) ≤ length xs) (p : Wrote xs 0 (length_bytes shared (length suffix) n) ys a) where
    rest-room : a + length (body_bytes suffix (take n v) row.seq ++ mark_bytes row) ≤ length ys
    rest-room = room_next (body_bytes suffix (take n v) row.seq ++ mark_bytes row) p (row_room h)

    pub body-room : a + length (body_bytes suffix (take n v) row.seq) ≤ length ys
    body-room = room-first a (body_bytes suffix (take n v) row.seq) (mark_bytes row) rest-room

    pub marks-room : {zs : List ℕ} {b : ℕ} → Wrote ys a (body_bytes suffix (take n v) row.seq) zs b → b + length (mark_bytes row) ≤ length zs
    marks-room q = room_next (mark_bytes row) q rest-room

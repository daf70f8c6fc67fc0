-- What the contracts and the theorems say by the laws of `Row`: definitions.
use Rattle.std.specs.Prelude.{ℕ, ◌+◌, ◌^◌, ◌<◌, ◌≤◌, List}
use Rattle.std.proofs.Math.ListN.{length}
use Rattle.layout.specs.Limits.{max_key, max_value}
use Rattle.layout.specs.Varint.{varint}
use Rattle.layout.specs.Row.{Fields, value_of, present, row_bytes, TimeOk}
use Rattle.layout.specs.RowRead.{Lengths, lengths_is, value_at, seq_at, flags_is, held_as, Body, body_is, times_is, RowRead, row_is}

-- the numbers of a row fit their types, and its value its limit
pub record FieldsOk (f : Fields) : Type 0 where
  pub value-fits : length (value_of f) ≤ max_value
  pub seq-fits : f.seq < 2 ^ 64
  pub expire-fits : TimeOk f.expire
  pub create-fits : TimeOk f.create

-- a share and a suffix that make an allowed key
pub record KeyOk (shared suffix_len : ℕ) : Type 0 where
  pub some : 1 ≤ shared + suffix_len
  pub fits : shared + suffix_len ≤ max_key

abbrev pub body_start : ℕ → ℕ → List ℕ → Fields → ℕ
body_start at shared suffix f = at + length (varint shared) + length (varint (length suffix)) + length (varint (length (value_of f)))

abbrev pub lengths_of : ℕ → ℕ → List ℕ → Fields → Lengths
lengths_of at shared suffix f = lengths_is shared (length suffix) (length (value_of f)) (body_start at shared suffix f)

abbrev pub body_of : ℕ → ℕ → List ℕ → Fields → Body
body_of at shared suffix f =
    body_is (held_as f.kind (value_at (lengths_of at shared suffix f)) (length (value_of f))) f.seq (flags_is f.kind (present f.expire) (present f.create))
    (seq_at (lengths_of at shared suffix f) + 9)

abbrev pub places_of : ℕ → ℕ → List ℕ → Fields → RowRead
places_of at shared suffix f =
    row_is at (lengths_of at shared suffix f) (body_of at shared suffix f) (times_is f.expire f.create (at + length (row_bytes shared suffix f)))

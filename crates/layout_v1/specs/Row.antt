-- A row of the earlier format, as it is written: its bytes, its size from lengths alone, and the tests before one row is encoded. Kinds, times, flags and limits are those of the later
-- format; the key before is the block's first key.
use Rattle.std.specs.Prelude.{ℕ, ◌+◌, ◌≡◌, Bool, [], ◌∷◌, ◌++◌, ltb, length}
use Rattle.layout.specs.Bytes.{Bytes}
use Rattle.layout.specs.Res.{Res, ok, bind, ◌when◌else◌}
use Rattle.layout.specs.Fixed.{big}
use Rattle.layout.specs.Row.{Kind, value, tombstone, merge, Fields, kept_length, value_of, if_so, present, flags_of, time_bytes, length_tests, plain}

-- no row takes fewer bytes: two lengths, seq and flags
abbrev pub least_row : ℕ
least_row = 13

-- value length and value; a tombstone has neither
abbrev pub value_bytes_of : Kind → Bytes → Bytes
value_bytes_of value v = big 4 (length v) ++ v
value_bytes_of tombstone v = []
value_bytes_of merge v = big 4 (length v) ++ v

abbrev pub value_size : Kind → ℕ → ℕ
value_size value n = 4 + n
value_size tombstone n = 0
value_size merge n = 4 + n

-- shared, unshared; suffix, seq, flags; expire time, create time; value length, value
unfoldable pub row_bytes : ℕ → Bytes → Fields → Bytes
row_bytes shared suffix f =
    big 2 shared ++ (big 2 (length suffix) ++ (suffix ++ (big 8 f.seq ++
    (flags_of f.kind (present f.expire) (present f.create) ∷ (time_bytes f.expire ++ (time_bytes f.create ++ value_bytes_of f.kind f.val))))))

-- 4, suffix, 9, 8 for each time, and 4 and the value unless it is a tombstone
unfoldable pub row_size : ℕ → Kind → ℕ → Bool → Bool → ℕ
row_size suffix_len kind offered expire create = 4 + suffix_len + 9 + if_so expire 8 + if_so create 8 + value_size kind offered

-- ---- one row alone

-- its size alone: 1, 2, 3
unfoldable pub size_alone : ℕ → ℕ → Kind → ℕ → Bool → Bool → Res ℕ
size_alone shared suffix_len kind offered expire create =
    bind (length_tests (shared + suffix_len) (kept_length kind offered)) λ _.
    ok (row_size suffix_len kind offered expire create)

-- its bytes after a first key of `first_len` bytes, into a buffer of `room` bytes: 13, 1, 2, 3, 6
unfoldable pub encode_row : ℕ → ℕ → Bytes → Fields → ℕ → Res Bytes
encode_row first_len shared suffix f room =
    13 when ltb first_len shared else
    bind (length_tests (shared + length suffix) (length (value_of f))) λ _.
    6 when ltb room (length (row_bytes shared suffix f)) else
    ok (row_bytes shared suffix f)

-- ---- what is said of rows

-- two rows after one first key, each by its share, its suffix and its fields, are one, and so are the bytes t₁ and t₂ that follow them
pub record SameRow (s₁ : ℕ) (x₁ : Bytes) (f₁ : Fields) (t₁ : Bytes) (s₂ : ℕ) (x₂ : Bytes) (f₂ : Fields) (t₂ : Bytes) : Type 0 where
  pub shares : s₁ ≡ s₂
  pub suffixes : x₁ ≡ x₂
  pub fields : plain f₁ ≡ plain f₂
  pub bytes : row_bytes s₁ x₁ f₁ ≡ row_bytes s₂ x₂ f₂
  pub tails : t₁ ≡ t₂

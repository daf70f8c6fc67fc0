-- "A row on the wire", as it is written: its bytes, its size from lengths alone, and the tests before one row is encoded.
use Rattle.std.specs.Prelude.{ℕ, ◌+◌, ◌^◌, ◌<◌, ◌≡◌, Bool, true, false, [], ◌∷◌, ◌++◌, ltb, eqb, ℤ, length, take}
use Rattle.std.specs.Int.Signed.{mag}
use Rattle.layout.specs.Bytes.{Bytes}
use Rattle.layout.specs.Res.{Res, ok, refuse, bind, ◌when◌else◌}
use Rattle.layout.specs.Limits.{max_key, max_value}
use Rattle.layout.specs.Varint.{varint, varint_length}
use Rattle.layout.specs.Fixed.{big, bits}
use Rattle.layout.specs.Place.{splice}
use Rattle.layout.specs.Key.{Key}

pub data Kind : Type 0 where
  value tombstone merge : Kind

pub data Time : Type 0 where
  Absent : Time
  At : ℤ → Time

-- what a row holds beside its key
pub record Fields : Type 0 where
  pub kind : Kind
  pub val : Bytes
  pub seq : ℕ
  pub expire : Time
  pub create : Time

pub record Row : Type 0 where
  pub key : Key
  pub fields : Fields

-- a tombstone's value is empty: offered bytes are ignored
abbrev pub kept : Kind → Bytes → Bytes
kept value v = v
kept tombstone v = []
kept merge v = v

abbrev pub kept_length : Kind → ℕ → ℕ
kept_length value n = n
kept_length tombstone n = 0
kept_length merge n = n

abbrev pub value_of : Fields → Bytes
value_of f = kept f.kind f.val

-- ---- flags

abbrev pub tombstone_bit : ℕ
tombstone_bit = 1

abbrev pub expire_bit : ℕ
expire_bit = 2

abbrev pub create_bit : ℕ
create_bit = 4

abbrev pub merge_bit : ℕ
merge_bit = 8

abbrev pub kind_bits : Kind → ℕ
kind_bits value = 0
kind_bits tombstone = tombstone_bit
kind_bits merge = merge_bit

-- n if the test holds, else 0
abbrev pub if_so : Bool → ℕ → ℕ
if_so true n = n
if_so false n = 0

abbrev pub present : Time → Bool
present Absent = false
present (At t) = true

abbrev pub flags_of : Kind → Bool → Bool → ℕ
flags_of k expire create = kind_bits k + if_so expire expire_bit + if_so create create_bit

-- ---- bytes

unfoldable pub time_bytes : Time → Bytes
time_bytes Absent = []
time_bytes (At t) = big 8 (bits t)

-- shared, unshared, value length; suffix, value, seq, flags; expire time, create time
unfoldable pub row_bytes : ℕ → Bytes → Fields → Bytes
row_bytes shared suffix f =
    varint shared ++ (varint (length suffix) ++ (varint (length (value_of f)) ++ (suffix ++ (value_of f ++
    (big 8 f.seq ++ (flags_of f.kind (present f.expire) (present f.create) ∷ (time_bytes f.expire ++ time_bytes f.create)))))))

-- the three varint lengths, suffix, value, 9, and 8 for each time
unfoldable pub row_size : ℕ → ℕ → ℕ → Bool → Bool → ℕ
row_size shared suffix_len value_len expire create =
    varint_length shared + varint_length suffix_len + varint_length value_len + suffix_len + value_len + 9 + if_so expire 8 + if_so create 8

-- ---- one row alone

unfoldable pub key_length_tests : ℕ → Res (Unit {0})
key_length_tests n = 1 when eqb n 0 else 2 when ltb max_key n else ok tt

unfoldable pub length_tests : ℕ → ℕ → Res (Unit {0})
length_tests key_len value_len = bind (key_length_tests key_len) λ _. 3 when ltb max_value value_len else ok tt

-- its size alone: 1, 2, 3
unfoldable pub size_alone : ℕ → ℕ → Kind → ℕ → Bool → Bool → Res ℕ
size_alone shared suffix_len kind offered expire create =
    bind (length_tests (shared + suffix_len) (kept_length kind offered)) λ _.
    ok (row_size shared suffix_len (kept_length kind offered) expire create)

-- its bytes after a key of `prev_len` bytes, into a buffer of `room` bytes: 13, 1, 2, 3, 6
unfoldable pub encode_row : ℕ → ℕ → Bytes → Fields → ℕ → Res Bytes
encode_row prev_len shared suffix f room =
    13 when ltb prev_len shared else
    bind (length_tests (shared + length suffix) (length (value_of f))) λ _.
    6 when ltb room (length (row_bytes shared suffix f)) else
    ok (row_bytes shared suffix f)

-- a buffer after bytes were answered at its start, or refused: then it is as it was
abbrev pub written : Res Bytes → Bytes → Bytes
written (ok w) buf = splice buf 0 w
written (refuse n) buf = buf

-- the full key is the first `shared` bytes of the previous key, then the suffix: 13, 1, 2, and 19 for a buffer of `room` bytes
unfoldable pub restore_key : Key → ℕ → Bytes → ℕ → Res Key
restore_key prev shared suffix room =
    13 when ltb (length prev) shared else
    bind (key_length_tests (shared + length suffix)) λ _.
    19 when ltb room (shared + length suffix) else
    ok (take shared prev ++ suffix)

-- ---- what is said of rows

-- a row as it is read back: a tombstone's value is empty
abbrev pub plain : Fields → Fields
plain f = record { kind = f.kind; val = value_of f; seq = f.seq; expire = f.expire; create = f.create }

abbrev pub plain_row : Row → Row
plain_row r = record { key = r.key; fields = plain r.fields }

-- numbers are offered in their types: 64 bits, signed for times
abbrev pub TimeOk : Time → Type 0
TimeOk Absent = Unit {0}
TimeOk (At t) = mag t < 2 ^ 63

pub record Typed (f : Fields) : Type 0 where
  pub seq-fits : f.seq < 2 ^ 64
  pub expire-fits : TimeOk f.expire
  pub create-fits : TimeOk f.create

-- two rows after one previous key, each by its share, its suffix and its fields, are one, and so are the bytes t₁ and t₂ that follow them
pub record SameRow (s₁ : ℕ) (x₁ : Bytes) (f₁ : Fields) (t₁ : Bytes) (s₂ : ℕ) (x₂ : Bytes) (f₂ : Fields) (t₂ : Bytes) : Type 0 where
  pub shares : s₁ ≡ s₂
  pub suffixes : x₁ ≡ x₂
  pub fields : plain f₁ ≡ plain f₂
  pub bytes : row_bytes s₁ x₁ f₁ ≡ row_bytes s₂ x₂ f₂
  pub tails : t₁ ≡ t₂

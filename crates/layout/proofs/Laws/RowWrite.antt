-- A row as code writes it: its bytes part by part, its size as a sum, and the exits of its encoding by the answer of `size_alone`, which code
-- asks before it writes.
use Rattle.std.specs.Prelude.{ℕ, ◌+◌, ◌<◌, ◌≤◌, ◌≡◌, refl, Bool, List, [], ◌∷◌, ◌++◌, ltb, ℤ, length}
use Rattle.std.proofs.Math.Path.{sym}
use Rattle.std.proofs.Common.{◌∙◌, append_assoc, arith}
use borrow.Author.Tests.{ltb-false}
use Rattle.layout.specs.Res.{Res, ok, refuse, bind}
use Rattle.layout.specs.Limits.{max_value}
use Rattle.layout.specs.Varint.{varint, varint_length}
use Rattle.layout.specs.Fixed.{big, bits}
use Rattle.layout.specs.Row.{Kind, Absent, At, Fields, kept_length, value_of, if_so, present, flags_of, time_bytes, row_bytes, row_size, key_length_tests, length_tests, size_alone, encode_row}
use Rattle.layout.proofs.Laws.Res.{bind-then, guard-then, ok-inj}
use Rattle.layout.proofs.Laws.Row.{length-kept, row_bytes-size}
use Rattle.layout.proofs.Laws.RowExits.{encode-no, encode-short, encode-is}
use Rattle.layout.proofs.Laws.Tells.{key_length_tests-tells}
use Rattle.layout.specs.Laws.RowWrite.{Tested}

-- ---- bytes

pub time_absent : time_bytes Absent ≡ []
unfolding time_bytes
time_absent = refl

pub time-present : (t : ℤ) → time_bytes (At t) ≡ big 8 (bits t)
unfolding time_bytes
time-present t = refl

-- the three lengths; suffix, value, sequence number; flags and times
pub row_bytes-parts : (shared : ℕ) (suffix : List ℕ) (f : Fields)
    → row_bytes shared suffix f
    ≡ (varint shared ++ (varint (length suffix) ++ varint (length (value_of f)))) ++ ((suffix ++ (value_of f ++ big 8 f.seq))
    ++ (flags_of f.kind (present f.expire) (present f.create) ∷ (time_bytes f.expire ++ time_bytes f.create)))
unfolding row_bytes
row_bytes-parts shared suffix f = simp append_assoc

-- ---- size

pub row_size-sum : (shared suffix_len value_len : ℕ) (e c : Bool)
    → varint_length shared + varint_length suffix_len + varint_length value_len + suffix_len + value_len + 9 + if_so e 8 + if_so c 8 ≡ row_size shared suffix_len value_len e c
unfolding row_size
row_size-sum shared suffix_len value_len e c = refl

module _ (key_len value_len answer : ℕ) where
  pub tests-refused : {n : ℕ} → bind (length_tests key_len value_len) (λ _. ok answer) ≡ refuse n → length_tests key_len value_len ≡ refuse n
  tests-refused {n} q = go (length_tests key_len value_len) q
    where
      go : (x : Res (Unit {0})) → bind x (λ _. ok answer) ≡ refuse n → x ≡ refuse n
      go (ok u) r = absurd (let z : ◌≡◌ {A = ℕ} 0 1 = cc in omega arith)
      go (refuse m) r = cc

  pub tests-tell : {n : ℕ} → bind (length_tests key_len value_len) (λ _. ok answer) ≡ ok n → Tested key_len value_len answer n
  unfolding length_tests
  tests-tell {n} q =
      bind-then (length_tests key_len value_len) _ n q λ u t r.
      bind-then (key_length_tests key_len) _ u t λ u₂ t₂ r₂.
      guard-then (ltb max_value value_len) 3 _ u r₂ λ t₃ r₃.
      record { tested = t; key-small = (key_length_tests-tells key_len u₂ t₂).1; value-small = ltb-false max_value value_len t₃; size = sym (ok-inj r) }

abbrev pub SizeTells : ℕ → ℕ → ℕ → Bool → Bool → ℕ → Type 0
SizeTells shared suffix_len value_len e c n = Tested (shared + suffix_len) value_len (row_size shared suffix_len value_len e c) n

module _ (shared suffix_len : ℕ) (k : Kind) (offered : ℕ) (e c : Bool) where
  pub size-refused : {n : ℕ} → size_alone shared suffix_len k offered e c ≡ refuse n → length_tests (shared + suffix_len) (kept_length k offered) ≡ refuse n
  unfolding size_alone
  size-refused q = tests-refused _ _ _ q

  pub size-tells : {n : ℕ} → size_alone shared suffix_len k offered e c ≡ ok n → SizeTells shared suffix_len (kept_length k offered) e c n
  unfolding size_alone
  size-tells q = tests-tell _ _ _ q

-- ---- one row's encoding, by its size

abbrev pub size_of : ℕ → List ℕ → Fields → Res ℕ
size_of shared suffix f = size_alone shared (length suffix) f.kind (length f.val) (present f.expire) (present f.create)

module _ (shared : ℕ) (suffix : List ℕ) (f : Fields) where
  sized : {n : ℕ} → size_of shared suffix f ≡ ok n → SizeTells shared (length suffix) (length (value_of f)) (present f.expire) (present f.create) n
  sized q = rw (length-kept f.kind f.val) (size-tells _ _ _ _ _ _ q)

  -- the size is the count of bytes
  pub size-bytes : {n : ℕ} → size_of shared suffix f ≡ ok n → n ≡ length (row_bytes shared suffix f)
  size-bytes q =
      let s = sized q in
      s.size ∙ sym (row_bytes-size shared suffix f (omega (arith, s.key-small)) (omega (arith, s.key-small)) (omega (arith, s.value-small)))

  module _ (prev_len room : ℕ) (h : shared ≤ prev_len) where
    pub encode_unsized : {n : ℕ} → size_of shared suffix f ≡ refuse n → encode_row prev_len shared suffix f room ≡ refuse n
    encode_unsized q = encode-no prev_len shared suffix f room h (rw (length-kept f.kind f.val) (size-refused _ _ _ _ _ _ q))

    pub encode-over : {n : ℕ} → size_of shared suffix f ≡ ok n → room < n → encode_row prev_len shared suffix f room ≡ refuse 6
    encode-over q k = encode-short prev_len shared suffix f room h (sized q).tested (omega (arith, size-bytes q))

    pub encode-sized : {n : ℕ} → size_of shared suffix f ≡ ok n → n ≤ room → encode_row prev_len shared suffix f room ≡ ok (row_bytes shared suffix f)
    encode-sized q k = encode-is prev_len shared suffix f room h (sized q).tested (omega (arith, size-bytes q))

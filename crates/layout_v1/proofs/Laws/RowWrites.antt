-- A row of the earlier format as code writes it: its bytes part by part, and the exits of its encoding by the answer of `size_alone`, which code asks
-- before it writes. The lengths are tested as in the later format.
use Rattle.std.specs.Prelude.{ℕ, ◌+◌, ◌<◌, ◌≤◌, ◌≡◌, refl, Bool, List, ◌∷◌, ◌++◌, length}
use Rattle.std.proofs.Common.{append_assoc, arith}
use borrow.Author.Tests.{lt-ltb, le-ltb}
use Rattle.layout.specs.Res.{Res, ok, refuse}
use Rattle.layout.specs.Fixed.{big}
use Rattle.layout.specs.Row.{Kind, Fields, kept_length, value_of, if_so, present, flags_of, time_bytes, length_tests}
use Rattle.layout.proofs.Laws.Res.{handed}
use Rattle.layout.proofs.Laws.Row.{length-kept}
use Rattle.layout.specs.Laws.RowWrite.{Tested}
use Rattle.layout.proofs.Laws.RowWrite.{tests-refused, tests-tell}
use Rattle.layout_v1.specs.Row.{value_bytes_of, value_size, row_bytes, row_size, size_alone, encode_row}
use Rattle.layout_v1.proofs.Laws.Codec.{length-row_bytes}

-- ---- bytes

-- share, suffix and sequence number; flags and times; value
pub row_bytes-parts : (shared : ℕ) (suffix : List ℕ) (f : Fields)
    → row_bytes shared suffix f
    ≡ (big 2 shared ++ (big 2 (length suffix) ++ (suffix ++ big 8 f.seq)))
    ++ ((flags_of f.kind (present f.expire) (present f.create) ∷ (time_bytes f.expire ++ time_bytes f.create)) ++ value_bytes_of f.kind f.val)
unfolding row_bytes
row_bytes-parts shared suffix f = simp append_assoc

-- ---- size

pub row_size-sum : (suffix_len : ℕ) (k : Kind) (offered : ℕ) (e c : Bool) → 4 + suffix_len + 9 + if_so e 8 + if_so c 8 + value_size k offered ≡ row_size suffix_len k offered e c
unfolding row_size
row_size-sum suffix_len k offered e c = refl

module _ (shared suffix_len : ℕ) (k : Kind) (offered : ℕ) (e c : Bool) where
  pub size-no : {n : ℕ} → length_tests (shared + suffix_len) (kept_length k offered) ≡ refuse n → refuse n ≡ size_alone shared suffix_len k offered e c
  unfolding size_alone
  size-no p = handed _ p

  pub size_is : length_tests (shared + suffix_len) (kept_length k offered) ≡ ok tt → ok (row_size suffix_len k offered e c) ≡ size_alone shared suffix_len k offered e c
  unfolding size_alone
  size_is p = rw p

  pub size-refused : {n : ℕ} → size_alone shared suffix_len k offered e c ≡ refuse n → length_tests (shared + suffix_len) (kept_length k offered) ≡ refuse n
  unfolding size_alone
  size-refused q = tests-refused _ _ _ q

  pub size-tells : {n : ℕ} → size_alone shared suffix_len k offered e c ≡ ok n → Tested (shared + suffix_len) (kept_length k offered) (row_size suffix_len k offered e c) n
  unfolding size_alone
  size-tells q = tests-tell _ _ _ q

-- ---- one row's encoding, by its size

abbrev pub size_of : ℕ → List ℕ → Fields → Res ℕ
size_of shared suffix f = size_alone shared (length suffix) f.kind (length f.val) (present f.expire) (present f.create)

module _ (shared : ℕ) (suffix : List ℕ) (f : Fields) where
  sized : {n : ℕ} → size_of shared suffix f ≡ ok n → Tested (shared + length suffix) (length (value_of f)) (length (row_bytes shared suffix f)) n
  sized q = rw (length-kept f.kind f.val, length-row_bytes shared suffix f) (size-tells _ _ _ _ _ _ q)

  -- the size is the count of bytes
  pub size-bytes : {n : ℕ} → size_of shared suffix f ≡ ok n → n ≡ length (row_bytes shared suffix f)
  size-bytes q = (sized q).size

  module _ (first_len room : ℕ) where
    pub encode-share : first_len < shared → encode_row first_len shared suffix f room ≡ refuse 13
    unfolding encode_row
    encode-share h = rw (lt-ltb first_len shared h)

    module _ (h : shared ≤ first_len) where
      pub encode_unsized : {n : ℕ} → size_of shared suffix f ≡ refuse n → encode_row first_len shared suffix f room ≡ refuse n
      unfolding encode_row
      encode_unsized q = rw (le-ltb first_len shared h, length-kept f.kind f.val, size-refused _ _ _ _ _ _ q)

      pub encode-over : {n : ℕ} → size_of shared suffix f ≡ ok n → room < n → encode_row first_len shared suffix f room ≡ refuse 6
      unfolding encode_row
      encode-over q k = rw (le-ltb first_len shared h, (sized q).tested, lt-ltb room (length (row_bytes shared suffix f)) (omega (arith, size-bytes q)))

      pub encode-sized : {n : ℕ} → size_of shared suffix f ≡ ok n → n ≤ room → encode_row first_len shared suffix f room ≡ ok (row_bytes shared suffix f)
      unfolding encode_row
      encode-sized q k = rw (le-ltb first_len shared h, (sized q).tested, le-ltb room (length (row_bytes shared suffix f)) (omega (arith, size-bytes q)))

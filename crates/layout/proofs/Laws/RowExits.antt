-- Each way through a row's read and through its encoding, by what was met on it: one law for each exit of the code. Answer on the left, as a
-- contract asks it.
use Rattle.std.specs.Prelude.{ℕ, ◌+◌, ◌<◌, ◌≤◌, ◌≡◌, Bool, true, false, List, ◌++◌, take, get_or}
use Rattle.std.proofs.Math.Path.{refl}
use Rattle.std.proofs.Common.{arith}
use Rattle.std.proofs.Math.ListN.{length}
use borrow.Author.Tests.{lt-ltb, le-ltb, eq-eqb, ne_eqb}
use Rattle.layout.specs.Res.{ok, refuse}
use Rattle.layout.specs.Limits.{max_key, max_value}
use Rattle.layout.specs.Place.{NumAt, varint_at, fixed_at, SignedAt, signed_at}
use Rattle.layout.specs.Key.{Key}
use Rattle.layout.specs.Row.{Kind, Absent, At, Fields, kept_length, value_of, row_bytes, row_size, key_length_tests, length_tests, size_alone, encode_row, restore_key}
use Rattle.layout.specs.RowRead.{Lengths, lengths_is, value_at, seq_at, lengths_at, may_share, head_tests, head_at, Flags, flags_at, held_as, Body, body_is, body_tests, body_at, TimeAt, time_is, time_at, Times, times_is, times_at, row_is, row_at, read_row, key_is, read_key}

module _ (d : List ℕ) (at : ℕ) where
  pub lengths-one : {n : ℕ} → varint_at d at ≡ refuse n → refuse n ≡ lengths_at d at
  unfolding lengths_at
  lengths-one e = rw e

  pub lengths-two : {a : NumAt} {n : ℕ} → varint_at d at ≡ ok a → varint_at d a.next ≡ refuse n → refuse n ≡ lengths_at d at
  unfolding lengths_at
  lengths-two e₁ e₂ = rw (e₁, e₂)

  pub lengths-three : {a b : NumAt} {n : ℕ} → varint_at d at ≡ ok a → varint_at d a.next ≡ ok b → varint_at d b.next ≡ refuse n → refuse n ≡ lengths_at d at
  unfolding lengths_at
  lengths-three e₁ e₂ e₃ = rw (e₁, e₂, e₃)

  pub lengths-good : {a b c : NumAt} → varint_at d at ≡ ok a → varint_at d a.next ≡ ok b → varint_at d b.next ≡ ok c
      → ok (lengths_is a.val b.val c.val c.next) ≡ lengths_at d at
  unfolding lengths_at
  lengths-good e₁ e₂ e₃ = rw (e₁, e₂, e₃)

module _ (d : List ℕ) (at p : ℕ) (restart : Bool) where
  pub head-no : {n : ℕ} → lengths_at d at ≡ refuse n → refuse n ≡ head_at d at p restart
  unfolding head_at
  head-no e = rw e

  pub head-share : {l : Lengths} → lengths_at d at ≡ ok l → may_share restart p < l.shared → refuse 13 ≡ head_at d at p restart
  unfolding head_at head_tests key_length_tests
  head-share {l} e h = rw (e, lt-ltb (may_share restart p) l.shared h)

  pub head-empty : {l : Lengths} → lengths_at d at ≡ ok l → l.shared ≤ may_share restart p → l.shared + l.unshared ≡ 0 → refuse 1 ≡ head_at d at p restart
  unfolding head_at head_tests key_length_tests
  head-empty {l} e h k = rw (e, le-ltb (may_share restart p) l.shared h, eq-eqb (l.shared + l.unshared) 0 k)

  pub head-long : {l : Lengths} → lengths_at d at ≡ ok l → l.shared ≤ may_share restart p → max_key < l.shared + l.unshared → refuse 2 ≡ head_at d at p restart
  unfolding head_at head_tests key_length_tests
  head-long {l} e h k = rw (e, le-ltb (may_share restart p) l.shared h, ne_eqb (l.shared + l.unshared) 0 (omega arith), lt-ltb max_key (l.shared + l.unshared) k)

  pub head-good : {l : Lengths} → lengths_at d at ≡ ok l → l.shared ≤ may_share restart p → (l.shared + l.unshared ≡ 0 → ⊥) → l.shared + l.unshared ≤ max_key → ok l ≡ head_at d at p restart
  unfolding head_at head_tests key_length_tests
  head-good {l} e h k m = rw (e, le-ltb (may_share restart p) l.shared h, ne_eqb (l.shared + l.unshared) 0 k, le-ltb max_key (l.shared + l.unshared) m)

pub flags_at-both : (flags_at 9 ≡ refuse 12) × (flags_at 11 ≡ refuse 12) × (flags_at 13 ≡ refuse 12) × (flags_at 15 ≡ refuse 12)
unfolding flags_at
flags_at-both = (refl, refl, refl, refl)

pub flags_at_unknown : (f : ℕ) → 16 ≤ f → flags_at f ≡ refuse 11
unfolding flags_at
flags_at_unknown f h = rw (lt-ltb 15 f h)

module _ (d : List ℕ) (l : Lengths) where
  pub body-long : max_value < l.value_len → refuse 3 ≡ body_at d l
  unfolding body_at body_tests
  body-long h = rw (lt-ltb max_value l.value_len h)

  pub body-short : l.value_len ≤ max_value → length d < seq_at l + 9 → refuse 9 ≡ body_at d l
  unfolding body_at body_tests
  body-short h k = rw (le-ltb max_value l.value_len h, lt-ltb (length d) (seq_at l + 9) k)

  pub body-word : {n : ℕ} → l.value_len ≤ max_value → seq_at l + 9 ≤ length d → fixed_at 8 d (seq_at l) ≡ refuse n → refuse n ≡ body_at d l
  unfolding body_at body_tests
  body-word h k e = rw (le-ltb max_value l.value_len h, le-ltb (length d) (seq_at l + 9) k, e)

  pub body-flags : {q : NumAt} {n : ℕ} → l.value_len ≤ max_value → seq_at l + 9 ≤ length d → fixed_at 8 d (seq_at l) ≡ ok q → flags_at (get_or d q.next 0) ≡ refuse n → refuse n ≡ body_at d l
  unfolding body_at body_tests
  body-flags h k e₁ e₂ = rw (le-ltb max_value l.value_len h, le-ltb (length d) (seq_at l + 9) k, e₁, e₂)

  pub body-good : {q : NumAt} {f : Flags} → l.value_len ≤ max_value → seq_at l + 9 ≤ length d → fixed_at 8 d (seq_at l) ≡ ok q → flags_at (get_or d q.next 0) ≡ ok f
      → ok (body_is (held_as f.kind (value_at l) l.value_len) q.val f (seq_at l + 9)) ≡ body_at d l
  unfolding body_at body_tests
  body-good h k e₁ e₂ = rw (le-ltb max_value l.value_len h, le-ltb (length d) (seq_at l + 9) k, e₁, e₂)

module _ (d : List ℕ) (at : ℕ) where
  pub time-short : {n : ℕ} → signed_at d at ≡ refuse n → refuse n ≡ time_at true d at
  unfolding time_at
  time-short e = rw e

  pub time-read : {w : SignedAt} → signed_at d at ≡ ok w → ok (time_is (At w.val) w.next) ≡ time_at true d at
  unfolding time_at
  time-read e = rw e

  pub time-none : ok (time_is Absent at) ≡ time_at false d at
  unfolding time_at
  time-none = refl

module _ (d : List ℕ) (at : ℕ) (f : Flags) where
  pub times-one : {n : ℕ} → time_at f.expire d at ≡ refuse n → refuse n ≡ times_at d at f
  unfolding times_at
  times-one e = rw e

  pub times-two : {a : TimeAt} {n : ℕ} → time_at f.expire d at ≡ ok a → time_at f.create d a.next ≡ refuse n → refuse n ≡ times_at d at f
  unfolding times_at
  times-two e₁ e₂ = rw (e₁, e₂)

  pub times-good : {a b : TimeAt} → time_at f.expire d at ≡ ok a → time_at f.create d a.next ≡ ok b → ok (times_is a.time b.time b.next) ≡ times_at d at f
  unfolding times_at
  times-good e₁ e₂ = rw (e₁, e₂)

module _ (d : List ℕ) (at end p : ℕ) (restart : Bool) where
  pub row-head : {n : ℕ} → head_at d at p restart ≡ refuse n → refuse n ≡ read_row d at end p restart
  unfolding read_row row_at
  row-head e = rw e

  pub row-body : {l : Lengths} {n : ℕ} → head_at d at p restart ≡ ok l → body_at d l ≡ refuse n → refuse n ≡ read_row d at end p restart
  unfolding read_row row_at
  row-body e₁ e₂ = rw (e₁, e₂)

  pub row-times : {l : Lengths} {b : Body} {n : ℕ} → head_at d at p restart ≡ ok l → body_at d l ≡ ok b → times_at d b.next b.flags ≡ refuse n
      → refuse n ≡ read_row d at end p restart
  unfolding read_row row_at
  row-times e₁ e₂ e₃ = rw (e₁, e₂, e₃)

  pub row-past : {l : Lengths} {b : Body} {t : Times} → head_at d at p restart ≡ ok l → body_at d l ≡ ok b → times_at d b.next b.flags ≡ ok t → end < t.next
      → refuse 16 ≡ read_row d at end p restart
  unfolding read_row row_at
  row-past {t = t} e₁ e₂ e₃ h = rw (e₁, e₂, e₃, lt-ltb end t.next h)

  pub row-good : {l : Lengths} {b : Body} {t : Times} → head_at d at p restart ≡ ok l → body_at d l ≡ ok b → times_at d b.next b.flags ≡ ok t → t.next ≤ end
      → ok (row_is at l b t) ≡ read_row d at end p restart
  unfolding read_row row_at
  row-good {t = t} e₁ e₂ e₃ h = rw (e₁, e₂, e₃, le-ltb end t.next h)

  pub key-head : {n : ℕ} → head_at d at p restart ≡ refuse n → refuse n ≡ read_key d at end p restart
  unfolding read_key
  key-head e = rw e

  pub key-short : {l : Lengths} → head_at d at p restart ≡ ok l → length d < value_at l → refuse 9 ≡ read_key d at end p restart
  unfolding read_key
  key-short {l} e h = rw (e, lt-ltb (length d) (value_at l) h)

  pub key-past : {l : Lengths} → head_at d at p restart ≡ ok l → value_at l ≤ length d → end < value_at l → refuse 16 ≡ read_key d at end p restart
  unfolding read_key
  key-past {l} e h k = rw (e, le-ltb (length d) (value_at l) h, lt-ltb end (value_at l) k)

  pub key-good : {l : Lengths} → head_at d at p restart ≡ ok l → value_at l ≤ length d → value_at l ≤ end → ok (key_is l) ≡ read_key d at end p restart
  unfolding read_key
  key-good {l} e h k = rw (e, le-ltb (length d) (value_at l) h, le-ltb end (value_at l) k)

-- ---- the tests of lengths, and one row alone

module _ (n : ℕ) where
  pub key-empty : n ≡ 0 → refuse 1 ≡ key_length_tests n
  unfolding key_length_tests
  key-empty h = rw (eq-eqb n 0 h)

  pub key-long : max_key < n → refuse 2 ≡ key_length_tests n
  unfolding key_length_tests
  key-long h = rw (ne_eqb n 0 (omega arith), lt-ltb max_key n h)

  pub key_fits : (n ≡ 0 → ⊥) → n ≤ max_key → ok tt ≡ key_length_tests n
  unfolding key_length_tests
  key_fits h k = rw (ne_eqb n 0 h, le-ltb max_key n k)

module _ (n v : ℕ) where
  pub lengths-key : {k : ℕ} → key_length_tests n ≡ refuse k → refuse k ≡ length_tests n v
  unfolding length_tests
  lengths-key e = rw e

  pub lengths-value : key_length_tests n ≡ ok tt → max_value < v → refuse 3 ≡ length_tests n v
  unfolding length_tests
  lengths-value e h = rw (e, lt-ltb max_value v h)

  pub lengths-fit : key_length_tests n ≡ ok tt → v ≤ max_value → ok tt ≡ length_tests n v
  unfolding length_tests
  lengths-fit e h = rw (e, le-ltb max_value v h)

module _ (shared suffix_len : ℕ) (k : Kind) (offered : ℕ) (e c : Bool) where
  pub size-no : {n : ℕ} → length_tests (shared + suffix_len) (kept_length k offered) ≡ refuse n → refuse n ≡ size_alone shared suffix_len k offered e c
  unfolding size_alone
  size-no p = rw p

  pub size_is : length_tests (shared + suffix_len) (kept_length k offered) ≡ ok tt → ok (row_size shared suffix_len (kept_length k offered) e c) ≡ size_alone shared suffix_len k offered e c
  unfolding size_alone
  size_is p = rw p

module _ (prev_len shared : ℕ) (suffix : List ℕ) (f : Fields) (room : ℕ) where
  pub encode-share : prev_len < shared → encode_row prev_len shared suffix f room ≡ refuse 13
  unfolding encode_row
  encode-share h = rw (lt-ltb prev_len shared h)

  module _ (h : shared ≤ prev_len) where
    pub encode-no : {n : ℕ} → length_tests (shared + length suffix) (length (value_of f)) ≡ refuse n → encode_row prev_len shared suffix f room ≡ refuse n
    unfolding encode_row
    encode-no e = rw (le-ltb prev_len shared h, e)

    pub encode-short : length_tests (shared + length suffix) (length (value_of f)) ≡ ok tt → room < length (row_bytes shared suffix f) → encode_row prev_len shared suffix f room ≡ refuse 6
    unfolding encode_row
    encode-short e k = rw (le-ltb prev_len shared h, e, lt-ltb room (length (row_bytes shared suffix f)) k)

    pub encode-is : length_tests (shared + length suffix) (length (value_of f)) ≡ ok tt → length (row_bytes shared suffix f) ≤ room
        → encode_row prev_len shared suffix f room ≡ ok (row_bytes shared suffix f)
    unfolding encode_row
    encode-is e k = rw (le-ltb prev_len shared h, e, le-ltb room (length (row_bytes shared suffix f)) k)

module _ (prev : Key) (shared : ℕ) (suffix : List ℕ) (room : ℕ) where
  pub restore_share : length prev < shared → restore_key prev shared suffix room ≡ refuse 13
  unfolding restore_key
  restore_share h = rw (lt-ltb (length prev) shared h)

  module _ (h : shared ≤ length prev) where
    pub restore_no : {n : ℕ} → key_length_tests (shared + length suffix) ≡ refuse n → restore_key prev shared suffix room ≡ refuse n
    unfolding restore_key
    restore_no e = rw (le-ltb (length prev) shared h, e)

    pub restore_short : key_length_tests (shared + length suffix) ≡ ok tt → room < shared + length suffix → restore_key prev shared suffix room ≡ refuse 19
    unfolding restore_key
    restore_short e k = rw (le-ltb (length prev) shared h, e, lt-ltb room (shared + length suffix) k)

    pub restore_is : key_length_tests (shared + length suffix) ≡ ok tt → shared + length suffix ≤ room → restore_key prev shared suffix room ≡ ok (take shared prev ++ suffix)
    unfolding restore_key
    restore_is e k = rw (le-ltb (length prev) shared h, e, le-ltb room (shared + length suffix) k)

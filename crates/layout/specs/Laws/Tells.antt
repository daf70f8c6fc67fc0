-- What the contracts and the theorems say by the laws of `Tells`: definitions.
use Rattle.std.specs.Prelude.{ℕ, ◌+◌, ◌≤◌, ◌≡◌, Bool, List, length}
use Rattle.layout.specs.Res.{ok}
use Rattle.layout.specs.Limits.{max_key}
use Rattle.layout.specs.RowRead.{Lengths, may_share, head_at, Body, body_at, Times, times_at, RowRead, row_is, key_length, KeyRead}

-- what a row that was read is made of
pub record RowTells (d : List ℕ) (at prev_len : ℕ) (restart : Bool) (r : RowRead) : Type 0 where
  pub l : Lengths
  pub b : Body
  pub t : Times
  pub head : head_at d at prev_len restart ≡ ok l
  pub body : body_at d l ≡ ok b
  pub times : times_at d b.next b.flags ≡ ok t
  pub is : row_is at l b t ≡ r

-- what every row that is read keeps
pub record RowEnds (d : List ℕ) (at end prev_len : ℕ) (restart : Bool) (r : RowRead) : Type 0 where
  pub starts : r.start ≡ at
  pub least : at + 12 ≤ r.next
  pub room : at + 12 + r.suffix_len ≤ r.next
  pub within : r.next ≤ end
  pub inside : r.next ≤ length d
  pub shares : r.shared ≤ may_share restart prev_len
  pub some : 1 ≤ key_length r
  pub fits : key_length r ≤ max_key
  pub suffix : r.suffix_at + r.suffix_len ≤ length d

abbrev pub key_part : RowRead → KeyRead
key_part r = record { shared = r.shared; suffix_at = r.suffix_at; suffix_len = r.suffix_len }

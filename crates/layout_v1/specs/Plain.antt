-- A plain row of the earlier format: a value with no times, that ends exactly where it must, inside the data. Most rows are; such a row is read by a few tests
-- of numbers. What is not plain is not refused here: it is read as `RowRead` says.
use Rattle.std.specs.Prelude.{ℕ, ◌+◌, ◌-◌, Bool, cond, not, ◌||◌, ltb, eqb, length, take, drop, get_or, Option, Some, None}
use Rattle.layout.specs.Bytes.{Bytes}
use Rattle.layout.specs.Fixed.{unbig}
use Rattle.layout.specs.Limits.{max_key, max_value}
use Rattle.layout.specs.Row.{Absent}
use Rattle.layout.specs.RowRead.{RowRead, holds}
use Rattle.layout.specs.Plain.{Plain, plain_is}

-- the number that n bytes spell
abbrev pub spelt : ℕ → Bytes → ℕ → ℕ
spelt n d at = unbig (take n (drop at d))

-- two lengths, suffix, seq, flags and the value's length: where the value starts
abbrev pub plain_value : ℕ → ℕ → ℕ
plain_value at u = at + 17 + u

-- a share that is not allowed; no key, or one too long; no room for the value's length
abbrev pub not_plain_by : ℕ → ℕ → ℕ → ℕ → ℕ → Bool
not_plain_by at end most s u = ltb most s || eqb (s + u) 0 || ltb max_key (s + u) || ltb end (plain_value at u)

-- flags; a value too long, or another length than is left for it
abbrev pub not_plain_held : Bytes → ℕ → ℕ → ℕ → Bool
not_plain_held d at u v = ltb 0 (get_or d (plain_value at u - 5) 0) || ltb max_value v || not (eqb (spelt 4 d (plain_value at u - 4)) v)

-- by the two lengths of the key, once they are known to stand inside
abbrev pub plain_of : Bytes → ℕ → ℕ → ℕ → ℕ → ℕ → Option Plain
plain_of d at end most s u =
    cond (not_plain_by at end most s u) None
    (cond (not_plain_held d at u (end - plain_value at u)) None
    (Some (plain_is end s u (end - plain_value at u))))

-- the row at `at`, that ends at `end` and may share `most` bytes, if it is plain
unfoldable pub plain_at : Bytes → ℕ → ℕ → ℕ → Option Plain
plain_at d at end most =
    cond (ltb (length d) end || ltb end (at + 17)) None
    (plain_of d at end most (spelt 2 d at) (spelt 2 d (at + 2)))

-- what is read of it, with this seq; and with its own
abbrev pub plain_as : ℕ → Plain → ℕ → RowRead
plain_as at p v =
    record {
      start = at;
      next = p.next;
      shared = p.shared;
      suffix_at = at + 4;
      suffix_len = p.unshared;
      held = holds (plain_value at p.unshared) p.value_len;
      seq = v;
      expire = Absent;
      create = Absent;
    }

abbrev pub plain_read : Bytes → ℕ → Plain → RowRead
plain_read d at p = plain_as at p (spelt 8 d (at + 4 + p.unshared))

-- A row of the earlier format, as it is read: the order of tests is the order in the rules. A read gives places; key and content stand at them, as in the later format.
use Rattle.std.specs.Prelude.{ℕ, ◌+◌, ltb, length, get_or}
use Rattle.layout.specs.Bytes.{Bytes}
use Rattle.layout.specs.Res.{Res, ok, bind, ◌when◌else◌}
use Rattle.layout.specs.Limits.{max_value}
use Rattle.layout.specs.Place.{fixed_at}
use Rattle.layout.specs.Row.{Kind, value, tombstone, merge}
use Rattle.layout.specs.RowRead.{head_tests, Held, holds, gone, merges, Flags, flags_at, Times, times_at, RowRead, KeyRead}

-- ---- the two lengths: 9 as met; shared longer than the first key, or not 0 in row 0 (13); full key empty (1); over the limit (2)

pub record Head : Type 0 where
  pub shared : ℕ
  pub unshared : ℕ
  pub suffix_at : ℕ

abbrev pub head_is : ℕ → ℕ → ℕ → Head
head_is s u a = record { shared = s; unshared = u; suffix_at = a }

-- `most` bytes may be shared: as many as the first key has, in row 0 none
unfoldable pub head_at : Bytes → ℕ → ℕ → Res Head
head_at d at most =
    bind (fixed_at 2 d at) λ s.
    bind (fixed_at 2 d s.next) λ u.
    bind (head_tests most s.val u.val) λ _.
    ok (head_is s.val u.val u.next)

-- where seq starts
abbrev pub seq_at : Head → ℕ
seq_at h = h.suffix_at + h.unshared

-- ---- suffix, seq or flags missing (9); flags (11, 12)

pub record Body : Type 0 where
  pub seq : ℕ
  pub flags : Flags
  pub next : ℕ

abbrev pub body_is : ℕ → Flags → ℕ → Body
body_is q f n = record { seq = q; flags = f; next = n }

unfoldable pub body_at : Bytes → Head → Res Body
body_at d h =
    9 when ltb (length d) (seq_at h + 9) else
    bind (fixed_at 8 d (seq_at h)) λ q.
    bind (flags_at (get_or d q.next 0)) λ f.
    ok (body_is q.val f (seq_at h + 9))

-- ---- value length missing (9), over the limit (3); value missing (9). A tombstone has neither

pub record HeldAt : Type 0 where
  pub held : Held
  pub next : ℕ

abbrev pub held_is : Held → ℕ → HeldAt
held_is h n = record { held = h; next = n }

-- where the value starts, and how long it is
pub record Span : Type 0 where
  pub at : ℕ
  pub len : ℕ

abbrev pub span_is : ℕ → ℕ → Span
span_is at n = record { at = at; len = n }

unfoldable pub value_at : Bytes → ℕ → Res Span
value_at d at =
    bind (fixed_at 4 d at) λ n.
    3 when ltb max_value n.val else
    9 when ltb (length d) (n.next + n.val) else
    ok (span_is n.next n.val)

unfoldable pub held_at : Kind → Bytes → ℕ → Res HeldAt
held_at value d at = bind (value_at d at) λ v. ok (held_is (holds v.at v.len) (v.at + v.len))
held_at tombstone d at = ok (held_is gone at)
held_at merge d at = bind (value_at d at) λ v. ok (held_is (merges v.at v.len) (v.at + v.len))

-- ---- the row at `at`; times missing (9) stand before the value

abbrev pub row_is : ℕ → Head → Body → Times → HeldAt → RowRead
row_is at h b t v =
    record {
      start = at;
      next = v.next;
      shared = h.shared;
      suffix_at = h.suffix_at;
      suffix_len = h.unshared;
      held = v.held;
      seq = b.seq;
      expire = t.expire;
      create = t.create;
    }

unfoldable pub row_at : Bytes → ℕ → ℕ → Res RowRead
row_at d at most =
    bind (head_at d at most) λ h.
    bind (body_at d h) λ b.
    bind (times_at d b.next b.flags) λ t.
    bind (held_at b.flags.kind d t.next) λ v.
    ok (row_is at h b t v)

-- in a block it ends where the next one starts, the last at the data's end: past it (16), before it (20)
unfoldable pub read_row : Bytes → ℕ → ℕ → ℕ → Res RowRead
read_row d at end most =
    bind (row_at d at most) λ r.
    16 when ltb end r.next else
    20 when ltb r.next end else
    ok r

-- a single row stands after a first key, so it isn't row 0; nothing says where it ends
abbrev pub decode_row : Bytes → ℕ → Res RowRead
decode_row s first_len = row_at s 0 first_len

-- ---- a key-only read makes the same tests up to the suffix, whose end takes the tests 9 and 16

abbrev pub key_is : Head → KeyRead
key_is h = record { shared = h.shared; suffix_at = h.suffix_at; suffix_len = h.unshared }

unfoldable pub read_key : Bytes → ℕ → ℕ → ℕ → Res KeyRead
read_key d at end most =
    bind (head_at d at most) λ h.
    9 when ltb (length d) (seq_at h) else
    16 when ltb end (seq_at h) else
    ok (key_is h)

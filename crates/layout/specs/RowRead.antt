-- "A row on the wire", as it is read: the order of tests is the order in the rules. A read gives places; key and content stand at them.
use Rattle.std.specs.Prelude.{ℕ, ◌+◌, ◌/◌, ◌%◌, Bool, true, false, cond, ◌&&◌, [], ◌++◌, ltb, eqb, length, take, drop, get_or}
use Rattle.layout.specs.Bytes.{Bytes}
use Rattle.layout.specs.Res.{Res, ok, bind, ◌when◌else◌}
use Rattle.layout.specs.Limits.{max_value}
use Rattle.layout.specs.Place.{varint_at, fixed_at, signed_at}
use Rattle.layout.specs.Key.{Key}
use Rattle.layout.specs.Row.{Kind, value, tombstone, merge, Time, Absent, At, Fields, tombstone_bit, expire_bit, create_bit, merge_bit, key_length_tests}

-- ---- the three varints: 9, 10 as met

pub record Lengths : Type 0 where
  pub shared : ℕ
  pub unshared : ℕ
  pub value_len : ℕ
  pub body : ℕ

abbrev pub lengths_is : ℕ → ℕ → ℕ → ℕ → Lengths
lengths_is s u v b = record { shared = s; unshared = u; value_len = v; body = b }

unfoldable pub lengths_at : Bytes → ℕ → Res Lengths
lengths_at d at =
    bind (varint_at d at) λ a.
    bind (varint_at d a.next) λ b.
    bind (varint_at d b.next) λ c.
    ok (lengths_is a.val b.val c.val c.next)

-- where the value starts, and where seq does
abbrev pub value_at : Lengths → ℕ
value_at l = l.body + l.unshared

abbrev pub seq_at : Lengths → ℕ
seq_at l = l.body + l.unshared + l.value_len

-- ---- shared longer than the previous key, or not 0 at a restart (13); full key empty (1); over the limit (2)

abbrev pub may_share : Bool → ℕ → ℕ
may_share true prev_len = 0
may_share false prev_len = prev_len

-- of the lengths alone: `most` bytes may be shared
unfoldable pub head_tests : ℕ → ℕ → ℕ → Res (Unit {0})
head_tests most shared unshared =
    13 when ltb most shared else
    key_length_tests (shared + unshared)

unfoldable pub head_at : Bytes → ℕ → ℕ → Bool → Res Lengths
head_at d at prev_len restart =
    bind (lengths_at d at) λ l.
    bind (head_tests (may_share restart prev_len) l.shared l.unshared) λ _.
    ok l

-- ---- flags: unknown (11), tombstone with merge (12)

pub record Flags : Type 0 where
  pub kind : Kind
  pub expire : Bool
  pub create : Bool

abbrev pub flags_is : Kind → Bool → Bool → Flags
flags_is k e c = record { kind = k; expire = e; create = c }

abbrev pub has_bit : ℕ → ℕ → Bool
has_bit bit f = eqb (f / bit % 2) 1

unfoldable pub flags_at : ℕ → Res Flags
flags_at f =
    11 when ltb 15 f else
    12 when has_bit tombstone_bit f && has_bit merge_bit f else
    ok (flags_is (cond (has_bit tombstone_bit f) tombstone (cond (has_bit merge_bit f) merge value)) (has_bit expire_bit f) (has_bit create_bit f))

-- ---- value length over the limit (3); bytes missing (9); flags

-- where the value's bytes stand; a tombstone has none: value bytes read are dropped
pub data Held : Type 0 where
  holds : ℕ → ℕ → Held
  gone : Held
  merges : ℕ → ℕ → Held

abbrev pub held_as : Kind → ℕ → ℕ → Held
held_as value at n = holds at n
held_as tombstone at n = gone
held_as merge at n = merges at n

pub record Body : Type 0 where
  pub held : Held
  pub seq : ℕ
  pub flags : Flags
  pub next : ℕ

abbrev pub body_is : Held → ℕ → Flags → ℕ → Body
body_is h q f n = record { held = h; seq = q; flags = f; next = n }

-- of the lengths alone: the flags end at `end`, in data of `data_len` bytes
unfoldable pub body_tests : ℕ → ℕ → ℕ → Res (Unit {0})
body_tests data_len value_len end =
    3 when ltb max_value value_len else
    9 when ltb data_len end else
    ok tt

unfoldable pub body_at : Bytes → Lengths → Res Body
body_at d l =
    bind (body_tests (length d) l.value_len (seq_at l + 9)) λ _.
    bind (fixed_at 8 d (seq_at l)) λ q.
    bind (flags_at (get_or d q.next 0)) λ f.
    ok (body_is (held_as f.kind (value_at l) l.value_len) q.val f (seq_at l + 9))

-- ---- times missing (9)

pub record TimeAt : Type 0 where
  pub time : Time
  pub next : ℕ

abbrev pub time_is : Time → ℕ → TimeAt
time_is t n = record { time = t; next = n }

unfoldable pub time_at : Bool → Bytes → ℕ → Res TimeAt
time_at true d at = bind (signed_at d at) λ w. ok (time_is (At w.val) w.next)
time_at false d at = ok (time_is Absent at)

pub record Times : Type 0 where
  pub expire : Time
  pub create : Time
  pub next : ℕ

abbrev pub times_is : Time → Time → ℕ → Times
times_is e c n = record { expire = e; create = c; next = n }

unfoldable pub times_at : Bytes → ℕ → Flags → Res Times
times_at d at f =
    bind (time_at f.expire d at) λ e.
    bind (time_at f.create d e.next) λ c.
    ok (times_is e.time c.time c.next)

-- ---- the row at `at`, in a region that ends at `end`, after a key of `prev_len` bytes; its end past its region (16)

pub record RowRead : Type 0 where
  pub start : ℕ
  pub next : ℕ
  pub shared : ℕ
  pub suffix_at : ℕ
  pub suffix_len : ℕ
  pub held : Held
  pub seq : ℕ
  pub expire : Time
  pub create : Time

abbrev pub row_is : ℕ → Lengths → Body → Times → RowRead
row_is at l b t =
    record {
      start = at;
      next = t.next;
      shared = l.shared;
      suffix_at = l.body;
      suffix_len = l.unshared;
      held = b.held;
      seq = b.seq;
      expire = t.expire;
      create = t.create;
    }

unfoldable pub row_at : Bytes → ℕ → ℕ → Bool → Res RowRead
row_at d at prev_len restart =
    bind (head_at d at prev_len restart) λ l.
    bind (body_at d l) λ b.
    bind (times_at d b.next b.flags) λ t.
    ok (row_is at l b t)

unfoldable pub read_row : Bytes → ℕ → ℕ → ℕ → Bool → Res RowRead
read_row d at end prev_len restart =
    bind (row_at d at prev_len restart) λ r.
    16 when ltb end r.next else
    ok r

-- a single row has the whole input as its region, and isn't a restart
unfoldable pub decode_row : Bytes → ℕ → Res RowRead
decode_row s prev_len = read_row s 0 (length s) prev_len false

-- ---- a key-only read makes the same tests but for the value length, and stops after the suffix, whose end takes the test 16

pub record KeyRead : Type 0 where
  pub shared : ℕ
  pub suffix_at : ℕ
  pub suffix_len : ℕ

abbrev pub key_is : Lengths → KeyRead
key_is l = record { shared = l.shared; suffix_at = l.body; suffix_len = l.unshared }

unfoldable pub read_key : Bytes → ℕ → ℕ → ℕ → Bool → Res KeyRead
read_key d at end prev_len restart =
    bind (head_at d at prev_len restart) λ l.
    9 when ltb (length d) (value_at l) else
    16 when ltb end (value_at l) else
    ok (key_is l)

-- ---- what stands at the places

abbrev pub key_length : RowRead → ℕ
key_length r = r.shared + r.suffix_len

-- the first `shared` bytes of the previous key, then the suffix
abbrev pub joined : Bytes → Key → ℕ → ℕ → ℕ → Key
joined d prev shared at n = take shared prev ++ take n (drop at d)

abbrev pub key_of : Bytes → Key → RowRead → Key
key_of d prev r = joined d prev r.shared r.suffix_at r.suffix_len

abbrev pub kind_of : Held → Kind
kind_of (holds at n) = value
kind_of gone = tombstone
kind_of (merges at n) = merge

abbrev pub held_bytes : Bytes → Held → Bytes
held_bytes d (holds at n) = take n (drop at d)
held_bytes d gone = []
held_bytes d (merges at n) = take n (drop at d)

abbrev pub fields_of : Bytes → RowRead → Fields
fields_of d r = record { kind = kind_of r.held; val = held_bytes d r.held; seq = r.seq; expire = r.expire; create = r.create }

-- What crosses the C interface: the words that stand for a cursor, a builder, a row's fields and a row, and the code that a call answers.
use Rattle.std.specs.Prelude.{ℕ, Bool, true, false, cond, not, List, [], ◌∷◌, ◌++◌, eqb, length, get_or, take}
use Rattle.layout.specs.Res.{Res, ok, refuse, bind, guard}
use Rattle.layout.specs.Key.{Key}
use Rattle.layout.specs.Fixed.{bits, unbits}
use Rattle.layout.specs.Row.{Kind, value, tombstone, merge, Time, Absent, At, Fields}
use Rattle.layout.specs.RowRead.{RowRead, Held, holds, gone, merges}
use Rattle.layout.specs.Builder.{Builder}
use Rattle.layout.specs.Cursor.{Direction, ascending, descending, Cursor}

-- ---- codes: 0, a refusal's number, and two of the interface's own

abbrev pub bad_words : ℕ
bad_words = 254

abbrev pub done_code : ℕ
done_code = 255

abbrev pub code_of : {A : Type 0} → Res A → ℕ
code_of (ok a) = 0
code_of (refuse n) = n

-- what a good call sets, and a refused one leaves
abbrev pub set_by : {A B : Type 0} → Res A → (A → B) → B → B
set_by (ok a) f old = f a
set_by (refuse n) f old = old

-- ---- words

-- how many there are of each
abbrev pub cursor_count : ℕ
cursor_count = 6

abbrev pub builder_count : ℕ
builder_count = 6

abbrev pub fields_count : ℕ
fields_count = 6

abbrev pub single_count : ℕ
single_count = 13

abbrev pub row_count : ℕ
row_count = 15

abbrev pub word_at : List ℕ → ℕ → ℕ
word_at ws i = get_or ws i 0

-- words, or key bytes, that are not as many as they must be
abbrev pub counted : {A : Type 0} → List ℕ → ℕ → Res A → Res A
counted ws n k = guard (not (eqb (length ws) n)) bad_words k

-- 0 or 1, for one of two cases
abbrev pub one_of : {A : Type 0} → A → A → ℕ → Res A
one_of a b w = cond (eqb w 0) (ok a) (cond (eqb w 1) (ok b) (refuse bad_words))

abbrev pub truth_in : ℕ → Res Bool
truth_in w = one_of false true w

abbrev pub truth_word : Bool → ℕ
truth_word b = cond b 1 0

-- ---- a cursor: order, region, position, length of the key, mark, number; its key's bytes stand beside them

abbrev pub order_in : ℕ → Res Direction
order_in w = one_of ascending descending w

abbrev pub order_word : Direction → ℕ
order_word ascending = 0
order_word descending = 1

abbrev pub cursor_from : List ℕ → Key → Direction → Bool → Cursor
cursor_from ws key d m =
    record { order = d; region = word_at ws 1; at = word_at ws 2; number = word_at ws 5; key_len = word_at ws 3; key = take (word_at ws 3) key; done = m }

unfoldable pub cursor_in : List ℕ → Key → Res Cursor
cursor_in ws key =
    counted ws cursor_count
    (bind (order_in (word_at ws 0)) λ d.
    bind (truth_in (word_at ws 4)) λ m.
    ok (cursor_from ws key d m))

abbrev pub cursor_words : Cursor → List ℕ
cursor_words c = order_word c.order ∷ c.region ∷ c.at ∷ c.key_len ∷ truth_word c.done ∷ c.number ∷ []

-- ---- a builder: settings, bytes and places in use, its count of rows, length of the last key; the last key's bytes stand beside them

abbrev pub builder_from : List ℕ → Key → Builder
builder_from ws last =
    record {
      block_size = word_at ws 0;
      restart_interval = word_at ws 1;
      used = word_at ws 2;
      restarts = word_at ws 3;
      counter = word_at ws 4;
      last_key_len = word_at ws 5;
      last_key_of = take (word_at ws 5) last;
    }

abbrev pub builder_in : List ℕ → Key → Res Builder
builder_in ws last = counted ws builder_count (ok (builder_from ws last))

abbrev pub builder_words : Builder → List ℕ
builder_words v = v.block_size ∷ v.restart_interval ∷ v.used ∷ v.restarts ∷ v.counter ∷ v.last_key_len ∷ []

-- ---- a row that is offered: kind, seq, and two times, each with a word that says whether there is one

abbrev pub kind_in : ℕ → Res Kind
kind_in w = cond (eqb w 2) (ok merge) (one_of value tombstone w)

abbrev pub time_from : ℕ → Bool → Time
time_from w b = cond b (At (unbits w)) Absent

unfoldable pub time_in : ℕ → ℕ → Res Time
time_in has w = bind (truth_in has) λ b. ok (time_from w b)

unfoldable pub fields_in : List ℕ → List ℕ → Res Fields
fields_in ws v =
    counted ws fields_count
    (bind (kind_in (word_at ws 0)) λ k.
    bind (time_in (word_at ws 2) (word_at ws 3)) λ e.
    bind (time_in (word_at ws 4) (word_at ws 5)) λ c.
    ok (record { kind = k; val = v; seq = word_at ws 1; expire = e; create = c }))

-- ---- a row that was read: its places and its fields; of a block's row then the region's number and the row's own in it

abbrev pub held_words : Held → List ℕ → List ℕ
held_words (holds start n) rest = 0 ∷ start ∷ n ∷ rest
held_words gone rest = 1 ∷ 0 ∷ 0 ∷ rest
held_words (merges start n) rest = 2 ∷ start ∷ n ∷ rest

abbrev pub time_words : Time → List ℕ → List ℕ
time_words Absent rest = 0 ∷ 0 ∷ rest
time_words (At z) rest = 1 ∷ bits z ∷ rest

abbrev pub single_words : RowRead → List ℕ
single_words r = r.start ∷ r.next ∷ r.shared ∷ r.suffix_at ∷ r.suffix_len ∷ held_words r.held (r.seq ∷ time_words r.expire (time_words r.create []))

abbrev pub row_words_of : ℕ → ℕ → RowRead → List ℕ
row_words_of region number r = single_words r ++ (region ∷ number ∷ [])

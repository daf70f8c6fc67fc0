-- What each function promises: the code that it answers, and what each lent word and byte is after it, as equations to the definitions of `layout_v1`.
use Rattle.std.specs.Prelude.{ℕ, Bool, cond, ◌≡◌, List, [], eqb, length}
use Rattle.layout.specs.Res.{Res, ok, refuse, bind}
use Rattle.layout.specs.Limits.{max_key}
use Rattle.layout.specs.Key.{Key}
use Rattle.layout.specs.Place.{splice}
use Rattle.layout.specs.Row.{Fields, present, written}
use Rattle.layout_v1.specs.Row.{size_alone, encode_row}
use Rattle.layout_v1.specs.RowRead.{decode_row}
use Rattle.layout_v1.specs.Builder.{Builder, new_builder, has_no_rows, would_fit, add, build, data_after_of, places_after_of, block_after_of}
use Rattle.layout_v1.specs.Check.{check}
use Rattle.layout_v1.specs.Cursor.{Answer, found, done, Step, open_block, is_empty, next, key_after}
use Rattle.layout_v1.specs.Seek.{Sought, seek}
use Rattle.row_words.specs.Words.{done_code, code_of, set_by, counted, truth_word, order_in, fields_in, single_words, single_count}
use Rattle.row_words.specs.Flat.{Sets}
use Rattle.builder_words_v1.specs.Says.{Gain, gain_is}
use Rattle.builder_words_v1.specs.Words.{builder_count, builder_from, builder_in, builder_words}
use Rattle.cursor_words_v1.specs.Words.{cursor_count, row_count, cursor_in, cursor_words, row_words_of}

-- a number that is wanted in a lent word
pub record Tells (want : Res ℕ) (n code n' : ℕ) : Type 0 where
  pub answer : code ≡ code_of want
  pub number : n' ≡ set_by want (λ x. x) n

-- ---- one row

-- of the value its length is enough
abbrev pub SizesFlat : ℕ → ℕ → ℕ → List ℕ → ℕ → ℕ → ℕ → Type 0
SizesFlat shared suffix_len value_len fs n code n' =
    Tells (bind (fields_in fs []) λ f. size_alone shared suffix_len f.kind value_len (present f.expire) (present f.create)) n code n'

pub record Lays (want : Res (List ℕ)) (out : List ℕ) (n code : ℕ) (out' : List ℕ) (n' : ℕ) : Type 0 where
  pub told : Tells (bind want λ w. ok (length w)) n code n'
  pub bytes : out' ≡ written want out

abbrev pub EncodesFlat : ℕ → ℕ → List ℕ → List ℕ → List ℕ → List ℕ → ℕ → ℕ → List ℕ → ℕ → Type 0
EncodesFlat first_len shared suffix value fs out n code out' n' = Lays (bind (fields_in fs value) λ f. encode_row first_len shared suffix f (length out)) out n code out' n'

abbrev pub DecodesFlat : List ℕ → ℕ → List ℕ → ℕ → List ℕ → Type 0
DecodesFlat s first_len row code row' = Sets (counted row single_count (decode_row s first_len)) single_words row code row'

-- ---- building a block

abbrev pub MakesFlat : List ℕ → ℕ → ℕ → List ℕ → Type 0
MakesFlat ws size code ws' = Sets (counted ws builder_count (new_builder size)) builder_words ws code ws'

abbrev pub FitsFlat : List ℕ → Key → ℕ → ℕ → Key → List ℕ → List ℕ → ℕ → Type 0
FitsFlat ws first data_len places_len key value fs code =
    code ≡ code_of (counted ws builder_count (counted first max_key (bind (fields_in fs value) λ f. would_fit (builder_from ws first) data_len places_len key f)))

-- a row that is added: the builder then, and what was offered with the key
abbrev pub gain : Builder → List ℕ → List ℕ → Key → Fields → Res Gain
gain v bytes places key f = bind (add v (length bytes) (length places) key f) λ w. ok (gain_is w f)

-- the first row's key lies over the start of its bytes, and stays
pub record AddsAs (want : Res Gain) (v : Builder) (key : Key) (ws first bytes places : List ℕ) (code : ℕ) (ws' first' bytes' places' : List ℕ) : Type 0 where
  pub answer : code ≡ code_of want
  pub state : ws' ≡ set_by want (λ g. builder_words g.builder) ws
  pub first-after : first' ≡ set_by want (λ g. cond (eqb v.rows 0) (splice first 0 key) first) first
  pub bytes_after : bytes' ≡ set_by want (λ g. data_after_of (ok g.builder) v key g.fields bytes) bytes
  pub places-after : places' ≡ set_by want (λ g. places_after_of (ok g.builder) v places) places

abbrev pub AddsFlat : List ℕ → Key → List ℕ → List ℕ → Key → List ℕ → List ℕ → ℕ → List ℕ → List ℕ → List ℕ → List ℕ → Type 0
AddsFlat ws first bytes places key value fs code ws' first' bytes' places' =
    AddsAs (counted ws builder_count (counted first max_key (bind (fields_in fs value) λ f. gain (builder_from ws first) bytes places key f))) (builder_from ws first) key ws first bytes places
    code ws' first' bytes' places'

-- the bytes of the first key tell nothing: none are lent
abbrev pub EmptiesFlat : List ℕ → ℕ → ℕ → ℕ → Type 0
EmptiesFlat ws n code n' = Tells (bind (builder_in ws []) λ v. ok (truth_word (has_no_rows v))) n code n'

pub record BuildsAs (want : Res ℕ) (v : Builder) (bytes places : List ℕ) (n code : ℕ) (bytes' : List ℕ) (n' : ℕ) : Type 0 where
  pub told : Tells want n code n'
  pub bytes_after : bytes' ≡ block_after_of want v bytes places

abbrev pub BuildsFlat : List ℕ → List ℕ → List ℕ → ℕ → ℕ → List ℕ → ℕ → Type 0
BuildsFlat ws bytes places n code bytes' n' = BuildsAs (bind (builder_in ws []) λ v. build v (length bytes) (length places)) (builder_from ws []) bytes places n code bytes' n'

-- ---- reading a block

abbrev pub ChecksFlat : List ℕ → ℕ → ℕ → ℕ → Type 0
ChecksFlat b n code n' = Tells (check b) n code n'

abbrev pub OpensFlat : List ℕ → ℕ → List ℕ → ℕ → List ℕ → Type 0
OpensFlat b order ws code ws' = Sets (counted ws cursor_count (bind (order_in order) λ d. open_block b d)) cursor_words ws code ws'

abbrev pub TellsFlat : List ℕ → List ℕ → ℕ → ℕ → ℕ → Type 0
TellsFlat b ws n code n' = Tells (bind (cursor_in ws) λ c. bind (is_empty c b) λ e. ok (truth_word e)) n code n'

-- "done" has a code of its own
abbrev pub answer_code : Answer → ℕ
answer_code (found number r key) = 0
answer_code done = done_code

abbrev pub step_code : Res Step → ℕ
step_code (ok s) = answer_code s.answer
step_code (refuse n) = n

abbrev pub row_given : List ℕ → Answer → List ℕ
row_given row (found number r key) = row_words_of number r
row_given row done = row

pub record StepsAs (want : Res Step) (ws out row : List ℕ) (code : ℕ) (ws' out' row' : List ℕ) : Type 0 where
  pub answer : code ≡ step_code want
  pub state : ws' ≡ set_by want (λ s. cursor_words s.cursor) ws
  pub lent : out' ≡ key_after want out
  pub row_words : row' ≡ set_by want (λ s. row_given row s.answer) row

abbrev pub StepsFlat : List ℕ → List ℕ → List ℕ → List ℕ → ℕ → List ℕ → List ℕ → List ℕ → Type 0
StepsFlat b ws out row code ws' out' row' = StepsAs (counted row row_count (bind (cursor_in ws) λ c. next c b (length out))) ws out row code ws' out' row'

-- a seek, and whether all rows are passed where it landed: "done"
pub record Landing : Type 0 where
  pub sought : Sought
  pub over : Bool

abbrev pub landing_is : Sought → Bool → Landing
landing_is s o = record { sought = s; over = o }

abbrev pub landed : List ℕ → Sought → Res Landing
landed b s = bind (is_empty s.cursor b) λ o. ok (landing_is s o)

abbrev pub seek_code : Res Landing → ℕ
seek_code (ok l) = cond l.over done_code 0
seek_code (refuse n) = n

pub record SeeksAs (want : Res Landing) (ws : List ℕ) (n code : ℕ) (ws' : List ℕ) (n' : ℕ) : Type 0 where
  pub answer : code ≡ seek_code want
  pub state : ws' ≡ set_by want (λ l. cursor_words l.sought.cursor) ws
  pub number : n' ≡ set_by want (λ l. l.sought.reads) n

abbrev pub SeeksFlat : List ℕ → List ℕ → List ℕ → ℕ → ℕ → List ℕ → ℕ → Type 0
SeeksFlat b target ws n code ws' n' = SeeksAs (bind (cursor_in ws) λ c. bind (seek c.order b target) (landed b)) ws n code ws' n'

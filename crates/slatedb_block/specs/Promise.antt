-- What each function promises: the code that it answers, and what each lent word and byte is after it, as equations to the definitions of `layout`.
-- `AddsFlat` and `StepsFlat`, which the functions by value keep too, are in `Exports` of `builder_words` and of `block_words`, `SeeksFlat` in `seek_words`.
use Rattle.std.specs.Prelude.{ℕ, ◌≡◌, List, [], length}
use Rattle.layout.specs.Res.{Res, ok, bind}
use Rattle.layout.specs.Limits.{max_key}
use Rattle.layout.specs.Key.{Key}
use Rattle.layout.specs.Row.{encode_row, written}
use Rattle.layout.specs.RowRead.{decode_row}
use Rattle.layout.specs.Builder.{Builder, new_builder, has_no_rows, would_fit, build, block_after_of}
use Rattle.layout.specs.Check.{check}
use Rattle.layout.specs.Cursor.{open_block, is_empty}
use Rattle.row_words.specs.Words.{code_of, set_by, counted, truth_word, order_in, cursor_in, cursor_words, builder_from, builder_in, builder_words, fields_in, single_words, builder_count, cursor_count, single_count}
use Rattle.row_words.specs.Flat.{Sets}

-- a number that is wanted in a lent word
pub record Tells (want : Res ℕ) (n code n' : ℕ) : Type 0 where
  pub answer : code ≡ code_of want
  pub number : n' ≡ set_by want (λ x. x) n

-- ---- one row

pub record Lays (want : Res (List ℕ)) (out : List ℕ) (n code : ℕ) (out' : List ℕ) (n' : ℕ) : Type 0 where
  pub answer : code ≡ code_of want
  pub number : n' ≡ set_by want length n
  pub bytes : out' ≡ written want out

abbrev pub EncodesFlat : ℕ → ℕ → List ℕ → List ℕ → List ℕ → List ℕ → ℕ → ℕ → List ℕ → ℕ → Type 0
EncodesFlat prev_len shared suffix value fs out n code out' n' = Lays (bind (fields_in fs value) λ f. encode_row prev_len shared suffix f (length out)) out n code out' n'

abbrev pub DecodesFlat : List ℕ → ℕ → List ℕ → ℕ → List ℕ → Type 0
DecodesFlat s prev_len row code row' = Sets (counted row single_count (decode_row s prev_len)) single_words row code row'

-- ---- building a block

abbrev pub MakesFlat : List ℕ → ℕ → ℕ → ℕ → List ℕ → Type 0
MakesFlat ws size interval code ws' = Sets (counted ws builder_count (new_builder size interval)) builder_words ws code ws'

abbrev pub FitsFlat : List ℕ → Key → ℕ → ℕ → Key → List ℕ → List ℕ → ℕ → Type 0
FitsFlat ws last data_len places_len key value fs code =
    code ≡ code_of (counted ws builder_count (counted last max_key (bind (fields_in fs value) λ f. would_fit (builder_from ws last) data_len places_len key f)))

-- the bytes of the last key tell nothing: none are lent
abbrev pub EmptiesFlat : List ℕ → ℕ → ℕ → ℕ → Type 0
EmptiesFlat ws n code n' = Tells (bind (builder_in ws []) λ v. ok (truth_word (has_no_rows v))) n code n'

pub record BuildsAs (want : Res ℕ) (v : Builder) (bytes places : List ℕ) (n code : ℕ) (bytes' : List ℕ) (n' : ℕ) : Type 0 where
  pub told : Tells want n code n'
  pub bytes_after : bytes' ≡ block_after_of want v bytes places

abbrev pub BuildsFlat : List ℕ → List ℕ → List ℕ → ℕ → ℕ → List ℕ → ℕ → Type 0
BuildsFlat ws bytes places n code bytes' n' = BuildsAs (bind (builder_in ws []) λ v. build v (length bytes) (length places)) (builder_from ws []) bytes places n code bytes' n'

-- ---- reading a block

abbrev pub ChecksFlat : List ℕ → ℕ → ℕ → ℕ → Type 0
ChecksFlat b n code n' = Tells (check b) n code n'

abbrev pub OpensFlat : List ℕ → ℕ → List ℕ → ℕ → List ℕ → Type 0
OpensFlat b order ws code ws' = Sets (counted ws cursor_count (bind (order_in order) λ d. open_block b d)) cursor_words ws code ws'

abbrev pub TellsFlat : List ℕ → List ℕ → ℕ → ℕ → ℕ → Type 0
TellsFlat b ws n code n' = Tells (bind (cursor_in ws []) λ c. bind (is_empty c b) λ e. ok (truth_word e)) n code n'

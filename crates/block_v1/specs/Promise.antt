-- What each public function promises: equations to the definitions of `layout_v1`, that settle each number answered, each byte lent and the whole builder given back.
use Rattle.std.specs.Prelude.{ℕ, ◌≡◌, Bool, List, length, Result, ⊤}
use Rattle.layout.specs.Res.{Res, whether}
use Rattle.layout.specs.Key.{Key}
use Rattle.layout.specs.Row.{Fields}
use Rattle.layout_v1.specs.Builder.{Builder, new_builder, built, has_no_rows, would_fit, add, state_after_of, data_after_of, places_after_of, build, block_after_of}
use Rattle.row_flags.specs.Says.{fields_from}
use Rattle.row_flags.specs.declared.RowFields.{RowFields}
use Rattle.basics.specs.Answers.{says_same, says_verdict}
use Rattle.basics.specs.declared.Refusal.{Refusal}
use Rattle.build_in_place_v1.specs.Promise.{kept_after}
use Rattle.state_v1.specs.Says.{state_from}
use Rattle.block_v1.specs.declared.BlockBuilderV1.{BlockBuilderV1}
use Rattle.block_v1.specs.declared.New.{New}
use Rattle.block_v1.specs.declared.Added.{Added}
use Rattle.block_v1.specs.declared.Built.{Built}
use Rattle.block_v1.specs.Says.{view_of, builder_from, no_key}

-- the builder that is wanted, or beside a refusal the zero one, with no byte set in its first key
pub record MakesAs (want : Res Builder) (r : New) : Type 0 where
  pub answer : says_verdict r.answer ≡ whether want
  pub view : view_of r.builder ≡ built want
  pub key-bytes : r.builder.first_key ≡ no_key

abbrev pub Makes : ℕ → New → Type 0
Makes size r = MakesAs (new_builder size) r

abbrev pub Fits : BlockBuilderV1 → ℕ → ℕ → Key → List ℕ → RowFields → Result ⊤ Refusal → Type 0
Fits self data_len places_len key value row r = says_verdict r ≡ would_fit (view_of self) data_len places_len key (fields_from row value)

-- the builder given back: a refusal gives it as it came, bytes past the first key's length included; the first row's key lies over the start of those bytes
pub record AddsAs (want : Res Builder) (self : BlockBuilderV1) (bytes places : List ℕ) (key : Key) (f : Fields) (r : Added) (bytes' places' : List ℕ) : Type 0 where
  pub answer : says_verdict r.answer ≡ whether want
  pub view : view_of r.builder ≡ state_after_of want (view_of self)
  pub whole : r.builder ≡ builder_from (state_from (state_after_of want (view_of self))) (kept_after want self.state.rows key self.first_key)
  pub bytes_after : bytes' ≡ data_after_of want (view_of self) key f bytes
  pub places-after : places' ≡ places_after_of want (view_of self) places

abbrev pub Adds : BlockBuilderV1 → List ℕ → List ℕ → Key → List ℕ → RowFields → Added → List ℕ → List ℕ → Type 0
Adds self bytes places key value row r bytes' places' =
    AddsAs (add (view_of self) (length bytes) (length places) key (fields_from row value)) self bytes places key (fields_from row value) r bytes' places'

abbrev pub Empties : BlockBuilderV1 → Bool → Type 0
Empties self r = r ≡ has_no_rows (view_of self)

pub record BuildsAs (want : Res ℕ) (self : BlockBuilderV1) (bytes places : List ℕ) (r : Built) (bytes' : List ℕ) : Type 0 where
  pub answer : says_same r.answer ≡ want
  pub whole : r.builder ≡ self
  pub bytes_after : bytes' ≡ block_after_of want (view_of self) bytes places

abbrev pub Builds : BlockBuilderV1 → List ℕ → List ℕ → Built → List ℕ → Type 0
Builds self bytes places r bytes' = BuildsAs (build (view_of self) (length bytes) (length places)) self bytes places r bytes'

-- What each public function promises: equations to the definitions of `layout`, that settle each number answered, each byte lent and the whole builder given back.
use Rattle.std.specs.Prelude.{ℕ, ◌≡◌, Bool, List, length, Result, ⊤}
use Rattle.layout.specs.Res.{Res, ok, refuse, whether}
use Rattle.layout.specs.Builder.{Builder, new_builder, built, has_no_rows, would_fit, add, state_after_of, data_after_of, places_after_of, build, block_after_of}
use Rattle.layout.specs.Key.{Key}
use Rattle.layout.specs.Place.{splice}
use Rattle.layout.specs.Row.{Fields}
use Rattle.row_flags.specs.Says.{fields_from}
use Rattle.row_flags.specs.declared.RowFields.{RowFields}
use Rattle.basics.specs.Answers.{says_same, says_verdict}
use Rattle.basics.specs.declared.Refusal.{Refusal}
use Rattle.state_v2.specs.Says.{state_from}
use Rattle.block_v2.specs.declared.BlockBuilderV2.{BlockBuilderV2}
use Rattle.block_v2.specs.declared.New.{New}
use Rattle.block_v2.specs.declared.Added.{Added}
use Rattle.block_v2.specs.declared.Built.{Built}
use Rattle.block_v2.specs.Says.{view_of, builder_from, no_key}

-- the builder that is wanted, or beside a refusal the zero one, with no byte set in its last key
pub record MakesAs (want : Res Builder) (r : New) : Type 0 where
  pub answer : says_verdict r.answer ≡ whether want
  pub view : view_of r.builder ≡ built want
  pub key-bytes : r.builder.last_key ≡ no_key

abbrev pub Makes : ℕ → ℕ → New → Type 0
Makes size interval r = MakesAs (new_builder size interval) r

abbrev pub Fits : BlockBuilderV2 → ℕ → ℕ → Key → List ℕ → RowFields → Result ⊤ Refusal → Type 0
Fits self data_len places_len key value row r = says_verdict r ≡ would_fit (view_of self) data_len places_len key (fields_from row value)

-- the builder given back: a refusal gives it as it came, bytes past the last key's length included; an accepted row's key lies over the start of those bytes
abbrev pub builder_after : Res Builder → Key → BlockBuilderV2 → BlockBuilderV2
builder_after (ok v) key self = builder_from (state_from v) (splice self.last_key 0 key)
builder_after (refuse n) key self = self

pub record AddsAs (want : Res Builder) (self : BlockBuilderV2) (bytes places : List ℕ) (key : Key) (f : Fields) (r : Added) (bytes' places' : List ℕ) : Type 0 where
  pub answer : says_verdict r.answer ≡ whether want
  pub view : view_of r.builder ≡ state_after_of want (view_of self)
  pub whole : r.builder ≡ builder_after want key self
  pub bytes_after : bytes' ≡ data_after_of want (view_of self) key f bytes
  pub places-after : places' ≡ places_after_of want (view_of self) places

abbrev pub Adds : BlockBuilderV2 → List ℕ → List ℕ → Key → List ℕ → RowFields → Added → List ℕ → List ℕ → Type 0
Adds self bytes places key value row r bytes' places' =
    AddsAs (add (view_of self) (length bytes) (length places) key (fields_from row value)) self bytes places key (fields_from row value) r bytes' places'

abbrev pub Empties : BlockBuilderV2 → Bool → Type 0
Empties self r = r ≡ has_no_rows (view_of self)

pub record BuildsAs (want : Res ℕ) (self : BlockBuilderV2) (bytes places : List ℕ) (r : Built) (bytes' : List ℕ) : Type 0 where
  pub answer : says_same r.answer ≡ want
  pub whole : r.builder ≡ self
  pub bytes_after : bytes' ≡ block_after_of want (view_of self) bytes places

abbrev pub Builds : BlockBuilderV2 → List ℕ → List ℕ → Built → List ℕ → Type 0
Builds self bytes places r bytes' = BuildsAs (build (view_of self) (length bytes) (length places)) self bytes places r bytes'

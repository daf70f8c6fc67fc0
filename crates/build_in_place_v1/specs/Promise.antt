-- What each public function promises: equations to the definitions of `layout_v1`, that settle each number answered and each byte lent.
use Rattle.std.specs.Prelude.{ℕ, ◌≡◌, cond, not, List, eqb, length, Result, ⊤}
use Rattle.layout.specs.Res.{Res, ok, refuse, bind, guard, whether}
use Rattle.layout.specs.Key.{Key}
use Rattle.layout.specs.Limits.{max_key}
use Rattle.layout.specs.Place.{splice}
use Rattle.layout.specs.Row.{Fields}
use Rattle.layout_v1.specs.Builder.{Builder, would_fit, add, state_after_of, data_after_of, places_after_of}
use Rattle.basics.specs.Answers.{says_verdict}
use Rattle.basics.specs.declared.Refusal.{Refusal}
use Rattle.row_flags.specs.Says.{fields_from}
use Rattle.row_flags.specs.declared.RowFields.{RowFields}
use Rattle.state_v1.specs.declared.State.{State}
use Rattle.state_v1.specs.Says.{view_from, state_from}
use Rattle.build_in_place_v1.specs.declared.Grown.{Grown}

-- the builder of these numbers and of the lent bytes of its first key, which must be as many as the longest key has: 18
abbrev pub entered : State → List ℕ → Res Builder
entered s first = guard (not (eqb (length first) max_key)) 18 (ok (view_from s first))

abbrev pub FitsInPlace : State → List ℕ → ℕ → ℕ → Key → List ℕ → RowFields → Result ⊤ Refusal → Type 0
FitsInPlace s first data_len places_len key value row r = says_verdict r ≡ bind (entered s first) λ v. would_fit v data_len places_len key (fields_from row value)

-- the lent bytes of the first key: the first row's key lies over their start, and stays
abbrev pub kept_after : Res Builder → ℕ → Key → List ℕ → List ℕ
kept_after (ok v) rows key first = cond (eqb rows 0) (splice first 0 key) first
kept_after (refuse n) rows key first = first

pub record AddsInPlaceAs (want : Res Builder) (s : State) (first bytes places : List ℕ) (key : Key) (f : Fields) (r : Grown) (first' bytes' places' : List ℕ) : Type 0 where
  pub answer : says_verdict r.answer ≡ whether want
  pub state : r.state ≡ state_from (state_after_of want (view_from s first))
  pub first-after : first' ≡ kept_after want s.rows key first
  pub bytes_after : bytes' ≡ data_after_of want (view_from s first) key f bytes
  pub places-after : places' ≡ places_after_of want (view_from s first) places

abbrev pub AddsInPlace : State → List ℕ → List ℕ → List ℕ → Key → List ℕ → RowFields → Grown → List ℕ → List ℕ → List ℕ → Type 0
AddsInPlace s first bytes places key value row r first' bytes' places' =
    AddsInPlaceAs (bind (entered s first) λ v. add v (length bytes) (length places) key (fields_from row value)) s first bytes places key (fields_from row value) r first' bytes' places'

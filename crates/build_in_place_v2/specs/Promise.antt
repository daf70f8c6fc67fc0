-- What each public function promises: equations to the definitions of `layout`, that settle each number answered and each byte lent.
use Rattle.std.specs.Prelude.{ℕ, ◌≡◌, not, List, eqb, length, Result, ⊤}
use Rattle.layout.specs.Res.{Res, ok, refuse, bind, guard}
use Rattle.layout.specs.Builder.{Builder, would_fit, add, data_after_of, places_after_of}
use Rattle.layout.specs.Key.{Key}
use Rattle.layout.specs.Limits.{max_key}
use Rattle.layout.specs.Place.{splice}
use Rattle.layout.specs.Row.{Fields}
use Rattle.basics.specs.Answers.{says_same, says_verdict}
use Rattle.basics.specs.declared.Refusal.{Refusal}
use Rattle.row_flags.specs.Says.{fields_from}
use Rattle.row_flags.specs.declared.RowFields.{RowFields}
use Rattle.state_v2.specs.declared.State.{State}
use Rattle.state_v2.specs.Says.{view_from, state_from}

-- the builder of these numbers and of the lent bytes of its last key, which must be as many as the longest key has: 18
abbrev pub entered : State → List ℕ → Res Builder
entered s last = guard (not (eqb (length last) max_key)) 18 (ok (view_from s last))

abbrev pub FitsInPlace : State → List ℕ → ℕ → ℕ → Key → List ℕ → RowFields → Result ⊤ Refusal → Type 0
FitsInPlace s last data_len places_len key value row r = says_verdict r ≡ bind (entered s last) λ v. would_fit v data_len places_len key (fields_from row value)

-- the lent bytes of the last key: an accepted row's key lies over their start
abbrev pub last_after : Res Builder → Key → List ℕ → List ℕ
last_after (ok v) key last = splice last 0 key
last_after (refuse n) key last = last

pub record AddsInPlaceAs (want : Res Builder) (s : State) (last bytes places : List ℕ) (key : Key) (f : Fields) (r : Result State Refusal) (last' bytes' places' : List ℕ) : Type 0 where
  pub answer : says_same r ≡ bind want λ v. ok (state_from v)
  pub last-after : last' ≡ last_after want key last
  pub bytes_after : bytes' ≡ data_after_of want (view_from s last) key f bytes
  pub places-after : places' ≡ places_after_of want (view_from s last) places

abbrev pub AddsInPlace : State → List ℕ → List ℕ → List ℕ → Key → List ℕ → RowFields → Result State Refusal → List ℕ → List ℕ → List ℕ → Type 0
AddsInPlace s last bytes places key value row r last' bytes' places' =
    AddsInPlaceAs (bind (entered s last) λ v. add v (length bytes) (length places) key (fields_from row value)) s last bytes places key (fields_from row value) r last' bytes' places'

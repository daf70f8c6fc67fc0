-- What adding a row over lent words promises, whether in place or by value: the code that is answered, and what each lent word and byte is after it.
use Rattle.std.specs.Prelude.{ℕ, ◌≡◌, List, length}
use Rattle.layout.specs.Res.{Res, ok, bind}
use Rattle.layout.specs.Limits.{max_key}
use Rattle.layout.specs.Key.{Key}
use Rattle.layout.specs.Place.{splice}
use Rattle.layout.specs.Row.{Fields}
use Rattle.layout.specs.Builder.{Builder, add, data_after_of, places_after_of}
use Rattle.builder_words.specs.Says.{Gain, gain_is}
use Rattle.row_words.specs.Words.{code_of, set_by, counted, builder_from, builder_words, fields_in, builder_count}

-- a row that is added: the builder then, and what was offered with the key
abbrev pub gain : Builder → List ℕ → List ℕ → Key → Fields → Res Gain
gain v bytes places key f = bind (add v (length bytes) (length places) key f) λ w. ok (gain_is w f)

pub record AddsAs (want : Res Gain) (v : Builder) (key : Key) (ws last bytes places : List ℕ) (code : ℕ) (ws' last' bytes' places' : List ℕ) : Type 0 where
  pub answer : code ≡ code_of want
  pub state : ws' ≡ set_by want (λ g. builder_words g.builder) ws
  pub last-after : last' ≡ set_by want (λ g. splice last 0 key) last
  pub bytes_after : bytes' ≡ set_by want (λ g. data_after_of (ok g.builder) v key g.fields bytes) bytes
  pub places-after : places' ≡ set_by want (λ g. places_after_of (ok g.builder) v places) places

abbrev pub AddsFlat : List ℕ → Key → List ℕ → List ℕ → Key → List ℕ → List ℕ → ℕ → List ℕ → List ℕ → List ℕ → List ℕ → Type 0
AddsFlat ws last bytes places key value fs code ws' last' bytes' places' =
    AddsAs (counted ws builder_count (counted last max_key (bind (fields_in fs value) λ f. gain (builder_from ws last) bytes places key f))) (builder_from ws last) key ws last bytes places
    code ws' last' bytes' places'

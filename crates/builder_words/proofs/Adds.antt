-- Adding a row over lent words: what each exit leaves, in place and by value alike, from the builder that is wanted.
-- The tests of the words come first, all of `offer_in`, and leave everything; once they are passed the promise is about `add` alone (`adds-asked`), and it is kept in two cases, a row
-- added and a refusal.
use Prim.Native.Nat.{ℕ}
use mathlib.Core.Path.{◌≡◌, refl}
use mathlib.Core.List.{List}
use lib.ListN.{length}
use borrow.Author.Tests.{eq-eqb}
use Rattle.layout.specs.Res.{Res, ok, refuse, bind}
use Rattle.layout.specs.Builder.{Builder, add, data_after_of, places_after_of}
use Rattle.layout.specs.Key.{Key}
use Rattle.layout.specs.Limits.{max_key}
use Rattle.layout.specs.Place.{splice}
use Rattle.layout.specs.Row.{Fields}
use Rattle.row_flags.specs.Says.{fields_from}
use Rattle.row_flags.specs.declared.RowFields.{RowFields}
use Rattle.row_words.specs.Words.{bad_words, builder_from, builder_words, fields_in, builder_count}
use Rattle.builder_words.specs.Says.{Gain, gain_is}
use Rattle.builder_words.specs.Promise.{offer_in}
use Rattle.builder_words.specs.Exports.{gain, AddsAs, AddsFlat}
use Rattle.builder_words.proofs.Starts.{offer_bad}

abbrev pub gained : Fields → Builder → Res Gain
gained f w = ok (gain_is w f)

-- the builder is wanted, and this is what is left with it
module _ (want : Res Builder) (v : Builder) (key : Key) (f : Fields) (ws last bytes places bytes' places' : List ℕ) (b : bytes' ≡ data_after_of want v key f bytes)
    (o : places' ≡ places_after_of want v places) where
  pub added : (w : Builder) → want ≡ ok w → {ws' last' : List ℕ} → ws' ≡ builder_words w → last' ≡ splice last 0 key
      → AddsAs (bind want (gained f)) v key ws last bytes places 0 ws' last' bytes' places'
  added w e s l =
      let h = rw e at b in
      let g = rw e at o in
      rw e (record { answer = refl; state = s; last-after = l; bytes_after = h; places-after = g })

  pub unadded : (k : ℕ) → want ≡ refuse k → {code : ℕ} {last' : List ℕ} → code ≡ k → last' ≡ last
      → AddsAs (bind want (gained f)) v key ws last bytes places code ws last' bytes' places'
  unadded k e q l =
      let h = rw e at b in
      let g = rw e at o in
      rw e (record { answer = q; state = refl; last-after = l; bytes_after = h; places-after = g })

-- the builder that is wanted
abbrev pub add_wanted : List ℕ → List ℕ → List ℕ → List ℕ → List ℕ → List ℕ → RowFields → Res Builder
add_wanted ws last bytes places key value f = add (builder_from ws last) (length bytes) (length places) key (fields_from f value)

module _ (ws last bytes places key value fs : List ℕ) where
  pub adds_bad : offer_in ws last fs value ≡ refuse bad_words → AddsFlat ws last bytes places key value fs bad_words ws last bytes places
  adds_bad e = rw (offer_bad ws last fs value (λ (o : Gain). gain o.builder bytes places key o.fields) e) (record { answer = refl; state = refl; last-after = refl; bytes_after = refl; places-after = refl })

  module _ (f : RowFields) (h : length ws ≡ builder_count) (k : length last ≡ max_key) (is : fields_in fs value ≡ ok (fields_from f value)) where
    pub adds-asked : {code : ℕ} {ws' last' bytes' places' : List ℕ}
        → AddsAs (bind (add_wanted ws last bytes places key value f) (gained (fields_from f value))) (builder_from ws last) key ws last bytes places code ws' last' bytes' places'
        → AddsFlat ws last bytes places key value fs code ws' last' bytes' places'
    adds-asked a = rw (eq-eqb (length ws) builder_count h, eq-eqb (length last) max_key k, is) a

-- What the exits of the exports use, over plain variables: what a good, a refused or a done answer sets and leaves.
-- Past the tests of the words the promise is the definition's answer, which the function below has given, of numbers alone: so for any bytes of a key, and for none. A refusal
-- leaves what was lent.
use Prim.Native.Nat.{ℕ}
use mathlib.Core.Bool.{Bool}
use mathlib.Core.Path.{◌≡◌, refl, ap, ◌∙◌}
use mathlib.Core.List.{List, []}
use lib.ListN.{length}
use borrow.Author.Tests.{eq-eqb, ne_eqb}
use Rattle.std.specs.Prelude.{Result, Ok, Err}
use Rattle.layout.specs.Res.{Res, ok, refuse}
use Rattle.layout.specs.Builder.{new_builder, built, has_no_rows}
use Rattle.layout.specs.Cursor.{open_block}
use Rattle.layout.proofs.Laws.Res.{whether-good, whether-refused}
use Rattle.basics.specs.Answers.{yes}
use Rattle.basics.specs.Answers.{says_verdict, says_same}
use Rattle.basics.specs.Number.{number}
use Rattle.basics.specs.declared.Refusal.{Refusal}
use Rattle.basics.specs.Says.{says_order}
use Rattle.basics.specs.declared.IterationOrder.{IterationOrder}
use Rattle.finish_in_place_v2.specs.Promise.{Finishes}
use Rattle.state_v2.specs.Promise.{MakesState}
use Rattle.state_v2.specs.Says.{view_from}
use Rattle.state_v2.specs.declared.NewState.{NewState}
use Rattle.place_v2.proofs.Opens.{opened-so, opened-not}
use Rattle.place_v2.specs.Promise.{OpensPlace, TellsPlaceEmpty}
use Rattle.place_v2.specs.Says.{view_in}
use Rattle.place_v2.specs.declared.OpenedPlace.{OpenedPlace}
use Rattle.place_v2.specs.declared.Place.{Place}
use Rattle.row_words.specs.Words.{bad_words, truth_word, order_in, cursor_in, cursor_words, builder_from, builder_words, builder_count, cursor_count}
use Rattle.builder_words.specs.Says.{state_in}
use Rattle.row_words.proofs.Laws.{counted-not, counted-so}
use Rattle.row_words.specs.Flat.{sets-good, sets-refused}
use Rattle.slatedb_block.specs.Promise.{Tells, MakesFlat, EmptiesFlat, BuildsFlat, OpensFlat, TellsFlat}

-- ---- what is set

pub tells-good : {want : Res ℕ} {n x : ℕ} → want ≡ ok x → Tells want n 0 x
tells-good e = rw e (record { answer = refl; number = refl })

pub tells-refused : {want : Res ℕ} {n k code : ℕ} → want ≡ refuse k → code ≡ k → Tells want n code n
tells-refused e q = rw (e, q) (record { answer = refl; number = refl })

-- ---- building a block

pub makes-short : (ws : List ℕ) (size interval : ℕ) → (length ws ≡ builder_count → ⊥) → MakesFlat ws size interval bad_words ws
makes-short ws size interval h = sets-refused (counted-not ws builder_count (new_builder size interval) h) refl

module _ (ws : List ℕ) (size interval : ℕ) (r : NewState) (h : length ws ≡ builder_count) (m : MakesState size interval r) where
  pub makes-good : {ws' : List ℕ} → r.answer ≡ Ok tt → ws' ≡ builder_words (view_from r.state []) → MakesFlat ws size interval 0 ws'
  makes-good e q =
      let w = whether-good (new_builder size interval) (view_from r.state []) (yes says_verdict m.answer e) (λ a z. m.view [] ∙ ap built z) in
      sets-good (view_from r.state []) (counted-so ws builder_count (new_builder size interval) h ∙ w) q

  pub makes-refused : {x : Refusal} {code : ℕ} → r.answer ≡ Err x → code ≡ number x → MakesFlat ws size interval code ws
  makes-refused {x} e q = sets-refused (counted-so ws builder_count (new_builder size interval) h ∙ whether-refused (new_builder size interval) (number x) (yes says_verdict m.answer e)) q

pub empties-short : (ws : List ℕ) (n : ℕ) → (length ws ≡ builder_count → ⊥) → EmptiesFlat ws n bad_words n
empties-short ws n h = tells-refused (rw (ne_eqb (length ws) builder_count h) refl) refl

pub empties : (ws : List ℕ) (n x : ℕ) (b : Bool) → length ws ≡ builder_count → b ≡ has_no_rows (builder_from ws []) → x ≡ truth_word b → EmptiesFlat ws n 0 x
empties ws n x b h e q = rw (q, e) (tells-good (rw (eq-eqb (length ws) builder_count h) refl))

pub builds-short : (ws bytes places : List ℕ) (n : ℕ) → (length ws ≡ builder_count → ⊥) → BuildsFlat ws bytes places n bad_words bytes n
builds-short ws bytes places n h = rw (ne_eqb (length ws) builder_count h) (record { told = record { answer = refl; number = refl }; bytes_after = refl })

module _ (ws bytes places bytes' : List ℕ) (n : ℕ) (r : Result ℕ Refusal) (h : length ws ≡ builder_count) (b : Finishes (state_in ws) bytes places r bytes') where
  pub builds-block : {k : ℕ} → r ≡ Ok k → BuildsFlat ws bytes places n 0 bytes' k
  builds-block {k} e =
      let w = yes says_same (b []).answer e in
      let after = rw w at (b []).bytes_after in
      rw (eq-eqb (length ws) builder_count h, w) (record { told = record { answer = refl; number = refl }; bytes_after = after })

  pub builds-refused : {x : Refusal} {code : ℕ} → r ≡ Err x → code ≡ number x → BuildsFlat ws bytes places n code bytes' n
  builds-refused {x} e q =
      let w = yes says_same (b []).answer e in
      let after = rw w at (b []).bytes_after in
      rw (eq-eqb (length ws) builder_count h, w, q) (record { told = record { answer = refl; number = refl }; bytes_after = after })

-- ---- opening

pub opens-short : (b : List ℕ) (order : ℕ) (ws : List ℕ) → (length ws ≡ cursor_count → ⊥) → OpensFlat b order ws bad_words ws
opens-short b order ws h = sets-refused (counted-not ws cursor_count _ h) refl

pub opens-no-order : (b : List ℕ) (order : ℕ) (ws : List ℕ) → length ws ≡ cursor_count → order_in order ≡ refuse bad_words → OpensFlat b order ws bad_words ws
opens-no-order b order ws h o = sets-refused (counted-so ws cursor_count _ h ∙ rw o refl) refl

module _ (b : List ℕ) (order : ℕ) (ws : List ℕ) (r : OpenedPlace) (o : IterationOrder) (h : length ws ≡ cursor_count) (is : order_in order ≡ ok (says_order o)) (opens : OpensPlace b o r) where
  pub opens-good : {ws' : List ℕ} → r.answer ≡ Ok tt → ws' ≡ cursor_words (view_in r.place []) → OpensFlat b order ws 0 ws'
  opens-good e q =
      let w = opened-so (says_order o) (open_block b (says_order o)) opens.answer (opens.view []) e in
      sets-good (view_in r.place []) (counted-so ws cursor_count _ h ∙ rw is w) q

  pub opens-refused : {x : Refusal} {code : ℕ} → r.answer ≡ Err x → code ≡ number x → OpensFlat b order ws code ws
  opens-refused {x} e q = sets-refused (counted-so ws cursor_count _ h ∙ rw is (opened-not (says_order o) (open_block b (says_order o)) opens.answer e)) q

-- ---- asking whether a row is left: the key's bytes tell nothing

pub empty-no-cursor : (b ws : List ℕ) (n : ℕ) → cursor_in ws [] ≡ refuse bad_words → TellsFlat b ws n bad_words n
empty-no-cursor b ws n e = tells-refused (rw e refl) refl

module _ (b ws : List ℕ) (n : ℕ) (p : Place) (r : Result Bool Refusal) (is : cursor_in ws [] ≡ ok (view_in p [])) (t : TellsPlaceEmpty p b r) where
  pub empty-told : {e : Bool} {x : ℕ} → r ≡ Ok e → x ≡ truth_word e → TellsFlat b ws n 0 x
  empty-told {e} {x} z q = rw q (tells-good (rw (is, yes says_same (t []) z) refl))

  pub empty-refused : {x : Refusal} {code : ℕ} → r ≡ Err x → code ≡ number x → TellsFlat b ws n code n
  empty-refused {x} z q = tells-refused {k = number x} (rw (is, yes says_same (t []) z) refl) q

-- What the exits of the exports use, over plain variables: what a good or a refused answer sets and leaves.
-- Past the tests of the words the promise is the definition's answer, which the function below has given, of numbers alone: so for any bytes of a key, and for none. A refusal
-- leaves what was lent.
use Prim.Native.Nat.{ℕ}
use mathlib.Core.Bool.{Bool}
use mathlib.Core.Path.{◌≡◌, refl, ap, ◌∙◌}
use mathlib.Core.List.{List, []}
use lib.ListN.{length}
use borrow.Author.Tests.{eq-eqb, ne_eqb}
use Rattle.std.specs.Prelude.{Result, Option, Ok, Err, Some, None, ⊤}
use Rattle.layout.specs.Res.{Res, ok, refuse}
use Rattle.layout.proofs.Laws.Res.{whether-good, whether-refused}
use Rattle.layout_v1.specs.Builder.{new_builder, built, has_no_rows}
use Rattle.layout_v1.specs.Cursor.{open_block, cursor_or}
use Rattle.basics.specs.Answers.{yes, says_verdict, says_same}
use Rattle.basics.specs.Number.{number}
use Rattle.basics.specs.Says.{says_order}
use Rattle.basics.specs.declared.IterationOrder.{IterationOrder}
use Rattle.basics.specs.declared.Refusal.{Refusal}
use Rattle.state_v1.specs.Promise.{MakesState}
use Rattle.state_v1.specs.Says.{view_from}
use Rattle.state_v1.specs.declared.NewState.{NewState}
use Rattle.finish_in_place_v1.specs.Promise.{Finishes}
use Rattle.block_iterator.specs.Promise.{Opens, TellsEmpty}
use Rattle.block_iterator.specs.Says.{view_of}
use Rattle.block_iterator.specs.declared.BlockIterator.{BlockIterator}
use Rattle.block_iterator.specs.declared.Opened.{Opened}
use Rattle.row_words.specs.Words.{bad_words, truth_word, order_in}
use Rattle.row_words.specs.Flat.{sets-good, sets-refused}
use Rattle.row_words.proofs.Laws.{counted-not, counted-so}
use Rattle.builder_words_v1.specs.Words.{builder_count, builder_from, builder_words}
use Rattle.builder_words_v1.specs.Says.{state_in}
use Rattle.cursor_words_v1.specs.Words.{cursor_count, cursor_in, cursor_words}
use Rattle.slatedb_block_v1.specs.Promise.{Tells, MakesFlat, EmptiesFlat, BuildsFlat, OpensFlat, TellsFlat}

-- ---- what is set

pub tells-good : {want : Res ℕ} {n x : ℕ} → want ≡ ok x → Tells want n 0 x
tells-good e = rw e (record { answer = refl; number = refl })

pub tells-refused : {want : Res ℕ} {n k code : ℕ} → want ≡ refuse k → code ≡ k → Tells want n code n
tells-refused e q = rw (e, q) (record { answer = refl; number = refl })

-- ---- building a block

pub makes-short : (ws : List ℕ) (size : ℕ) → (length ws ≡ builder_count → ⊥) → MakesFlat ws size bad_words ws
makes-short ws size h = sets-refused (counted-not ws builder_count (new_builder size) h) refl

module _ (ws : List ℕ) (size : ℕ) (r : NewState) (h : length ws ≡ builder_count) (m : MakesState size r) where
  pub makes-good : {ws' : List ℕ} → r.answer ≡ Ok tt → ws' ≡ builder_words (view_from r.state []) → MakesFlat ws size 0 ws'
  makes-good e q =
      let w = whether-good (new_builder size) (view_from r.state []) (yes says_verdict m.answer e) (λ a z. m.view [] ∙ ap built z) in
      sets-good (view_from r.state []) (counted-so ws builder_count (new_builder size) h ∙ w) q

  pub makes-refused : {x : Refusal} {code : ℕ} → r.answer ≡ Err x → code ≡ number x → MakesFlat ws size code ws
  makes-refused {x} e q = sets-refused (counted-so ws builder_count (new_builder size) h ∙ whether-refused (new_builder size) (number x) (yes says_verdict m.answer e)) q

pub empties-short : (ws : List ℕ) (n : ℕ) → (length ws ≡ builder_count → ⊥) → EmptiesFlat ws n bad_words n
empties-short ws n h = tells-refused (rw (ne_eqb (length ws) builder_count h) refl) refl

pub empties : (ws : List ℕ) (n x : ℕ) (b : Bool) → length ws ≡ builder_count → b ≡ has_no_rows (builder_from ws []) → x ≡ truth_word b → EmptiesFlat ws n 0 x
empties ws n x b h e q = rw (q, e) (tells-good (rw (eq-eqb (length ws) builder_count h) refl))

pub builds-short : (ws bytes places : List ℕ) (n : ℕ) → (length ws ≡ builder_count → ⊥) → BuildsFlat ws bytes places n bad_words bytes n
builds-short ws bytes places n h = rw (ne_eqb (length ws) builder_count h) (record { told = record { answer = refl; number = refl }; bytes_after = refl })

module _ (ws bytes places bytes' : List ℕ) (n : ℕ) (r : Result ℕ Refusal) (h : length ws ≡ builder_count) (b : Finishes (state_in ws) bytes places r bytes') where
  pub builds-block : {k : ℕ} → r ≡ Ok k → BuildsFlat ws bytes places n 0 bytes' k
  builds-block {k} e =
      let w = yes says_same (b []).answer e in
      let after = rw w at (b []).bytes_after in
      rw (eq-eqb (length ws) builder_count h, w) (record { told = record { answer = refl; number = refl }; bytes_after = after })

  pub builds-refused : {x : Refusal} {code : ℕ} → r ≡ Err x → code ≡ number x → BuildsFlat ws bytes places n code bytes' n
  builds-refused {x} e q =
      let w = yes says_same (b []).answer e in
      let after = rw w at (b []).bytes_after in
      rw (eq-eqb (length ws) builder_count h, w, q) (record { told = record { answer = refl; number = refl }; bytes_after = after })

-- ---- opening

pub opens-short : (b : List ℕ) (order : ℕ) (ws : List ℕ) → (length ws ≡ cursor_count → ⊥) → OpensFlat b order ws bad_words ws
opens-short b order ws h = sets-refused (counted-not ws cursor_count _ h) refl

pub opens-no-order : (b : List ℕ) (order : ℕ) (ws : List ℕ) → length ws ≡ cursor_count → order_in order ≡ refuse bad_words → OpensFlat b order ws bad_words ws
opens-no-order b order ws h o = sets-refused (counted-so ws cursor_count _ h ∙ rw o refl) refl

module _ (b : List ℕ) (order : ℕ) (ws : List ℕ) (r : Opened) (o : IterationOrder) (h : length ws ≡ cursor_count) (is : order_in order ≡ ok (says_order o)) (opens : Opens b o r) where
  pub opens-good : {ws' : List ℕ} → r.answer ≡ Ok tt → ws' ≡ cursor_words (view_of r.iterator) → OpensFlat b order ws 0 ws'
  opens-good e q =
      let w = whether-good (open_block b (says_order o)) (view_of r.iterator) (yes says_verdict opens.answer e) (λ c z. opens.view ∙ ap (cursor_or (says_order o)) z) in
      sets-good (view_of r.iterator) (counted-so ws cursor_count _ h ∙ rw is w) q

  pub opens-refused : {x : Refusal} {code : ℕ} → r.answer ≡ Err x → code ≡ number x → OpensFlat b order ws code ws
  opens-refused {x} e q =
      let w = whether-refused (open_block b (says_order o)) (number x) (yes says_verdict opens.answer e) in
      sets-refused (counted-so ws cursor_count _ h ∙ rw is w) q

-- ---- asking whether a row is left

pub empty-no-cursor : (b ws : List ℕ) (n : ℕ) → cursor_in ws ≡ refuse bad_words → TellsFlat b ws n bad_words n
empty-no-cursor b ws n e = tells-refused (rw e refl) refl

module _ (b ws : List ℕ) (n : ℕ) (c : BlockIterator) (r : Result Bool Refusal) (is : cursor_in ws ≡ ok (view_of c)) (t : TellsEmpty c b r) where
  pub empty-told : {e : Bool} {x : ℕ} → r ≡ Ok e → x ≡ truth_word e → TellsFlat b ws n 0 x
  empty-told {e} {x} z q = rw q (tells-good (rw (is, yes says_same t z) refl))

  pub empty-refused : {x : Refusal} {code : ℕ} → r ≡ Err x → code ≡ number x → TellsFlat b ws n code n
  empty-refused {x} z q = tells-refused {k = number x} (rw (is, yes says_same t z) refl) q

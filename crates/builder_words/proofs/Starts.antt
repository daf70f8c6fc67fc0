-- What a call that offers a row starts from, once its words are loaded: all the tests of words and key bytes in one answer, and what that tells of each.
-- A call's own answer is bound to the same tests: refused there, it is refused; passed there, each one is passed.
use Prim.Native.Nat.{ℕ}
use mathlib.Core.Bool.{not}
use mathlib.Core.Path.{◌≡◌, refl, ap, sym, ◌∙◌}
use mathlib.Core.List.{List}
use lib.Dec.{eqb}
use lib.ListN.{length}
use Rattle.layout.specs.Res.{Res, ok, refuse, bind}
use Rattle.layout.specs.Limits.{max_key}
use Rattle.layout.proofs.Laws.Res.{bind-then, ok-inj}
use Rattle.row_flags.specs.Says.{fields_from}
use Rattle.row_flags.specs.declared.RowFields.{RowFields}
use Rattle.state_v2.specs.Says.{view_from, state_from}
use Rattle.state_v2.specs.declared.State.{State}
use Rattle.row_words.specs.Words.{bad_words, counted, builder_from, fields_in, builder_count}
use Rattle.row_words.proofs.Laws.{counted-not, counted-so}
use Rattle.row_words.proofs.Counted.{two-bound, counted-then}
use Rattle.builder_words.specs.Says.{state_in, Gain, gain_is}
use Rattle.builder_words.specs.Promise.{offer_in}

bound-on : {A B C : Type 0} (x : Res A) (f : A → B) (k : B → Res C) → (bind (bind x λ a. ok (f a)) k) ≡ (bind x λ a. k (f a))
bound-on (ok a) f k = refl
bound-on (refuse n) f k = refl

module _ (ws last fs value : List ℕ) where
  pub offer_bad : {A : Type 0} (k : Gain → Res A) → offer_in ws last fs value ≡ refuse bad_words
      → counted ws builder_count (counted last max_key (bind (fields_in fs value) λ f. k (gain_is (builder_from ws last) f))) ≡ refuse bad_words
  offer_bad k e =
      sym (ap (λ x. counted ws builder_count (counted last max_key x)) (bound-on (fields_in fs value) (gain_is (builder_from ws last)) k))
      ∙ sym (two-bound (not (eqb (length ws) builder_count)) (not (eqb (length last) max_key)) (bind (fields_in fs value) λ f. ok (gain_is (builder_from ws last) f)) k)
      ∙ rw e refl

  pub offer-short : (length ws ≡ builder_count → ⊥) → refuse bad_words ≡ offer_in ws last fs value
  offer-short h = sym (counted-not ws builder_count _ h)

  pub offer-no-key : length ws ≡ builder_count → (length last ≡ max_key → ⊥) → refuse bad_words ≡ offer_in ws last fs value
  offer-no-key h k = sym (counted-so ws builder_count _ h ∙ counted-not last max_key _ k)

  pub offer-no-row : length ws ≡ builder_count → length last ≡ max_key → fields_in fs value ≡ refuse bad_words → refuse bad_words ≡ offer_in ws last fs value
  offer-no-row h k q = sym (counted-so ws builder_count _ h ∙ counted-so last max_key _ k ∙ rw q refl)

  pub offer-so : (s : State) (f : RowFields) → s ≡ state_in ws → length ws ≡ builder_count → length last ≡ max_key → fields_in fs value ≡ ok (fields_from f value)
      → ok (gain_is (view_from s last) (fields_from f value)) ≡ offer_in ws last fs value
  offer-so s f e h k q = rw e (sym (counted-so ws builder_count _ h ∙ counted-so last max_key _ k ∙ rw q refl))

  pub record Offers (s : State) (f : RowFields) : Type 0 where
    pub six : length ws ≡ builder_count
    pub long : length last ≡ max_key
    pub state : s ≡ state_in ws
    pub fields : fields_in fs value ≡ ok (fields_from f value)

  pub offer-tells : (s : State) (f : RowFields) → offer_in ws last fs value ≡ ok (gain_is (view_from s last) (fields_from f value)) → Offers s f
  offer-tells s f e =
      let a = counted-then ws builder_count _ _ e in
      let b = counted-then last max_key _ _ a.1 in
      bind-then (fields_in fs value) _ _ b.1 λ g q z.
      record {
        six = a.0;
        long = b.0;
        state = sym (ap (λ (o : Gain). state_from o.builder) (ok-inj z));
        fields = q ∙ ap (λ (o : Gain). ok o.fields) (ok-inj z);
      }

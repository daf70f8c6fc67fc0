-- One row sized, written and read, asked about and added: what each exit of these exports leaves, from what the function below promised.
-- The tests of the words are the definition's first ones; past them the case that the function answered leaves one case of the definition's answer, and this settles code, words and bytes.
use Prim.Native.Nat.{ℕ}
use mathlib.Core.Path.{◌≡◌, refl, ap, sym, ◌∙◌}
use mathlib.Core.List.{List, []}
use lib.ListN.{length}
use borrow.Author.Tests.{eq-eqb}
use Rattle.std.specs.Prelude.{Result, Option, Ok, Err, Some, None, ⊤}
use Rattle.layout.specs.Res.{Res, ok, refuse, bind}
use Rattle.layout.specs.Limits.{max_key}
use Rattle.layout.specs.Key.{Key}
use Rattle.layout.specs.Row.{Fields}
use Rattle.layout_v1.specs.RowRead.{decode_row}
use Rattle.layout_v1.specs.Builder.{Builder, would_fit, add}
use Rattle.basics.specs.Answers.{apart, yes, says_verdict, says_same}
use Rattle.basics.specs.Number.{number}
use Rattle.basics.specs.declared.Refusal.{Refusal}
use Rattle.row_flags.specs.Says.{fields_from}
use Rattle.row_flags.specs.declared.RowFields.{RowFields}
use Rattle.row_size_v0.specs.Promise.{Sizes}
use Rattle.row_encode_v0.specs.Promise.{Encodes}
use Rattle.row_decode_v0.specs.Promise.{Decodes}
use Rattle.row_decode_v2.specs.Says.{row_from, says_row}
use Rattle.row_decode_v2.specs.declared.Row.{Row}
use Rattle.build_in_place_v1.specs.Promise.{FitsInPlace, AddsInPlace, AddsInPlaceAs}
use Rattle.build_in_place_v1.specs.declared.Grown.{Grown}
use Rattle.state_v1.specs.Says.{view_from}
use Rattle.state_v1.specs.declared.State.{State}
use Rattle.row_words.specs.Words.{bad_words, code_of, fields_in, single_words, single_count}
use Rattle.row_words.specs.Flat.{sets-good, sets-refused}
use Rattle.row_words.proofs.Laws.{counted-not, counted-so}
use Rattle.builder_words_v1.specs.Words.{builder_count, builder_from, builder_words}
use Rattle.builder_words_v1.specs.Says.{state_in, Gain, gain_is}
use Rattle.builder_words_v1.specs.Promise.{offer_in}
use Rattle.builder_words_v1.proofs.Starts.{Offers, offer_bad, offer-tells}
use Rattle.slatedb_block_v1.specs.Promise.{gain, SizesFlat, EncodesFlat, DecodesFlat, FitsFlat, AddsAs, AddsFlat}
use Rattle.slatedb_block_v1.proofs.Laws.{tells-good, tells-refused}

-- ---- its size

module _ (shared suffix_len value_len : ℕ) (fs : List ℕ) (n : ℕ) where
  pub sizes_bad : fields_in fs [] ≡ refuse bad_words → SizesFlat shared suffix_len value_len fs n bad_words n
  sizes_bad e = tells-refused (rw e refl) refl

  module _ (f : RowFields) (r : Result ℕ Refusal) (is : fields_in fs [] ≡ ok (fields_from f [])) (p : Sizes shared suffix_len f.kind value_len f.expire f.create r) where
    pub sizes-good : {k : ℕ} → r ≡ Ok k → SizesFlat shared suffix_len value_len fs n 0 k
    sizes-good e = let w = yes says_same p e in tells-good (rw is w)

    pub sizes-refused : {x : Refusal} {code : ℕ} → r ≡ Err x → code ≡ number x → SizesFlat shared suffix_len value_len fs n code n
    sizes-refused {x} e q = let w = yes says_same p e in tells-refused {k = number x} (rw is w) q

-- ---- encode

module _ (first_len shared : ℕ) (suffix value fs out : List ℕ) (n : ℕ) where
  pub encodes_bad : fields_in fs value ≡ refuse bad_words → EncodesFlat first_len shared suffix value fs out n bad_words out n
  encodes_bad e = rw e (record { told = record { answer = refl; number = refl }; bytes = refl })

  module _ (f : RowFields) (r : Result ℕ Refusal) (out' : List ℕ) (is : fields_in fs value ≡ ok (fields_from f value)) (p : Encodes first_len shared suffix value f out r out') where
    pub encodes-good : {k : ℕ} → r ≡ Ok k → EncodesFlat first_len shared suffix value fs out n 0 out' k
    encodes-good e = rw is (record { told = tells-good (yes says_same p.answer e); bytes = p.bytes })

    pub encodes-refused : {x : Refusal} {code : ℕ} → r ≡ Err x → code ≡ number x → EncodesFlat first_len shared suffix value fs out n code out' n
    encodes-refused {x} e q = rw is (record { told = tells-refused {k = number x} (yes says_same p.answer e) q; bytes = p.bytes })

-- ---- decode

module _ (s : List ℕ) (first_len : ℕ) (row : List ℕ) where
  pub decodes-short : (length row ≡ single_count → ⊥) → DecodesFlat s first_len row bad_words row
  decodes-short h = sets-refused (counted-not row single_count (decode_row s first_len) h) refl

  module _ (a : Result Row Refusal) (h : length row ≡ single_count) (d : Decodes s first_len a) where
    pub decodes-good : {r : Row} {row' : List ℕ} → a ≡ Ok r → row' ≡ single_words (row_from r) → DecodesFlat s first_len row 0 row'
    decodes-good {r} e q = sets-good (row_from r) (counted-so row single_count (decode_row s first_len) h ∙ yes says_row d e) q

    pub decodes-refused : {x : Refusal} {code : ℕ} → a ≡ Err x → code ≡ number x → DecodesFlat s first_len row code row
    decodes-refused e q = sets-refused (counted-so row single_count (decode_row s first_len) h ∙ yes says_row d e) q

-- ---- the fit question

module _ (ws first : List ℕ) (data_len places_len : ℕ) (key value fs : List ℕ) where
  pub fits_bad : offer_in ws first fs value ≡ refuse bad_words → FitsFlat ws first data_len places_len key value fs bad_words
  fits_bad e = sym (ap code_of (offer_bad ws first fs value (λ (o : Gain). would_fit o.builder data_len places_len key o.fields) e))

  module _ (s : State) (f : RowFields) (a : Result ⊤ Refusal) (e : offer_in ws first fs value ≡ ok (gain_is (view_from s first) (fields_from f value)))
      (p : FitsInPlace s first data_len places_len key value f a) where
    o : Offers ws first fs value s f
    o = offer-tells ws first fs value s f e

    -- the lent bytes are as many as they must be, so none are refused for that
    said : says_verdict a ≡ would_fit (builder_from ws first) data_len places_len key (fields_from f value)
    said = rw (o.state, eq-eqb (length first) max_key o.long) at p

    pub fits-yes : a ≡ Ok tt → FitsFlat ws first data_len places_len key value fs 0
    fits-yes z = rw (eq-eqb (length ws) builder_count o.count, eq-eqb (length first) max_key o.long, o.fields) (sym (ap code_of (yes says_verdict said z)))

    pub fits_refused : {x : Refusal} {code : ℕ} → a ≡ Err x → code ≡ number x → FitsFlat ws first data_len places_len key value fs code
    fits_refused {x} z q = rw (eq-eqb (length ws) builder_count o.count, eq-eqb (length first) max_key o.long, o.fields) (q ∙ sym (ap code_of (yes says_verdict said z)))

-- ---- adding

abbrev gained : Fields → Builder → Res Gain
gained f w = ok (gain_is w f)

module _ (s : State) (ws first bytes places : List ℕ) (key : Key) (f : Fields) (r : Grown) (first' bytes' places' : List ℕ) where
  grown-good : (want : Res Builder) → AddsInPlaceAs want s first bytes places key f r first' bytes' places' → {ws' : List ℕ} → r.answer ≡ Ok tt
      → ws' ≡ builder_words (view_from r.state []) → AddsAs (bind want (gained f)) (view_from s first) key ws first bytes places 0 ws' first' bytes' places'
  grown-good (ok w) p e q =
      record {
        answer = refl;
        state = q ∙ ap (λ (x : State). builder_words (view_from x [])) p.state;
        first-after = p.first-after;
        bytes_after = p.bytes_after;
        places-after = p.places-after;
      }
  grown-good (refuse n) p e q = absurd (apart (sym (yes says_verdict p.answer e)))

  grown-refused : (want : Res Builder) → AddsInPlaceAs want s first bytes places key f r first' bytes' places' → {x : Refusal} {code : ℕ} → r.answer ≡ Err x
      → code ≡ number x → AddsAs (bind want (gained f)) (view_from s first) key ws first bytes places code ws first' bytes' places'
  grown-refused (ok w) p e q = absurd (apart (yes says_verdict p.answer e))
  grown-refused (refuse n) p e q =
      record {
        answer = q ∙ sym (ap code_of (yes says_verdict p.answer e));
        state = refl;
        first-after = p.first-after;
        bytes_after = p.bytes_after;
        places-after = p.places-after;
      }

module _ (ws first bytes places key value fs : List ℕ) where
  pub adds_bad : offer_in ws first fs value ≡ refuse bad_words → AddsFlat ws first bytes places key value fs bad_words ws first bytes places
  adds_bad e =
      rw (offer_bad ws first fs value (λ (o : Gain). gain o.builder bytes places key o.fields) e)
      (record { answer = refl; state = refl; first-after = refl; bytes_after = refl; places-after = refl })

  module _ (f : RowFields) (h : length ws ≡ builder_count) (k : length first ≡ max_key) (is : fields_in fs value ≡ ok (fields_from f value)) where
    abbrev wanted : Res Builder
    wanted = add (builder_from ws first) (length bytes) (length places) key (fields_from f value)

    asked : {code : ℕ} {ws' first' bytes' places' : List ℕ}
        → AddsAs (bind wanted (gained (fields_from f value))) (builder_from ws first) key ws first bytes places code ws' first' bytes' places'
        → AddsFlat ws first bytes places key value fs code ws' first' bytes' places'
    asked a = rw (eq-eqb (length ws) builder_count h, eq-eqb (length first) max_key k, is) a

    module _ (r : Grown) (first' bytes' places' : List ℕ) (p : AddsInPlace (state_in ws) first bytes places key value f r first' bytes' places') where
      whole : AddsInPlaceAs wanted (state_in ws) first bytes places key (fields_from f value) r first' bytes' places'
      whole = rw (eq-eqb (length first) max_key k) at p

      pub adds-good : {ws' : List ℕ} → r.answer ≡ Ok tt → ws' ≡ builder_words (view_from r.state []) → AddsFlat ws first bytes places key value fs 0 ws' first' bytes' places'
      adds-good e q = asked (grown-good (state_in ws) ws first bytes places key (fields_from f value) r first' bytes' places' wanted whole e q)

      pub adds-refused : {x : Refusal} {code : ℕ} → r.answer ≡ Err x → code ≡ number x → AddsFlat ws first bytes places key value fs code ws first' bytes' places'
      adds-refused e q = asked (grown-refused (state_in ws) ws first bytes places key (fields_from f value) r first' bytes' places' wanted whole e q)

-- One row written and read, and asked about: what each exit of these exports leaves, from what the function below promised.
-- The tests of the words are the definition's first ones; past them the case that the function answered leaves one case of the definition's answer, and this settles code, words and bytes.
use Prim.Native.Nat.{ℕ}
use mathlib.Core.Path.{◌≡◌, refl, ap, sym, ◌∙◌}
use mathlib.Core.List.{List}
use lib.ListN.{length}
use borrow.Author.Tests.{eq-eqb}
use Rattle.std.specs.Prelude.{Result, Ok, Err, ⊤}
use Rattle.layout.specs.Res.{Res, ok, refuse, bind}
use Rattle.layout.specs.Builder.{would_fit}
use Rattle.layout.specs.Limits.{max_key}
use Rattle.layout.specs.Row.{encode_row, written}
use Rattle.layout.specs.RowRead.{decode_row}
use Rattle.layout.proofs.Laws.Res.{ok-inj}
use Rattle.basics.specs.Answers.{apart, yes, says_same}
use Rattle.basics.specs.Number.{number}
use Rattle.basics.specs.declared.Refusal.{Refusal}
use Rattle.row_encode_v2.specs.Promise.{Encodes}
use Rattle.row_decode_v2.specs.Promise.{Decodes}
use Rattle.row_flags.specs.Says.{fields_from}
use Rattle.row_decode_v2.specs.Says.{row_from, says_row}
use Rattle.row_decode_v2.specs.declared.Row.{Row}
use Rattle.row_flags.specs.declared.RowFields.{RowFields}
use Rattle.build_in_place_v2.proofs.Writes.{entered-is}
use Rattle.build_in_place_v2.specs.Promise.{FitsInPlace}
use Rattle.state_v2.specs.Says.{view_from}
use Rattle.basics.specs.Answers.{says_verdict}
use Rattle.state_v2.specs.declared.State.{State}
use Rattle.row_words.specs.Words.{bad_words, code_of, builder_from, fields_in, single_words, builder_count, single_count}
use Rattle.builder_words.specs.Says.{state_in, Gain, gain_is}
use Rattle.builder_words.specs.Promise.{offer_in}
use Rattle.builder_words.proofs.Starts.{Offers, offer_bad, offer-tells}
use Rattle.row_words.proofs.Laws.{counted-not, counted-so}
use Rattle.row_words.specs.Flat.{sets-good, sets-refused}
use Rattle.slatedb_block.specs.Promise.{Lays, EncodesFlat, DecodesFlat, FitsFlat}

-- ---- encode

laid : (want : Res (List ℕ)) (out out' : List ℕ) (n k : ℕ) → (bind want λ w. ok (length w)) ≡ ok k → out' ≡ written want out → Lays want out n 0 out' k
laid (ok w) out out' n k e b = record { answer = refl; number = sym (ok-inj e); bytes = b }
laid (refuse m) out out' n k e b = absurd (apart (sym e))

unlaid : (want : Res (List ℕ)) (out out' : List ℕ) (n k code : ℕ) → (bind want λ w. ok (length w)) ≡ refuse k → out' ≡ written want out → code ≡ k → Lays want out n code out' n
unlaid (ok w) out out' n k code e b q = absurd (apart e)
unlaid (refuse m) out out' n k code e b q = record { answer = q ∙ sym (ap code_of e); number = refl; bytes = b }

module _ (prev_len shared : ℕ) (suffix value fs out : List ℕ) (n : ℕ) where
  pub encodes_bad : fields_in fs value ≡ refuse bad_words → EncodesFlat prev_len shared suffix value fs out n bad_words out n
  encodes_bad e = rw e (record { answer = refl; number = refl; bytes = refl })

  module _ (f : RowFields) (r : Result ℕ Refusal) (out' : List ℕ) (is : fields_in fs value ≡ ok (fields_from f value)) (p : Encodes prev_len shared suffix value f out r out') where
    pub encodes-good : {k : ℕ} → r ≡ Ok k → EncodesFlat prev_len shared suffix value fs out n 0 out' k
    encodes-good {k} e = rw is (laid (encode_row prev_len shared suffix (fields_from f value) (length out)) out out' n k (yes says_same p.answer e) p.bytes)

    pub encodes-refused : {x : Refusal} {code : ℕ} → r ≡ Err x → code ≡ number x → EncodesFlat prev_len shared suffix value fs out n code out' n
    encodes-refused {x} {code} e q =
        rw is (unlaid (encode_row prev_len shared suffix (fields_from f value) (length out)) out out' n (number x) code (yes says_same p.answer e) p.bytes q)

-- ---- decode

module _ (s : List ℕ) (prev_len : ℕ) (row : List ℕ) where
  pub decodes-short : (length row ≡ single_count → ⊥) → DecodesFlat s prev_len row bad_words row
  decodes-short h = sets-refused (counted-not row single_count (decode_row s prev_len) h) refl

  module _ (a : Result Row Refusal) (h : length row ≡ single_count) (d : Decodes s prev_len a) where
    pub decodes-good : {r : Row} {row' : List ℕ} → a ≡ Ok r → row' ≡ single_words (row_from r) → DecodesFlat s prev_len row 0 row'
    decodes-good {r} e q = sets-good (row_from r) (counted-so row single_count (decode_row s prev_len) h ∙ yes says_row d e) q

    pub decodes-refused : {x : Refusal} {code : ℕ} → a ≡ Err x → code ≡ number x → DecodesFlat s prev_len row code row
    decodes-refused e q = sets-refused (counted-so row single_count (decode_row s prev_len) h ∙ yes says_row d e) q

-- ---- the fit question

module _ (ws last : List ℕ) (data_len places_len : ℕ) (key value fs : List ℕ) where
  pub fits_bad : offer_in ws last fs value ≡ refuse bad_words → FitsFlat ws last data_len places_len key value fs bad_words
  fits_bad e = sym (ap code_of (offer_bad ws last fs value (λ (o : Gain). would_fit o.builder data_len places_len key o.fields) e))

  module _ (s : State) (f : RowFields) (a : Result ⊤ Refusal) (e : offer_in ws last fs value ≡ ok (gain_is (view_from s last) (fields_from f value)))
      (p : FitsInPlace s last data_len places_len key value f a) where
    o : Offers ws last fs value s f
    o = offer-tells ws last fs value s f e

    -- the lent bytes are as many as they must be, so none are refused for that
    said : says_verdict a ≡ would_fit (builder_from ws last) data_len places_len key (fields_from f value)
    said = rw (o.state, entered-is (state_in ws) last o.long) at p

    pub fits-yes : a ≡ Ok tt → FitsFlat ws last data_len places_len key value fs 0
    fits-yes z = rw (eq-eqb (length ws) builder_count o.six, eq-eqb (length last) max_key o.long, o.fields) (sym (ap code_of (yes says_verdict said z)))

    pub fits_refused : {x : Refusal} {code : ℕ} → a ≡ Err x → code ≡ number x → FitsFlat ws last data_len places_len key value fs code
    fits_refused {x} z q = rw (eq-eqb (length ws) builder_count o.six, eq-eqb (length last) max_key o.long, o.fields) (q ∙ sym (ap code_of (yes says_verdict said z)))

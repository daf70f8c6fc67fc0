-- What each exit of an export leaves, over plain variables, from what the function below promised.
-- Each is the promise of the function that is called, carried over to codes and words: the tests that were passed are rewritten away, and what is left is that function's own answer.
use Prim.Native.Nat.{ℕ}
use mathlib.Core.Path.{◌≡◌, refl, ◌∙◌}
use mathlib.Core.Bool.{Bool}
use mathlib.Core.List.{List, [], ◌∷◌}
use lib.ListN.{length, set}
use Rattle.std.specs.Prelude.{Result, Ok, Err}
use Rattle.basics.specs.declared.Read.{Read}
use Rattle.layout.specs.Res.{Res, ok, refuse, bind}
use Rattle.layout.specs.Place.{varint_at, num_at}
use Rattle.layout.specs.RowRead.{KeyRead as KeyReadL, read_key}
use Rattle.layout.specs.Varint.{varint}
use Rattle.basics.specs.Answers.{yes, says_same, says_num}
use Rattle.basics.specs.Number.{number}
use Rattle.basics.specs.declared.Refusal.{Refusal}
use Rattle.buf_mut.specs.Promise.{Puts}
use Rattle.utils_decode.specs.Promise.{ReadsVarint}
use Rattle.row_decode_v2.specs.Promise.{DecodesKey}
use Rattle.row_decode_v2.specs.Says.{key_from, says_key}
use Rattle.row_decode_v2.specs.declared.KeyPlace.{KeyPlace}
use Rattle.row_words.specs.Words.{bad_words, counted, truth_in}
use Rattle.row_words.proofs.Laws.{counted-not, counted-so}
use Rattle.row_words.specs.Flat.{sets-good, sets-refused}
use Rattle.row_words.proofs.Stores.{all-stored}
use Rattle.compare_parts.specs.Promise.{WritesVarintFlat, ReadsVarintFlat, ReadsKeyFlat}

-- ---- a varint written

module _ (v : ℕ) (out : List ℕ) (n : ℕ) (r : Result ℕ Refusal) (out' : List ℕ) (p : Puts (varint v) out 0 r out') where
  pub writes-good : {k : ℕ} → r ≡ Ok k → WritesVarintFlat v out n 0 out' k
  writes-good e = let is = yes says_same p.answer e in record { answer = rw is refl; number = rw is refl; bytes = p.bytes }

  pub writes-refused : {x : Refusal} {code : ℕ} → r ≡ Err x → code ≡ number x → WritesVarintFlat v out n code out' n
  writes-refused e q = let is = yes says_same p.answer e in record { answer = rw is q; number = rw is refl; bytes = p.bytes }

-- ---- a varint read

module _ (s : List ℕ) (at : ℕ) (ws : List ℕ) where
  pub reads_short : (length ws ≡ 2 → ⊥) → ReadsVarintFlat s at ws bad_words ws
  reads_short h = sets-refused (counted-not ws 2 (varint_at s at) h) refl

  module _ (r : Result (Read ℕ) Refusal) (h : length ws ≡ 2) (p : ReadsVarint s at r) where
    pub reads-good : {x : Read ℕ} → r ≡ Ok x → ReadsVarintFlat s at ws 0 (set (set ws 0 x.value) 1 x.next)
    reads-good {x} e = sets-good (num_at x.value x.next) (counted-so ws 2 (varint_at s at) h ∙ yes says_num p e) (all-stored (x.value ∷ x.next ∷ []) ws h)

    pub reads-refused : {x : Refusal} {code : ℕ} → r ≡ Err x → code ≡ number x → ReadsVarintFlat s at ws code ws
    reads-refused e q = sets-refused (counted-so ws 2 (varint_at s at) h ∙ yes says_num p e) q

-- ---- a key read

module _ (s : List ℕ) (at end prev_len restart : ℕ) (ws : List ℕ) where
  abbrev wanted : Bool → Res KeyReadL
  wanted b = read_key s at end prev_len b

  pub key-short : (length ws ≡ 3 → ⊥) → ReadsKeyFlat s at end prev_len restart ws bad_words ws
  key-short h = sets-refused (counted-not ws 3 (bind (truth_in restart) wanted) h) refl

  pub key-no_truth : length ws ≡ 3 → truth_in restart ≡ refuse bad_words → ReadsKeyFlat s at end prev_len restart ws bad_words ws
  key-no_truth h e = sets-refused (counted-so ws 3 (bind (truth_in restart) wanted) h ∙ rw e refl) refl

  module _ (b : Bool) (r : Result KeyPlace Refusal) (h : length ws ≡ 3) (is : truth_in restart ≡ ok b) (p : DecodesKey s at end prev_len b r) where
    asked : counted ws 3 (bind (truth_in restart) wanted) ≡ wanted b
    asked = counted-so ws 3 (bind (truth_in restart) wanted) h ∙ rw is refl

    pub key-good : {k : KeyPlace} → r ≡ Ok k
        → ReadsKeyFlat s at end prev_len restart ws 0 (set (set (set ws 0 k.shared) 1 k.suffix_at) 2 k.suffix_len)
    key-good {k} e = sets-good (key_from k) (asked ∙ yes says_key p e) (all-stored (k.shared ∷ k.suffix_at ∷ k.suffix_len ∷ []) ws h)

    pub key-refused : {x : Refusal} {code : ℕ} → r ≡ Err x → code ≡ number x → ReadsKeyFlat s at end prev_len restart ws code ws
    key-refused e q = sets-refused (asked ∙ yes says_key p e) q

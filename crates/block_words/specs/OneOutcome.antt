-- Each promise admits one outcome: two results, with the words and bytes that they leave, that both keep it are equal; but for the key bytes past the length of
-- the key that a cursor carries after a step.
use Rattle.std.specs.Prelude.{ℕ, Bool, ◌≡◌, List, [], length, take, Option}
use Rattle.std.proofs.Common.{sym, ◌∙◌}
use Rattle.layout.specs.Res.{Res, ok, refuse, bind}
use Rattle.layout.specs.Cursor.{Cursor, next}
use Rattle.layout.specs.Limits.{max_key}
use Rattle.place_v2.specs.declared.Place.{Place}
use Rattle.row_words.specs.Words.{counted, cursor_in, row_count}
use Rattle.block_words.specs.Says.{says_cursor-one}
use Rattle.block_words.specs.Promise.{LoadsCursor, PutsCursor, LoadsStep}
use Rattle.block_words.specs.Exports.{KeyLeft, StepsFlat}
use Rattle.row_words.specs.OneOutcome.{stores_settled}

-- ---- a cursor

pub cursor_in_settled : (ws : List ℕ) (r q : Option Place) → LoadsCursor ws r → LoadsCursor ws q → r ≡ q
cursor_in_settled ws r q m n = says_cursor-one [] r q (m [] ∙ sym (n []))

pub put-cursor-settled : (p : Place) (ws : List ℕ) (r q : Bool) (ys zs : List ℕ) → PutsCursor p ws r ys → PutsCursor p ws q zs → (r ≡ q) × (ys ≡ zs)
put-cursor-settled p ws r q ys zs m n = stores_settled m n

-- ---- what a call starts from

pub step_in_settled : (ws key row : List ℕ) (r q : Option Place) → LoadsStep ws key row r → LoadsStep ws key row q → r ≡ q
step_in_settled ws key row r q m n = says_cursor-one key r q (m ∙ sym n)

-- ---- the exports of the crates above

-- key bytes that agree: as far as the cursor's key goes, and after a refusal whole
abbrev pub SameKey : {A : Type 0} → Res A → (A → Cursor) → List ℕ → List ℕ → Type 0
SameKey (ok a) left ks ls = take (left a).key_len ks ≡ take (left a).key_len ls
SameKey (refuse n) left ks ls = ks ≡ ls

pub same_key : {A : Type 0} (want : Res A) (left : A → Cursor) (key ks ls : List ℕ) → KeyLeft want left key ks → KeyLeft want left key ls → SameKey want left ks ls
same_key (ok a) left key ks ls m l = m ∙ sym l
same_key (refuse n) left key ks ls m l = m ∙ sym l

-- a step, in place and by value
pub next-settled : (b ws key out row : List ℕ) (c d : ℕ) (vs us ks ls ys zs rs qs : List ℕ)
    → StepsFlat b ws key out row c vs ks ys rs → StepsFlat b ws key out row d us ls zs qs
    → (c ≡ d) × (vs ≡ us) × SameKey (counted row row_count (counted key max_key (bind (cursor_in ws key) λ k. next k b (length out)))) (λ s. s.cursor) ks ls × (ys ≡ zs) × (rs ≡ qs)
next-settled b ws key out row c d vs us ks ls ys zs rs qs m l = (
  m.answer ∙ sym l.answer,
  m.state ∙ sym l.state,
  same_key (counted row row_count (counted key max_key (bind (cursor_in ws key) λ k. next k b (length out)))) (λ s. s.cursor) key ks ls m.key-bytes l.key-bytes,
  m.lent ∙ sym l.lent,
  m.row_words ∙ sym l.row_words,
)

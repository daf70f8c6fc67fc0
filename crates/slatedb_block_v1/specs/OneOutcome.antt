-- Each promise admits one outcome: two codes, with the words, numbers and bytes that they leave, that both keep it are equal.
use Rattle.std.specs.Prelude.{ℕ, ◌≡◌, List}
use Rattle.std.proofs.Common.{sym, ◌∙◌}
use Rattle.layout.specs.Res.{Res}
use Rattle.layout.specs.Key.{Key}
use Rattle.row_words.specs.Flat.{sets-settled}
use Rattle.slatedb_block_v1.specs.Promise.{Tells, SizesFlat, EncodesFlat, DecodesFlat, MakesFlat, FitsFlat, AddsFlat, EmptiesFlat, BuildsFlat, ChecksFlat, OpensFlat, TellsFlat, StepsFlat, SeeksFlat}

tells-settled : {want : Res ℕ} {n c d x y : ℕ} → Tells want n c x → Tells want n d y → (c ≡ d) × (x ≡ y)
tells-settled a b = (a.answer ∙ sym b.answer, a.number ∙ sym b.number)

-- ---- one row

pub encoded_size-settled : (shared suffix_len value_len : ℕ) (fs : List ℕ) (n c d x y : ℕ) → SizesFlat shared suffix_len value_len fs n c x → SizesFlat shared suffix_len value_len fs n d y
    → (c ≡ d) × (x ≡ y)
encoded_size-settled shared suffix_len value_len fs n c d x y a b = tells-settled a b

pub encode-settled : (first_len shared : ℕ) (suffix value fs out : List ℕ) (n c d : ℕ) (ys zs : List ℕ) (x y : ℕ)
    → EncodesFlat first_len shared suffix value fs out n c ys x → EncodesFlat first_len shared suffix value fs out n d zs y → (c ≡ d) × (ys ≡ zs) × (x ≡ y)
encode-settled first_len shared suffix value fs out n c d ys zs x y a b = (
  a.told.answer ∙ sym b.told.answer,
  a.bytes ∙ sym b.bytes,
  a.told.number ∙ sym b.told.number,
)

pub decode-settled : (s : List ℕ) (first_len : ℕ) (row : List ℕ) (c d : ℕ) (ys zs : List ℕ) → DecodesFlat s first_len row c ys → DecodesFlat s first_len row d zs → (c ≡ d) × (ys ≡ zs)
decode-settled s first_len row c d ys zs a b = sets-settled a b

-- ---- building a block

pub builder-new-settled : (ws : List ℕ) (size c d : ℕ) (ys zs : List ℕ) → MakesFlat ws size c ys → MakesFlat ws size d zs → (c ≡ d) × (ys ≡ zs)
builder-new-settled ws size c d ys zs a b = sets-settled a b

pub builder-would-fit-settled : (ws first : List ℕ) (data_len places_len : ℕ) (key : Key) (value fs : List ℕ) (c d : ℕ)
    → FitsFlat ws first data_len places_len key value fs c → FitsFlat ws first data_len places_len key value fs d → c ≡ d
builder-would-fit-settled ws first data_len places_len key value fs c d a b = a ∙ sym b

pub builder-add-settled : (ws first bytes places : List ℕ) (key : Key) (value fs : List ℕ) (c d : ℕ) (vs ws' ks ls ys zs os ps : List ℕ)
    → AddsFlat ws first bytes places key value fs c vs ks ys os → AddsFlat ws first bytes places key value fs d ws' ls zs ps
    → (c ≡ d) × (vs ≡ ws') × (ks ≡ ls) × (ys ≡ zs) × (os ≡ ps)
builder-add-settled ws first bytes places key value fs c d vs ws' ks ls ys zs os ps a b = (
  a.answer ∙ sym b.answer,
  a.state ∙ sym b.state,
  a.first-after ∙ sym b.first-after,
  a.bytes_after ∙ sym b.bytes_after,
  a.places-after ∙ sym b.places-after,
)

pub builder-is-empty-settled : (ws : List ℕ) (n c d x y : ℕ) → EmptiesFlat ws n c x → EmptiesFlat ws n d y → (c ≡ d) × (x ≡ y)
builder-is-empty-settled ws n c d x y a b = tells-settled a b

pub builder-build-settled : (ws bytes places : List ℕ) (n c d : ℕ) (ys zs : List ℕ) (x y : ℕ) → BuildsFlat ws bytes places n c ys x → BuildsFlat ws bytes places n d zs y
    → (c ≡ d) × (ys ≡ zs) × (x ≡ y)
builder-build-settled ws bytes places n c d ys zs x y a b = (
  a.told.answer ∙ sym b.told.answer,
  a.bytes_after ∙ sym b.bytes_after,
  a.told.number ∙ sym b.told.number,
)

-- ---- reading a block

pub check-settled : (b : List ℕ) (n c d x y : ℕ) → ChecksFlat b n c x → ChecksFlat b n d y → (c ≡ d) × (x ≡ y)
check-settled b n c d x y m l = tells-settled m l

pub open_settled : (b : List ℕ) (order : ℕ) (ws : List ℕ) (c d : ℕ) (ys zs : List ℕ) → OpensFlat b order ws c ys → OpensFlat b order ws d zs → (c ≡ d) × (ys ≡ zs)
open_settled b order ws c d ys zs m l = sets-settled m l

pub is-empty-settled : (b ws : List ℕ) (n c d x y : ℕ) → TellsFlat b ws n c x → TellsFlat b ws n d y → (c ≡ d) × (x ≡ y)
is-empty-settled b ws n c d x y m l = tells-settled m l

pub next-settled : (b ws out row : List ℕ) (c d : ℕ) (vs us ys zs rs qs : List ℕ) → StepsFlat b ws out row c vs ys rs → StepsFlat b ws out row d us zs qs
    → (c ≡ d) × (vs ≡ us) × (ys ≡ zs) × (rs ≡ qs)
next-settled b ws out row c d vs us ys zs rs qs m l = (m.answer ∙ sym l.answer, m.state ∙ sym l.state, m.lent ∙ sym l.lent, m.row_words ∙ sym l.row_words)

pub seek-settled : (b target ws : List ℕ) (n c d : ℕ) (vs us : List ℕ) (x y : ℕ) → SeeksFlat b target ws n c vs x → SeeksFlat b target ws n d us y → (c ≡ d) × (vs ≡ us) × (x ≡ y)
seek-settled b target ws n c d vs us x y m l = (m.answer ∙ sym l.answer, m.state ∙ sym l.state, m.number ∙ sym l.number)

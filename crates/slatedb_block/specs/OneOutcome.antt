-- Each promise admits one outcome: two codes, with the words, numbers and bytes that they leave, that both keep it are equal. The laws of `slatedb_builder_add`
-- and `slatedb_next` are those of the functions by value too, `OneOutcome` of `builder_words` and of `block_words`; that of `slatedb_seek` is in `seek_words`.
use Rattle.std.specs.Prelude.{ℕ, ◌≡◌, List}
use Rattle.std.proofs.Common.{sym, ◌∙◌}
use Rattle.layout.specs.Res.{Res}
use Rattle.layout.specs.Key.{Key}
use Rattle.row_words.specs.Flat.{sets-settled}
use Rattle.slatedb_block.specs.Promise.{Tells, EncodesFlat, DecodesFlat, MakesFlat, FitsFlat, EmptiesFlat, BuildsFlat, ChecksFlat, OpensFlat, TellsFlat}

tells-settled : {want : Res ℕ} {n c d x y : ℕ} → Tells want n c x → Tells want n d y → (c ≡ d) × (x ≡ y)
tells-settled a b = (a.answer ∙ sym b.answer, a.number ∙ sym b.number)

-- ---- one row

pub encode-settled : (prev_len shared : ℕ) (suffix value fs out : List ℕ) (n c d : ℕ) (ys zs : List ℕ) (x y : ℕ)
    → EncodesFlat prev_len shared suffix value fs out n c ys x → EncodesFlat prev_len shared suffix value fs out n d zs y → (c ≡ d) × (ys ≡ zs) × (x ≡ y)
encode-settled prev_len shared suffix value fs out n c d ys zs x y a b = (a.answer ∙ sym b.answer, a.bytes ∙ sym b.bytes, a.number ∙ sym b.number)

pub decode-settled : (s : List ℕ) (prev_len : ℕ) (row : List ℕ) (c d : ℕ) (ys zs : List ℕ) → DecodesFlat s prev_len row c ys → DecodesFlat s prev_len row d zs → (c ≡ d) × (ys ≡ zs)
decode-settled s prev_len row c d ys zs a b = sets-settled a b

-- ---- building a block

pub builder-new-settled : (ws : List ℕ) (size interval c d : ℕ) (ys zs : List ℕ) → MakesFlat ws size interval c ys → MakesFlat ws size interval d zs → (c ≡ d) × (ys ≡ zs)
builder-new-settled ws size interval c d ys zs a b = sets-settled a b

pub builder-would-fit-settled : (ws last : List ℕ) (data_len places_len : ℕ) (key : Key) (value fs : List ℕ) (c d : ℕ)
    → FitsFlat ws last data_len places_len key value fs c → FitsFlat ws last data_len places_len key value fs d → c ≡ d
builder-would-fit-settled ws last data_len places_len key value fs c d a b = a ∙ sym b

pub builder-is-empty-settled : (ws : List ℕ) (n c d x y : ℕ) → EmptiesFlat ws n c x → EmptiesFlat ws n d y → (c ≡ d) × (x ≡ y)
builder-is-empty-settled ws n c d x y a b = tells-settled a b

pub builder-build-settled : (ws bytes places : List ℕ) (n c d : ℕ) (ys zs : List ℕ) (x y : ℕ) → BuildsFlat ws bytes places n c ys x → BuildsFlat ws bytes places n d zs y
    → (c ≡ d) × (ys ≡ zs) × (x ≡ y)
builder-build-settled ws bytes places n c d ys zs x y a b = (
  a.told.answer ∙ sym b.told.answer,
  a.bytes_after ∙ sym b.bytes_after,
  a.told.number ∙ sym b.told.number,
)

-- ---- reading a block

pub check-settled : (b : List ℕ) (n c d x y : ℕ) → ChecksFlat b n c x → ChecksFlat b n d y → (c ≡ d) × (x ≡ y)
check-settled b n c d x y m l = tells-settled m l

pub open_settled : (b : List ℕ) (order : ℕ) (ws : List ℕ) (c d : ℕ) (ys zs : List ℕ) → OpensFlat b order ws c ys → OpensFlat b order ws d zs → (c ≡ d) × (ys ≡ zs)
open_settled b order ws c d ys zs m l = sets-settled m l

pub is-empty-settled : (b ws : List ℕ) (n c d x y : ℕ) → TellsFlat b ws n c x → TellsFlat b ws n d y → (c ≡ d) × (x ≡ y)
is-empty-settled b ws n c d x y m l = tells-settled m l

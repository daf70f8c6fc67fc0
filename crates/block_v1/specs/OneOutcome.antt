-- Each promise admits one outcome: two results, with the buffers that they leave, that both keep it are equal.
use Rattle.std.specs.Prelude.{ℕ, ◌≡◌, Bool, List, length, Result, ⊤}
use Rattle.std.proofs.Common.{ap₂, sym, ◌∙◌}
use Rattle.layout.specs.Res.{refuse}
use Rattle.layout.specs.Key.{Key}
use Rattle.layout_v1.specs.Builder.{Builder, add}
use Rattle.row_flags.specs.Says.{fields_from}
use Rattle.row_flags.specs.declared.RowFields.{RowFields}
use Rattle.basics.specs.Answers.{says_same-one, says_verdict-one}
use Rattle.basics.specs.declared.Refusal.{Refusal}
use Rattle.state_v1.specs.Says.{state_from}
use Rattle.block_v1.specs.declared.BlockBuilderV1.{BlockBuilderV1}
use Rattle.block_v1.specs.declared.New.{New}
use Rattle.block_v1.specs.declared.Added.{Added}
use Rattle.block_v1.specs.declared.Built.{Built}
use Rattle.block_v1.specs.Promise.{Makes, Fits, Adds, Empties, Builds}
use Rattle.block_v1.specs.Says.{view_of, builder_from}

pub new-settled : (size : ℕ) (r q : New) → Makes size r → Makes size q → r ≡ q
new-settled size r q a b =
    ap₂ (λ (x : BlockBuilderV1) (y : Result ⊤ Refusal). record { builder = x; answer = y })
    (ap₂ (λ (v : Builder) (first : List ℕ). builder_from (state_from v) first) (a.view ∙ sym b.view) (a.key-bytes ∙ sym b.key-bytes))
    (says_verdict-one r.answer q.answer (a.answer ∙ sym b.answer))

pub would-fit-settled : (self : BlockBuilderV1) (data_len places_len : ℕ) (key : Key) (value : List ℕ) (row : RowFields) (r q : Result ⊤ Refusal)
    → Fits self data_len places_len key value row r → Fits self data_len places_len key value row q → r ≡ q
would-fit-settled self data_len places_len key value row r q a b = says_verdict-one r q (a ∙ sym b)

pub add-settled : (self : BlockBuilderV1) (bytes places : List ℕ) (key : Key) (value : List ℕ) (row : RowFields) (r q : Added) (ys zs os ps : List ℕ)
    → Adds self bytes places key value row r ys os → Adds self bytes places key value row q zs ps → (r ≡ q) × (ys ≡ zs) × (os ≡ ps)
add-settled self bytes places key value row r q ys zs os ps a b = (
  ap₂ (λ (x : BlockBuilderV1) (y : Result ⊤ Refusal). record { builder = x; answer = y })
      (a.whole ∙ sym b.whole)
      (says_verdict-one r.answer q.answer (a.answer ∙ sym b.answer)),
  a.bytes_after ∙ sym b.bytes_after,
  a.places-after ∙ sym b.places-after,
)

-- a refused row changes nothing
pub add-refused : (self : BlockBuilderV1) (bytes places : List ℕ) (key : Key) (value : List ℕ) (row : RowFields) (r : Added) (ys os : List ℕ) (n : ℕ)
    → Adds self bytes places key value row r ys os → add (view_of self) (length bytes) (length places) key (fields_from row value) ≡ refuse n
    → (r.builder ≡ self) × (ys ≡ bytes) × (os ≡ places)
add-refused self bytes places key value row r ys os n a e =
    let h = rw e at a in
    (h.whole, h.bytes_after, h.places-after)

pub is-empty-settled : (self : BlockBuilderV1) (r q : Bool) → Empties self r → Empties self q → r ≡ q
is-empty-settled self r q a b = a ∙ sym b

pub build-settled : (self : BlockBuilderV1) (bytes places : List ℕ) (r q : Built) (ys zs : List ℕ) → Builds self bytes places r ys → Builds self bytes places q zs
    → (r ≡ q) × (ys ≡ zs)
build-settled self bytes places r q ys zs a b = (
  ap₂ (λ (x : BlockBuilderV1) (y : Result ℕ Refusal). record { builder = x; answer = y })
      (a.whole ∙ sym b.whole)
      (says_same-one r.answer q.answer (a.answer ∙ sym b.answer)),
  a.bytes_after ∙ sym b.bytes_after,
)

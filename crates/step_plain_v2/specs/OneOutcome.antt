-- The promise admits one outcome: two results, with the key bytes and the buffers that they leave, that both
-- keep it are equal; but for the key bytes past the length of the key that a moved cursor carries.
use Rattle.std.specs.Prelude.{ℕ, ◌≡◌, List, length, take, Option}
use Rattle.std.proofs.Common.{sym, ◌∙◌}
use Rattle.layout.specs.Res.{Res, ok, refuse}
use Rattle.layout.specs.Cursor.{Step}
use Rattle.step_plain_v2.specs.declared.Stepped.{Stepped}
use Rattle.step_plain_v2.specs.Ahead.{plain_step_of}
use Rattle.step_plain_v2.specs.Promise.{KeyMoved, StepsPlain}

-- key bytes that agree: as far as the cursor's key goes, and where no step is made whole
abbrev pub SameKey : Res Step → List ℕ → List ℕ → Type 0
SameKey (ok s) k l = take s.cursor.key_len k ≡ take s.cursor.key_len l
SameKey (refuse n) k l = k ≡ l

same_key : (want : Res Step) (key k l : List ℕ) → KeyMoved want key k → KeyMoved want key l → SameKey want k l
same_key (ok s) key k l m n = m ∙ sym n
same_key (refuse i) key k l m n = m ∙ sym n

pub plain-step-settled : (region at number key_len : ℕ) (key b out : List ℕ) (r q : Option Stepped) (k l ys zs : List ℕ)
    → StepsPlain region at number key_len key b out r k ys → StepsPlain region at number key_len key b out q l zs
    → (r ≡ q) × SameKey (plain_step_of region at number key_len key b (length out)) k l × (ys ≡ zs)
plain-step-settled region at number key_len key b out r q k l ys zs m n = (
  m.answer ∙ sym n.answer,
  same_key (plain_step_of region at number key_len key b (length out)) key k l m.key-bytes n.key-bytes,
  m.lent ∙ sym n.lent,
)

-- What each function promises: the code that it answers, and what each lent word and byte is after it, as equations to the definitions of `layout`.
use Rattle.std.specs.Prelude.{ℕ, ◌≡◌, List, [], ◌∷◌, length}
use Rattle.layout.specs.Res.{bind}
use Rattle.layout.specs.Place.{NumAt, varint_at, put_at, after_put}
use Rattle.layout.specs.RowRead.{KeyRead, read_key}
use Rattle.layout.specs.Varint.{varint}
use Rattle.row_words.specs.Words.{code_of, set_by, counted, truth_in}
use Rattle.row_words.specs.Flat.{Sets}

-- bytes w put at the start of a lent buffer, and how many they are in a lent word
pub record Lays (w out : List ℕ) (n code : ℕ) (out' : List ℕ) (n' : ℕ) : Type 0 where
  pub answer : code ≡ code_of (put_at (length out) 0 w)
  pub number : n' ≡ set_by (put_at (length out) 0 w) (λ x. x) n
  pub bytes : out' ≡ after_put out 0 w

abbrev pub WritesVarintFlat : ℕ → List ℕ → ℕ → ℕ → List ℕ → ℕ → Type 0
WritesVarintFlat v out n code out' n' = Lays (varint v) out n code out' n'

-- a varint that was read: its number, and the place after it
abbrev pub num_words : NumAt → List ℕ
num_words x = x.val ∷ x.next ∷ []

abbrev pub ReadsVarintFlat : List ℕ → ℕ → List ℕ → ℕ → List ℕ → Type 0
ReadsVarintFlat s at ws code ws' = Sets (counted ws 2 (varint_at s at)) num_words ws code ws'

-- a key that was read: how many bytes it shares, and where and how long its suffix is
abbrev pub key_words : KeyRead → List ℕ
key_words k = k.shared ∷ k.suffix_at ∷ k.suffix_len ∷ []

-- the words that are lent are tested before the word that says whether this is a restart
abbrev pub ReadsKeyFlat : List ℕ → ℕ → ℕ → ℕ → ℕ → List ℕ → ℕ → List ℕ → Type 0
ReadsKeyFlat s at end prev_len restart ws code ws' = Sets (counted ws 3 (bind (truth_in restart) λ b. read_key s at end prev_len b)) key_words ws code ws'

-- What each public function promises: equations to the definitions, that settle each number answered and each word and byte lent.
use Rattle.std.specs.Prelude.{ℕ, Bool, false, cond, ◌≡◌, List, eqb, length, replicate}
use Rattle.layout.specs.Limits.{max_key}
use Rattle.layout.specs.Place.{after_put}
use Rattle.state_v2.specs.declared.State.{State}
use Rattle.block_v2.specs.Says.{builder_from as builder_over}
use Rattle.block_v2.specs.declared.BlockBuilderV2.{BlockBuilderV2}
use Rattle.place_v2.specs.declared.Place.{Place}
use Rattle.block_iterator_v2.specs.Says.{view_of}
use Rattle.block_iterator_v2.specs.declared.BlockIteratorV2.{BlockIteratorV2}
use Rattle.row_words.specs.Words.{cursor_words, cursor_count}

-- ---- a builder

-- the lent bytes lie at the start of the last key's, which are zeros; more than these are not copied
abbrev pub MakesOver : State → List ℕ → BlockBuilderV2 → Type 0
MakesOver s last r = r ≡ builder_over s (after_put (replicate max_key 0) 0 last)

-- ---- a cursor

abbrev pub iterator_over : Place → List ℕ → BlockIteratorV2
iterator_over p key = record { place = p; key = key }

-- words and key bytes are as many as a cursor has
abbrev pub roomy : List ℕ → List ℕ → Bool
roomy ws key = cond (eqb (length ws) cursor_count) (eqb (length key) max_key) false

pub record PutsIterator (c : BlockIteratorV2) (ws key : List ℕ) (r : Bool) (ws' key' : List ℕ) : Type 0 where
  pub answer : r ≡ roomy ws key
  pub words : ws' ≡ cond (roomy ws key) (cursor_words (view_of c)) ws
  pub bytes : key' ≡ cond (roomy ws key) c.key key

-- What the step promises: equations to the definitions, that settle each number answered and each byte lent;
-- but for the key bytes past the length of the key that a moved cursor carries.
use Rattle.std.specs.Prelude.{ℕ, ◌≡◌, List, length, take, Option}
use Rattle.layout.specs.Res.{Res, ok, refuse}
use Rattle.layout.specs.Cursor.{Step, key_after}
use Rattle.step_plain_v2.specs.declared.Stepped.{Stepped}
use Rattle.step_plain_v2.specs.Ahead.{plain_step_of, stepped_of}

-- the key's bytes after it: those of the cursor's key; where no step is made, those that came
abbrev pub KeyMoved : Res Step → List ℕ → List ℕ → Type 0
KeyMoved (ok s) key key' = take s.cursor.key_len key' ≡ s.cursor.key
KeyMoved (refuse n) key key' = key' ≡ key

-- a step that is wanted: its answer r, the key bytes and the lent key buffer that it leaves
pub record Goes (want : Res Step) (key out : List ℕ) (r : Option Stepped) (key' out' : List ℕ) : Type 0 where
  pub answer : r ≡ stepped_of want
  pub key-bytes : KeyMoved want key key'
  pub lent : out' ≡ key_after want out

abbrev pub StepsPlain : ℕ → ℕ → ℕ → ℕ → List ℕ → List ℕ → List ℕ → Option Stepped → List ℕ → List ℕ → Type 0
StepsPlain region at number key_len key b out r key' out' =
    Goes (plain_step_of region at number key_len key b (length out)) key out r key' out'

-- What the private function leaves, by the case of the answer that it is given: a code, and lent words.
use Rattle.std.specs.Prelude.{ℕ, ◌≡◌, List, []}
use Rattle.row_decode_v2.specs.Says.{row_from}
use Rattle.place_v2.specs.Says.{view_in}
use Rattle.step_in_place_v2.specs.declared.Moved.{Moved}
use Rattle.step_in_place_v2.specs.declared.Moved.TheVariants.{Found, Done}
use Rattle.row_words.specs.Words.{done_code, cursor_words, row_words_of}

abbrev pub moved_code : Moved → ℕ
moved_code (Found p g n r) = 0
moved_code (Done p) = done_code

abbrev pub moved_words : Moved → List ℕ → List ℕ
moved_words (Found p g n r) ws = cursor_words (view_in p [])
moved_words (Done p) ws = cursor_words (view_in p [])

abbrev pub moved_row : Moved → List ℕ → List ℕ
moved_row (Found p g n r) row = row_words_of g n (row_from r)
moved_row (Done p) row = row

pub record PutsMoved (m : Moved) (ws row : List ℕ) (code : ℕ) (ws' row' : List ℕ) : Type 0 where
  pub answer : code ≡ moved_code m
  pub state : ws' ≡ moved_words m ws
  pub row_words : row' ≡ moved_row m row

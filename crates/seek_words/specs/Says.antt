-- What the private function leaves, by the case of the answer that it is given: a code, and lent words.
use Rattle.std.specs.Prelude.{ℕ, ◌≡◌, List, []}
use Rattle.place_v2.specs.Says.{view_in}
use Rattle.seek_in_place_v2.specs.declared.Found.{Found}
use Rattle.seek_in_place_v2.specs.declared.Found.TheVariants.{Landed, Done}
use Rattle.row_words.specs.Words.{done_code, cursor_words}

abbrev pub found_code : Found → ℕ
found_code (Landed p n) = 0
found_code (Done p n) = done_code

abbrev pub found_words : Found → List ℕ → List ℕ
found_words (Landed p n) ws = cursor_words (view_in p [])
found_words (Done p n) ws = cursor_words (view_in p [])

abbrev pub found_reads : Found → ℕ → ℕ
found_reads (Landed p n) old = n
found_reads (Done p n) old = n

pub record PutsFound (f : Found) (ws : List ℕ) (n code : ℕ) (ws' : List ℕ) (n' : ℕ) : Type 0 where
  pub answer : code ≡ found_code f
  pub state : ws' ≡ found_words f ws
  pub number : n' ≡ found_reads f n

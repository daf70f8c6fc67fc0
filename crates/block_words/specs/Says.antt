-- What each case of an answer says: the words as the cases and structs of the crates below. No two cases say the same.
use Rattle.std.specs.Prelude.{ℕ, List, ◌≡◌, Option}
use Rattle.layout.specs.Res.{Res}
use Rattle.layout.specs.Cursor.{Cursor}
use Rattle.place_v2.specs.declared.Place.{Place}
use Rattle.place_v2.specs.Says.{view_in, view_in-one}
use Rattle.row_words.specs.Says.{says_word, says_word-one}

abbrev pub says_cursor : List ℕ → Option Place → Res Cursor
says_cursor key = says_word (λ p. view_in p key)

-- ---- one to one

pub says_cursor-one : (key : List ℕ) (a b : Option Place) → says_cursor key a ≡ says_cursor key b → a ≡ b
says_cursor-one key = says_word-one (λ p. view_in p key) (λ p q e. view_in-one p q key key e)

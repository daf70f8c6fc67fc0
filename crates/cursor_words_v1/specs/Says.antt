-- What each case of an answer says: the words as the cases and structs of the crates below. No two cases say the same.
use Rattle.std.specs.Prelude.{◌≡◌, Option}
use Rattle.layout.specs.Res.{Res}
use Rattle.layout_v1.specs.Cursor.{Cursor}
use Rattle.block_iterator.specs.declared.BlockIterator.{BlockIterator}
use Rattle.block_iterator.specs.Says.{view_of, view_of-one}
use Rattle.row_words.specs.Says.{says_word, says_word-one}

abbrev pub says_cursor : Option BlockIterator → Res Cursor
says_cursor = says_word view_of

-- ---- one to one

pub says_cursor-one : (a b : Option BlockIterator) → says_cursor a ≡ says_cursor b → a ≡ b
says_cursor-one = says_word-one view_of view_of-one

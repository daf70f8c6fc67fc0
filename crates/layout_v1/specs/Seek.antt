-- "A seek starts afresh" in the earlier format: row 0's key, then the search over all rows by keys read alone, with its count; no row is read whole.
use Rattle.std.specs.Prelude.{ℕ, ◌-◌, Bool}
use Rattle.layout.specs.Bytes.{Bytes}
use Rattle.layout.specs.Res.{Res, ok, refuse, bind}
use Rattle.layout.specs.Key.{Key, is_below, not_above}
use Rattle.layout.specs.Trailer.{Trailer, trailer_of}
use Rattle.layout.specs.Cursor.{Direction, ascending, descending}
use Rattle.layout.specs.Seek.{Found, search}
use Rattle.layout_v1.specs.Cursor.{Cursor, cursor_is, key_numbered, the_first_key}

-- which keys the search keeps the upper part at: ascending those below the target, descending those at or below it
abbrev pub keeps_upper : Direction → Key → Key → Bool
keeps_upper ascending target = is_below target
keeps_upper descending target = not_above target

unfoldable pub key_passes : Bytes → Trailer → Key → (Key → Bool) → ℕ → Res Bool
key_passes b t first passes i = bind (key_numbered b t first i) λ k. ok (passes k)

unfoldable pub search_rows : Bytes → Trailer → Key → (Key → Bool) → Res Found
search_rows b t first passes = search (key_passes b t first passes) 0 t.count

-- ascending the rows below the place are passed; descending those from it on
abbrev pub passed_by : Direction → ℕ → ℕ → ℕ
passed_by ascending count place = place
passed_by descending count place = count - place

-- it takes only the direction from the cursor, and reports how many keys the search read; a "done" is all rows passed
pub record Sought : Type 0 where
  pub cursor : Cursor
  pub reads : ℕ

abbrev pub sought_is : Cursor → ℕ → Sought
sought_is c n = record { cursor = c; reads = n }

unfoldable pub seek : Direction → Bytes → Key → Res Sought
seek d b target =
    bind (trailer_of b) λ t.
    bind (the_first_key b t) λ first.
    bind (search_rows b t first (keeps_upper d target)) λ f.
    ok (sought_is (cursor_is d (passed_by d t.count f.place)) f.reads)

-- a refused seek gives the cursor back as it came
abbrev pub sought_after : Res Sought → Cursor → Cursor
sought_after (ok s) c = s.cursor
sought_after (refuse n) c = c

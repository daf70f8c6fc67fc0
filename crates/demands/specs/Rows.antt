-- What the demands say of rows: of one row that is decoded, of the rows that an accepted block has, of walks through them, and of seeks.
use Rattle.std.specs.Prelude.{ℕ, ◌<◌, ◌≤◌, ◌≡◌, true, false, List, [], ◌∷◌, ◌++◌, map, ◌⊎◌, length, take, drop, get_or}
use Rattle.layout.specs.Res.{Res, ok}
use Rattle.layout.specs.Key.{Key, below, Rank, rank_is, no_rank, Rising, first_at_or_above, first_above}
use Rattle.layout.specs.Row.{Fields, Row, plain}
use Rattle.layout.specs.RowRead.{RowRead, decode_row, key_of, fields_of}
use Rattle.layout.specs.Trailer.{Trailer, trailer_of}
use Rattle.layout.specs.Cursor.{ascending, descending, Cursor, opened_up, opened_down, open_block, Keyed, found, step_is, next}
use Rattle.layout.specs.Seek.{done_up, done_down, sought_is, seek}
use Rattle.demands.specs.Reads.{Names, Reads, all_rows, ranks_of, keys_of}
use Rattle.demands.specs.Runs.{WalksAll, backwards}

-- ---- one row

-- the bytes w, whatever bytes follow, decode with this answer to these fields (a tombstone's value is empty) and end where w ends; the full key is the shared bytes of the previous key,
-- then the suffix
pub record DecodesTo (answer : Res RowRead) (shared : ℕ) (suffix : List ℕ) (f : Fields) (w post : List ℕ) : Type 0 where
  pub row : RowRead
  pub reads : answer ≡ ok row
  pub ends : row.next ≡ length w
  pub fields : fields_of (w ++ post) row ≡ plain f
  pub key : (prev : Key) → key_of (w ++ post) prev row ≡ take shared prev ++ suffix

abbrev pub DecodesBack : ℕ → ℕ → List ℕ → Fields → List ℕ → List ℕ → Type 0
DecodesBack prev_len shared suffix f w post = DecodesTo (decode_row (w ++ post) prev_len) shared suffix f w post

-- ---- the rows of an accepted block

-- named by their places, with their keys; n is how many they are
pub record Rows (b : List ℕ) (n : ℕ) (t : Trailer) (rows : List Keyed) : Type 0 where
  pub regions : List (List Keyed)
  pub reads : Reads b t regions
  pub are : rows ≡ all_rows regions
  pub in_order : Rising no_rank (ranks_of rows)
  pub many : n ≡ length rows

-- opened and stepped through, both ways
pub record BothWays (b : List ℕ) (t : Trailer) (room : ℕ) (rows : List Keyed) : Type 0 where
  pub opens_up : open_block b ascending ≡ ok opened_up
  pub opens-down : open_block b descending ≡ ok (opened_down b t)
  pub forwards : WalksAll b room opened_up rows
  pub back : WalksAll b room (opened_down b t) (backwards rows)

-- rows that were offered, in the order of rows
abbrev pub offered_ranks : List Row → List Rank
offered_ranks rs = map (λ (r : Row). rank_is r.key r.fields.seq) rs

-- ---- seeks

-- ascending: the rows walked after the seek are those from the first at or above the target on; it says "done", by the mark, exactly when there is none
pub record SoughtUp (b : List ℕ) (t : Trailer) (target : Key) (rows : List Keyed) (room : ℕ) : Type 0 where
  pub c : Cursor
  pub reads : ℕ
  pub is : seek ascending b target ≡ ok (sought_is c reads)
  pub walked : WalksAll b room c (drop (first_at_or_above target (keys_of rows)) rows)
  pub over :
      ((first_at_or_above target (keys_of rows) < length rows) × (c.done ≡ false))
      ⊎ ((first_at_or_above target (keys_of rows) ≡ length rows) × (c ≡ done_up b t))

-- descending: the rows walked after the seek are those before the first above the target, the last of them first; it says "done" exactly when there is none
pub record SoughtDown (b : List ℕ) (t : Trailer) (target : Key) (rows : List Keyed) (room : ℕ) : Type 0 where
  pub c : Cursor
  pub reads : ℕ
  pub is : seek descending b target ≡ ok (sought_is c reads)
  pub walked : WalksAll b room c (backwards (take (first_above target (keys_of rows)) rows))
  pub over :
      ((0 < first_above target (keys_of rows)) × (c.done ≡ false))
      ⊎ ((first_above target (keys_of rows) ≡ 0) × (c ≡ done_down))

-- "the first at or above the target" parts the rows: those before it are below the target, and no row from it on is. So does "the first above": no row before it is above the target, and
-- every row from it on is
abbrev pub PartsBelow : Key → List Keyed → ℕ → Type 0
PartsBelow target rows i =
    (i < first_at_or_above target (keys_of rows) → below (get_or (keys_of rows) i []) target ≡ true) × (first_at_or_above target (keys_of rows) ≤ i → below (get_or (keys_of rows) i []) target ≡ false)

abbrev pub PartsAbove : Key → List Keyed → ℕ → Type 0
PartsAbove target rows i =
    (i < first_above target (keys_of rows) → below target (get_or (keys_of rows) i []) ≡ false) × (first_above target (keys_of rows) ≤ i → below target (get_or (keys_of rows) i []) ≡ true)

-- a step gives this row, with the pair that names it
pub record Given (b : List ℕ) (room : ℕ) (c : Cursor) (k : Keyed) : Type 0 where
  pub moved : Cursor
  pub t : Trailer
  pub region : ℕ
  pub number : ℕ
  pub trailer-good : trailer_of b ≡ ok t
  pub named : Names b t region number k
  pub gives_it : next c b room ≡ ok (step_is moved (found region number k.row k.key))

-- the row that the step after the seek gives has the target as its key, and no row before it has; of any format, by what a given row is
pub record FoundFirstOf (Is : Keyed → Type 0) (target : Key) (rows : List Keyed) : Type 0 where
  pub k : Keyed
  pub rest : List Keyed
  pub given : Is k
  pub has_it : k.key ≡ target
  pub stands-first : drop (first_at_or_above target (keys_of rows)) rows ≡ k ∷ rest
  pub none_before : (j : ℕ) → j < first_at_or_above target (keys_of rows) → get_or (keys_of rows) j [] ≡ target → ⊥

abbrev pub FoundFirst : List ℕ → Key → List Keyed → ℕ → Cursor → Type 0
FoundFirst b target rows room c = FoundFirstOf (Given b room c) target rows

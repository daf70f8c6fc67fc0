-- Where a seek lands among rows in any order: a builder takes them so, and a block of them is sought too, though the check refuses it. What is said here is told by the keys of the
-- regions' rows alone, in the words that the rules have for a seek; of rows in order it is what `Rows` says, the first at or above the target and the last at or below it.
use Rattle.std.specs.Prelude.{ℕ, zero, suc, ◌+◌, ◌-◌, ◌<◌, ◌≡◌, false, cond, List, [], ◌∷◌, ◌++◌, ◌⊎◌, ltb, length, take, drop, get_or}
use Rattle.layout.specs.Res.{Res, ok}
use Rattle.layout.specs.Key.{Key, below, same, first_at_or_above}
use Rattle.layout.specs.Row.{Row}
use Rattle.layout.specs.Block.{is_restart}
use Rattle.layout.specs.Trailer.{Trailer}
use Rattle.layout.specs.Cursor.{ascending, descending, Cursor, Keyed}
use Rattle.layout.specs.Seek.{Found, search, done_up, done_down, sought_is, seek}
use Rattle.demands.specs.Reads.{all_rows, keys_of}
use Rattle.demands.specs.Runs.{WalksAll, backwards}

-- ---- the regions that rows are laid in

abbrev pub put_first : Row → List (List Row) → List (List Row)
put_first r [] = (r ∷ []) ∷ []
put_first r (rs ∷ more) = (r ∷ rs) ∷ more

-- rows from number i on, cut before each restart: those of the region that goes on, then region after region
unfoldable pub cut_from : ℕ → ℕ → List Row → List (List Row)
cut_from interval i [] = [] ∷ []
cut_from interval i (r ∷ rs) =
    let more = put_first r (cut_from interval (suc i) rs) in
    cond (is_restart interval i) ([] ∷ more) more

-- the same where row i starts a region, or goes on in one
unfoldable pub regions_from : ℕ → ℕ → List Row → List (List Row)
regions_from interval i [] = []
regions_from interval i (r ∷ rs) = put_first r (cut_from interval (suc i) rs)

-- ---- the search

-- the key of a region's first row, its restart's
abbrev pub the_first_key : List Keyed → Key
the_first_key [] = []
the_first_key (k ∷ ks) = k.key

abbrev pub region_at : List (List Keyed) → ℕ → List Keyed
region_at regions i = get_or regions i []

-- the search over the restarts' keys
abbrev pub found_among : Key → List (List Keyed) → Res Found
found_among target regions = search (λ i. ok (below (the_first_key (region_at regions i)) target)) 0 (length regions)

-- ---- ascending: from one restart before the one found, not below 0, to the first row at or above the target

abbrev pub rows_onward : ℕ → List (List Keyed) → List Keyed
rows_onward region regions = all_rows (drop region regions)

abbrev pub left_up : Key → List (List Keyed) → ℕ → List Keyed
left_up target regions place = drop (first_at_or_above target (keys_of (rows_onward (place - 1) regions))) (rows_onward (place - 1) regions)

-- ---- descending: from the last of the run of restarts equal to the target, if the one found is equal, else from one before it, not below 0

-- as many steps as there are regions are enough
unfoldable pub last_equal_among : ℕ → Key → List (List Keyed) → ℕ → ℕ
last_equal_among zero target regions i = i
last_equal_among (suc left) target regions i =
    cond (ltb (i + 1) (length regions))
    (cond (same (the_first_key (region_at regions (i + 1))) target) (last_equal_among left target regions (i + 1)) i)
    i

abbrev pub start_among : Key → List (List Keyed) → ℕ → ℕ
start_among target regions place =
    cond (ltb place (length regions))
    (cond (same (the_first_key (region_at regions place)) target) (last_equal_among (length regions) target regions place) (place - 1))
    (place - 1)

-- one more than some, none more than none
abbrev pub with_some : ℕ → ℕ
with_some zero = 0
with_some (suc n) = suc (suc n)

-- how many rows there are up to the last at or below the target: one above it counts only where such a row follows
unfoldable pub through : Key → List Key → ℕ
through target [] = 0
through target (k ∷ ks) = cond (below target k) (with_some (through target ks)) (suc (through target ks))

-- the regions before the one that the walk starts in, and its rows up to the last at or below the target. Where it is not the first, its restart is at or below the target, so no
-- region before it is asked
abbrev pub left_down : Key → List (List Keyed) → ℕ → List Keyed
left_down target regions region = all_rows (take region regions) ++ take (through target (keys_of (region_at regions region))) (region_at regions region)

-- ---- both seeks answer, with how many restart keys the search read; these rows are walked after each, and it says "done", by the mark, exactly when there is none

pub record SoughtAmong (b : List ℕ) (t : Trailer) (target : Key) (regions : List (List Keyed)) (room : ℕ) : Type 0 where
  pub f : Found
  pub searched : found_among target regions ≡ ok f
  pub up : Cursor
  pub sought-up : seek ascending b target ≡ ok (sought_is up f.reads)
  pub walked-up : WalksAll b room up (left_up target regions f.place)
  pub over-up : ((0 < length (left_up target regions f.place)) × (up.done ≡ false)) ⊎ ((left_up target regions f.place ≡ []) × (up ≡ done_up b t))
  pub down : Cursor
  pub sought-down : seek descending b target ≡ ok (sought_is down f.reads)
  pub walked-down : WalksAll b room down (backwards (left_down target regions (start_among target regions f.place)))
  pub over-down :
      ((0 < length (left_down target regions (start_among target regions f.place))) × (down.done ≡ false))
      ⊎ ((left_down target regions (start_among target regions f.place) ≡ []) × (down ≡ done_down))

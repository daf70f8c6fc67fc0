-- What a seek costs. The number of restart keys that it reports is at most the number of significant bits of the restart count: 1 for one restart, 2 for three, 13 for 5,042; and some
-- seek on each block takes so many. After the search an ascending seek reads rows of at most two regions, a descending one of one.
--
-- The number reported is `reads` of `Sought`, significant bits are `significant_bits`: both of `layout`, where contracts cite them. A block's elements are bytes; its restarts are counted in
-- two of them, so that the count is below 65,536. The proofs are in CostProof and Laws.Reach.
use Rattle.std.specs.Prelude.{ℕ, suc, ◌-◌, ◌^◌, ◌<◌, ◌≤◌, min, ◌≡◌, refl, false, List, [], get_or}
use Rattle.layout.specs.Res.{ok, bind}
use Rattle.layout.specs.Limits.{max_restarts}
use Rattle.layout.specs.Varint.{significant_bits}
use Rattle.layout.specs.Key.{Key}
use Rattle.layout.specs.Trailer.{Trailer, trailer_of}
use Rattle.layout.specs.Check.{check}
use Rattle.layout.specs.Cursor.{Direction, ascending, descending, Cursor}
use Rattle.layout.specs.Seek.{Found, found_is, search, search_restarts, walk_up, start_down, walk_down, Sought, sought_is, seek}
use Rattle.demands.specs.Walked.{ReachedOn, StopsUp, StartsDown}
use Rattle.demands.specs.CostProof.{bits-between, reads-at-most, none_below, reads-reached, reached-on, answers, few-reads, up-read, up-lands, down-read}
use Rattle.demands.specs.Laws.Reach.{down-starts}

-- ---- the search

-- The numbers from 2 ^ k on and below 2 ^ (k + 1) have k + 1 significant bits.
pub bits_of : (k n : ℕ) → 2 ^ k ≤ n → n < 2 ^ suc k → n < 2 ^ 32 → significant_bits n ≡ suc k
bits_of k n low high h = bits-between k n low high h

module _ (b : List ℕ) (bytes : (i : ℕ) → get_or b i 0 < 256) where
  -- On every block, in both directions, a seek that answers has read at most so many restart keys.
  pub seek-reads-any : (d : Direction) (target : Key) (t : Trailer) (s : Sought) → trailer_of b ≡ ok t → seek d b target ≡ ok s → s.reads ≤ significant_bits t.count
  seek-reads-any d target t s e q = reads-at-most d b target t s bytes e q

  module _ (n : ℕ) (accepted : check b ≡ ok n) (t : Trailer) (e : trailer_of b ≡ ok t) where
    -- On an accepted block every seek answers, and so it has read at most so many.
    pub seek-reads-at-most : (d : Direction) (target : Key) → (s : Sought) × (seek d b target ≡ ok s) × (s.reads ≤ significant_bits t.count)
    seek-reads-at-most d target = let a = answers b n accepted d target in (a.0, a.1, seek-reads-any d target t a.0 e a.1)

    -- Never more than 13, since it has at most 5,042 restarts.
    pub seek-reads_13 : (d : Direction) (target : Key) (s : Sought) → seek d b target ≡ ok s → s.reads ≤ 13
    seek-reads_13 d target s q = few-reads b bytes n accepted d target s q

    -- No smaller number would do, on any accepted block: the seek with the empty target reads exactly so many.
    pub seek-reads-reached : (d : Direction) → (s : Sought) × (seek d b [] ≡ ok s) × (s.reads ≡ significant_bits t.count)
    seek-reads-reached d = let a = answers b n accepted d [] in (a.0, a.1, reads-reached d b bytes n accepted t e a.0 a.1)

-- Nor for any count: each from 1 to 5,042 is some accepted block's;
pub each-count-reached : (n : ℕ) → 1 ≤ n → n ≤ max_restarts → ReachedOn n
each-count-reached n some h = reached-on n some h

-- and of any number of keys, none of them below the target, a search reads exactly so many.
pub search-reads-reached : (n : ℕ) → n < 2 ^ 32 → search (λ (i : ℕ). ok false) 0 n ≡ ok (found_is 0 (significant_bits n))
search-reads-reached n h = none_below 32 n (λ (i : ℕ). ok false) h (λ i l. refl)

-- ---- the rows after it, on every block on which the search answers, refusals too

module _ (b : List ℕ) (t : Trailer) (e : trailer_of b ≡ ok t) (target : Key) (f : Found) (q : search_restarts b t target ≡ ok f) where
  -- Ascending: a walk over two regions, or over the last one alone, answers what the walk over all that follow does.
  pub seek-up-regions : seek ascending b target ≡ bind (walk_up (min 2 (t.count - (f.place - 1))) b t target (f.place - 1)) (λ (c : Cursor). ok (sought_is c f.reads))
  seek-up-regions = up-read b t e target f q

  -- It stops in the first of them, or at the first row of the second.
  pub seek-up-stops : (s : Sought) → seek ascending b target ≡ ok s → StopsUp b t f.place s.cursor
  seek-up-stops s w = up-lands b t e target f q s w

  -- Descending: the region that it starts in is the only one whose rows it reads.
  pub seek-down-region : seek descending b target
      ≡ bind (start_down b t target f.place) (λ (region : ℕ). bind (walk_down 1 b t target region) (λ (c : Cursor). ok (sought_is c f.reads)))
  seek-down-region = down-read b t e target f q

  -- To find it, the key of the restart where the search closed is read once more; and if it is the target, those of the restarts after it that have it too, and that of the one behind them.
  -- These reads are not counted.
  pub seek-down-starts : (region : ℕ) → start_down b t target f.place ≡ ok region → StartsDown b t target f.place region
  seek-down-starts region h = down-starts b t target f.place region h

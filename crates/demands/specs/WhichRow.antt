-- Which row is this? Every row answer carries its region and its number there, both from 0, and a cursor how many rows of its region end at or before its position.
--
-- A cursor is `Reached` by opening a block, in either direction, and any calls after: steps with key buffers of any length, seeks with any target, refused ones in between. Its number is true on every
-- block on which it was opened, accepted or not, and so the pair of every answer names the row that came with it (`Names`: the row of that number, read from the start of that region). A pair
-- names one row, and a row has one pair. On an accepted block the pairs are the places of the rows in the lists of its regions, and a whole walk gives them in order. What is spoken of is in Pairs,
-- Reads and Runs; the proofs are in WhichRowProof, Laws/Named and Laws/Listed.
use Rattle.std.specs.Prelude.{ℕ, ◌<◌, ◌≡◌, List, reverse, length, get_or}
use Rattle.std.proofs.Common.{◌∙◌, arith}
use Rattle.layout.specs.Res.{ok}
use Rattle.layout.specs.Key.{Key}
use Rattle.layout.specs.RowRead.{RowRead}
use Rattle.layout.specs.Trailer.{Trailer, trailer_of}
use Rattle.layout.specs.Number.{number_at}
use Rattle.layout.specs.Cursor.{Direction, Cursor, Keyed, keyed, found, step_is, next}
use Rattle.layout.specs.Seek.{Sought, seek}
use Rattle.demands.specs.Reads.{Reads, all_rows, Names}
use Rattle.demands.specs.Rows.{BothWays}
use Rattle.demands.specs.AnyOrder.{region_at}
use Rattle.demands.specs.Pairs.{Reached, pairs_of, pairs_from, NamesEach, ended_of}
use Rattle.layout.proofs.Laws.Trailer.{all_offsets-tell}
use Rattle.demands.specs.Laws.AnyOrder.{many}
use Rattle.demands.specs.Laws.Named.{names_one, names_number, row_one, rows-each, pairs-up, pairs-down}
use Rattle.demands.specs.Laws.Listed.{names_entry, entry_named, number_counts}
use Rattle.demands.specs.WhichRowProof.{reached_true, sought_true, step_true, reached-offsets}

-- ---- on every block

module _ (b : List ℕ) (t : Trailer) (good : trailer_of b ≡ ok t) where
  -- The number of a cursor is how many rows of its region end at or before its position.
  pub number_true : (c : Cursor) → Reached b c → c.number ≡ number_at b t c.region c.at
  number_true c r = (reached_true b t good c r).is

  -- So it is after a seek, whatever cursor came to it.
  pub sought-number_true : (d : Direction) (target : Key) (s : Sought) → seek d b target ≡ ok s → s.cursor.number ≡ number_at b t s.cursor.region s.cursor.at
  sought-number_true d target s e = (sought_true b t good d target s e).is

  -- The pair of an answer names its row.
  pub pair-of-answer : (c moved : Cursor) (room region number : ℕ) (r : RowRead) (key : Key) → Reached b c → next c b room ≡ ok (step_is moved (found region number r key))
      → Names b t region number (keyed r key)
  pair-of-answer c moved room region number r key q e = (step_true b t good c room (step_is moved (found region number r key)) (reached_true b t good c q) e).1

  -- A pair names one row, with its place, its fields and its key; its number is how many rows of the region end at or before that place.
  pub pair-one-row : (region number : ℕ) (k k' : Keyed) → Names b t region number k → Names b t region number k' → k ≡ k'
  pair-one-row region number k k' v w = names_one b t region number k k' v w

  pub pair-tells-place : (region number : ℕ) (k : Keyed) → Names b t region number k → number ≡ number_at b t region k.row.start
  pair-tells-place region number k w = names_number b t region number k w

  -- Whichever cursors answer, up or down: they give the same pair exactly for the same row, as it is named by its place.
  pub answers_agree : (c c' moved moved' : Cursor) (room room' region region' number number' : ℕ) (r r' : RowRead) (key key' : Key) → Reached b c → Reached b c'
      → next c b room ≡ ok (step_is moved (found region number r key)) → next c' b room' ≡ ok (step_is moved' (found region' number' r' key'))
      → (r.start ≡ r'.start → (region ≡ region') × (number ≡ number')) × (region ≡ region' → number ≡ number' → keyed r key ≡ keyed r' key')
  answers_agree c c' moved moved' room room' region region' number number' r r' key key' q q' e e' = (
    λ s. row_one b t (reached-offsets b t good c q) region region' number number' (keyed r key) (keyed r' key') v w s,
    λ f g. names_one b t region number (keyed r key) (keyed r' key') v (rw (f, g) w),
  )
    where
      v : Names b t region number (keyed r key)
      v = pair-of-answer c moved room region number r key q e

      w : Names b t region' number' (keyed r' key')
      w = pair-of-answer c' moved' room' region' number' r' key' q' e'

-- ---- on a block whose rows are read, as those of an accepted block are

module _ (b : List ℕ) (t : Trailer) (regions : List (List Keyed)) (reads : Reads b t regions) where
  -- The pair (r, n) names entry n of the rows of region r, and nothing else.
  pub pair-is-entry : (region number : ℕ) (k : Keyed) → Names b t region number k
      → (region < length regions) × (number < length (region_at regions region)) × (get_or (region_at regions region) number k ≡ k)
  pair-is-entry = names_entry b t regions reads

  pub entry-has-pair : (region number : ℕ) (k : Keyed) → region < length regions → number < length (region_at regions region) → Names b t region number (get_or (region_at regions region) number k)
  entry-has-pair = entry_named b t regions reads

  -- A row has one pair.
  pub row-one-pair : (region region' number number' : ℕ) (k k' : Keyed) → Names b t region number k → Names b t region' number' k' → k.row.start ≡ k'.row.start
      → (region ≡ region') × (number ≡ number')
  row-one-pair = row_one b t (all_offsets-tell b t tt reads.offsets-good)

  -- What a cursor counts are the rows of that list.
  pub number-counts-rows : (c : Cursor) → Reached b c → (c.region < length regions) × (c.number ≡ ended_of c.at (region_at regions c.region))
  number-counts-rows c r =
      let n = reached_true b t reads.trailer-good c r in
      let h : c.region < length regions = omega (arith, many b t regions reads, n.inside) in
      (h, n.is ∙ number_counts b t regions reads c.region c.at h)

  -- The pairs (0, 0), (0, 1), .., region by region, name the block's rows one by one.
  pub rows_named : NamesEach b t (pairs_from 0 regions) (all_rows regions)
  rows_named = rows-each b t regions reads

  -- A whole walk gives them in that order; backwards, the last first.
  module _ (rows : List Keyed) (are : rows ≡ all_rows regions) (room : ℕ) (both : BothWays b t room rows) where
    pub pairs-forwards : pairs_of both.forwards.walks ≡ pairs_from 0 regions
    pairs-forwards = pairs-up b t regions reads rows are room _ _ both.forwards.walks

    pub pairs-backwards : pairs_of both.back.walks ≡ reverse (pairs_from 0 regions)
    pairs-backwards = pairs-down b t regions reads rows are room _ _ both.back.walks

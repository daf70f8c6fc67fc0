-- No row falls between the two seeks. For one accepted block and one target: each row is walked after the ascending seek or after the descending one, and after both exactly if its key
-- equals the target.
--
-- "Walked after a seek" are the rows that steps from the seek's cursor give until "done" (`WalkedAfter`); a row is named by the place where it starts in the data (`StartsAt`); what
-- is said of a block's rows and of the two walks is `NoGap`. These are in Walked, an accepted block's `Rows` in Rows. The proofs are in NoGapProof.
use Rattle.std.specs.Prelude.{ℕ, ◌+◌, ◌≡◌, true, List, [], length, take, drop}
use Rattle.std.proofs.Common.{arith}
use Rattle.layout.specs.Key.{Key, first_at_or_above, first_above}
use Rattle.layout.specs.Trailer.{Trailer}
use Rattle.layout.specs.Cursor.{Direction, ascending, descending, Keyed}
use Rattle.demands.specs.Reads.{keys_of}
use Rattle.demands.specs.Runs.{RoomFor, backwards}
use Rattle.demands.specs.Rows.{Rows}
use Rattle.demands.specs.Walked.{WalkedAfter, equal_to, NoGap}
use Rattle.demands.specs.NoGapProof.{walked_one, walked-up, walked-down, between, done-up, done-down}

-- The rows walked after a seek are these and no others, on any block.
pub walked-rows-one : (d : Direction) (b : List ℕ) (target : Key) (room : ℕ) (xs ys : List Keyed) → WalkedAfter d b target room xs → WalkedAfter d b target room ys → xs ≡ ys
walked-rows-one d b target room xs ys v w = walked_one d b target room xs ys v w

module _ (b : List ℕ) (n : ℕ) (t : Trailer) (rows : List Keyed) (q : Rows b n t rows) (room : ℕ) (fits : RoomFor room rows) (target : Key) where
  -- On an accepted block both seeks answer, and both walks end.
  pub both-walked : (up down : List Keyed) × WalkedAfter ascending b target room up × WalkedAfter descending b target room down
  both-walked =
      (drop (first_at_or_above target (keys_of rows)) rows, backwards (take (first_above target (keys_of rows)) rows), walked-up b n t rows q room fits target, walked-down b n t rows q room fits target)

  module _ (up down : List Keyed) (v : WalkedAfter ascending b target room up) (w : WalkedAfter descending b target room down) where
    -- Together they are all rows, and the rows in both are exactly those whose key equals the target.
    pub no-row-between : NoGap target rows up down
    no-row-between = between b n t rows q room fits target up down v w

    -- In numbers: the two walks' lengths add up to the number of rows that the check answers and the number of rows whose key equals the target.
    pub walks-add-up : length up + length down ≡ n + equal_to target (keys_of rows)
    walks-add-up = omega (arith, no-row-between.sum, q.many)

    -- A seek says "done", by its cursor's mark, exactly when no row is walked after it.
    pub done-walks-none : ((v.c.done ≡ true → up ≡ []) × (up ≡ [] → v.c.done ≡ true)) × ((w.c.done ≡ true → down ≡ []) × (down ≡ [] → w.c.done ≡ true))
    done-walks-none = (done-up b n t rows q room fits target up v, done-down b n t rows q room fits target down w)

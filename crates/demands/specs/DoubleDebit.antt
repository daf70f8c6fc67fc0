-- The double debit: in a block that the check accepts no key stands twice with one sequence number. Rows of one key stand next to each other, and the newest, with the largest number, first.
--
-- The rows are those that the block's regions read (an accepted block has them: `has-rows`), named by their places, counted from 0: two rows of equal content are still two. The idea of the proof: each
-- row may follow not only its neighbour but every row before it (`rising-by`).
use Rattle.std.specs.Prelude.{ℕ, ◌<◌, ◌≤◌, ◌≡◌, true, List, length, get_or}
use Rattle.std.proofs.Common.{sym, ⊎_elim, arith}
use Rattle.std.proofs.lemmas.List.{length-map}
use Rattle.layout.specs.Res.{ok}
use Rattle.layout.specs.Key.{Rank, rank_is, no_rank, may_follow, Rising}
use Rattle.layout.specs.Trailer.{Trailer}
use Rattle.layout.specs.Check.{check}
use Rattle.layout.specs.Cursor.{Keyed}
use Rattle.demands.specs.Reads.{Reads, all_rows, ranks_of}
use Rattle.demands.specs.Proof2.{accepted_in_order}
use Rattle.layout.proofs.Laws.Res.{ltb-cases}
use Rattle.layout.specs.Laws.Key.{AtMost}
use Rattle.layout.proofs.Laws.Key.{at-most-refl, at-most_antisym}
use Rattle.demands.specs.Laws.Sorted.{may-at-most, may-newer, rising-by}

-- the key and the sequence number of row i
abbrev pub rank_at : List Keyed → ℕ → Rank
rank_at rows i = get_or (ranks_of rows) i no_rank

-- of any rows in order, whichever the format
module _ (rows : List Keyed) (in_order : Rising no_rank (ranks_of rows)) where
  follows : (i j : ℕ) → i < j → j < length rows → may_follow (rank_at rows i) (rank_at rows j) ≡ true
  follows i j h l = rising-by no_rank (ranks_of rows) in_order i j h (omega (arith, length-map rows (λ (k : Keyed). rank_is k.key k.row.seq)))

  pub rows-no-double : (i j : ℕ) → i < length rows → j < length rows → (rank_at rows i).key ≡ (rank_at rows j).key → (rank_at rows i).seq ≡ (rank_at rows j).seq → i ≡ j
  rows-no-double i j h l k s =
      ⊎_elim
      (λ u. absurd (omega (arith, may-newer (rank_at rows i) (rank_at rows j) (follows i j u.1 l) k)))
      (λ u.
      ⊎_elim
      (λ v. absurd (omega (arith, may-newer (rank_at rows j) (rank_at rows i) (follows j i v.1 h) (sym k))))
      (λ v. omega (arith, u.1, v.1))
      (ltb-cases j i))
      (ltb-cases i j)

  pub rows_newest_first : (i m j : ℕ) → i < m → m ≤ j → j < length rows → (rank_at rows i).key ≡ (rank_at rows j).key
      → ((rank_at rows m).key ≡ (rank_at rows i).key) × ((rank_at rows m).seq < (rank_at rows i).seq)
  rows_newest_first i m j h l last k =
      let f = follows i m h (omega arith) in
      let up : AtMost (rank_at rows m).key (rank_at rows i).key =
      ⊎_elim
      (λ u. rw k (may-at-most (rank_at rows m) (rank_at rows j) (follows m j u.1 last)))
      (λ u. let e : m ≡ j = omega (arith, u.1) in rw (k, e) (at-most-refl (rank_at rows j).key))
      (ltb-cases m j) in
      let same : (rank_at rows m).key ≡ (rank_at rows i).key = at-most_antisym (rank_at rows m).key (rank_at rows i).key up (may-at-most (rank_at rows i) (rank_at rows m) f) in
      (same, may-newer (rank_at rows i) (rank_at rows m) f (sym same))

module _ (b : List ℕ) (n : ℕ) (t : Trailer) (regions : List (List Keyed)) (accepted : check b ≡ ok n) (reads : Reads b t regions) where
  abbrev rows : List Keyed
  rows = all_rows regions

  ordered : Rising no_rank (ranks_of rows)
  ordered = accepted_in_order b n t regions accepted reads

  -- Two rows with equal key and equal sequence number, wherever they stand, are one.
  pub no-double-debit : (i j : ℕ) → i < length rows → j < length rows → (rank_at rows i).key ≡ (rank_at rows j).key → (rank_at rows i).seq ≡ (rank_at rows j).seq → i ≡ j
  no-double-debit = rows-no-double rows ordered

  -- Where rows i and j have one key, each row after i, up to j, has it too, and a smaller sequence number than i.
  pub newest_first : (i m j : ℕ) → i < m → m ≤ j → j < length rows → (rank_at rows i).key ≡ (rank_at rows j).key
      → ((rank_at rows m).key ≡ (rank_at rows i).key) × ((rank_at rows m).seq < (rank_at rows i).seq)
  newest_first = rows_newest_first rows ordered

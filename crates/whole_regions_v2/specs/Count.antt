-- How many rows end at the best place that a read met. And the read that only counts: it reads back from the region's end, so its laws are those of the row that
-- ends there.
use Rattle.std.specs.Prelude.{ℕ, ◌+◌, ◌≤◌, ◌<◌, ◌≡◌, refl, Bool, true, false, cond, List, eqb}
use Rattle.std.proofs.Math.Path.{sym}
use Rattle.std.proofs.Math.Nat.{le_antisymm}
use Rattle.std.proofs.Common.{le-leb}
use Rattle.std.proofs.lemmas.Bool.{lt-leb}
use Rattle.layout.specs.Res.{ok, refuse}
use Rattle.layout.specs.Plain.{RowSpan, spans}
use Rattle.layout.specs.Trailer.{Region, row_in}
use Rattle.layout.specs.Number.{ended_by}
use Rattle.layout.specs.Laws.Number.{Counting}
use Rattle.layout.proofs.Laws.Number.{counting-here}
use Rattle.layout.proofs.Laws.Plain.{span-row}
use Rattle.layout.proofs.Laws.Tells.{row_in-ends}
use Rattle.block_regions_v2.specs.Known.{known_is}
use Rattle.block_regions_v2.specs.Parts.{Reaching, reaching_only, reaching_refused, reaching_found, reaching_more}
use Rattle.block_regions_v2.specs.Count.{counting-ended, counting-span}
use Rattle.whole_regions_v2.specs.Regions.{rows_in}

module _ (d : List ℕ) (g : Region) (at len n : ℕ) (c : Counting d g at len n) (p : RowSpan) (e : ok p ≡ spans (row_in d g at len)) where
  -- the row's end, or the place that was best before
  pub counting-best : (above : Bool) (best m : ℕ) → ended_by d g best ≡ m → {best' m' : ℕ} → best' ≡ cond above best p.next → m' ≡ cond above m (n + 1)
      → ended_by d g best' ≡ m'
  counting-best true best m h b w = rw (b, w) h
  counting-best false best m h b w = rw (b, w) (counting-here d g p.next (p.shared + p.suffix_len) (n + 1) (counting-span d g at len n c p e))

-- ---- how many rows a region has

module _ (d : List ℕ) (g : Region) where
  pub count_none : g.end ≤ g.start → refuse 18 ≡ rows_in d g
  unfolding rows_in
  count_none h = rw (le-leb g.end g.start h)

  module _ (h : g.start < g.end) (at len : ℕ) (s : Reaching d g g.end at len (known_is 0 0 0 0)) where
    pub count_no : {i : ℕ} → row_in d g at len ≡ refuse i → refuse i ≡ rows_in d g
    unfolding rows_in
    count_no e = rw (lt-leb g.end g.start h, sym (reaching_refused d g g.end at len _ s e))

    module _ (p : RowSpan) (e : ok p ≡ spans (row_in d g at len)) where
      pub count-all : (n : ℕ) → Counting d g at len n → g.end ≤ p.next → ok (n + 1) ≡ rows_in d g
      unfolding rows_in
      count-all n c u =
          span-row (row_in d g at len) p e λ r q is.
          let last : r.next ≡ g.end = le_antisymm (row_in-ends d g at len r q).within (rw (sym is) at u) in
          rw (lt-leb g.end g.start h, sym (reaching_found d g g.end at len _ s r q last), counting-ended d g at len n c r q last)

      pub count-more : p.next < g.end → Reaching d g g.end p.next (p.shared + p.suffix_len) (known_is 0 0 0 0)
      count-more u = let on = reaching_more d g g.end at len _ s p e u refl in reaching_only d g g.end p.next (p.shared + p.suffix_len) _ on

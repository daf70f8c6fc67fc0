-- Plain rows of a region, gone over one after another: the row that is met is the step's, so a walk that is under way goes on past it.
use Rattle.std.proofs.Common.{◌≡◌, ℕ, ◌+◌, ◌<◌, ◌≤◌, eqb, List, length, take, sym, refl, ◌∙◌, ap₂, arith}
use Rattle.std.specs.Prelude.{Some}
use Rattle.layout.specs.Res.{Res, ok}
use Rattle.layout.specs.Key.{Key}
use Rattle.layout.specs.Limits.{max_key}
use Rattle.layout.specs.Plain.{plain_at}
use Rattle.layout.specs.RowRead.{may_share}
use Rattle.layout.specs.Trailer.{Region}
use Rattle.layout.specs.Cursor.{Cursor, found, step_is, past_row, next}
use Rattle.row_plain_v2.specs.Promise.{plain_from}
use Rattle.row_plain_v2.specs.declared.PlainRow.{PlainRow}
use Rattle.place_v2.specs.Says.{view_in}
use Rattle.place_v2.specs.declared.Place.{Place}
use Rattle.region_rows_v2.specs.Bounds.{Inside}
use Rattle.region_rows_v2.specs.Region.{PlainFits, moved_to, row_here, key_here, here-tells, here-fits, here-step, here-carried, here-over, here-stays, here-inside}
use Rattle.compare_walks.specs.Walk.{Walk}
use Rattle.compare_walks.specs.Loop.{Walking, PassesPlain}
use Rattle.compare_walks.proofs.Laws.{walking_more}

-- ---- a row that `plain_at` met, and what `pass_plain` left of it

module _ (b : List ℕ) (size : ℕ) (g : Region) (p : Place) (key : List ℕ) (i : Inside b size g (view_in p key)) (whole : length key ≡ max_key) {most : ℕ} (r : PlainRow) (m : most ≡ may_share (eqb p.at g.start) p.key_len) (e : Some (plain_from r) ≡ plain_at (take size b) p.at g.end most) where
  pub plain_fits : PlainFits (length (take size b)) p.at r
  plain_fits = here-fits b size g p key i (plain_from r) m e r refl

  module _ {limit rows sum sum' : ℕ} {key' : List ℕ} (few : rows < limit) (q : PassesPlain key (take size b) p.at r sum sum' key') where
    carried : take (r.shared + r.unshared) key' ≡ key_here b size g p key i (plain_from r) m e
    carried = here-carried b size g p key i (plain_from r) m e whole q.carried

    -- the walk goes on from the cursor that the step leaves
    onward : {want : Res Walk} (d : Cursor) → d ≡ past_row (view_in p key) g (row_here b size g p key i (plain_from r) m e) (key_here b size g p key i (plain_from r) m e)
        → Walking want b limit (view_in p key) rows sum → Walking want b limit d (rows + 1) sum'
    onward d v w =
        let t = here-tells b size g p key i (plain_from r) m e in
        let step : next (view_in p key) b max_key ≡ ok (step_is d (found p.region p.number (row_here b size g p key i (plain_from r) m e) (take (r.shared + r.unshared) key'))) =
        here-step b size g p key i (plain_from r) m e max_key (omega (arith, t.shared-small, t.unshared-small))
        ∙ ap₂ (λ (c : Cursor) (k : Key). ok (step_is c (found p.region p.number (row_here b size g p key i (plain_from r) m e) k))) (sym v) (sym carried) in
        walking_more b limit (view_in p key) rows sum w few d (row_here b size g p key i (plain_from r) m e) (take (r.shared + r.unshared) key') sum' step q.summed

    pub plain_over : {want : Res Walk} → g.reach < r.next → Walking want b limit (view_in p key) rows sum
        → Walking want b limit (view_in (moved_to p (p.region + 1) r.next 0 0) key') (rows + 1) sum'
    plain_over k w = onward (view_in (moved_to p (p.region + 1) r.next 0 0) key') (here-over b size g p key i (plain_from r) m e whole key' carried k) w

    module _ (k : r.next ≤ g.reach) where
      pub plain-stays : {want : Res Walk} → Walking want b limit (view_in p key) rows sum
          → Walking want b limit (view_in (moved_to p p.region r.next (p.number + 1) (r.shared + r.unshared)) key') (rows + 1) sum'
      plain-stays w = onward (view_in (moved_to p p.region r.next (p.number + 1) (r.shared + r.unshared)) key') (here-stays b size g p key i (plain_from r) m e whole key' carried k) w

      pub plain-inside : Inside b size g (view_in (moved_to p p.region r.next (p.number + 1) (r.shared + r.unshared)) key')
      plain-inside = here-inside b size g p key i (plain_from r) m e whole key' carried k

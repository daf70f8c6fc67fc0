-- What a row's span tells a walk over rows; and the read of a region for its last row at or below a target by the match alone: no key is carried, only how many
-- bytes the key before begins with in common with the target, and its length. The loop's record says that what is left to do, from here, answers what the whole
-- does.
use Prim.Native.Nat.{ℕ, zero, suc, ◌+◌, ◌<◌, ◌≤◌}
use Rattle.std.specs.Prelude.{◌≡◌, refl, Bool, false, cond, List, [], eqb, length}
use Rattle.std.proofs.Math.Path.{ap}
use Rattle.std.proofs.Common.{sym, ◌∙◌, arith, lt-ltb, le-ltb}
use Rattle.layout.specs.Limits.{max_key}
use Rattle.layout.specs.Res.{Res, ok, refuse}
use Rattle.layout.specs.Key.{Key, below, common}
use Rattle.layout.specs.RowRead.{RowRead, read_row, key_length, key_of}
use Rattle.layout.specs.Plain.{RowSpan, spans}
use Rattle.layout.specs.Trailer.{Region, row_in}
use Rattle.layout.specs.Seek.{last_at_or_below}
use Rattle.layout.proofs.Laws.Res.{spend}
use Rattle.layout.specs.Laws.Carry.{suffix_of}
use Rattle.layout.proofs.Laws.Carry.{key_of-length}
use Rattle.layout.proofs.Laws.Key.{common-right}
use Rattle.layout.specs.Laws.Match.{match_after, above_after}
use Rattle.layout.proofs.Laws.Match.{common-none, match_is, above-is}
use Rattle.layout.proofs.Laws.Plain.{span-row}
use Rattle.layout.proofs.Laws.Tells.{read_row-ends, row-shares, row_in-ends}
use Rattle.layout.specs.Laws.MatchWalk.{span_suffix}

-- what a span tells
pub record SpanTells (d : List ℕ) (at end prev_len : ℕ) (p : RowSpan) : Type 0 where
  pub least : at + 12 ≤ p.next
  pub within : p.next ≤ end
  pub inside : p.next ≤ length d
  pub shares : p.shared ≤ prev_len
  pub suffix : p.suffix_at + p.suffix_len ≤ length d
  pub few : p.shared + p.suffix_len ≤ max_key

pub span-tells : (d : List ℕ) (at end prev_len : ℕ) (restart : Bool) (p : RowSpan) → ok p ≡ spans (read_row d at end prev_len restart)
    → SpanTells d at end prev_len p
span-tells d at end prev_len restart p e =
    span-row (read_row d at end prev_len restart) p e λ r q is.
    let w = read_row-ends d at end prev_len restart r q in
    rw (← is) (record { least = w.least; within = w.within; inside = w.inside; shares = row-shares d at end prev_len restart r w; suffix = w.suffix; few = w.fits })

-- ---- a region's last row at or below a target

below_none : (target : Key) → below target [] ≡ false
unfolding below
below_none target = refl

module _ (d : List ℕ) (g : Region) (target : Key) (fuel : ℕ) where
  abbrev lasts : Res ℕ
  lasts = last_at_or_below fuel d g target g.start [] g.start

  -- `above`: the target is below the key of the row before
  pub record MatchingDown (at m len best : ℕ) (above : Bool) : Type 0 where
    pub left : ℕ
    pub before : Key
    pub enough : g.end ≤ at + left
    pub long : length before ≡ len
    pub match : common before target ≡ m
    pub over : below target before ≡ above
    pub makes : last_at_or_below left d g target at before best ≡ lasts

  pub down-start : g.end ≤ fuel → MatchingDown g.start 0 0 g.start false
  down-start k = record { left = fuel; before = []; enough = omega arith; long = refl; match = common-none target; over = below_none target; makes = refl }

  module _ (at m len best : ℕ) (above : Bool) (s : MatchingDown at m len best above) where
    pub down_fits : m ≤ length target
    down_fits = omega (arith, common-right s.before target, s.match)

    read-there : {x : Res RowRead} → row_in d g at len ≡ x → row_in d g at (length s.before) ≡ x
    read-there e = ap (λ (n : ℕ). row_in d g at n) s.long ∙ e

    one-step : at < g.end → {A : Type 0} → ((left : ℕ) → g.end ≤ at + suc left → last_at_or_below (suc left) d g target at s.before best ≡ lasts → A) → A
    one-step h f =
        spend (λ (n : ℕ). last_at_or_below n d g target at s.before best) s.left (λ z. absurd (omega (arith, s.enough))) s.makes
        λ more is q. f more (omega (arith, s.enough)) q

    pub down-over : g.end ≤ at → ok best ≡ lasts
    unfolding last_at_or_below
    down-over h = go s.left s.makes
      where
        go : (left : ℕ) → last_at_or_below left d g target at s.before best ≡ lasts → ok best ≡ lasts
        go zero q = q
        go (suc left) q = rw (le-ltb at g.end h) at q

    module _ (h : at < g.end) where
      pub down-no : {n : ℕ} → row_in d g at len ≡ refuse n → refuse n ≡ lasts
      unfolding last_at_or_below
      down-no e = one-step h λ left q w. rw (lt-ltb at g.end h, read-there e) at w

      module _ (r : RowRead) (e : row_in d g at len ≡ ok r) where
        share-fits : r.shared ≤ length s.before
        share-fits = rw s.long (row-shares d at g.end len (eqb at g.start) r (row_in-ends d g at len r e))

        over-is : below target (key_of d s.before r) ≡ above_after target m above r.shared (suffix_of d r)
        over-is = above-is s.before target r.shared (suffix_of d r) share-fits ∙ rw (s.match, s.over)

        falls-on : MatchingDown r.next (match_after target m r.shared (suffix_of d r)) (key_length r) (cond (above_after target m above r.shared (suffix_of d r)) best r.next) (above_after target m above r.shared (suffix_of d r))
        unfolding last_at_or_below
        falls-on =
            one-step h λ left q w.
            record {
              left = left;
              before = key_of d s.before r;
              enough = omega (arith, (row_in-ends d g at len r e).least);
              long = key_of-length d at g.end s.before (eqb at g.start) r (read-there e);
              match = match_is s.before target r.shared (suffix_of d r) share-fits ∙ ap (λ (n : ℕ). match_after target n r.shared (suffix_of d r)) s.match;
              over = over-is;
              makes = rw (lt-ltb at g.end h, read-there e, over-is) at w;
            }

      -- by the row's span
      pub down-more : (p : RowSpan) → ok p ≡ spans (row_in d g at len) → {m' best' : ℕ} {above' : Bool}
          → m' ≡ match_after target m p.shared (span_suffix d p) → above' ≡ above_after target m above p.shared (span_suffix d p) → best' ≡ cond above' best p.next
          → MatchingDown p.next m' (p.shared + p.suffix_len) best' above'
      down-more p e w a b =
          span-row (row_in d g at len) p e λ r q is.
          rw (b, w, a, sym is) (falls-on r q)

-- What the private functions answer.
use Rattle.std.specs.Prelude.{ℕ, suc, ◌+◌, ◌<◌, ◌≤◌, ◌≡◌, refl, Bool, true, false, eqb, length, Result, Ok, Err}
use Rattle.std.proofs.Common.{ap, sym, ◌∙◌, arith}
use mathlib.Core.List.{List, [], ◌∷◌, ◌++◌}
use borrow.Author.Tests.{lt-ltb, le-ltb}
use Rattle.layout.specs.Res.{Res, ok, refuse}
use Rattle.layout.specs.Key.{Key}
use Rattle.layout.specs.RowRead.{RowRead, key_length, key_of}
use Rattle.layout.specs.Plain.{RowSpan, span_of, spans}
use Rattle.layout.specs.Trailer.{Region, row_in}
use Rattle.layout.specs.Cursor.{Keyed, keyed, row_ending_at}
use Rattle.layout.specs.Seek.{stop_is, walk_region}
use Rattle.layout.proofs.Laws.Res.{spend, ok-inj}
use Rattle.basics.specs.Answers.{apart}
use Rattle.basics.specs.Number.{number}
use Rattle.basics.specs.declared.Refusal.{Refusal}
use Rattle.layout.proofs.Laws.Carry.{key_of-length}
use Rattle.layout.specs.Laws.Number.{Counting}
use Rattle.layout.proofs.Laws.Plain.{span-row}
use Rattle.layout.proofs.Laws.Tells.{row-shares, row_in-ends}
use Rattle.block_regions_v2.specs.declared.Halted.{Halted}
use Rattle.block_regions_v2.specs.declared.Known.{Known}
use Rattle.block_regions_v2.specs.declared.Reached.{Reached}
use Rattle.block_regions_v2.specs.Climb.{Climbing}
use Rattle.block_regions_v2.specs.Known.{known_is, known_after, Knows, knows-none, knows_after}
use Rattle.block_regions_v2.specs.Rows.{Rows, rows_on}

-- ---- the walk up

abbrev pub halted_is : ℕ → ℕ → ℕ → ℕ → ℕ → Halted
halted_is at len n from from-len = record { at = at; len = len; number = n; from = from; from_len = from-len }

-- where the walk stopped
pub record HaltsAt (d : List ℕ) (g : Region) (target : Key) (h : Halted) : Type 0 where
  pub match : ℕ
  pub climbs : Climbing d g target (length d) h.at match h.len h.from h.from_len
  pub counts : Counting d g h.at h.len h.number
  pub stopped : ok (stop_is h.at climbs.before) ≡ walk_region (length d) d g target g.start []

-- or the refusal of a row of the region
abbrev pub Halts : List ℕ → Region → Key → Result Halted Refusal → Type 0
Halts d g target (Ok h) = HaltsAt d g target h
Halts d g target (Err r) = refuse (number r) ≡ walk_region (length d) d g target g.start []

-- ---- the read back: the row that ends at a position, found by lengths alone

-- of a key that rows from the region's start make, what is known of where it stands
pub record Stands (d : List ℕ) (g : Region) (there : Reached) (before : Key) : Type 0 where
  pub rows : List RowRead
  pub leads : Rows d g g.start [] rows there.at before
  pub knows : Knows d before there.known

module _ (d : List ℕ) (g : Region) (stop : ℕ) where
  abbrev pub ends : Res Keyed
  ends = row_ending_at stop d g stop g.start []

  pub record Reaching (at len : ℕ) (k : Known) : Type 0 where
    pub left : ℕ
    pub before : Key
    pub rows : List RowRead
    pub enough : stop ≤ at + left
    pub near : at < stop
    pub long : length before ≡ len
    pub makes : row_ending_at left d g stop at before ≡ ends
    pub leads : Rows d g g.start [] rows at before
    pub knows : Knows d before k

  pub record Reaches (r : Reached) : Type 0 where
    pub there : Reaching r.at r.len r.known
    pub counts : Counting d g r.at r.len r.number
    pub far : (x : RowRead) → row_in d g r.at r.len ≡ ok x → stop ≤ x.next

  pub reaching_start : g.start < stop → Reaching g.start 0 (known_is 0 0 0 0)
  reaching_start h =
      record { left = stop; before = []; rows = []; enough = omega arith; near = h; long = refl; makes = refl; leads = (refl, refl); knows = knows-none d [] }

  module _ (at len : ℕ) (k : Known) (s : Reaching at len k) where
    read-near : {x : Res RowRead} → row_in d g at len ≡ x → row_in d g at (length s.before) ≡ x
    read-near e = ap (λ (n : ℕ). row_in d g at n) s.long ∙ e

    taken : {A : Type 0} → ((left : ℕ) → stop ≤ at + suc left → row_ending_at (suc left) d g stop at s.before ≡ ends → A) → A
    taken f =
        spend (λ (n : ℕ). row_ending_at n d g stop at s.before) s.left (λ z. absurd (omega (arith, s.enough, s.near))) s.makes
        λ more is q. f more (omega (arith, s.enough)) q

    -- where the key stands may be forgotten
    pub reaching_only : Reaching at len (known_is 0 0 0 0)
    reaching_only =
        record {
          left = s.left;
          before = s.before;
          rows = s.rows;
          enough = s.enough;
          near = s.near;
          long = s.long;
          makes = s.makes;
          leads = s.leads;
          knows = knows-none d s.before;
        }

    pub reaching_refused : {n : ℕ} → row_in d g at len ≡ refuse n → refuse n ≡ ends
    unfolding row_ending_at
    reaching_refused e = taken λ left q m. rw (read-near e) at m

    module _ (r : RowRead) (e : row_in d g at len ≡ ok r) where
      pub reaching_straddles : stop < r.next → refuse 18 ≡ ends
      unfolding row_ending_at
      reaching_straddles h = taken λ left q m. rw (read-near e, le-ltb r.next stop (omega arith), lt-ltb stop r.next h) at m

      pub reaching_found : r.next ≡ stop → ok (keyed r (key_of d s.before r)) ≡ ends
      unfolding row_ending_at
      reaching_found h = taken λ left q m. rw (read-near e, le-ltb r.next stop (omega arith), le-ltb stop r.next (omega arith)) at m

      -- its key is as long as it says, and shares no more than the key before has
      pub reaching_long : length (key_of d s.before r) ≡ key_length r
      reaching_long = key_of-length d at g.end s.before (eqb at g.start) r (read-near e)

      pub reaching_shares : r.shared ≤ length s.before
      reaching_shares = rw s.long (row-shares d at g.end len (eqb at g.start) r (row_in-ends d g at len r e))

      goes-past : r.next < stop → Reaching r.next (key_length r) (known_after k r.suffix_at r.shared (key_length r))
      unfolding row_ending_at
      goes-past h =
          taken λ left q m.
          let tells = row_in-ends d g at len r e in
          record {
            left = left;
            before = key_of d s.before r;
            rows = s.rows ++ (r ∷ []);
            enough = omega (arith, tells.least);
            near = h;
            long = reaching_long;
            makes = rw (read-near e, lt-ltb r.next stop h) at m;
            leads = rows_on d g g.start [] s.rows at s.before s.leads r (read-near e);
            knows = knows_after d s.before k s.knows r.suffix_at r.shared r.suffix_len reaching_shares tells.suffix;
          }

    -- by the row's span
    module _ (p : RowSpan) (e : ok p ≡ spans (row_in d g at len)) where
      pub reaching_more : {k' : Known} → p.next < stop → k' ≡ known_after k p.suffix_at p.shared (p.shared + p.suffix_len) → Reaching p.next (p.shared + p.suffix_len) k'
      reaching_more h w = span-row (row_in d g at len) p e λ r q is. rw (w, sym is) (goes-past r q (rw (sym is) at h))

      -- the row that reaches the position, if it is one
      pub reaching_far : stop ≤ p.next → (r : RowRead) → row_in d g at len ≡ ok r → stop ≤ r.next
      reaching_far h r q =
          let n : p.next ≡ r.next = ap (λ (t : RowSpan). t.next) (ok-inj (e ∙ ap spans q)) in
          omega arith

    -- a row that is refused is none
    pub reaching_none : {n : ℕ} → refuse n ≡ spans (row_in d g at len) → (r : RowRead) → row_in d g at len ≡ ok r → stop ≤ r.next
    reaching_none e r q = absurd (apart (sym (e ∙ ap spans q)))

-- The walk of a region up to a target by the match alone: no key is carried, only how many bytes the key before begins with in common with the target, and its
-- length; and the last row that shared no more than the match, from which on the key can be put together. The loop's record says that what is left to do, from
-- here, answers what the whole does.
use Prim.Native.Nat.{ℕ, zero, suc, ◌+◌, ◌<◌, ◌≤◌}
use Rattle.std.specs.Prelude.{◌≡◌, refl, Bool, true, false, cond, not, List, [], ◌∷◌, ◌++◌, eqb, ltb, length, get_or}
use Rattle.std.proofs.Common.{ap, sym, ◌∙◌, ⊎_elim, arith, get_or-take, lt-ltb, le-ltb}
use Rattle.layout.specs.Res.{Res, ok, refuse}
use Rattle.layout.specs.Key.{Key, below, common}
use Rattle.layout.specs.RowRead.{RowRead, key_length, key_of}
use Rattle.layout.specs.Plain.{RowSpan, spans}
use Rattle.layout.specs.Trailer.{Region, row_in}
use Rattle.layout.specs.Seek.{Stop, stop_is, walk_region}
use Rattle.layout.proofs.Laws.Res.{spend, ltb-cases, ok-inj}
use Rattle.layout.specs.Laws.Carry.{suffix_of}
use Rattle.layout.proofs.Laws.Carry.{key_of-length}
use Rattle.layout.proofs.Laws.Key.{common-right}
use Rattle.layout.specs.Laws.Match.{match_after, below_after}
use Rattle.layout.proofs.Laws.Match.{common-none, match-take, match_is, below-is}
use Rattle.layout.specs.Laws.MatchWalk.{span_suffix}
use Rattle.layout.proofs.Laws.Plain.{span-row}
use Rattle.layout.proofs.Laws.Tells.{row-shares, row_in-ends}
use Rattle.block_regions_v2.specs.Rows.{Rows, rows_on, rows-far, part_of, part-suffix, clipped, clipped-length, agrees_clipped, Filling}

-- a test that is turned round
pub was : (b : Bool) → not b ≡ false → b ≡ true
was true e = refl
was false e = sym e

pub was-not : (b : Bool) → not b ≡ true → b ≡ false
was-not true e = sym e
was-not false e = refl

-- the row at `from` was read after a key of `len` bytes, rows from there on lead here, and it shares no more than that key has in common with the target
pub record Based (d : List ℕ) (g : Region) (target : Key) (from len at : ℕ) (before : Key) : Type 0 where
  pub rows : List RowRead
  pub start : Key
  pub long : length start ≡ len
  pub leads : Rows d g from start rows at before
  pub shares : (r : RowRead) → row_in d g from len ≡ ok r → r.shared ≤ common start target
  -- where no row was read, there is no key
  pub none : at ≤ from → start ≡ []

module _ (d : List ℕ) (g : Region) (target : Key) (fuel : ℕ) where
  abbrev whole : Res Stop
  whole = walk_region fuel d g target g.start []

  pub record Climbing (at m len from from-len : ℕ) : Type 0 where
    pub left : ℕ
    pub before : Key
    pub enough : g.end ≤ at + left
    pub long : length before ≡ len
    pub match : common before target ≡ m
    pub under : 0 < len → below before target ≡ true
    pub makes : walk_region left d g target at before ≡ whole
    pub based : Based d g target from from-len at before

  first-shares : (r : RowRead) → row_in d g g.start 0 ≡ ok r → r.shared ≤ common [] target
  first-shares r e =
      let n = row-shares d g.start g.end 0 (eqb g.start g.start) r (row_in-ends d g g.start 0 r e) in
      omega arith

  pub climbing_start : g.end ≤ fuel → Climbing g.start 0 0 g.start 0
  climbing_start k =
      record {
        left = fuel;
        before = [];
        enough = omega arith;
        long = refl;
        match = common-none target;
        under = λ h. absurd (omega arith);
        makes = refl;
        based = record { rows = []; start = []; long = refl; leads = (refl, refl); shares = first-shares; none = λ _. refl };
      }

  module _ (at m len from from-len : ℕ) (s : Climbing at m len from from-len) where
    read_at : {x : Res RowRead} → row_in d g at len ≡ x → row_in d g at (length s.before) ≡ x
    read_at e = ap (λ (n : ℕ). row_in d g at n) s.long ∙ e

    stepped : at < g.end → {A : Type 0} → ((left : ℕ) → g.end ≤ at + suc left → walk_region (suc left) d g target at s.before ≡ whole → A) → A
    stepped h f =
        spend (λ (n : ℕ). walk_region n d g target at s.before) s.left (λ z. absurd (omega (arith, s.enough))) s.makes
        λ more is q. f more (omega (arith, s.enough)) q

    pub climbing_over : g.end ≤ at → ok (stop_is at s.before) ≡ whole
    unfolding walk_region
    climbing_over h = go s.left s.makes
      where
        go : (left : ℕ) → walk_region left d g target at s.before ≡ whole → ok (stop_is at s.before) ≡ whole
        go zero q = q
        go (suc left) q = rw (le-ltb at g.end h) at q

    module _ (h : at < g.end) where
      pub climbing_no : {n : ℕ} → row_in d g at len ≡ refuse n → refuse n ≡ whole
      unfolding walk_region
      climbing_no e = stepped h λ left q w. rw (lt-ltb at g.end h, read_at e) at w

      module _ (r : RowRead) (e : row_in d g at len ≡ ok r) where
        shared-fits : r.shared ≤ length s.before
        shared-fits = rw s.long (row-shares d at g.end len (eqb at g.start) r (row_in-ends d g at len r e))

        order_is : below (key_of d s.before r) target ≡ below_after target m r.shared (suffix_of d r)
        order_is =
            below-is s.before target r.shared (suffix_of d r) shared-fits (λ q. s.under (let f = shared-fits in let l = s.long in omega arith))
            ∙ ap (λ (n : ℕ). below_after target n r.shared (suffix_of d r)) s.match

        row-match : common (key_of d s.before r) target ≡ match_after target m r.shared (suffix_of d r)
        row-match = match_is s.before target r.shared (suffix_of d r) shared-fits ∙ ap (λ (n : ℕ). match_after target n r.shared (suffix_of d r)) s.match

        stops : below_after target m r.shared (suffix_of d r) ≡ false → ok (stop_is at s.before) ≡ whole
        unfolding walk_region
        stops k = stepped h λ left q w. rw (lt-ltb at g.end h, read_at e, order_is ∙ k) at w

        -- the row itself where it shares no more than the match, else the one that was
        base_on : Based d g target (cond (ltb m r.shared) from at) (cond (ltb m r.shared) from-len len) r.next (key_of d s.before r)
        base_on =
            let far = (row_in-ends d g at len r e).least in
            ⊎_elim
            (λ t.
            let b = s.based in
            let near = rows-far d g from b.start b.rows at s.before b.leads in
            rw t.0 (record { rows = b.rows ++ (r ∷ []); start = b.start; long = b.long; leads = rows_on d g from b.start b.rows at s.before b.leads r (read_at e); shares = b.shares; none = λ u. absurd (omega arith) }))
            (λ t.
            let few = t.1 in
            rw t.0 (record { rows = r ∷ []; start = s.before; long = s.long; leads = (read_at e, (refl, refl)); shares = λ x q. let same = ap (λ (y : RowRead). y.shared) (ok-inj (sym e ∙ q)) in let n = s.match in omega arith; none = λ u. absurd (omega arith) }))
            (ltb-cases m r.shared)

        goes_on_lem : below_after target m r.shared (suffix_of d r) ≡ true
            → Climbing r.next (match_after target m r.shared (suffix_of d r)) (key_length r) (cond (ltb m r.shared) from at) (cond (ltb m r.shared) from-len len)
        unfolding walk_region
        goes_on_lem k =
            stepped h λ left q w.
            record {
              left = left;
              before = key_of d s.before r;
              enough = omega (arith, (row_in-ends d g at len r e).least);
              long = key_of-length d at g.end s.before (eqb at g.start) r (read_at e);
              match = row-match;
              under = λ _. order_is ∙ k;
              makes = rw (lt-ltb at g.end h, read_at e, order_is ∙ k) at w;
              based = base_on;
            }

      -- by the row's span, and what its suffix told where it stands in the data
      module _ (p : RowSpan) (e : ok p ≡ spans (row_in d g at len)) where
        pub climbing_stop : {b : Bool} → b ≡ below_after target m p.shared (part_of d p) → not b ≡ true → ok (stop_is at s.before) ≡ whole
        climbing_stop {b} w n =
            let k : below_after target m p.shared (span_suffix d p) ≡ false = sym (rw (part-suffix d p) at w) ∙ was-not b n in
            span-row (row_in d g at len) p e λ r q is. stops r q (rw (sym is) at k)

        pub climbing_more : {b : Bool} {m' from' len' : ℕ} → b ≡ below_after target m p.shared (part_of d p) → not b ≡ false → m' ≡ match_after target m p.shared (part_of d p)
            → from' ≡ cond (ltb m p.shared) from at → len' ≡ cond (ltb m p.shared) from-len len → Climbing p.next m' (p.shared + p.suffix_len) from' len'
        climbing_more {b} w n o f l =
            let k : below_after target m p.shared (span_suffix d p) ≡ true = sym (rw (part-suffix d p) at w) ∙ was b n in
            let o' = rw (part-suffix d p) at o in
            span-row (row_in d g at len) p e λ r q is.
            rw (f, l, o', sym is) (goes_on_lem r q (rw (sym is) at k))

-- ---- what is put together from there on: of the key before that row, the target has what the row shares

pub based_filling : (d : List ℕ) (g : Region) (target : Key) (from len at : ℕ) (before : Key) → Based d g target from len at before → (key : List ℕ) → length key ≤ length before
    → {ys : List ℕ} → ys ≡ clipped key 0 target → Filling d g at before ys from len
based_filling d g target from len at before b key room y =
    rw y
    (record {
      rows = b.rows;
      before = b.start;
      long = b.long;
      leads = b.leads;
      room = rw (clipped-length key 0 target) room;
      kept = λ r e i u v w. let few = b.shares r e in there i v (omega arith);
      whole = λ h i v w. let z = ap length (b.none h) in absurd (omega arith);
    })
  where
    there : (i : ℕ) → i < length (clipped key 0 target) → i < common b.start target → get_or (clipped key 0 target) i 0 ≡ get_or b.start i 0
    there i v h =
        let in-target = common-right b.start target in
        agrees_clipped key [] target 0 (omega arith) (λ j x y z. absurd (omega arith)) i v (omega arith)
        ∙ sym (get_or-take (common b.start target) target i 0 h)
        ∙ ap (λ (k : Key). get_or k i 0) (sym (match-take b.start target (common b.start target) (omega arith)))
        ∙ get_or-take (common b.start target) b.start i 0 h

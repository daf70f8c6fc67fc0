-- The walk, by what was met: one law for each thing that the code does before a region and in one.
use Rattle.std.specs.Prelude.{ℕ, ◌+◌, ◌-◌, ◌≤◌, ◌<◌, ◌≡◌, refl, Bool, true, false, cond, List, ◌++◌, ltb, eqb, length, take, drop, replicate, Result, Option}
use Rattle.std.proofs.Common.{ap, sym, ◌∙◌, subst, ⊎_elim, arith, length-drop, take-add, take-take, drop_at, length-take-le, lt-ltb, le-ltb}
use Rattle.std.proofs.lemmas.List.{length-replicate}
use Rattle.layout.specs.Res.{ok, refuse}
use Rattle.layout.specs.Key.{Key, Ordering, compare}
use Rattle.layout.specs.Limits.{max_key}
use Rattle.layout.specs.Place.{splice}
use Rattle.layout.specs.RowRead.{RowRead, key_length}
use Rattle.layout.specs.Trailer.{Trailer, trailer_of, data_of, Region, region_of, all_offsets, row_in}
use Rattle.layout.proofs.Laws.Res.{ltb-cases, ok-inj}
use Rattle.layout.specs.Laws.Carry.{suffix_of}
use Rattle.layout.proofs.Laws.Carry.{suffix-fits, carries-on}
use Rattle.layout.proofs.Laws.Splice.{length-splice, take-past-splice}
use Rattle.layout.specs.Laws.Check.{Checking}
use Rattle.layout.proofs.Laws.Check.{checking-start, checking-over, checking-no, checking-more, row-region, row-no, row-falls, row-passed}
use Rattle.layout.specs.Laws.Order.{may_by}
use Rattle.layout.specs.Laws.Tells.{RowEnds}
use Rattle.layout.proofs.Laws.Tells.{row-shares, row_in-ends}
use Rattle.layout.specs.Laws.Trailer.{RegionTells}
use Rattle.layout.proofs.Laws.Trailer.{region_of-tells, trailer_of-tells, all_offsets-tell}
use Rattle.basics.specs.declared.Refusal.{Refusal}
use Rattle.block_check_v2.specs.declared.Passed.{Passed}
use Rattle.block_check_v2.specs.Walk.{rows_of, Goes, Stands, Leaves, Tries}

-- in region r, whose bounds are g: a row that ended at its end has left it
pub record Walks (b : List ℕ) (t : Trailer) (r : ℕ) (g : Region) (at rows seq : ℕ) (key : List ℕ) (len : ℕ) : Type 0 where
  pub goes : Goes b t at (cond (ltb at g.end) r (r + 1)) rows seq key len
  pub within : at ≤ g.end

-- the part of a list that is lent from a to before z
abbrev pub lent : List ℕ → ℕ → ℕ → List ℕ
lent l a z = take (z - a) (drop a l)

drop-take : (a z : ℕ) (l : List ℕ) → a ≤ z → a ≤ length l → drop a (take z l) ≡ lent l a z
drop-take a z l h k =
    let n : z ≡ a + (z - a) = omega arith in
    ap (λ (i : ℕ). drop a (take i l)) n ∙ rw (take-add a (z - a) l) (drop_at (take a l) (lent l a z) a (length-take-le a l k))

-- two lists that hold the same key hold the same one after the same write over it
splice-alike : (l k w : List ℕ) (a len : ℕ) → a ≤ len → take len l ≡ take len k → a + length w ≤ length l → a + length w ≤ length k
    → take (a + length w) (splice l a w) ≡ take (a + length w) (splice k a w)
splice-alike l k w a len h e f g =
    take-past-splice l a w f
    ∙ ap (λ (x : List ℕ). x ++ w) (sym (take-take a len l h) ∙ ap (take a) e ∙ take-take a len k h)
    ∙ sym (take-past-splice k a w g)

abbrev pub passed_from : ℕ → ℕ → ℕ → ℕ → ℕ → Passed
passed_from at region len seq rows = record { at = at; region = region; key_len = len; seq = seq; rows = rows }

-- a row's order after the one before it, as it was told: the comparison of the keys, then the test of the numbers
pub may-told : (a b : Key) (before seq : ℕ) {o : Ordering} {m x : Bool} → o ≡ compare a b → m ≡ may_by o before seq → m ≡ x → may_by (compare a b) before seq ≡ x
may-told a b before seq e f g = ap (λ (o : Ordering). may_by o before seq) (sym e) ∙ sym f ∙ g

module _ (b : List ℕ) (t : Trailer) where
  -- the case of an answer is known, so what it leaves is
  pub leaves_as : (p : Passed) (key : List ℕ) {w v : Result (Option Passed) Refusal} → Leaves b t p w key → w ≡ v → Leaves b t p v key
  leaves_as p key l e = subst (λ (x : Result (Option Passed) Refusal). Leaves b t p x key) e l

  pub tries_as : (room : ℕ) {w v : Result (Option ℕ) Refusal} → Tries b t room w → w ≡ v → Tries b t room v
  tries_as room l e = subst (λ (x : Result (Option ℕ) Refusal). Tries b t room x) e l

  pub stands-first : trailer_of b ≡ ok t → all_offsets b t ≡ ok tt → (key : List ℕ) → Stands b t (passed_from 0 0 0 0 0) key
  stands-first e o key =
      record {
        goes =
            record {
              long = replicate max_key 0;
              checking = checking-start b t (replicate max_key 0) (length-replicate {A = ℕ} max_key 0);
              same = refl;
              room = omega arith;
              few = omega arith;
            };
        starts = λ s. (omega (arith, (trailer_of-tells b t e).1), sym (all_offsets-tell b t tt o).first);
      }

  -- what holds of the trailer that was read holds of every trailer that the block has
  pub the_trailer : (P : Trailer → Type 0) → trailer_of b ≡ ok t → P t → (u : Trailer) → trailer_of b ≡ ok u → P u
  the_trailer P e h u f = subst P (ok-inj (sym e ∙ f)) h

  module _ (p : Passed) (key : List ℕ) (s : Stands b t p key) where
    now_goes : Checking b t p.at p.region p.rows p.seq s.goes.long p.key_len
    now_goes = s.goes.checking

    pub stands-over : t.size ≤ p.at → ok p.rows ≡ rows_of b t
    stands-over h = checking-over b t p.at p.region p.rows p.seq s.goes.long p.key_len now_goes h

    module _ (h : p.at < t.size) where
      pub stands-no : {n : ℕ} → region_of b t p.region ≡ refuse n → refuse n ≡ rows_of b t
      stands-no {n} e =
          checking-no b t p.at p.region p.rows p.seq s.goes.long p.key_len now_goes h n
          (sym (row-region b t p.at p.region p.rows p.seq s.goes.long p.key_len now_goes.holds e))

      module _ (g : Region) (e : region_of b t p.region ≡ ok g) where
        tells : RegionTells b t p.region g
        tells = region_of-tells b t p.region g e

        pub stands-inside : p.at < g.end
        stands-inside = omega (arith, (s.starts h).1, tells.from, tells.rises)

        pub stands-walks : Walks b t p.region g p.at p.rows p.seq key p.key_len
        stands-walks =
            let i = stands-inside in
            record { goes = rw (lt-ltb p.at g.end i) s.goes; within = omega arith }

  module _ (r : ℕ) (g : Region) (used : region_of b t r ≡ ok g) (at rows seq : ℕ) (key : List ℕ) (len : ℕ) (w : Walks b t r g at rows seq key len) where
    ends : RegionTells b t r g
    ends = region_of-tells b t r g used

    -- past the last row of the region: its end is where the next starts, or the data's end
    pub walks-over : g.end ≤ at → Stands b t (passed_from at (r + 1) len seq rows) key
    walks-over h =
        let m = w.within in
        record {
          goes = rw (le-ltb at g.end h) at w.goes;
          starts =
              λ s.
              ⊎_elim
              (λ c. (c.1, omega (arith, (ends.inner c.1).0)))
              (λ c. absurd (omega (arith, (ends.last c.1).0)))
              (ltb-cases (r + 1) t.count);
        }

    module _ (h : at < g.end) where
      here : Goes b t at r rows seq key len
      here = rw (lt-ltb at g.end h) at w.goes

      abbrev long : List ℕ
      long = here.long

      checks : Checking b t at r rows seq long len
      checks = here.checking

      inside : at < t.size
      inside = omega (arith, ends.inside)

      pub walks-no : {n : ℕ} → row_in (data_of b t) g at len ≡ refuse n → refuse n ≡ rows_of b t
      walks-no {n} e = checking-no b t at r rows seq long len checks inside n (sym (row-no b t at r rows seq long len checks.holds g used e))

      module _ (x : RowRead) (e : row_in (data_of b t) g at len ≡ ok x) where
        row : RowEnds (data_of b t) at g.end len (eqb at g.start) x
        row = row_in-ends (data_of b t) g at len x e

        shares : x.shared ≤ len
        shares = row-shares (data_of b t) at g.end len (eqb at g.start) x row

        -- the row's suffix and the rest of the carried key, as they are lent
        abbrev pub suffix : List ℕ
        suffix = lent (data_of b t) x.suffix_at (x.suffix_at + x.suffix_len)

        abbrev pub rest : List ℕ
        rest = lent key x.shared len

        suffix-is : suffix_of (data_of b t) x ≡ suffix
        suffix-is =
            let n : x.suffix_len ≡ x.suffix_at + x.suffix_len - x.suffix_at = omega arith in
            ap (λ (i : ℕ). take i (drop x.suffix_at (data_of b t))) n

        suffix-long : length (suffix_of (data_of b t) x) ≡ x.suffix_len
        suffix-long = length-take-le x.suffix_len (drop x.suffix_at (data_of b t)) (rw (length-drop x.suffix_at (data_of b t)) (omega (arith, row.suffix)))

        order : may_by (compare (suffix_of (data_of b t) x) (drop x.shared (take len long))) seq x.seq ≡ may_by (compare suffix rest) seq x.seq
        order = rw (suffix-is, here.same, drop-take x.shared len key shares (omega (arith, here.room, shares)))

        pub walks-falls : may_by (compare suffix rest) seq x.seq ≡ false → refuse 17 ≡ rows_of b t
        walks-falls f = checking-no b t at r rows seq long len checks inside 17 (sym (row-falls b t at r rows seq long len checks.holds g used x e (order ∙ f)))

        -- a key that is longer than the lent bytes
        pub walks-narrow : length key < key_length x → length key < max_key
        walks-narrow k = omega (arith, row.fits)

        module _ (k : key_length x ≤ length key) where
          fits : x.shared + length (suffix_of (data_of b t) x) ≤ length key
          fits = rw suffix-long k

          pub walks-room : x.shared + length suffix ≤ length key
          walks-room = rw (← suffix-is) fits

          pub walks_more : may_by (compare suffix rest) seq x.seq ≡ true
              → (key' : List ℕ) → key' ≡ splice key x.shared suffix
              → Walks b t r g x.next (rows + 1) x.seq key' (key_length x)
          walks_more f key' q =
              rw (q ∙ ap (splice key x.shared) (sym suffix-is))
              (record {
                goes =
                    record {
                      long = splice long x.shared (suffix_of (data_of b t) x);
                      checking =
                          checking-more b t at r rows seq long len checks inside x.next (cond (ltb x.next g.end) r (r + 1)) (rows + 1) x.seq (splice long x.shared (suffix_of (data_of b t) x)) (key_length x)
                          (carries-on (data_of b t) at g.end (eqb at g.start) long len checks.holds x e) (omega (arith, row.least))
                          (row-passed b t at r rows seq long len checks.holds g used x e (order ∙ f));
                      same = rw suffix-long at (splice-alike long key (suffix_of (data_of b t) x) x.shared len shares here.same (suffix-fits (data_of b t) at g.end (eqb at g.start) long len checks.holds x e) fits);
                      room = rw (length-splice key x.shared (suffix_of (data_of b t) x) fits) k;
                      few = omega (arith, here.few, row.least);
                    };
                within = row.within;
              })

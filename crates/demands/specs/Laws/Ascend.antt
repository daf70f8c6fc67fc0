-- An ascending cursor over a block whose rows are read: `Before` says which rows are still to come. A step gives the first of them and stands before the
-- rest; with none left it says "done", and so does every later step. The order of keys is not asked.
use Rattle.std.specs.Prelude.{ℕ, zero, suc, ◌+◌, ◌-◌, ◌<◌, ◌≤◌, ◌≡◌, refl, true, false, List, [], ◌∷◌, ◌++◌, ltb, eqb, length}
use Rattle.std.proofs.Common.{zero-le, ap, sym, ◌∙◌, subst, ⊎_elim, arith, add-one}
use Rattle.layout.specs.Res.{Res, ok, refuse}
use Rattle.layout.specs.Limits.{max_key}
use Rattle.layout.specs.Key.{Key}
use Rattle.layout.specs.RowRead.{RowRead, key_length, key_of}
use Rattle.layout.specs.Trailer.{Trailer, trailer_of, data_of, offset_at, Region, region_of, row_in}
use Rattle.layout.specs.Number.{wrong_after}
use Rattle.layout.specs.Cursor.{ascending, Cursor, cursor_is, marked, opened_up, open_block, Keyed, keyed, found, done, step_is, past_row, step_up, next}
use Rattle.demands.specs.Reads.{region_rows, regions_rows, Reads, all_rows, Names}
use Rattle.layout.proofs.Laws.Res.{ltb-cases}
use Rattle.layout.specs.Laws.Trailer.{RegionTells, OffsetsTell}
use Rattle.layout.proofs.Laws.Trailer.{region_of-tells, trailer_of-tells, all_offsets-tell}
use Rattle.layout.specs.Laws.Tells.{RowEnds}
use Rattle.layout.proofs.Laws.Tells.{row_in-ends}
use Rattle.layout.proofs.Laws.Carry.{key_of-length}
use Rattle.layout.proofs.Laws.Number.{counting-right}
use Rattle.layout.proofs.Laws.Cursor.{open_along_lem, along-up, next_up, next-marked, up_done, up-found, up-short}
use Rattle.demands.specs.Laws.Reads.{region-at, region-over, RegionsAre, next as next-region, regions-are, regions-none, all_rows-none, all_rows-next}
use Rattle.demands.specs.Laws.Counted.{Counted, counted_start, counted-on, names_up}

-- a cursor that stands in a region before the rows `here` of it, after which the regions `rest` come; its number is that of the rows passed there
pub record InRegion (b : List ℕ) (t : Trailer) (c : Cursor) (here : List Keyed) (rest : List (List Keyed)) : Type 0 where
  pub g : Region
  pub goes-up : c.order ≡ ascending
  pub unmarked : c.done ≡ false
  pub trailer-good : trailer_of b ≡ ok t
  pub inside : c.region < t.count
  pub used : region_of b t c.region ≡ ok g
  pub low : g.start ≤ c.at
  pub high : c.at ≤ g.reach
  pub whole : c.key_len ≡ length c.key
  pub fits : c.key_len ≤ max_key
  pub counted : Counted (data_of b t) g c.at c.key c.number
  pub left : ℕ
  pub enough : g.end ≤ c.at + left
  pub rows-here : region_rows left (data_of b t) g c.at c.key ≡ ok here
  pub rows_then : regions_rows (t.count - suc c.region) b t (suc c.region) ≡ ok rest

-- a cursor before some rows: whichever region it stands in
pub record Before (b : List ℕ) (t : Trailer) (c : Cursor) (rows : List Keyed) : Type 0 where
  pub here : List Keyed
  pub rest : List (List Keyed)
  pub stands : InRegion b t c here rest
  pub are : rows ≡ here ++ all_rows rest

-- ---- a step

-- the next region, from its start
enter : (b : List ℕ) (t : Trailer) (region at : ℕ) (rest : List (List Keyed)) → trailer_of b ≡ ok t → suc region < t.count → offset_at b t (suc region) ≡ at
    → regions_rows (t.count - suc region) b t (suc region) ≡ ok rest → Before b t (cursor_is ascending (suc region) at 0 [] false) (all_rows rest)
enter b t region at rest e h o p = go (t.count - suc region) (omega arith) p
  where
    go : (n : ℕ) → n ≡ t.count - suc region → regions_rows n b t (suc region) ≡ ok rest → Before b t (cursor_is ascending (suc region) at 0 [] false) (all_rows rest)
    go zero z p = absurd (omega arith)
    go (suc n) z p = made rest (regions-are n b t (suc region) rest p)
      where
        made : (rest : List (List Keyed)) → RegionsAre n b t (suc region) rest → Before b t (cursor_is ascending (suc region) at 0 [] false) (all_rows rest)
        made rest (next-region g rows more u q w) =
            let tells = region_of-tells b t (suc region) g u in
            let s : g.start ≡ at = tells.from ∙ o in
            let m : n ≡ t.count - suc (suc region) = omega arith in
            record {
              here = rows;
              rest = more;
              stands =
                  record {
                    g = g;
                    goes-up = refl;
                    unmarked = refl;
                    trailer-good = e;
                    inside = h;
                    used = u;
                    low = omega arith;
                    high = omega (arith, tells.rises, tells.near);
                    whole = refl;
                    fits = zero-le;
                    counted = subst (λ (x : ℕ). Counted (data_of b t) g x [] 0) s (counted_start (data_of b t) g);
                    left = t.size;
                    enough = omega (arith, tells.inside);
                    rows-here = rw (← s) q;
                    rows_then = rw (← m) w;
                  };
              are = all_rows-next rows more;
            }

module _ (b : List ℕ) (t : Trailer) (c : Cursor) (room : ℕ) where
  up : {here : List Keyed} {rest : List (List Keyed)} → InRegion b t c here rest → next c b room ≡ step_up c b t room
  up i = next_up c b room t i.trailer-good i.inside i.fits i.unmarked i.goes-up

  -- such a number passes the step's test
  right : {here : List Keyed} {rest : List (List Keyed)} (i : InRegion b t c here rest) → wrong_after (c.at - i.g.start) c.number ≡ false
  right i = counting-right (data_of b t) i.g c.at (length c.key) c.number i.counted.counting

  -- the first row to come is given, and the cursor stands before the rest; a key buffer that is too short answers 19
  pub record Gives (k : Keyed) (rows : List Keyed) : Type 0 where
    pub moved : Cursor
    pub fits-key : key_length k.row ≤ max_key
    pub is_key : length k.key ≡ key_length k.row
    pub named : Names b t c.region c.number k
    pub gives : key_length k.row ≤ room → next c b room ≡ ok (step_is moved (found c.region c.number k.row k.key))
    pub refuses : room < key_length k.row → next c b room ≡ refuse 19
    pub then-before : Before b t moved rows

  in_gives : (here : List Keyed) (rest : List (List Keyed)) (i : InRegion b t c here rest) (r : RowRead) (qs : List Keyed) (m : ℕ) → c.at < i.g.end
      → row_in (data_of b t) i.g c.at (length c.key) ≡ ok r
      → region_rows m (data_of b t) i.g r.next (key_of (data_of b t) c.key r) ≡ ok qs → i.g.end ≤ r.next + m
      → Gives (keyed r (key_of (data_of b t) c.key r)) (qs ++ all_rows rest)
  in_gives here rest i r qs m h p u n =
      let w = row_in-ends (data_of b t) i.g c.at (length c.key) r p in
      let ne : c.at ≡ i.g.end → ⊥ = λ z. absurd (omega arith) in
      let p' : row_in (data_of b t) i.g c.at c.key_len ≡ ok r = rw i.whole p in
      record {
        moved = past_row c i.g r (key_of (data_of b t) c.key r);
        fits-key = w.fits;
        is_key = key_of-length (data_of b t) c.at i.g.end c.key (eqb c.at i.g.start) r p;
        named = names_up b t c.region i.g i.used i.inside c.at c.key c.number r i.counted p;
        gives = λ f. up i ∙ up-found c b t room i.g i.used i.low i.high (right i) ne r p' f;
        refuses = λ f. up i ∙ up-short c b t room i.g i.used i.low i.high (right i) ne r p' f;
        then-before = ⊎_elim (λ s. handed w s.0 s.1) (λ s. stays w s.0 s.1) (ltb-cases i.g.reach r.next);
      }
    where
      tells : RegionTells b t c.region i.g
      tells = region_of-tells b t c.region i.g i.used

      key : Key
      key = key_of (data_of b t) c.key r

      -- the region is finished: the next one is entered, with no key
      handed : RowEnds (data_of b t) c.at i.g.end (length c.key) (eqb c.at i.g.start) r → ltb i.g.reach r.next ≡ true → i.g.reach < r.next
          → Before b t (past_row c i.g r key) (qs ++ all_rows rest)
      handed w e s =
          ⊎_elim
          (λ f.
          let inner = tells.inner f.1 in
          let over : i.g.end ≤ r.next = omega (arith, tells.near) in
          let none : qs ≡ [] = only (region-over m (data_of b t) i.g r.next key over) in
          let place : offset_at b t (suc c.region) ≡ r.next = ap (offset_at b t) (sym (add-one c.region)) ∙ sym inner.0 ∙ omega (arith, w.within) in
          rw (e, none, add-one c.region) (enter b t c.region r.next rest i.trailer-good (omega (arith, f.1)) place i.rows_then))
          (λ f. absurd (omega (arith, (tells.last f.1).1, w.within)))
          (ltb-cases (c.region + 1) t.count)
        where
          only : region_rows m (data_of b t) i.g r.next key ≡ ok [] → qs ≡ []
          only o = ok-one (sym u ∙ o)
            where
              ok-one : ◌≡◌ {A = Res (List Keyed)} (ok qs) (ok []) → qs ≡ []
              ok-one e = cc

      -- the region goes on, with the row's key
      stays : RowEnds (data_of b t) c.at i.g.end (length c.key) (eqb c.at i.g.start) r → ltb i.g.reach r.next ≡ false → r.next ≤ i.g.reach
          → Before b t (past_row c i.g r key) (qs ++ all_rows rest)
      stays w e s =
          rw e
          (record {
            here = qs;
            rest = rest;
            stands =
                record {
                  g = i.g;
                  goes-up = refl;
                  unmarked = refl;
                  trailer-good = i.trailer-good;
                  inside = i.inside;
                  used = i.used;
                  low = omega (arith, w.least, i.low);
                  high = s;
                  whole = refl;
                  fits = rw (key_of-length (data_of b t) c.at i.g.end c.key (eqb c.at i.g.start) r p) w.fits;
                  counted = counted-on (data_of b t) i.g c.at c.key c.number i.counted r p;
                  left = m;
                  enough = n;
                  rows-here = u;
                  rows_then = i.rows_then;
                };
            are = refl;
          })

  pub before-gives : (k : Keyed) (rows : List Keyed) → Before b t c (k ∷ rows) → Gives k rows
  before-gives k rows q =
      region-at q.stands.left (data_of b t) q.stands.g c.at c.key q.here q.stands.rows-here q.stands.enough
      (λ over none. absurd (empty over none))
      (λ r qs m h p u n is. first r qs (q.are ∙ ap (λ (x : List Keyed). x ++ all_rows q.rest) is) (in_gives q.here q.rest q.stands r qs m h p u n))
    where
      i : InRegion b t c q.here q.rest
      i = q.stands

      -- a region is over only at the data's end: then nothing is to come
      empty : i.g.end ≤ c.at → q.here ≡ [] → ⊥
      empty over none =
          let tells = region_of-tells b t c.region i.g i.used in
          ⊎_elim
          (λ f. absurd (omega (arith, (tells.inner f.1).1, i.high)))
          (λ f. nothing (last f.1))
          (ltb-cases (c.region + 1) t.count)
        where
          last : t.count ≤ c.region + 1 → q.rest ≡ []
          last f = none_left (t.count - suc c.region) (omega arith) i.rows_then
            where
              none_left : (n : ℕ) → n ≡ 0 → regions_rows n b t (suc c.region) ≡ ok q.rest → q.rest ≡ []
              none_left zero z p = regions-none b t (suc c.region) q.rest p
              none_left (suc n) z p = absurd (omega arith)

          nothing : q.rest ≡ [] → ⊥
          nothing z =
              let e : k ∷ rows ≡ [] = q.are ∙ rw (none, z) all_rows-none in
              let y : ◌≡◌ {A = ℕ} 0 1 = cc in omega arith

      first : (r : RowRead) (qs : List Keyed) → k ∷ rows ≡ keyed r (key_of (data_of b t) c.key r) ∷ (qs ++ all_rows q.rest)
          → Gives (keyed r (key_of (data_of b t) c.key r)) (qs ++ all_rows q.rest) → Gives k rows
      first r qs e g =
          let a : keyed r (key_of (data_of b t) c.key r) ≡ k = cc in
          let z : qs ++ all_rows q.rest ≡ rows = cc in
          rw (← a, ← z) g

  -- none to come: "done", which sets only the mark
  pub before-done : Before b t c [] → next c b room ≡ ok (step_is (marked c) done)
  before-done q =
      region-at q.stands.left (data_of b t) q.stands.g c.at c.key q.here q.stands.rows-here q.stands.enough
      (λ over none. up q.stands ∙ up_done c b t room q.stands.g q.stands.used q.stands.low q.stands.high (right q.stands) (at-end over))
      (λ r qs m h p u n is. absurd (some r qs (q.are ∙ ap (λ (x : List Keyed). x ++ all_rows q.rest) is)))
    where
      at-end : q.stands.g.end ≤ c.at → c.at ≡ q.stands.g.end
      at-end over = omega (arith, q.stands.high, (region_of-tells b t c.region q.stands.g q.stands.used).reaches)

      some : (r : RowRead) (qs : List Keyed) → [] ≡ keyed r (key_of (data_of b t) c.key r) ∷ (qs ++ all_rows q.rest) → ⊥
      some r qs e = let y : ◌≡◌ {A = ℕ} 0 1 = cc in omega arith

-- once it has said so, it says so ever after, and stays as it is
pub marked-stays : (b : List ℕ) (t : Trailer) (c : Cursor) (room : ℕ) → trailer_of b ≡ ok t → c.region < t.count → c.key_len ≤ max_key → c.done ≡ true
    → next c b room ≡ ok (step_is c done)
marked-stays b t c room e h k m = next-marked c b room t e h k m

-- ---- opening stands before all rows

pub opened-before : (b : List ℕ) (t : Trailer) (rss : List (List Keyed)) → Reads b t rss → Before b t opened_up (all_rows rss)
opened-before b t rss q = go t.count refl (trailer_of-tells b t q.trailer-good).1 q.rows-read
  where
    offs : OffsetsTell b t
    offs = all_offsets-tell b t tt q.offsets-good

    go : (n : ℕ) → n ≡ t.count → 1 ≤ t.count → regions_rows n b t 0 ≡ ok rss → Before b t (cursor_is ascending 0 0 0 [] false) (all_rows rss)
    go zero z h p = absurd (omega arith)
    go (suc n) z h p = made rss (regions-are n b t 0 rss p)
      where
        made : (rss : List (List Keyed)) → RegionsAre n b t 0 rss → Before b t (cursor_is ascending 0 0 0 [] false) (all_rows rss)
        made rss (next-region g rows more u f w) =
            let tells = region_of-tells b t 0 g u in
            let s : g.start ≡ 0 = tells.from ∙ offs.first in
            let m : n ≡ t.count - 1 = omega arith in
            record {
              here = rows;
              rest = more;
              stands =
                  record {
                    g = g;
                    goes-up = refl;
                    unmarked = refl;
                    trailer-good = q.trailer-good;
                    inside = h;
                    used = u;
                    low = omega arith;
                    high = zero-le;
                    whole = refl;
                    fits = zero-le;
                    counted = subst (λ (x : ℕ). Counted (data_of b t) g x [] 0) s (counted_start (data_of b t) g);
                    left = t.size;
                    enough = omega (arith, tells.inside);
                    rows-here = rw (← s) f;
                    rows_then = rw (← m) w;
                  };
              are = all_rows-next rows more;
            }

pub opens_up : (b : List ℕ) (t : Trailer) (rss : List (List Keyed)) → Reads b t rss → open_block b ascending ≡ ok opened_up
opens_up b t rss q = open_along_lem b ascending t q.trailer-good q.offsets-good ∙ along-up b t

-- A block that was laid from rows is read: trailer and offsets are good, and its rows are the rows laid, in order, with a tombstone's value empty. By one row after
-- another: each is read where it was laid, inside its region, and the next stands where it ends.
use Rattle.std.specs.Prelude.{ℕ, zero, suc, ◌+◌, ◌-◌, ◌<◌, ◌≤◌, ◌≡◌, Bool, true, cond, ltb, eqb, take, drop, get_or}
use Rattle.std.proofs.Math.Path.{refl}
use Rattle.std.proofs.Common.{ap, sym, ◌∙◌, ⊎_elim, inr, arith, not-suc-le-zero, add-one, length-append, length-drop, drop-drop, eq-eqb, ne_eqb}
use Rattle.std.proofs.Math.Bool.{false}
use mathlib.Core.List.{List, [], ◌∷◌, ◌++◌, map}
use Rattle.std.proofs.Math.ListN.{length}
use Rattle.layout.specs.Res.{ok}
use Rattle.layout.specs.Key.{Key}
use Rattle.layout.specs.Row.{Fields, Row, row_bytes, plain_row}
use Rattle.layout.specs.RowRead.{RowRead, may_share, read_row, key_of}
use Rattle.layout.specs.Block.{is_restart, share_of, laid_row, rows_from, offsets_from, block_rows, offsets, trailer, block_bytes}
use Rattle.layout.specs.Trailer.{Trailer, trailer_is, data_of, offset_at, Region, region_of, row_in}
use Rattle.layout.specs.Cursor.{Keyed, keyed}
use Rattle.demands.specs.Reads.{region_rows, regions_rows, Reads, all_rows, content_of}
use Rattle.demands.specs.AnyOrder.{put_first, cut_from, regions_from}
use Rattle.layout.proofs.Laws.Res.{ltb-cases, clash}
use Rattle.layout.proofs.Laws.Place.{past, within}
use Rattle.layout.specs.Laws.Row.{places_of}
use Rattle.layout.proofs.Laws.Row.{read_row-law, places_of-fields, places_of-key}
use Rattle.layout.specs.Laws.Block.{RowOk, AllOk, AllFit}
use Rattle.layout.proofs.Laws.Block.{shares-is, shares-ok, laid_row-least, first-restart, offsets-few}
use Rattle.layout.specs.Laws.Trailer.{OffsetsTell, TrailerLaid}
use Rattle.layout.proofs.Laws.Trailer.{region_of-tells, trailer-laid, offsets-good, region-good}
use Rattle.demands.specs.Laws.Reads.{region-over, regions-cons, all_rows-none, all_rows-next}
use Rattle.demands.specs.Laws.Accept.{Stands, Next, stay, enter, end, past_row_lem, first-here, no_more, one_more}

-- ---- offsets that were laid rise from the place on, and lie below the rows' end

abbrev Between : ℕ → ℕ → List ℕ → Type 0
Between low high [] = Unit {0}
Between low high (o ∷ os) = (low ≤ o) × (o < high) × Between (suc o) high os

between-wide : (low low' high : ℕ) (os : List ℕ) → low' ≤ low → Between low high os → Between low' high os
between-wide low low' high [] h b = tt
between-wide low low' high (o ∷ os) h b = (omega (arith, b.0), b.1, b.2)

laid-between : (n i at : ℕ) (before : Key) (rs : List Row) (high : ℕ) → at + length (rows_from n i before rs) ≤ high → Between at high (offsets_from n i at before rs)
unfolding offsets_from rows_from
laid-between n i at before [] high h = tt
laid-between n i at before (r ∷ rs) high h =
    let w : List ℕ = laid_row (is_restart n i) before r.key r.fields in
    let l = laid_row-least (is_restart n i) before r.key r.fields in
    let a = length-append (laid_row (is_restart n i) before r.key r.fields) (rows_from n (suc i) r.key rs) in
    let ih = laid-between n (suc i) (at + length (laid_row (is_restart n i) before r.key r.fields)) r.key rs high (omega arith) in
    go (is_restart n i) (offsets_from n (suc i) (at + length (laid_row (is_restart n i) before r.key r.fields)) r.key rs) (omega arith)
    (between-wide (at + length (laid_row (is_restart n i) before r.key r.fields)) (suc at) high (offsets_from n (suc i) (at + length (laid_row (is_restart n i) before r.key r.fields)) r.key rs) (omega arith) ih)
  where
    go : (t : Bool) (more : List ℕ) → at < high → Between (suc at) high more → Between at high (cond t (at ∷ more) more)
    go true more l b = (omega arith, l, b)
    go false more l b = between-wide (suc at) at high more (omega arith) b

between-at : (low high : ℕ) (os : List ℕ) → Between low high os → (i : ℕ) → i < length os → (low ≤ get_or os i 0) × (get_or os i 0 < high)
between-at low high [] b i h = absurd (not-suc-le-zero h)
between-at low high (o ∷ os) b zero h = (b.0, b.1)
between-at low high (o ∷ os) b (suc i) h =
    let ih = between-at (suc o) high os b.2 i (omega arith) in
    (omega (arith, b.0, ih.0), ih.1)

between-rises : (low high : ℕ) (os : List ℕ) → Between low high os → (i : ℕ) → suc i < length os → get_or os i 0 < get_or os (suc i) 0
between-rises low high [] b i h = absurd (not-suc-le-zero h)
between-rises low high (o ∷ os) b zero h = (between-at (suc o) high os b.2 0 (omega arith)).0
between-rises low high (o ∷ os) b (suc i) h = between-rises (suc o) high os b.2 i (omega arith)

-- ---- the offset after a region, or the data's end

abbrev pub end_of : ℕ → List ℕ → ℕ
end_of n [] = n
end_of n (o ∷ os) = o

end_of-drop : (n k : ℕ) (os : List ℕ) → end_of n (drop k os) ≡ get_or os k n
end_of-drop n zero [] = refl
end_of-drop n zero (o ∷ os) = refl
end_of-drop n (suc k) [] = refl
end_of-drop n (suc k) (o ∷ os) = end_of-drop n k os

get_d_other : (os : List ℕ) (k m n : ℕ) → k < length os → get_or os k m ≡ get_or os k n
get_d_other [] k m n h = absurd (not-suc-le-zero h)
get_d_other (o ∷ os) zero m n h = refl
get_d_other (o ∷ os) (suc k) m n h = get_d_other os k m n (omega arith)

get_d_past : (os : List ℕ) (k n : ℕ) → length os ≤ k → get_or os k n ≡ n
get_d_past [] zero n h = refl
get_d_past [] (suc k) n h = refl
get_d_past (o ∷ os) zero n h = absurd (not-suc-le-zero h)
get_d_past (o ∷ os) (suc k) n h = get_d_past os k n (omega arith)

end_of-ge : (n i at : ℕ) (before : Key) (rs : List Row) (high : ℕ) → at + length (rows_from n i before rs) ≤ high → at ≤ end_of high (offsets_from n i at before rs)
end_of-ge n i at before rs high h = go (offsets_from n i at before rs) (laid-between n i at before rs high h)
  where
    go : (os : List ℕ) → Between at high os → at ≤ end_of high os
    go [] b = omega arith
    go (o ∷ os) b = b.0

-- ---- one row after another

-- what stands from a place of the block on, as it is read: the rows of this region, and of those after it, of which row i is the first
pub record Read (b : List ℕ) (t : Trailer) (g : Region) (n i at region : ℕ) (carried : Key) (rows : List Row) : Type 0 where
  pub here : List Keyed
  pub rest : List (List Keyed)
  pub rows-here : region_rows t.size (data_of b t) g at carried ≡ ok here
  pub rows_then : regions_rows (t.count - suc region) b t (suc region) ≡ ok rest
  pub contents : map (content_of (data_of b t)) (here ++ all_rows rest) ≡ map plain_row rows
  pub parts : map (map (content_of (data_of b t))) (here ∷ rest) ≡ regions_from n i (map plain_row rows)

-- row i after the key before: its bytes, what it shares, its suffix, and its places
abbrev bytes_of : ℕ → ℕ → Key → Row → List ℕ
bytes_of n i before r = laid_row (is_restart n i) before r.key r.fields

abbrev share_in : ℕ → ℕ → Key → Row → ℕ
share_in n i before r = share_of (is_restart n i) before r.key

abbrev suffix_in : ℕ → ℕ → Key → Row → List ℕ
suffix_in n i before r = drop (share_in n i before r) r.key

abbrev places_in : ℕ → ℕ → ℕ → Key → Row → RowRead
places_in n i at before r = places_of at (share_in n i before r) (suffix_in n i before r) r.fields

as_row : (n i : ℕ) (before : Key) (r : Row) → bytes_of n i before r ≡ row_bytes (share_in n i before r) (suffix_in n i before r) r.fields
unfolding laid_row
as_row n i before r = refl

-- the rows and the offsets, one row taken off
rows_none : (n i : ℕ) (before : Key) → length (rows_from n i before []) ≡ 0
unfolding rows_from
rows_none n i before = refl

rows_more : (n i : ℕ) (before : Key) (r : Row) (rs : List Row) → length (rows_from n i before (r ∷ rs)) ≡ length (bytes_of n i before r) + length (rows_from n (suc i) r.key rs)
unfolding rows_from
rows_more n i before r rs = length-append (bytes_of n i before r) (rows_from n (suc i) r.key rs)

offsets-restart : (n i at : ℕ) (before : Key) (r : Row) (rs : List Row) → is_restart n i ≡ true
    → offsets_from n i at before (r ∷ rs) ≡ at ∷ offsets_from n (suc i) (at + length (bytes_of n i before r)) r.key rs
unfolding offsets_from
offsets-restart n i at before r rs e = rw e

offsets-plain : (n i at : ℕ) (before : Key) (r : Row) (rs : List Row) → is_restart n i ≡ false
    → offsets_from n i at before (r ∷ rs) ≡ offsets_from n (suc i) (at + length (bytes_of n i before r)) r.key rs
unfolding offsets_from
offsets-plain n i at before r rs e = rw e

-- a row before others, in their first region or in one of its own
part-on : (n i : ℕ) (r y : Row) (ys : List Row) → is_restart n (suc i) ≡ false → put_first r (regions_from n (suc i) (y ∷ ys)) ≡ regions_from n i (r ∷ (y ∷ ys))
unfolding regions_from cut_from
part-on n i r y ys m = rw m

part-new : (n i : ℕ) (r y : Row) (ys : List Row) → is_restart n (suc i) ≡ true → (r ∷ []) ∷ regions_from n (suc i) (y ∷ ys) ≡ regions_from n i (r ∷ (y ∷ ys))
unfolding regions_from cut_from
part-new n i r y ys m = rw m

module _ (b : List ℕ) (t : Trailer) (n : ℕ) (offs : List ℕ) (tell : OffsetsTell b t) (count : length offs ≡ t.count) (size : length (data_of b t) ≡ t.size)
    (each : (i : ℕ) → i < length offs → offset_at b t i ≡ get_or offs i 0) where
  -- a region ends at the next offset, or at the data's end
  region-end : (g : Region) (region : ℕ) → region_of b t region ≡ ok g → g.end ≡ end_of t.size (drop (suc region) offs)
  region-end g region u =
      let tells = region_of-tells b t region g u in
      ⊎_elim
      (λ c.
      let k : region + 1 ≡ suc region = add-one region in
      (tells.inner c.1).0 ∙ ap (offset_at b t) k ∙ each (suc region) (omega (arith, c.1)) ∙ get_d_other offs (suc region) 0 t.size (omega (arith, c.1)) ∙ sym (end_of-drop t.size (suc region) offs))
      (λ c. (tells.last c.1).0 ∙ sym (get_d_past offs (suc region) t.size (omega (arith, c.1))) ∙ sym (end_of-drop t.size (suc region) offs))
      (ltb-cases (region + 1) t.count)

  -- row i, which starts at `at`: its bytes and those after it stand there, and the offsets after its region are those of the rows after it
  pub record LaidAt (i at region : ℕ) (before : Key) (r : Row) (rs : List Row) (g : Region) (carried : Key) : Type 0 where
    pub stands : Stands b t g at region before carried
    pub bytes : drop at (data_of b t) ≡ rows_from n i before (r ∷ rs)
    pub marks : eqb at g.start ≡ is_restart n i
    pub carries : is_restart n i ≡ false → carried ≡ before
    pub later : drop (suc region) offs ≡ offsets_from n (suc i) (at + length (bytes_of n i before r)) r.key rs

  module _ (i at region : ℕ) (before : Key) (r : Row) (rs : List Row) (g : Region) (carried : Key) (l : LaidAt i at region before r rs g carried) (h : RowOk r) where
    then-bytes : drop at (data_of b t) ≡ bytes_of n i before r ++ rows_from n (suc i) r.key rs
    unfolding rows_from
    then-bytes = l.bytes

    after-bytes : drop (at + length (bytes_of n i before r)) (data_of b t) ≡ rows_from n (suc i) r.key rs
    after-bytes = past (data_of b t) at (bytes_of n i before r) (rows_from n (suc i) r.key rs) then-bytes

    total : at + length (bytes_of n i before r) + length (rows_from n (suc i) r.key rs) ≡ t.size
    total =
        let in_data : at + length (bytes_of n i before r) ≤ length (data_of b t) =
        within (data_of b t) at (bytes_of n i before r) (rows_from n (suc i) r.key rs) then-bytes (omega (arith, laid_row-least (is_restart n i) before r.key r.fields)) in
        omega (arith, size, ap length after-bytes, length-drop (at + length (bytes_of n i before r)) (data_of b t))

    ends_in : at + length (bytes_of n i before r) ≤ g.end
    ends_in =
        let e : g.end ≡ end_of t.size (offsets_from n (suc i) (at + length (bytes_of n i before r)) r.key rs) = region-end g region l.stands.used ∙ ap (end_of t.size) l.later in
        omega (arith, end_of-ge n (suc i) (at + length (bytes_of n i before r)) r.key rs t.size (omega (arith, total)))

    shares : share_in n i before r ≤ may_share (is_restart n i) (length carried)
    shares = go (is_restart n i) refl
      where
        go : (x : Bool) → is_restart n i ≡ x → share_of x before r.key ≤ may_share x (length carried)
        go true e = (shares-is true before r.key).may
        go false e = rw (l.carries e) (shares-is false before r.key).may

    at_row : drop at (data_of b t) ≡ row_bytes (share_in n i before r) (suffix_in n i before r) r.fields ++ rows_from n (suc i) r.key rs
    at_row = then-bytes ∙ ap (λ (x : List ℕ). x ++ rows_from n (suc i) r.key rs) (as_row n i before r)

    is_read : row_in (data_of b t) g at (length carried) ≡ ok (places_in n i at before r)
    is_read =
        ap (read_row (data_of b t) at g.end (length carried)) l.marks
        ∙ read_row-law (data_of b t) at (share_in n i before r) (suffix_in n i before r) r.fields (rows_from n (suc i) r.key rs) at_row (length carried) (is_restart n i) shares
        (shares-ok (is_restart n i) before r.key h.key-some h.key_fits) h.fields-ok g.end (omega (arith, ap length (as_row n i before r), ends_in))

    key-is : key_of (data_of b t) carried (places_in n i at before r) ≡ r.key
    key-is = places_of-key (data_of b t) at (share_in n i before r) (suffix_in n i before r) r.fields (rows_from n (suc i) r.key rs) at_row carried ∙ go (is_restart n i) refl
      where
        go : (x : Bool) → is_restart n i ≡ x → take (share_of x before r.key) carried ++ drop (share_of x before r.key) r.key ≡ r.key
        go true e = unfold share_of in refl
        go false e = rw (l.carries e) (shares-is false before r.key).makes

    content_is : content_of (data_of b t) (keyed (places_in n i at before r) r.key) ≡ plain_row r
    content_is = ap (with_key r.key) (places_of-fields (data_of b t) at (share_in n i before r) (suffix_in n i before r) r.fields (rows_from n (suc i) r.key rs) at_row)
      where
        with_key : Key → Fields → Row
        with_key k f = record { key = k; fields = f }

    ends_at : (places_in n i at before r).next ≡ at + length (bytes_of n i before r)
    ends_at = ap (λ (x : List ℕ). at + length x) (sym (as_row n i before r))

  laid-reads : (rs : List Row) (i at region : ℕ) (before : Key) (r : Row) (g : Region) (carried : Key) → LaidAt i at region before r rs g carried → RowOk r → AllOk rs
      → Read b t g n i at region carried (r ∷ rs)
  laid-reads [] i at region before r g carried l h a =
      go (cond (ltb (places_in n i at before r).next g.end) region (region + 1)) (past_row_lem b t tell g at region before carried (places_in n i at before r) r.key l.stands (is_read i at region before r [] g carried l h))
    where
      at_size : (places_in n i at before r).next ≡ t.size
      at_size = omega (arith, ends_at i at region before r [] g carried l h, total i at region before r [] g carried l h, rows_none n (suc i) r.key)

      go : (region' : ℕ) → Next b t g (places_in n i at before r).next region r.key region' → Read b t g n i at region carried (r ∷ [])
      go region' (stay s) = absurd (omega (arith, s.high, at_size, (region_of-tells b t region g l.stands.used).inside))
      go region' (enter f e₁ e₂ s) = absurd (omega (arith, s.high, at_size, (region_of-tells b t (region + 1) f s.used).inside))
      go region' (end e₁ over last) =
          record {
            here = keyed (places_in n i at before r) r.key ∷ [];
            rest = [];
            rows-here =
                first-here b t tell g at region before carried (places_in n i at before r) r.key [] l.stands (is_read i at region before r [] g carried l h) (key-is i at region before r [] g carried l h)
                (region-over t.size (data_of b t) g (places_in n i at before r).next r.key (omega arith));
            rows_then = no_more b t tell region last;
            contents = rw (all_rows-none, content_is i at region before r [] g carried l h);
            parts = rw (content_is i at region before r [] g carried l h) (unfold regions_from cut_from in refl);
          }
  laid-reads (y ∷ ys) i at region before r g carried l h a =
      go (cond (ltb (places_in n i at before r).next g.end) region (region + 1))
      (past_row_lem b t tell g at region before carried (places_in n i at before r) r.key l.stands (is_read i at region before r (y ∷ ys) g carried l h)) (is_restart n (suc i)) refl (laid-reads ys)
    where
      is-next : (places_in n i at before r).next ≡ at + length (bytes_of n i before r)
      is-next = ends_at i at region before r (y ∷ ys) g carried l h

      -- there is another row, so the data goes on
      inside : (places_in n i at before r).next + 12 ≤ t.size
      inside = omega (arith, is-next, total i at region before r (y ∷ ys) g carried l h, rows_more n (suc i) r.key y ys, laid_row-least (is_restart n (suc i)) r.key y.key y.fields)

      bytes_next : drop (places_in n i at before r).next (data_of b t) ≡ rows_from n (suc i) r.key (y ∷ ys)
      bytes_next = ap (λ (k : ℕ). drop k (data_of b t)) is-next ∙ after-bytes i at region before r (y ∷ ys) g carried l h

      later : drop (suc region) offs ≡ offsets_from n (suc i) (places_in n i at before r).next r.key (y ∷ ys)
      later = l.later ∙ ap (λ (k : ℕ). offsets_from n (suc i) k r.key (y ∷ ys)) (sym is-next)

      ending : g.end ≡ end_of t.size (offsets_from n (suc i) (places_in n i at before r).next r.key (y ∷ ys))
      ending = region-end g region l.stands.used ∙ ap (end_of t.size) later

      -- this row, then what was read of the rest in this region
      with_row : (ks : List Keyed) → region_rows t.size (data_of b t) g (places_in n i at before r).next r.key ≡ ok ks
          → region_rows t.size (data_of b t) g at carried ≡ ok (keyed (places_in n i at before r) r.key ∷ ks)
      with_row ks p =
          first-here b t tell g at region before carried (places_in n i at before r) r.key ks l.stands (is_read i at region before r (y ∷ ys) g carried l h)
          (key-is i at region before r (y ∷ ys) g carried l h)
          p

      this : content_of (data_of b t) (keyed (places_in n i at before r) r.key) ≡ plain_row r
      this = content_is i at region before r (y ∷ ys) g carried l h

      -- the next row is no restart: the region goes on
      goes_on_lem : Stands b t g (places_in n i at before r).next region r.key r.key → is_restart n (suc i) ≡ false
          → ((i at region : ℕ) (before : Key) (r : Row) (g : Region) (carried : Key) → LaidAt i at region before r ys g carried → RowOk r → AllOk ys → Read b t g n i at region carried (r ∷ ys))
          → Read b t g n i at region carried (r ∷ (y ∷ ys))
      goes_on_lem s m ih =
          let q =
          ih (suc i) (places_in n i at before r).next region r.key y g r.key
          (record {
            stands = s;
            bytes = bytes_next;
            marks = ne_eqb (places_in n i at before r).next g.start (omega (arith, l.stands.low, is-next, laid_row-least (is_restart n i) before r.key r.fields)) ∙ sym m;
            carries = λ z. refl;
            later = later ∙ offsets-plain n (suc i) (places_in n i at before r).next r.key y ys m;
          })
          a.0
          a.1 in
          record {
            here = keyed (places_in n i at before r) r.key ∷ q.here;
            rest = q.rest;
            rows-here = with_row q.here q.rows-here;
            rows_then = q.rows_then;
            contents = rw (this, q.contents);
            parts = rw this (ap (put_first (plain_row r)) q.parts ∙ part-on n i (plain_row r) (plain_row y) (map plain_row ys) m);
          }

      -- it is: the next region starts there
      enters : (f : Region) → (places_in n i at before r).next ≡ g.end → (places_in n i at before r).next ≡ f.start → Stands b t f (places_in n i at before r).next (region + 1) r.key []
          → is_restart n (suc i) ≡ true
          → ((i at region : ℕ) (before : Key) (r : Row) (g : Region) (carried : Key) → LaidAt i at region before r ys g carried → RowOk r → AllOk ys → Read b t g n i at region carried (r ∷ ys))
          → Read b t g n i at region carried (r ∷ (y ∷ ys))
      enters f e₁ e₂ s m ih =
          let place : suc (region + 1) ≡ suc region + 1 = omega arith in
          let tail : drop (suc (region + 1)) offs ≡ offsets_from n (suc (suc i)) ((places_in n i at before r).next + length (bytes_of n (suc i) r.key y)) y.key ys =
          ap (λ (k : ℕ). drop k offs) place ∙ sym (drop-drop 1 (suc region) offs) ∙ ap (drop 1) (later ∙ offsets-restart n (suc i) (places_in n i at before r).next r.key y ys m) in
          let q =
          ih (suc i) (places_in n i at before r).next (region + 1) r.key y f []
          (record { stands = s; bytes = bytes_next; marks = eq-eqb (places_in n i at before r).next f.start e₂ ∙ sym m; carries = λ z. absurd (clash m z); later = tail }) a.0 a.1 in
          let rows_next : region_rows t.size (data_of b t) f f.start [] ≡ ok q.here = ap (λ (k : ℕ). region_rows t.size (data_of b t) f k []) (sym e₂) ∙ q.rows-here in
          record {
            here = keyed (places_in n i at before r) r.key ∷ [];
            rest = q.here ∷ q.rest;
            rows-here = with_row [] (region-over t.size (data_of b t) g (places_in n i at before r).next r.key (omega arith));
            rows_then = one_more b t tell region f q.here q.rest s.inside s.used rows_next q.rows_then;
            contents = rw (this, all_rows-next q.here q.rest, q.contents);
            parts = rw this (ap (λ (x : List (List Row)). (plain_row r ∷ []) ∷ x) q.parts ∙ part-new n i (plain_row r) (plain_row y) (map plain_row ys) m);
          }

      go : (region' : ℕ) → Next b t g (places_in n i at before r).next region r.key region' → (x : Bool) → is_restart n (suc i) ≡ x
          → ((i at region : ℕ) (before : Key) (r : Row) (g : Region) (carried : Key) → LaidAt i at region before r ys g carried → RowOk r → AllOk ys → Read b t g n i at region carried (r ∷ ys))
          → Read b t g n i at region carried (r ∷ (y ∷ ys))
      go region' (stay s) true m ih = absurd (omega (arith, s.high, ending ∙ ap (end_of t.size) (offsets-restart n (suc i) (places_in n i at before r).next r.key y ys m)))
      go region' (stay s) false m ih = goes_on_lem s m ih
      go region' (enter f e₁ e₂ s) true m ih = enters f e₁ e₂ s m ih
      go region' (enter f e₁ e₂ s) false m ih =
          absurd
          (omega (
            arith,
            ending ∙ ap (end_of t.size) (offsets-plain n (suc i) (places_in n i at before r).next r.key y ys m),
            end_of-ge n (suc (suc i)) ((places_in n i at before r).next + length (bytes_of n (suc i) r.key y)) y.key ys t.size (omega (arith, is-next, total i at region before r (y ∷ ys) g carried l h, rows_more n (suc i) r.key y ys)),
            laid_row-least (is_restart n (suc i)) r.key y.key y.fields,
          ))
      go region' (end e₁ over last) x m ih = absurd (omega (arith, inside))

-- ---- the whole block

pub record LaidBlock (b : List ℕ) (n : ℕ) (rows : List Row) : Type 0 where
  pub t : Trailer
  pub regions : List (List Keyed)
  pub reads : Reads b t regions
  pub bytes : data_of b t ≡ block_rows n rows
  pub count : t.count ≡ length (offsets n rows)
  pub contents : map (content_of (data_of b t)) (all_rows regions) ≡ map plain_row rows
  pub parts : map (map (content_of (data_of b t))) regions ≡ regions_from n 0 (map plain_row rows)

pub laid-block : (n : ℕ) (r : Row) (rs : List Row) → AllOk (r ∷ rs) → AllFit (offsets n (r ∷ rs)) → LaidBlock (block_bytes n (r ∷ rs)) n (r ∷ rs)
unfolding block_bytes
laid-block n r rs a f = made (trailer-laid (block_rows n (r ∷ rs)) (offsets n (r ∷ rs)) f some (omega (arith, offsets-few n (r ∷ rs) a f)))
  where
    begins : offsets n (r ∷ rs) ≡ 0 ∷ offsets_from n 1 (0 + length (bytes_of n 0 [] r)) r.key rs
    begins = (unfold offsets in offsets-restart n 0 0 [] r rs (first-restart n))

    some : 1 ≤ length (offsets n (r ∷ rs))
    some = rw begins (omega arith)

    between : Between 0 (length (block_rows n (r ∷ rs))) (offsets n (r ∷ rs))
    between = unfold offsets block_rows in laid-between n 0 0 [] (r ∷ rs) (length (rows_from n 0 [] (r ∷ rs))) (omega arith)

    made : TrailerLaid (block_rows n (r ∷ rs)) (offsets n (r ∷ rs)) (block_rows n (r ∷ rs) ++ trailer (offsets n (r ∷ rs))) → LaidBlock (block_rows n (r ∷ rs) ++ trailer (offsets n (r ∷ rs))) n (r ∷ rs)
    made tl =
        let b : List ℕ = block_rows n (r ∷ rs) ++ trailer (offsets n (r ∷ rs)) in
        let t : Trailer = trailer_is (length (offsets n (r ∷ rs))) (length (block_rows n (r ∷ rs))) in
        let q = region-good b t tell 0 some in
        let tells = region_of-tells b t 0 q.0 q.1 in
        let z : q.0.start ≡ 0 = tells.from ∙ tell.first in
        let w =
        laid-reads b t n (offsets n (r ∷ rs)) tell refl (ap length tl.rows) tl.offs rs 0 0 0 [] r q.0 []
        (record {
          stands = record { used = q.1; inside = some; low = omega arith; high = omega (arith, tells.rises); carries = inr refl };
          bytes = tl.rows ∙ whole;
          marks = eq-eqb 0 q.0.start (sym z) ∙ sym (first-restart n);
          carries = λ e. refl;
          later = ap (drop 1) begins;
        })
        a.0
        a.1 in
        let rows-first : region_rows t.size (data_of b t) q.0 q.0.start [] ≡ ok w.here = ap (λ (k : ℕ). region_rows t.size (data_of b t) q.0 k []) z ∙ w.rows-here in
        let m : t.count ≡ suc (t.count - 1) = omega (arith, some) in
        record {
          t = t;
          regions = w.here ∷ w.rest;
          reads =
              record {
                trailer-good = tl.read;
                offsets-good = offsets-good b t tell;
                rows-read = ap (λ (k : ℕ). regions_rows k b t 0) m ∙ regions-cons (t.count - 1) b t 0 q.0 w.here w.rest q.1 rows-first w.rows_then;
              };
          bytes = tl.rows;
          count = refl;
          contents = ap (map (content_of (data_of b t))) (all_rows-next w.here w.rest) ∙ w.contents;
          parts = w.parts;
        }
      where
        whole : block_rows n (r ∷ rs) ≡ rows_from n 0 [] (r ∷ rs)
        whole = unfold block_rows in refl

        tell : OffsetsTell (block_rows n (r ∷ rs) ++ trailer (offsets n (r ∷ rs))) (trailer_is (length (offsets n (r ∷ rs))) (length (block_rows n (r ∷ rs))))
        tell =
            record {
              first = tl.offs 0 some ∙ ap (λ (x : List ℕ). get_or x 0 0) begins;
              below-size = λ i h. rw (tl.offs i h) (between-at 0 (length (block_rows n (r ∷ rs))) (offsets n (r ∷ rs)) between i h).1;
              rises = λ i h.
                  rw (tl.offs i (omega arith), tl.offs (i + 1) h, add-one i) (between-rises 0 (length (block_rows n (r ∷ rs))) (offsets n (r ∷ rs)) between i (omega (arith, h)));
            }

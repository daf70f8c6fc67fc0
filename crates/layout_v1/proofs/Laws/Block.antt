-- A block of the earlier format as it is laid, and how it grows by one row; offsets that are allowed are at most 5,042. Then its rows where they stand: trailer and offsets are
-- good, and each row, from its offset to the next, is read back whole, and its key alone.
use Rattle.std.specs.Prelude.{ℕ, suc, ◌+◌, ◌-◌, ◌*◌, ◌<◌, ◌≤◌, ◌≡◌, length, drop}
use Rattle.std.proofs.Common.{zero-le, ap, sym, ◌∙◌, ⊎_elim, arith, add-zero, zero-add, add_assoc, add-one, length-append, length-drop, le-ltb}
use Rattle.std.proofs.Math.Path.{refl}
use Rattle.std.proofs.Math.Bool.{false}
use mathlib.Core.List.{List, [], ◌∷◌, ◌++◌, append_assoc, append-nil}
use Rattle.std.proofs.lemmas.Bool.{lt-leb}
use Rattle.layout.specs.Res.{ok}
use Rattle.layout.specs.Limits.{max_offset, max_restarts}
use Rattle.layout.specs.Key.{Key, common}
use Rattle.layout.specs.Row.{Fields, Row, plain}
use Rattle.layout.specs.RowRead.{key_of, fields_of}
use Rattle.layout.specs.Block.{share_of, trailer}
use Rattle.layout.specs.Trailer.{Trailer, trailer_is, data_of, offset_at, rising_from, Region, region_is, first_of, region_of}
use Rattle.layout.proofs.Laws.Res.{ltb-cases, eqb-cases}
use Rattle.layout.proofs.Laws.Place.{past}
use Rattle.layout.specs.Laws.Block.{AllFit, RowOk, Shares}
use Rattle.layout.proofs.Laws.Block.{shares-is, shares-ok}
use Rattle.layout.specs.Laws.Trailer.{TrailerLaid}
use Rattle.layout.proofs.Laws.Trailer.{region-inner, region-last, offsets-rest, trailer-laid}
use Rattle.layout_v1.specs.Row.{row_bytes}
use Rattle.layout_v1.specs.Block.{laid_row, rows_from, offsets_from, block_rows, offsets, block_bytes}
use Rattle.layout_v1.specs.Check.{before, row_numbered}
use Rattle.layout_v1.proofs.Laws.Codec.{row_bytes-least, read_row-law, places_of-fields, places_of-key}
use Rattle.layout_v1.specs.Laws.Block.{BlockLaid, RestAt, StandsAt, first_or, placed_row}

-- ---- how long rows are

pub laid_row-least : (first key : Key) (f : Fields) → 13 ≤ length (laid_row first key f)
unfolding laid_row
laid_row-least first key f = omega (arith, row_bytes-least (common first key) (drop (common first key) key) f)

rows_from-least : (first : Key) (rs : List Row) → 13 * length rs ≤ length (rows_from first rs)
unfolding rows_from
rows_from-least first [] = zero-le
rows_from-least first (r ∷ rs) =
    omega (arith, rows_from-least first rs, laid_row-least first r.key r.fields, length-append (laid_row first r.key r.fields) (rows_from first rs))

pub block_rows-least : (rs : List Row) → 13 * length rs ≤ length (block_rows rs)
unfolding block_rows
block_rows-least [] = zero-le
block_rows-least (r ∷ rs) =
    omega (arith, rows_from-least r.key rs, laid_row-least [] r.key r.fields, length-append (laid_row [] r.key r.fields) (rows_from r.key rs))

-- ---- one row more

rows_from-snoc : (first : Key) (rs : List Row) (r : Row) → rows_from first (rs ++ (r ∷ [])) ≡ rows_from first rs ++ laid_row first r.key r.fields
unfolding rows_from
rows_from-snoc first [] r = append-nil (laid_row first r.key r.fields)
rows_from-snoc first (x ∷ xs) r = rw (rows_from-snoc first xs r) (sym (append_assoc (laid_row first x.key x.fields) (rows_from first xs) (laid_row first r.key r.fields)))

offsets_from-snoc : (at : ℕ) (first : Key) (rs : List Row) (r : Row) → offsets_from at first (rs ++ (r ∷ [])) ≡ offsets_from at first rs ++ ((at + length (rows_from first rs)) ∷ [])
unfolding rows_from offsets_from
offsets_from-snoc at first [] r = rw (add-zero at)
offsets_from-snoc at first (x ∷ xs) r =
    rw (
      offsets_from-snoc (at + length (laid_row first x.key x.fields)) first xs r,
      length-append (laid_row first x.key x.fields) (rows_from first xs),
      add_assoc at (length (laid_row first x.key x.fields)) (length (rows_from first xs)),
    )

pub block_rows-snoc : (rs : List Row) (r : Row) → block_rows (rs ++ (r ∷ [])) ≡ block_rows rs ++ laid_row (first_or rs) r.key r.fields
unfolding block_rows
block_rows-snoc [] r = unfold rows_from in append-nil (laid_row [] r.key r.fields)
block_rows-snoc (x ∷ xs) r = rw (rows_from-snoc x.key xs r) (sym (append_assoc (laid_row [] x.key x.fields) (rows_from x.key xs) (laid_row x.key r.key r.fields)))

pub offsets-snoc : (rs : List Row) (r : Row) → offsets (rs ++ (r ∷ [])) ≡ offsets rs ++ (length (block_rows rs) ∷ [])
unfolding offsets block_rows
offsets-snoc [] r = unfold offsets_from in refl
offsets-snoc (x ∷ xs) r =
    rw (offsets_from-snoc (length (laid_row [] x.key x.fields)) x.key xs r, length-append (laid_row [] x.key x.fields) (rows_from x.key xs))

-- ---- how many there are

offsets_from-count : (at : ℕ) (first : Key) (rs : List Row) → length (offsets_from at first rs) ≡ length rs
unfolding offsets_from
offsets_from-count at first [] = refl
offsets_from-count at first (r ∷ rs) = ap suc (offsets_from-count (at + length (laid_row first r.key r.fields)) first rs)

pub offsets-count : (rs : List Row) → length (offsets rs) ≡ length rs
unfolding offsets
offsets-count [] = refl
offsets-count (r ∷ rs) = ap suc (offsets_from-count (length (laid_row [] r.key r.fields)) r.key rs)

-- offsets that are allowed are few: each row takes at least 13 bytes
offsets_from-few : (at : ℕ) (first : Key) (rs : List Row) → AllFit (offsets_from at first rs) → 13 * length rs ≤ max_offset + 13 - at
unfolding offsets_from
offsets_from-few at first [] f = zero-le
offsets_from-few at first (r ∷ rs) f =
    omega (arith, offsets_from-few (at + length (laid_row first r.key r.fields)) first rs f.1, laid_row-least first r.key r.fields, f.0)

pub rows_few : (rs : List Row) → AllFit (offsets rs) → length rs ≤ max_restarts
unfolding offsets
rows_few [] f = zero-le
rows_few (r ∷ rs) f =
    omega (arith, offsets_from-few (length (laid_row [] r.key r.fields)) r.key rs f.1, laid_row-least [] r.key r.fields)

-- ---- rows where they stand, in the data d of a block

-- where the bytes after a row end
ends : (d : List ℕ) (at : ℕ) (w post : List ℕ) → drop at d ≡ w ++ post → 1 ≤ length w → at + length w + length post ≡ length d
ends d at w post e h = omega (arith, length-drop at d, ap length e, length-append w post)

module _ (b : List ℕ) (t : Trailer) (d : List ℕ) (i at : ℕ) (w post : List ℕ) (s : StandsAt b t d i at w post) where
  far : at + length w + length post ≡ t.size
  far = ends d at w post s.here s.some ∙ sym s.size_is

  first-zero : first_of i (offset_at b t i) ≤ 0
  first-zero = ⊎_elim (λ c. rw c.0 (omega (arith, s.offset, s.zeroth c.1))) (λ c. rw c.0 (omega arith)) (eqb-cases i 0)

  -- so it is used, from its offset to its end
  pub region-laid : (g : Region) × (region_of b t i ≡ ok g) × (g.start ≡ at) × (g.end ≡ at + length w)
  region-laid =
      ⊎_elim
      (λ c.
      let n = s.inner c.1 in
      let n₀ = n.0 in
      let n₁ = n.1 in (
        region_is (offset_at b t i) (offset_at b t (i + 1)) (offset_at b t (i + 1) - 1),
        sym (region-inner b t i first-zero (omega (arith, s.offset, s.some, far)) c.1 (omega (arith, s.offset, s.some)) (omega (arith, far))),
        s.offset,
        n₀,
      ))
      (λ c. (
        region_is (offset_at b t i) t.size t.size,
        sym (region-last b t i first-zero (omega (arith, s.offset, s.some, far)) c.1),
        s.offset,
        omega (arith, far, ap length (s.last c.1)),
      ))
      (ltb-cases (i + 1) t.count)

-- ---- a laid row, where it stands: its places, and what is read there

module _ (b : List ℕ) (t : Trailer) (d : List ℕ) (i at : ℕ) (first prev : Key) (r : Row) (post : List ℕ) (o : RowOk r) (is : before first i ≡ prev)
    (s : StandsAt b t d i at (laid_row prev r.key r.fields) post) where
  share : Shares false prev r.key
  share = shares-is false prev r.key

  bytes-here : drop at d ≡ row_bytes (common prev r.key) (drop (common prev r.key) r.key) r.fields ++ post
  unfolding laid_row
  bytes-here = s.here

  pub row_laid : row_numbered b t first i ≡ ok (placed_row prev at r)
  unfolding row_numbered laid_row share_of
  row_laid =
      let g = region-laid b t d i at (laid_row prev r.key r.fields) post s in
      rw (g.1, is, s.data_is, g.2)
      (read_row-law d at (common prev r.key) (drop (common prev r.key) r.key) r.fields post bytes-here o.fields-ok (length prev) share.may
      (shares-ok false prev r.key o.key-some o.key_fits) g.0.end (sym g.3))

  pub key-laid : key_of (data_of b t) (before first i) (placed_row prev at r) ≡ r.key
  unfolding share_of
  key-laid =
      rw (is, s.data_is)
      (places_of-key d at (common prev r.key) (drop (common prev r.key) r.key) r.fields post bytes-here prev ∙ share.makes)

  pub fields_laid : fields_of (data_of b t) (placed_row prev at r) ≡ plain r.fields
  fields_laid = rw s.data_is (places_of-fields d at (common prev r.key) (drop (common prev r.key) r.key) r.fields post bytes-here o.fields-ok)

-- ---- all rows of a laid block

rest-none : (first : Key) (rs : List Row) → length rs ≡ 0 → rows_from first rs ≡ []
unfolding rows_from
rest-none first [] h = refl
rest-none first (r ∷ rs) h = absurd (omega arith)

rest-first : (b : List ℕ) (t : Trailer) (d : List ℕ) (first : Key) (i at : ℕ) (rs : List Row) → RestAt b t d first i at rs → 0 < length rs → offset_at b t i ≡ at
rest-first b t d first i at [] s h = absurd (omega arith)
rest-first b t d first i at (r ∷ rs) s h = ap (offset_at b t) (sym (add-zero i)) ∙ s.offs 0 h ∙ (unfold offsets_from in refl)

-- a row before them
pub stands-before : (b : List ℕ) (t : Trailer) (d : List ℕ) (first : Key) (i at : ℕ) (w : List ℕ) (rs : List Row) → drop at d ≡ w ++ rows_from first rs → 1 ≤ length w → offset_at b t i ≡ at
    → (i ≡ 0 → at ≡ 0) → RestAt b t d first (suc i) (at + length w) rs → StandsAt b t d i at w (rows_from first rs)
stands-before b t d first i at w rs e h o z s =
    record {
      data_is = s.data_is;
      size_is = s.size_is;
      here = e;
      some = h;
      offset = o;
      zeroth = z;
      last = λ k. rest-none first rs (omega (arith, s.count));
      inner = λ k.
          let more : 0 < length rs = omega (arith, s.count) in
          (ap (offset_at b t) (add-one i) ∙ rest-first b t d first (suc i) (at + length w) rs s more, omega (arith, rows_from-least first rs));
    }

module _ (b : List ℕ) (t : Trailer) (d : List ℕ) (first : Key) (i at : ℕ) (r : Row) (rs : List Row) (s : RestAt b t d first i at (r ∷ rs)) where
  split : drop at d ≡ laid_row first r.key r.fields ++ rows_from first rs
  split = s.here ∙ (unfold rows_from in refl)

  -- the first of them, and those after it
  pub rest-after : RestAt b t d first (suc i) (at + length (laid_row first r.key r.fields)) rs
  rest-after =
      record {
        data_is = s.data_is;
        size_is = s.size_is;
        here = past d at (laid_row first r.key r.fields) (rows_from first rs) split;
        offs = λ j h. ap (offset_at b t) (omega arith) ∙ s.offs (suc j) (omega arith) ∙ (unfold offsets_from in refl);
        count = omega (arith, s.count);
      }

  pub rest-stands : 1 ≤ i → StandsAt b t d i at (laid_row first r.key r.fields) (rows_from first rs)
  rest-stands h =
      stands-before b t d first i at (laid_row first r.key r.fields) rs split (omega (arith, laid_row-least first r.key r.fields))
      (rest-first b t d first i at (r ∷ rs) s (omega arith)) (λ z. absurd (omega arith)) rest-after

-- their offsets rise
rest-rises : (b : List ℕ) (t : Trailer) (d : List ℕ) (first : Key) (i at low : ℕ) (rs : List Row) → RestAt b t d first i at rs → 1 ≤ i → low ≤ at → rising_from (length rs) b t i low ≡ ok tt
unfolding rising_from
rest-rises b t d first i at low [] s h k = refl
rest-rises b t d first i at low (r ∷ rs) s h k =
    let e = rest-first b t d first i at (r ∷ rs) s (omega arith) in
    let l = laid_row-least first r.key r.fields in
    let n = far b t d i at (laid_row first r.key r.fields) (rows_from first rs) (rest-stands b t d first i at r rs s h) in
    rw (e, le-ltb at low k, lt-leb t.size at (omega arith))
    (rest-rises b t d first (suc i) (at + length (laid_row first r.key r.fields)) (suc at) rs (rest-after b t d first i at r rs s) (omega arith) (omega arith))

zeroth-rises : (b : List ℕ) (t : Trailer) (d : List ℕ) (first : Key) (w : List ℕ) (rs : List Row) → StandsAt b t d 0 0 w (rows_from first rs) → RestAt b t d first 1 (length w) rs
    → rising_from (suc (length rs)) b t 0 0 ≡ ok tt
unfolding rising_from
zeroth-rises b t d first w rs s rest =
    let some = s.some in
    let n = far b t d 0 0 w (rows_from first rs) s in
    rw (s.offset, lt-leb t.size 0 (omega arith)) (rest-rises b t d first 1 (length w) 1 rs rest (omega arith) some)

pub block-laid : (r : Row) (rs : List Row) → AllFit (offsets (r ∷ rs)) → BlockLaid r rs (block_bytes (r ∷ rs))
unfolding block_bytes
block-laid r rs f = go (trailer-laid d os f (omega (arith, many)) (omega (arith, many, rows_few (r ∷ rs) f)))
  where
    d : List ℕ
    d = block_rows (r ∷ rs)

    os : List ℕ
    os = offsets (r ∷ rs)

    w : List ℕ
    w = laid_row [] r.key r.fields

    many : length os ≡ suc (length rs)
    many = offsets-count (r ∷ rs)

    cut : drop 0 d ≡ w ++ rows_from r.key rs
    cut = unfold block_rows in refl

    go : TrailerLaid d os (d ++ trailer os) → BlockLaid r rs (d ++ trailer os)
    go l =
        record {
          t = t;
          count-is = many;
          trailer-good = l.read;
          offsets-good = sym (offsets-rest (d ++ trailer os) t (omega (arith, o)) (sym rises));
          zeroth = stands;
          rest = rest;
        }
      where
        t : Trailer
        t = trailer_is (length os) (length d)

        o : offset_at (d ++ trailer os) t 0 ≡ 0
        o = l.offs 0 (omega (arith, many)) ∙ (unfold offsets in refl)

        rest : RestAt (d ++ trailer os) t d r.key 1 (length w) rs
        rest =
            record {
              data_is = l.rows;
              size_is = refl;
              here = rw (zero-add (length w)) at (past d 0 w (rows_from r.key rs) cut);
              offs = λ j h. ap (offset_at (d ++ trailer os) t) (omega arith) ∙ l.offs (suc j) (omega (arith, many)) ∙ (unfold offsets in refl);
              count = omega (arith, many);
            }

        stands : StandsAt (d ++ trailer os) t d 0 0 w (rows_from r.key rs)
        stands = stands-before (d ++ trailer os) t d r.key 0 0 w rs cut (omega (arith, laid_row-least [] r.key r.fields)) o (λ z. refl) (rw (zero-add (length w)) rest)

        rises : rising_from (length os) (d ++ trailer os) t 0 0 ≡ ok tt
        rises =
            ap (λ (n : ℕ). rising_from n (d ++ trailer os) t 0 0) many ∙ zeroth-rises (d ++ trailer os) t d r.key w rs stands rest

-- A descending cursor over a block whose rows are read: `After` says which rows lie before it. A step gives the last of them and stands after the rest; with
-- none left it says "done". The order of keys is not asked.
use Rattle.std.specs.Prelude.{ℕ, zero, suc, ◌+◌, ◌-◌, ◌<◌, ◌≤◌, ◌≡◌, refl, false, List, [], ◌∷◌, ◌++◌, length}
use Rattle.std.proofs.Common.{zero-le, ap, sym, ◌∙◌, append_assoc, append-nil, zero-add, arith, length-append, lt-ltb, le-ltb}
use Rattle.layout.specs.Res.{ok, refuse}
use Rattle.layout.specs.Limits.{max_key}
use Rattle.layout.specs.Key.{Key}
use Rattle.layout.specs.RowRead.{RowRead, key_length, key_of}
use Rattle.layout.specs.Trailer.{Trailer, trailer_of, data_of, offset_at, Region, region_of, row_in}
use Rattle.layout.specs.Number.{number_at}
use Rattle.layout.specs.Cursor.{descending, Cursor, marked, opened_down, open_along, open_block, Keyed, keyed, found, done, step_is, row_ending_at, back_past, step_back_in, step_down, next}
use Rattle.demands.specs.Reads.{region_rows, regions_rows, Reads, all_rows, Names}
use Rattle.layout.specs.Laws.Trailer.{RegionTells}
use Rattle.layout.proofs.Laws.Trailer.{region_of-tells, trailer_of-tells}
use Rattle.layout.proofs.Laws.Tells.{row_in-ends}
use Rattle.layout.proofs.Laws.Cursor.{next_down, down-done, down-before_in, down_in, back_found, back-short, ended, open_along_lem, along-down}
use Rattle.demands.specs.Laws.Reads.{region-at, ends_at, ends_at-snoc, RegionsAre, next as next-region, regions-are, regions-none, all_rows-none}
use Rattle.demands.specs.Laws.Counted.{none_passed, names_back}

-- ---- the step back finds the row that ends at its place

back-here : (left : ℕ) (d : List ℕ) (g : Region) (stop at : ℕ) (before : Key) (r : RowRead) → row_in d g at (length before) ≡ ok r → r.next ≡ stop
    → row_ending_at (suc left) d g stop at before ≡ ok (keyed r (key_of d before r))
unfolding row_ending_at
back-here left d g stop at before r p e = rw (p, le-ltb r.next stop (omega arith), le-ltb stop r.next (omega arith))

back_on : (left : ℕ) (d : List ℕ) (g : Region) (stop at : ℕ) (before : Key) (r : RowRead) → row_in d g at (length before) ≡ ok r → r.next < stop
    → row_ending_at (suc left) d g stop at before ≡ row_ending_at left d g stop r.next (key_of d before r)
unfolding row_ending_at
back_on left d g stop at before r p h = rw (p, lt-ltb r.next stop h)

-- the rows of a region end behind the place that they are read from
ends-behind : (left : ℕ) (d : List ℕ) (g : Region) (at : ℕ) (before : Key) (ks : List Keyed) (k : Keyed) (qs : List Keyed) → region_rows left d g at before ≡ ok (ks ++ (k ∷ qs))
    → g.end ≤ at + left → (at < k.row.next) × (k.row.next ≤ g.end) × (ends_at at ks ≡ k.row.start)
unfolding ends_at
ends-behind left d g at before [] k qs e h =
    region-at left d g at before (k ∷ qs) e h
    (λ over none. absurd (let z : ◌≡◌ {A = ℕ} 0 1 = cc in omega arith))
    (λ r rest m lt p u n is.
    let w = row_in-ends d g at (length before) r p in
    let same : keyed r (key_of d before r) ≡ k = cc in
    rw (← same) (omega (arith, w.least), w.within, sym w.starts))
ends-behind left d g at before (x ∷ ks) k qs e h =
    region-at left d g at before (x ∷ (ks ++ (k ∷ qs))) e h
    (λ over none. absurd (let z : ◌≡◌ {A = ℕ} 0 1 = cc in omega arith))
    (λ r rest m lt p u n is.
    let w = row_in-ends d g at (length before) r p in
    let first : keyed r (key_of d before r) ≡ x = cc in
    let tail : rest ≡ ks ++ (k ∷ qs) = cc in
    let ih = ends-behind m d g r.next (key_of d before r) ks k qs (u ∙ ap ok tail) n in
    (omega (arith, w.least, ih.0), ih.1, rw (← first) ih.2))

finds : (left : ℕ) (d : List ℕ) (g : Region) (at : ℕ) (before : Key) (ks : List Keyed) (k : Keyed) (qs : List Keyed) (n : ℕ) → region_rows left d g at before ≡ ok (ks ++ (k ∷ qs))
    → g.end ≤ at + left → k.row.next ≤ at + n → row_ending_at n d g k.row.next at before ≡ ok k
finds left d g at before ks k qs zero e h f = absurd (omega (arith, ends-behind left d g at before ks k qs e h))
finds left d g at before [] k qs (suc n) e h f =
    region-at left d g at before (k ∷ qs) e h
    (λ over none. absurd (let z : ◌≡◌ {A = ℕ} 0 1 = cc in omega arith))
    (λ r rest m lt p u enough is.
    let same : keyed r (key_of d before r) ≡ k = cc in
    rw (← same) (back-here n d g r.next at before r p refl))
finds left d g at before (x ∷ ks) k qs (suc n) e h f =
    region-at left d g at before (x ∷ (ks ++ (k ∷ qs))) e h
    (λ over none. absurd (let z : ◌≡◌ {A = ℕ} 0 1 = cc in omega arith))
    (λ r rest m lt p u enough is.
    let w = row_in-ends d g at (length before) r p in
    let tail : rest ≡ ks ++ (k ∷ qs) = cc in
    let u' : region_rows m d g r.next (key_of d before r) ≡ ok (ks ++ (k ∷ qs)) = u ∙ ap ok tail in
    let far = ends-behind m d g r.next (key_of d before r) ks k qs u' enough in
    back_on n d g k.row.next at before r p far.0 ∙ finds m d g r.next (key_of d before r) ks k qs n u' enough (omega (arith, w.least)))

-- ---- lists from their end

pub data FromEnd {A : Type 0} : List A → Type 0 where
  empty : FromEnd []
  ending : (xs : List A) (x : A) → FromEnd (xs ++ (x ∷ []))

pub from_end : {A : Type 0} (xs : List A) → FromEnd xs
from_end [] = empty
from_end {A = A} (x ∷ xs) = go xs (from_end xs)
  where
    go : (xs : List A) → FromEnd xs → FromEnd (x ∷ xs)
    go xs empty = ending [] x
    go xs (ending ys y) = ending (x ∷ ys) y

end-one : {A : Type 0} (xs ys : List A) (x y : A) → xs ++ (x ∷ []) ≡ ys ++ (y ∷ []) → (xs ≡ ys) × (x ≡ y)
end-one [] [] x y e = (refl, cc)
end-one [] (b ∷ ys) x y e = absurd (omega (arith, ap length e, length-append ys (y ∷ [])))
end-one (a ∷ xs) [] x y e = absurd (omega (arith, ap length e, length-append xs (x ∷ [])))
end-one (a ∷ xs) (b ∷ ys) x y e =
    let h : a ≡ b = cc in
    let t : xs ++ (x ∷ []) ≡ ys ++ (y ∷ []) = cc in
    let ih = end-one xs ys x y t in
    (cc (h, ih.0), ih.1)

not_end : {A : Type 0} (xs : List A) (x : A) → [] ≡ xs ++ (x ∷ []) → ⊥
not_end xs x e = omega (arith, ap length e, length-append xs (x ∷ []))

-- ---- the first regions of a block

pub data Front (b : List ℕ) (t : Trailer) : ℕ → List (List Keyed) → Type 0 where
  none : Front b t 0 []
  then : (n : ℕ) (fs : List (List Keyed)) (g : Region) (ks : List Keyed) → Front b t n fs → region_of b t n ≡ ok g → region_rows t.size (data_of b t) g g.start [] ≡ ok ks
      → Front b t (suc n) (fs ++ (ks ∷ []))

pub front-more : (left : ℕ) (b : List ℕ) (t : Trailer) (region : ℕ) (fs rest : List (List Keyed)) → Front b t region fs → regions_rows left b t region ≡ ok rest → Front b t (region + left) (fs ++ rest)
front-more zero b t region fs rest f e =
    let z : rest ≡ [] = regions-none b t region rest e in
    let n : region ≡ region + 0 = omega arith in
    rw (z, append-nil fs, ← n) f
front-more (suc left) b t region fs rest f e = go rest (regions-are left b t region rest e) (front-more left b t (suc region))
  where
    go : (rest : List (List Keyed)) → RegionsAre left b t region rest
        → ((fs rest : List (List Keyed)) → Front b t (suc region) fs → regions_rows left b t (suc region) ≡ ok rest → Front b t (suc region + left) (fs ++ rest))
        → Front b t (region + suc left) (fs ++ rest)
    go rest (next-region g rows more u p w) ih =
        let n : suc region + left ≡ region + suc left = omega arith in
        let q : Front b t (suc region + left) ((fs ++ (rows ∷ [])) ++ more) = ih (fs ++ (rows ∷ [])) more (then region fs g rows f u p) w in
        rw (← n) (rw (append_assoc fs (rows ∷ []) more) at q)

pub all_rows-end : (fs : List (List Keyed)) (ks : List Keyed) → all_rows (fs ++ (ks ∷ [])) ≡ all_rows fs ++ ks
unfolding all_rows
all_rows-end [] ks = append-nil ks
all_rows-end (f ∷ fs) ks = rw (all_rows-end fs ks) (sym (append_assoc f (all_rows fs) ks))

-- the rows of a region reach its end
pub reaches_end : (left : ℕ) (d : List ℕ) (g : Region) (at : ℕ) (before : Key) (ks : List Keyed) → region_rows left d g at before ≡ ok ks → g.end ≤ at + left → at ≤ g.end → ends_at at ks ≡ g.end
unfolding ends_at
reaches_end left d g at before [] e h f =
    region-at left d g at before [] e h
    (λ over none. omega arith)
    (λ r qs m lt p u n is. absurd (let z : ◌≡◌ {A = ℕ} 0 1 = cc in omega arith))
reaches_end left d g at before (k ∷ ks) e h f =
    region-at left d g at before (k ∷ ks) e h
    (λ over none. absurd (let z : ◌≡◌ {A = ℕ} 0 1 = cc in omega arith))
    (λ r qs m lt p u n is.
    let first : keyed r (key_of d before r) ≡ k = cc in
    let tail : qs ≡ ks = cc in
    let ih = reaches_end m d g r.next (key_of d before r) ks (u ∙ ap ok tail) n (row_in-ends d g at (length before) r p).within in
    rw (← first) ih)

ends_at-none : (at : ℕ) → ends_at at [] ≡ at
unfolding ends_at
ends_at-none at = refl

-- a region that is used has rows, since it has bytes
pub region-some : (b : List ℕ) (t : Trailer) (n : ℕ) (g : Region) → region_of b t n ≡ ok g → region_rows t.size (data_of b t) g g.start [] ≡ ok [] → ⊥
region-some b t n g u p =
    let tells = region_of-tells b t n g u in
    let y : g.start ≡ g.end = sym (ends_at-none g.start) ∙ reaches_end t.size (data_of b t) g g.start [] [] p (omega (arith, tells.inside)) (omega (arith, tells.rises)) in
    omega (arith, tells.rises)

-- ---- a cursor after some rows, with the true number

pub record After (b : List ℕ) (t : Trailer) (c : Cursor) (rows : List Keyed) : Type 0 where
  pub g : Region
  pub fs : List (List Keyed)
  pub ps : List Keyed
  pub qs : List Keyed
  pub goes_down : c.order ≡ descending
  pub unmarked : c.done ≡ false
  pub trailer-good : trailer_of b ≡ ok t
  pub inside : c.region < t.count
  pub fits : c.key_len ≤ max_key
  pub used : region_of b t c.region ≡ ok g
  pub front : Front b t c.region fs
  pub rows-here : region_rows t.size (data_of b t) g g.start [] ≡ ok (ps ++ qs)
  pub stands : c.at ≡ ends_at g.start ps
  pub numbered : c.number ≡ number_at b t c.region c.at
  pub are : rows ≡ all_rows fs ++ ps

-- where rows are left in its region it stands behind the last of them
behind-row : (b : List ℕ) (t : Trailer) (c : Cursor) (rows : List Keyed) (a : After b t c rows) (ps : List Keyed) (k : Keyed) → a.ps ≡ ps ++ (k ∷ [])
    → (region_rows t.size (data_of b t) a.g a.g.start [] ≡ ok (ps ++ (k ∷ a.qs))) × (c.at ≡ k.row.next)
behind-row b t c rows a ps k e = (
  a.rows-here ∙ ap ok (ap (λ (x : List Keyed). x ++ a.qs) e ∙ append_assoc ps (k ∷ []) a.qs),
  a.stands ∙ ap (ends_at a.g.start) e ∙ ends_at-snoc a.g.start ps k,
)

-- else at its start
at-start : (b : List ℕ) (t : Trailer) (c : Cursor) (rows : List Keyed) (a : After b t c rows) → a.ps ≡ [] → c.at ≡ a.g.start
at-start b t c rows a e = a.stands ∙ ap (ends_at a.g.start) e ∙ ends_at-none a.g.start

module _ (b : List ℕ) (t : Trailer) (c : Cursor) (room : ℕ) where
  down : {rows : List Keyed} → After b t c rows → next c b room ≡ step_down c b t room
  down a = next_down c b room t a.trailer-good a.inside a.fits a.unmarked a.goes_down

  -- at a region's start its number is 0
  none_yet : {rows : List Keyed} (a : After b t c rows) → c.at ≡ a.g.start → c.number ≤ 0
  none_yet a here = omega (arith, a.numbered ∙ ap (number_at b t c.region) here ∙ none_passed b t c.region a.g a.used)

  -- the last row before it is given, and the cursor stands after the others; a key buffer that is too short answers 19
  pub record GivesBack (k : Keyed) (rows : List Keyed) : Type 0 where
    pub moved : Cursor
    pub region : ℕ
    pub number : ℕ
    pub fits-key : key_length k.row ≤ max_key
    pub is_key : length k.key ≡ key_length k.row
    pub named : Names b t region number k
    pub gives : key_length k.row ≤ room → next c b room ≡ ok (step_is moved (found region number k.row k.key))
    pub refuses : room < key_length k.row → next c b room ≡ refuse 19
    pub then-after : After b t moved rows

  -- the row k of a region, which ends where the cursor stands, found and given
  gives_in : (region : ℕ) (g : Region) (fs : List (List Keyed)) (ps : List Keyed) (k : Keyed) (qs : List Keyed) (n : ℕ) → next c b room ≡ step_back_in c b t room region g n
      → n ≡ number_at b t region c.at → c.order ≡ descending → c.done ≡ false → trailer_of b ≡ ok t → region < t.count → c.key_len ≤ max_key → region_of b t region ≡ ok g → Front b t region fs
      → region_rows t.size (data_of b t) g g.start [] ≡ ok (ps ++ (k ∷ qs)) → c.at ≡ k.row.next → GivesBack k (all_rows fs ++ ps)
  gives_in region g fs ps k qs n e num dir un tr i f u fr h s =
      let tells = region_of-tells b t region g u in
      let fuel : g.end ≤ g.start + t.size = omega (arith, tells.inside) in
      let behind = ends-behind t.size (data_of b t) g g.start [] ps k qs h fuel in
      let is : row_ending_at c.at (data_of b t) g c.at g.start [] ≡ ok k = rw s (finds t.size (data_of b t) g g.start [] ps k qs k.row.next h fuel (omega arith)) in
      let w = ended c.at (data_of b t) g c.at g.start [] k is in
      record {
        moved = back_past c region (number_at b t region k.row.start) k.row;
        region = region;
        number = number_at b t region k.row.start;
        fits-key = w.fits;
        is_key = w.whole;
        named = names_back b t region g u i c.at c.at k is;
        gives = λ l. e ∙ back_found c b t room region g n k is num l;
        refuses = λ l. e ∙ back-short c b t room region g n k is num l;
        then-after =
            record {
              g = g;
              fs = fs;
              ps = ps;
              qs = k ∷ qs;
              goes_down = dir;
              unmarked = un;
              trailer-good = tr;
              inside = i;
              fits = f;
              used = u;
              front = fr;
              rows-here = h;
              stands = sym behind.2;
              numbered = refl;
              are = refl;
            };
      }

  -- in the region where the cursor stands
  in_region : (rows : List Keyed) (a : After b t c rows) (ps : List Keyed) (k : Keyed) → a.ps ≡ ps ++ (k ∷ []) → GivesBack k (all_rows a.fs ++ ps)
  in_region rows a ps k e =
      let tells = region_of-tells b t c.region a.g a.used in
      let (h, s) = behind-row b t c rows a ps k e in
      let behind = ends-behind t.size (data_of b t) a.g a.g.start [] ps k a.qs h (omega (arith, tells.inside)) in
      let low : a.g.start ≤ c.at = omega (arith, behind.0) in
      let high : c.at ≤ a.g.end = omega (arith, behind.1) in
      let ne : c.at ≡ a.g.start → ⊥ = λ z. absurd (omega (arith, behind.0)) in
      gives_in c.region a.g a.fs ps k a.qs c.number (down a ∙ down_in c b t room a.g a.used low high ne) a.numbered a.goes_down a.unmarked a.trailer-good a.inside a.fits a.used
      a.front
      h
      s

  -- in the region before, whose rows end where the cursor stands
  in_before : (rows : List Keyed) (a : After b t c rows) → a.ps ≡ [] → (m : ℕ) (fs : List (List Keyed)) (f : Region) (ks : List Keyed) (k : Keyed) → c.region ≡ suc m
      → Front b t m fs → region_of b t m ≡ ok f → region_rows t.size (data_of b t) f f.start [] ≡ ok (ks ++ (k ∷ [])) → GivesBack k (all_rows fs ++ ks)
  in_before rows a e m fs f ks k r fr u h =
      let tells = region_of-tells b t c.region a.g a.used in
      let tells₁ = region_of-tells b t m f u in
      let inner = tells₁.inner (omega (arith, a.inside)) in
      let here : c.at ≡ a.g.start = at-start b t c rows a e in
      let prev : c.region - 1 ≡ m = omega arith in
      let same : m + 1 ≡ c.region = omega arith in
      let u' : region_of b t (c.region - 1) ≡ ok f = rw prev u in
      let s : c.at ≡ k.row.next =
      here ∙ tells.from ∙ ap (offset_at b t) (sym same) ∙ sym inner.0
      ∙ sym (reaches_end t.size (data_of b t) f f.start [] (ks ++ (k ∷ [])) h (omega (arith, tells₁.inside)) (omega (arith, tells₁.rises)))
      ∙ ends_at-snoc f.start ks k in
      let nz : c.region ≡ 0 → ⊥ = λ z. absurd (omega arith) in
      let step : next c b room ≡ step_back_in c b t room m f (number_at b t m c.at) =
      down a ∙ down-before_in c b t room a.g a.used (omega arith) (omega (arith, tells.rises)) here (none_yet a here) nz u' ∙ ap (λ (n : ℕ). step_back_in c b t room n f (number_at b t n c.at)) prev in
      gives_in m f fs ks k [] (number_at b t m c.at) step refl a.goes_down a.unmarked a.trailer-good (omega (arith, a.inside)) a.fits u fr h s

  pub after-gives : (rows : List Keyed) (k : Keyed) → After b t c (rows ++ (k ∷ [])) → GivesBack k rows
  after-gives rows k a = go a.ps refl (from_end a.ps)
    where
      chosen : (k' : Keyed) (rows' : List Keyed) → rows ++ (k ∷ []) ≡ rows' ++ (k' ∷ []) → GivesBack k' rows' → GivesBack k rows
      chosen k' rows' e q =
          let o = end-one rows rows' k k' e in
          rw (o.0, o.1) q

      before : (n : ℕ) (fs : List (List Keyed)) → n ≡ c.region → fs ≡ a.fs → a.ps ≡ [] → Front b t n fs → GivesBack k rows
      before n fs z f e none =
          absurd (not_end rows k (sym (a.are ∙ rw (e, ← f, all_rows-none))))
      before n fs z f e (then m gs h ks fr u p) = inside ks p (from_end ks) (a.are ∙ rw (e, ← f) (append-nil (all_rows (gs ++ (ks ∷ []))) ∙ all_rows-end gs ks))
        where
          inside : (ks : List Keyed) → region_rows t.size (data_of b t) h h.start [] ≡ ok ks → FromEnd ks → rows ++ (k ∷ []) ≡ all_rows gs ++ ks → GivesBack k rows
          inside ks p empty q = absurd (region-some b t m h u p)
          inside ks p (ending xs x) q = chosen x (all_rows gs ++ xs) (q ∙ sym (append_assoc (all_rows gs) xs (x ∷ []))) (in_before (rows ++ (k ∷ [])) a e m gs h xs x (sym z) fr u p)

      go : (ps : List Keyed) → a.ps ≡ ps → FromEnd ps → GivesBack k rows
      go ps e empty = before c.region a.fs refl refl e a.front
      go ps e (ending xs x) = chosen x (all_rows a.fs ++ xs) (a.are ∙ rw e (sym (append_assoc (all_rows a.fs) xs (x ∷ [])))) (in_region (rows ++ (k ∷ [])) a xs x e)

  -- none before it: "done", which sets only the mark
  pub after-done : After b t c [] → next c b room ≡ ok (step_is (marked c) done)
  after-done a = go a.ps refl (from_end a.ps)
    where
      nothing : (n : ℕ) (fs : List (List Keyed)) → n ≡ c.region → fs ≡ a.fs → a.ps ≡ [] → Front b t n fs → next c b room ≡ ok (step_is (marked c) done)
      nothing n fs z f e none =
          let tells = region_of-tells b t c.region a.g a.used in
          let here : c.at ≡ a.g.start = at-start b t c [] a e in
          down a ∙ down-done c b t room a.g a.used (omega arith) (omega (arith, tells.rises)) here (none_yet a here) (sym z)
      nothing n fs z f e (then m gs h ks fr u p) = absurd (inside ks p (from_end ks) (a.are ∙ rw (e, ← f) (append-nil (all_rows (gs ++ (ks ∷ []))) ∙ all_rows-end gs ks)))
        where
          inside : (ks : List Keyed) → region_rows t.size (data_of b t) h h.start [] ≡ ok ks → FromEnd ks → [] ≡ all_rows gs ++ ks → ⊥
          inside ks p empty q = region-some b t m h u p
          inside ks p (ending xs x) q = not_end (all_rows gs ++ xs) x (q ∙ sym (append_assoc (all_rows gs) xs (x ∷ [])))

      go : (ps : List Keyed) → a.ps ≡ ps → FromEnd ps → next c b room ≡ ok (step_is (marked c) done)
      go ps e empty = nothing c.region a.fs refl refl e a.front
      go ps e (ending xs x) = absurd (not_end (all_rows a.fs ++ xs) x (a.are ∙ rw e (sym (append_assoc (all_rows a.fs) xs (x ∷ [])))))

-- ---- opening stands after all rows

pub opened_after_lem : (b : List ℕ) (t : Trailer) (rss : List (List Keyed)) → Reads b t rss → After b t (opened_down b t) (all_rows rss)
opened_after_lem b t rss q = go t.count rss refl refl (rw (zero-add t.count) at (front-more t.count b t 0 [] rss none q.rows-read))
  where
    go : (n : ℕ) (fs : List (List Keyed)) → n ≡ t.count → fs ≡ rss → Front b t n fs → After b t (opened_down b t) (all_rows rss)
    go n fs z e none = absurd (omega (arith, (trailer_of-tells b t q.trailer-good).1))
    go n fs z e (then m gs g ks fr u p) =
        let tells = region_of-tells b t m g u in
        let last = tells.last (omega arith) in
        let r : m ≡ t.count - 1 = omega arith in
        record {
          g = g;
          fs = gs;
          ps = ks;
          qs = [];
          goes_down = refl;
          unmarked = refl;
          trailer-good = q.trailer-good;
          inside = omega arith;
          fits = zero-le;
          used = rw (← r) u;
          front = rw (← r) fr;
          rows-here = p ∙ ap ok (sym (append-nil ks));
          stands = sym last.0 ∙ sym (reaches_end t.size (data_of b t) g g.start [] ks p (omega (arith, tells.inside)) (omega (arith, tells.rises)));
          numbered = refl;
          are = ap all_rows (sym e) ∙ all_rows-end gs ks;
        }

-- the last region is read first: its rows reach the data's end
pub opens-down : (b : List ℕ) (t : Trailer) (rss : List (List Keyed)) → Reads b t rss → open_block b descending ≡ ok (opened_down b t)
opens-down b t rss q = open_along_lem b descending t q.trailer-good q.offsets-good ∙ go a.ps refl (from_end a.ps)
  where
    a : After b t (opened_down b t) (all_rows rss)
    a = opened_after_lem b t rss q

    tells : RegionTells b t (t.count - 1) a.g
    tells = region_of-tells b t (t.count - 1) a.g a.used

    go : (ps : List Keyed) → a.ps ≡ ps → FromEnd ps → open_along descending b t ≡ ok (opened_down b t)
    go ps e empty =
        absurd (omega (arith, at-start b t (opened_down b t) (all_rows rss) a e, tells.rises, tells.inside))
    go ps e (ending xs x) =
        let (h, s) = behind-row b t (opened_down b t) (all_rows rss) a xs x e in
        let is = finds t.size (data_of b t) a.g a.g.start [] xs x a.qs t.size h (omega (arith, tells.inside)) (omega arith) in
        along-down b t a.g a.used x (ap (λ (n : ℕ). row_ending_at t.size (data_of b t) a.g n a.g.start []) s ∙ is)

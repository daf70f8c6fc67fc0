-- A block whose rows are read, cut at a region: the regions before it, its rows, which begin with its restart's, and the regions after it. A restart's key, read
-- alone, is its row's; so the search over restart keys answers.
use Prim.Native.Nat.{ℕ, zero, suc, ◌+◌, ◌-◌, ◌<◌, zero-le}
use Rattle.std.specs.Prelude.{◌≡◌, refl, true, false, List, [], ◌∷◌, ◌++◌}
use Rattle.std.proofs.Common.{ap, sym, ◌∙◌, append_assoc, arith, zero-add, eq-eqb}
use Rattle.std.proofs.Math.Bool.{Bool}
use Rattle.layout.specs.Res.{Res, ok, refuse}
use Rattle.layout.specs.Key.{Key}
use Rattle.layout.specs.RowRead.{read_row, key_of}
use Rattle.layout.specs.Trailer.{Trailer, data_of, Region, region_of}
use Rattle.layout.specs.Cursor.{Keyed, keyed}
use Rattle.layout.specs.Seek.{Found, restart_key, restart_below, search_restarts, search}
use Rattle.demands.specs.Reads.{region_rows, regions_rows, Reads, all_rows}
use Rattle.layout.proofs.Laws.Trailer.{region_of-tells}
use Rattle.layout.specs.Laws.Tells.{key_part}
use Rattle.layout.proofs.Laws.Tells.{read_key-of-read_row}
use Rattle.layout.specs.Laws.Search.{Closed}
use Rattle.layout.proofs.Laws.Search.{search-closed, search-answers}
use Rattle.layout.proofs.Laws.Seek.{restart-is, below-is}
use Rattle.demands.specs.Laws.Reads.{region-at, RegionsAre, next as next-region, regions-are, all_rows-next}
use Rattle.demands.specs.Laws.Descend.{Front, none, then, all_rows-end, region-some}

pub record Split (b : List ℕ) (t : Trailer) (rows : List Keyed) (i : ℕ) : Type 0 where
  pub g : Region
  pub fs : List (List Keyed)
  pub k : Keyed
  pub ks : List Keyed
  pub rest : List (List Keyed)
  pub front : Front b t i fs
  pub used : region_of b t i ≡ ok g
  pub rows-here : region_rows t.size (data_of b t) g g.start [] ≡ ok (k ∷ ks)
  pub rows_then : regions_rows (t.count - suc i) b t (suc i) ≡ ok rest
  pub are : rows ≡ all_rows fs ++ ((k ∷ ks) ++ all_rows rest)
  pub key-is : restart_key b t i ≡ ok k.key

-- the first row of a region is its restart's
first_key : (b : List ℕ) (t : Trailer) (i : ℕ) (g : Region) (k : Keyed) (ks : List Keyed) → region_of b t i ≡ ok g → region_rows t.size (data_of b t) g g.start [] ≡ ok (k ∷ ks)
    → restart_key b t i ≡ ok k.key
first_key b t i g k ks u p =
    region-at t.size (data_of b t) g g.start [] (k ∷ ks) p (omega (arith, (region_of-tells b t i g u).inside))
    (λ over is. absurd (let z : ◌≡◌ {A = ℕ} 0 1 = cc in omega arith))
    (λ r qs m lt q more enough is.
    let whole : read_row (data_of b t) g.start g.end 0 true ≡ ok r = ap (read_row (data_of b t) g.start g.end 0) (sym (eq-eqb g.start g.start refl)) ∙ q in
    let same : keyed r (key_of (data_of b t) [] r) ≡ k = cc in
    restart-is b t i g u (key_part r) (read_key-of-read_row (data_of b t) g.start g.end 0 true r whole) ∙ ap (λ (x : Keyed). ok x.key) same)

split_from : (i : ℕ) (b : List ℕ) (t : Trailer) (left region : ℕ) (fs rss : List (List Keyed)) → Front b t region fs → region + (i + suc left) ≡ t.count
    → regions_rows (i + suc left) b t region ≡ ok rss → Split b t (all_rows fs ++ all_rows rss) (region + i)
split_from zero b t left region fs rss f n p = go rss (regions-are left b t region rss (ap (λ (m : ℕ). regions_rows m b t region) (sym (zero-add (suc left))) ∙ p))
  where
    place : region + 0 ≡ region
    place = omega arith

    go : (rss : List (List Keyed)) → RegionsAre left b t region rss → Split b t (all_rows fs ++ all_rows rss) (region + 0)
    go rss (next-region g rows more u q w) = rw place (head rows q)
      where
        head : (rows : List Keyed) → region_rows t.size (data_of b t) g g.start [] ≡ ok rows → Split b t (all_rows fs ++ all_rows (rows ∷ more)) region
        head [] q = absurd (region-some b t region g u q)
        head (k ∷ ks) q =
            let m : t.count - suc region ≡ left = omega arith in
            record {
              g = g;
              fs = fs;
              k = k;
              ks = ks;
              rest = more;
              front = f;
              used = u;
              rows-here = q;
              rows_then = rw m w;
              are = ap (λ (x : List Keyed). all_rows fs ++ x) (all_rows-next (k ∷ ks) more);
              key-is = first_key b t region g k ks u q;
            }
split_from (suc i) b t left region fs rss f n p =
    go rss (regions-are (i + suc left) b t region rss (ap (λ (m : ℕ). regions_rows m b t region) (omega arith) ∙ p)) (split_from i b t left (suc region))
  where
    place : suc region + i ≡ region + suc i
    place = omega arith

    go : (rss : List (List Keyed)) → RegionsAre (i + suc left) b t region rss
        → ((fs rss : List (List Keyed)) → Front b t (suc region) fs → suc region + (i + suc left) ≡ t.count → regions_rows (i + suc left) b t (suc region) ≡ ok rss
        → Split b t (all_rows fs ++ all_rows rss) (suc region + i))
        → Split b t (all_rows fs ++ all_rows rss) (region + suc i)
    go rss (next-region g rows more u q w) ih =
        let s : Split b t (all_rows (fs ++ (rows ∷ [])) ++ all_rows more) (suc region + i) = ih (fs ++ (rows ∷ [])) more (then region fs g rows f u q) (omega arith) w in
        let same : all_rows (fs ++ (rows ∷ [])) ++ all_rows more ≡ all_rows fs ++ all_rows (rows ∷ more) =
        ap (λ (x : List Keyed). x ++ all_rows more) (all_rows-end fs rows) ∙ append_assoc (all_rows fs) rows (all_rows more) ∙ ap (λ (x : List Keyed). all_rows fs ++ x) (sym (all_rows-next rows more)) in
        rw (← place, ← same) s

pub split_at : (b : List ℕ) (t : Trailer) (rss : List (List Keyed)) → Reads b t rss → (i : ℕ) → i < t.count → Split b t (all_rows rss) i
unfolding all_rows
split_at b t rss q i h =
    let n : i + suc (t.count - suc i) ≡ t.count = omega arith in
    rw (zero-add i) at (split_from i b t (t.count - suc i) 0 [] rss none (omega arith) (ap (λ (m : ℕ). regions_rows m b t 0) n ∙ q.rows-read))

-- ---- the search answers, and closes where it must

abbrev answered : Res Bool → Bool
answered (ok x) = x
answered (refuse n) = false

pub record Searched (b : List ℕ) (t : Trailer) (target : Key) : Type 0 where
  pub f : Found
  pub is : search_restarts b t target ≡ ok f
  pub closed : Closed (restart_below b t target) 0 t.count f

pub searched : (b : List ℕ) (t : Trailer) (rss : List (List Keyed)) (target : Key) → Reads b t rss → Searched b t target
unfolding search_restarts search
searched b t rss target q =
    let u = search-answers (t.count - 0) (restart_below b t target) less 0 t.count each in
    record { f = u.0; is = u.1; closed = search-closed (restart_below b t target) 0 t.count u.0 zero-le (unfold search in u.1) }
  where
    less : ℕ → Bool
    less i = answered (restart_below b t target i)

    each : (i : ℕ) → i < t.count → restart_below b t target i ≡ ok (less i)
    each i h =
        let s = split_at b t rss q i h in
        let e = below-is b t i target s.k.key s.key-is in
        e ∙ ap (λ (x : Res Bool). ok (answered x)) (sym e)

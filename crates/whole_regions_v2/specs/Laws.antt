-- The tests of what is handed in, by what was met: one law for each exit of the code; and a promise from it. For callers: what a promise tells, and that a
-- region that was read from the block passes the tests, so the definitions of `layout` are left (`last-used`, `rows-used`).
use Rattle.std.specs.Prelude.{ℕ, ◌+◌, ◌-◌, ◌≤◌, ◌<◌, ◌≡◌, Bool, cond, List, [], length, Result, Ok, Err}
use Rattle.std.proofs.Common.{ap, sym, ◌∙◌, arith, length-take-le, lt-ltb, le-ltb}
use Rattle.std.proofs.lemmas.Bool.{lt-leb}
use Rattle.layout.specs.Res.{Res, ok, refuse, bind}
use Rattle.layout.specs.Key.{Key}
use Rattle.layout.specs.Plain.{RowSpan, spans}
use Rattle.layout.specs.Trailer.{Trailer, trailer_of, data_of, Region, region_of, row_in}
use Rattle.layout.specs.Number.{ended_by, number_at}
use Rattle.layout.specs.Cursor.{row_ending_at}
use Rattle.layout.specs.Seek.{last_at_or_below}
use Rattle.layout.proofs.Laws.Res.{bind-then, ok-inj}
use Rattle.layout.specs.Laws.Match.{match_after, above_after}
use Rattle.layout.proofs.Laws.MatchWalk.{MatchingDown, down-more}
use Rattle.layout.proofs.Laws.Number.{number_in}
use Rattle.layout.proofs.Laws.Trailer.{trailer_of-tells, region_of-tells}
use Rattle.basics.specs.Answers.{apart}
use Rattle.basics.specs.Number.{number}
use Rattle.basics.specs.declared.Refusal.{Refusal}
use Rattle.trailer.specs.Says.{region_from}
use Rattle.trailer.specs.declared.Region.{Region as RegionC}
use Rattle.block_regions_v2.specs.Regions.{Counted, counted}
use Rattle.block_regions_v2.specs.Rows.{part_of, part-suffix}
use Rattle.whole_regions_v2.specs.declared.Last.{Last}
use Rattle.whole_regions_v2.specs.Promise.{EndsLast}
use Rattle.whole_regions_v2.specs.Regions.{end_numbered, last_to, rows_in}
use Rattle.whole_regions_v2.specs.Says.{last_from, says_last}

-- ---- a region that ends after the data

module _ (d : List ℕ) (g : Region) (target : Key) where
  pub last_strange : length d < g.end → refuse 18 ≡ last_to d g target
  unfolding last_to
  last_strange h = rw (lt-ltb (length d) g.end h)

  pub last-there : g.end ≤ length d → last_at_or_below (length d) d g target g.start [] g.start ≡ last_to d g target
  unfolding last_to
  last-there h = rw (le-ltb (length d) g.end h)

-- ---- the promise of the read down

abbrev pub last_at : ℕ → ℕ → Last
last_at at n = record { at = at; number = n }

pub last-is : (d : List ℕ) (g : RegionC) (target : Key) {at n : ℕ} → ok at ≡ last_to d (region_from g) target → ended_by d (region_from g) at ≡ n → EndsLast d g target (Ok (last_at at n))
last-is d g target {at} e is = rw (sym e) (ap (λ (i : ℕ). ok (counted at i)) (sym is))

-- ---- a turn of the read down

pub turn-down : (d : List ℕ) (g : Region) (target : Key) (fuel at m len best : ℕ) (above : Bool) → MatchingDown d g target fuel at m len best above → at < g.end
    → (p : RowSpan) → ok p ≡ spans (row_in d g at len) → {m' best' : ℕ} {above' : Bool}
    → m' ≡ match_after target m p.shared (part_of d p) → above' ≡ above_after target m above p.shared (part_of d p) → best' ≡ cond above' best p.next
    → MatchingDown d g target fuel p.next m' (p.shared + p.suffix_len) best' above'
turn-down d g target fuel at m len best above s h p e w a b =
    down-more d g target fuel at m len best above s h p e (rw (part-suffix d p) at w) (rw (part-suffix d p) at a) b

-- ---- for callers

module _ (b : List ℕ) (t : Trailer) (i : ℕ) (g : Region) (target : Key) (read : trailer_of b ≡ ok t) (is : region_of b t i ≡ ok g) where
  size_is : length (data_of b t) ≡ t.size
  size_is = length-take-le t.size b (omega (arith, (trailer_of-tells b t read).0))

  inside : g.end ≤ length (data_of b t)
  inside = rw size_is (region_of-tells b t i g is).inside

  pub last-used : last_to (data_of b t) g target ≡ last_at_or_below t.size (data_of b t) g target g.start [] g.start
  last-used =
      sym (last-there (data_of b t) g target inside) ∙ ap (λ (n : ℕ). last_at_or_below n (data_of b t) g target g.start [] g.start) size_is

-- the read of a region of the block for its last row at or below a target
module _ (b : List ℕ) (t : Trailer) (i : ℕ) (g : RegionC) (target : Key) (read : trailer_of b ≡ ok t) (is : region_of b t i ≡ ok (region_from g)) where
  abbrev lowered : Res ℕ
  lowered = last_at_or_below t.size (data_of b t) (region_from g) target g.start [] g.start

  module _ (r : Result Last Refusal) (w : EndsLast (data_of b t) g target r) where
    said-last : says_last r ≡ bind lowered (end_numbered (data_of b t) (region_from g))
    said-last = w ∙ ap (λ (x : Res ℕ). bind x (end_numbered (data_of b t) (region_from g))) (last-used b t i (region_from g) target read is)

    pub last-ended : {l : Last} → r ≡ Ok l → (lowered ≡ ok l.at) × (ended_by (data_of b t) (region_from g) l.at ≡ l.number)
    last-ended {l} e =
        bind-then lowered _ (last_from l) (sym (sym (ap says_last e) ∙ said-last)) λ best q f.
        let same : best ≡ l.at = ap (λ (x : Counted ℕ). x.what) (ok-inj f) in
        (q ∙ ap ok same, ap (ended_by (data_of b t) (region_from g)) (sym same) ∙ ap (λ (x : Counted ℕ). x.number) (ok-inj f))

    pub last-refused : {x : Refusal} → r ≡ Err x → lowered ≡ refuse (number x)
    last-refused {x} e = go lowered (sym (ap says_last e) ∙ said-last)
      where
        go : (y : Res ℕ) → refuse (number x) ≡ bind y (end_numbered (data_of b t) (region_from g)) → y ≡ refuse (number x)
        go (ok at) f = absurd (apart (sym f))
        go (refuse m) f = cc

-- the rows of the block's last region are those that end at or before the data's end
pub rows-used : (b : List ℕ) (t : Trailer) (g : Region) → region_of b t (t.count - 1) ≡ ok g
    → rows_in (data_of b t) g ≡ bind (row_ending_at t.size (data_of b t) g t.size g.start []) λ _. ok (number_at b t (t.count - 1) t.size)
unfolding rows_in
rows-used b t g is =
    let w = region_of-tells b t (t.count - 1) g is in
    rw (lt-leb g.end g.start w.rises, number_in b t (t.count - 1) t.size g is, (w.last (omega arith)).0)

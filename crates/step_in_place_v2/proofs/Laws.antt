-- A promise from what was met: one law for each exit of a step, of the two looks, of the writes past a row and of the way back before one.
-- The looks hold whatever the key's bytes are. Past a row these bytes carry the row's key, which goes to the lent buffer; on the way back they stay, and the region's read gives the key.
use Prim.Native.Nat.{ℕ, ◌+◌, ◌-◌, ◌*◌, ◌≤◌, ◌<◌}
use mathlib.Core.Path.{◌≡◌, refl, ap, sym, ◌∙◌, subst}
use mathlib.Core.Bool.{false}
use mathlib.Core.List.{List}
use native.Mathlib.Omega.{arith}
use lib.Dec.{eqb}
use lib.ListN.{length, take}
use borrow.Author.Tests.{lt-ltb, le-ltb}
use Rattle.layout.specs.Res.{Res, ok, refuse, bind}
use Rattle.layout.specs.Limits.{max_key}
use Rattle.layout.specs.Place.{splice}
use Rattle.layout.specs.Key.{Key}
use Rattle.layout.specs.RowRead.{RowRead, key_of}
use Rattle.layout.specs.Trailer.{Trailer, data_of, offset_at, Region, region_of}
use Rattle.layout.specs.Number.{ended_by, number_at}
use Rattle.layout.specs.Cursor.{Direction, ascending, cursor_is, marked, found, done, Step, step_is, step_up, Keyed, back_past, step_back_in, step_down, next}
use Rattle.layout.specs.Laws.Carry.{Carries, suffix_of}
use Rattle.layout.proofs.Laws.Carry.{read-carried, key_of-length, key-new, carries-on}
use Rattle.layout.proofs.Laws.Number.{number_in}
use Rattle.layout.proofs.Laws.Trailer.{trailer_of-tells, region_of-tells}
use Rattle.basics.specs.Answers.{yes}
use Rattle.basics.specs.Number.{number}
use Rattle.std.specs.Prelude.{Result, Ok, Err, IsErrAnd, Option, Some, None, unwrap_or}
use Rattle.basics.specs.Says.{says_order}
use Rattle.basics.specs.declared.Refusal.{Refusal}
use Rattle.row_decode_v2.specs.Says.{row_from}
use Rattle.row_decode_v2.specs.declared.Row.{Row}
use Rattle.trailer.specs.Says.{region_from}
use Rattle.trailer.specs.declared.Region.{Region as RegionC}
use Rattle.block_regions_v2.specs.declared.Ended.{Ended}
use Rattle.block_regions_v2.specs.Laws.{handed-promise, ended-row, ended-refused, step-back-used}
use Rattle.block_regions_v2.specs.Promise.{EndsAt}
use Rattle.block_regions_v2.specs.Regions.{ending_at}
use Rattle.place_v2.specs.declared.Place.{Place}
use Rattle.step_in_place_v2.specs.declared.Moved.{Moved}
use Rattle.step_in_place_v2.specs.declared.Moved.TheVariants.{Done}
use Rattle.step_in_place_v2.specs.declared.Ahead.{Ahead}
use Rattle.step_in_place_v2.specs.declared.Behind.{Behind}
use Rattle.trailer.specs.declared.Trailer.{Trailer as TrailerC}
use Rattle.step_in_place_v2.specs.Lent.{next_in, lent_other, lent-whole}
use Rattle.step_in_place_v2.specs.Says.{row}
use Rattle.place_v2.specs.Says.{view_in}
use Rattle.step_in_place_v2.specs.Parts.{finished, found_at, Stands, Going, StandsAs, passed, says_ahead, Fits, Ready, LooksAhead, says_behind, Before, LooksBehind}
use Rattle.step_in_place_v2.specs.Promise.{Moves}

-- ---- a step

-- a place whose region, position, number and key length are set
abbrev pub moved_to : Place → ℕ → ℕ → ℕ → ℕ → Place
moved_to p region at n len = record { order = p.order; region = region; at = at; number = n; key_len = len; done = p.done }

module _ (want : Res Step) (p : Place) (key out : List ℕ) where
  pub moves_not : {x : Refusal} → want ≡ refuse (number x) → Moves want p key out (Err x) key out
  moves_not e = rw e (record { answer = refl; view = refl; whole = refl; lent = refl })

  pub moves-handed : (r : Result Moved Refusal) (x : Refusal) → IsErrAnd r (λ q. q ≡ x) → want ≡ refuse (number x) → Moves want p key out r key out
  moves-handed r x t e = handed-promise (λ (r : Result Moved Refusal). Moves want p key out r key out) r x t (moves_not e)

  pub moves-done : {r : Moved} → want ≡ ok (step_is (marked (view_in p key)) done) → r ≡ finished p → Moves want p key out (Ok r) key out
  moves-done e is = rw (e, is) (record { answer = refl; view = refl; whole = tt; lent = refl })

  pub moves-over : want ≡ ok (step_is (view_in p key) done) → Moves want p key out (Ok (Done p)) key out
  moves-over e = rw e (record { answer = refl; view = refl; whole = tt; lent = refl })

  pub moves_as : {w : Res Step} {r : Result Moved Refusal} {key' out' : List ℕ} → want ≡ w → Moves w p key out r key' out' → Moves want p key out r key' out'
  moves_as e s = rw e s

-- ---- before the direction matters

module _ (p : Place) (held : ℕ) (b : List ℕ) where
  pub stand-other : (held ≡ max_key → ⊥) → (k : List ℕ) (room : ℕ) → length k ≡ held → next_in p k b room ≡ refuse 18
  stand-other h k room e = lent_other p k b room (λ q. h (sym e ∙ q))

  pub stand_as : held ≡ max_key → {w : List ℕ → ℕ → Res Step} → ((k : List ℕ) (room : ℕ) → next (view_in p k) b room ≡ w k room) → (k : List ℕ) (room : ℕ) → length k ≡ held → next_in p k b room ≡ w k room
  stand_as h f k room e = lent-whole p k b room (e ∙ h) (f k room)

  pub stand-not : held ≡ max_key → {x : ℕ} → ((k : List ℕ) (room : ℕ) → next (view_in p k) b room ≡ refuse x) → (k : List ℕ) (room : ℕ) → length k ≡ held → next_in p k b room ≡ refuse x
  stand-not h {x} f = stand_as h {w = λ k room. refuse x} f

  pub stand-handed : (a : Result (Option TrailerC) Refusal) (x : Refusal) → IsErrAnd a (λ q. q ≡ x) → StandsAs p held b (Err x) → StandsAs p held b a
  stand-handed a x h e = handed-promise (StandsAs p held b) a x h e

  -- the look's answer is the case y
  pub stand-said : {a y : Option TrailerC} → StandsAs p held b (Ok a) → a ≡ y → StandsAs p held b (Ok y)
  stand-said l e = subst (λ (x : Option TrailerC). StandsAs p held b (Ok x)) e l

pub heads-on : (p : Place) (b : List ℕ) {d : Direction} {t : Trailer} → Going p b t → says_order p.order ≡ d → Stands d p b t
heads-on p b g h = record { read = g.read; inside = g.inside; few = g.few; unmarked = g.unmarked; heads = h }

-- ---- what the two looks find

-- the trailer is the block's, and has the cursor's region and the one before
module _ {d : Direction} {p : Place} {b : List ℕ} {t : Trailer} (s : Stands d p b t) where
  pub stands-has : (t.size + (2 + 2 * t.count) ≡ length b) × (p.region < t.count)
  stands-has = ((trailer_of-tells b t s.read).0, s.inside)

  pub before-has : (t.size + (2 + 2 * t.count) ≡ length b) × (p.region - 1 < t.count)
  before-has = (stands-has.0, omega (arith, s.inside))

module _ (p : Place) (b : List ℕ) (t : Trailer) (room : ℕ) where
  pub ahead-not : {x : Refusal} → ((k : List ℕ) → step_up (view_in p k) b t room ≡ refuse (number x)) → LooksAhead p b t room (Err x)
  ahead-not e = record { says = λ k. sym (e k); ready = tt }

  pub ahead-handed : (a : Result (Option Ahead) Refusal) (x : Refusal) → IsErrAnd a (λ q. q ≡ x) → ((k : List ℕ) → step_up (view_in p k) b t room ≡ refuse (number x))
      → LooksAhead p b t room a
  ahead-handed a x h e = handed-promise (LooksAhead p b t room) a x h (ahead-not e)

  pub ahead-end : ((k : List ℕ) → step_up (view_in p k) b t room ≡ ok (step_is (marked (view_in p k)) done)) → LooksAhead p b t room (Ok None)
  ahead-end e = record { says = λ k. sym (e k); ready = tt }

  pub ahead-at : {r : Row} {g : RegionC} → Fits p (data_of b t) (region_from g) room (row_from r)
      → ((k : List ℕ) → step_up (view_in p k) b t room ≡ ok (passed (view_in p k) (data_of b t) (region_from g) (row_from r))) → LooksAhead p b t room (Ok (Some (record { row = r; region = g })))
  ahead-at f e = record { says = λ k. sym (e k); ready = f }

module _ (p : Place) (b : List ℕ) (t : Trailer) where
  pub behind-not : {x : Refusal} → ((k : List ℕ) (room : ℕ) → step_down (view_in p k) b t room ≡ refuse (number x)) → LooksBehind p b t (Err x)
  behind-not e = record { says = λ k room. sym (e k room); before = tt }

  pub behind-handed : (a : Result (Option Behind) Refusal) (x : Refusal) → IsErrAnd a (λ q. q ≡ x) → ((k : List ℕ) (room : ℕ) → step_down (view_in p k) b t room ≡ refuse (number x))
      → LooksBehind p b t a
  behind-handed a x h e = handed-promise (LooksBehind p b t) a x h (behind-not e)

  pub behind-start : ((k : List ℕ) (room : ℕ) → step_down (view_in p k) b t room ≡ ok (step_is (marked (view_in p k)) done)) → LooksBehind p b t (Ok None)
  behind-start e = record { says = λ k room. sym (e k room); before = tt }

  pub behind_in : {n : ℕ} {g : RegionC} {s : Option ℕ} → (g.start < p.at) × (region_of b t n ≡ ok (region_from g))
      → ((k : List ℕ) (room : ℕ) → step_down (view_in p k) b t room ≡ step_back_in (view_in p k) b t room n (region_from g) (unwrap_or s (number_at b t n p.at))) → LooksBehind p b t (Ok (Some (record { index = n; region = g; passed = s })))
  behind_in h e = record { says = λ k room. sym (e k room); before = h }

-- the region before starts before
pub before-starts : (b : List ℕ) (t : Trailer) (n : ℕ) (g h : Region) → n < t.count → (n ≡ 0 → ⊥) → region_of b t n ≡ ok g → region_of b t (n - 1) ≡ ok h → h.start < g.start
before-starts b t n g h k z e q =
    let u = region_of-tells b t n g e in
    let w = region_of-tells b t (n - 1) h q in
    let is : h.end ≡ offset_at b t n = (w.inner (omega arith)).0 ∙ ap (offset_at b t) (omega arith) in
    omega (arith, u.from, w.rises)

-- the look's answer is the case y, so the step is what y says
pub ahead-said : (p : Place) (k b : List ℕ) (t : Trailer) (room : ℕ) {a y : Option Ahead} → LooksAhead p b t room (Ok a) → a ≡ y
    → step_up (view_in p k) b t room ≡ says_ahead (view_in p k) (data_of b t) (Ok y)
ahead-said p k b t room l e = yes (says_ahead (view_in p k) (data_of b t)) (l.says k) (ap Ok e)

pub behind-said : (p : Place) (k b : List ℕ) (t : Trailer) (room : ℕ) {a y : Option Behind} → LooksBehind p b t (Ok a) → a ≡ y
    → step_down (view_in p k) b t room ≡ says_behind (view_in p k) b t room (Ok y)
behind-said p k b t room l e = yes (says_behind (view_in p k) b t room) (l.says k room) (ap Ok e)

pub ready-row : (p : Place) (d : List ℕ) (room : ℕ) {a : Option Ahead} {h : Ahead} → Ready p d room (Ok a) → a ≡ Some h → Fits p d (region_from h.region) room (row_from h.row)
ready-row p d room m e = subst (λ (x : Option Ahead). Ready p d room (Ok x)) e m

pub before_in : (p : Place) (b : List ℕ) (t : Trailer) {a : Option Behind} {h : Behind} → Before p b t (Ok a) → a ≡ Some h
    → (h.region.start < p.at) × (region_of b t h.index ≡ ok (region_from h.region))
before_in p b t m e = subst (λ (x : Option Behind). Before p b t (Ok x)) e m

-- ---- the writes past a row

-- a cursor that carries a key
pub carries-key : (region at m : ℕ) {n : ℕ} {k key : Key} → k ≡ key → length key ≡ n
    → record { order = ascending; region = region; at = at; number = m; key_len = n; key = k; done = false } ≡ cursor_is ascending region at m key false
carries-key region at m e l = rw (e, l)

module _ (p : Place) (key b : List ℕ) (t : Trailer) (g : RegionC) (r : Row) (out key' : List ℕ) (whole : length key ≡ max_key) (s : Stands ascending p b t) (f : Fits p (data_of b t) (region_from g) (length out) (row_from r)) (q : key' ≡ splice key r.shared (suffix_of (data_of b t) (row_from r))) where
  carries : Carries key p.key_len
  carries = record { few = s.few; whole = whole }

  -- the bytes carry the row's key
  key-is : take (r.shared + r.suffix_len) key' ≡ key_of (data_of b t) (view_in p key).key (row_from r)
  key-is =
      ap (take (r.shared + r.suffix_len)) q
      ∙ key-new (data_of b t) p.at g.end (eqb p.at g.start) key p.key_len carries (row_from r) f.read

  long : length (key_of (data_of b t) (view_in p key).key (row_from r)) ≡ r.shared + r.suffix_len
  long =
      key_of-length (data_of b t) p.at g.end (view_in p key).key (eqb p.at g.start) (row_from r)
      (read-carried (data_of b t) p.at g.end (eqb p.at g.start) key p.key_len carries f.read)

  pub key-held : r.shared + r.suffix_len ≤ length key'
  key-held =
      let on = carries-on (data_of b t) p.at g.end (eqb p.at g.start) key p.key_len carries (row_from r) f.read in
      rw (q, on.whole) on.few

  module _ (out' : List ℕ) (o : out' ≡ splice out 0 (take (r.shared + r.suffix_len) key')) where
    lent_is : out' ≡ splice out 0 (key_of (data_of b t) (view_in p key).key (row_from r))
    lent_is = o ∙ ap (splice out 0) key-is

    -- a finished region hands over
    pub pass-over : g.reach < r.next → {x : Moved} → x ≡ found_at (moved_to p (p.region + 1) r.next 0 0) p.region p.number r
        → Moves (ok (passed (view_in p key) (data_of b t) (region_from g) (row_from r))) p key out (Ok x) key' out'
    pass-over h is = rw is (record { answer = refl; view = rw (lt-ltb g.reach r.next h, s.heads, s.unmarked); whole = tt; lent = lent_is })

    pub pass-stay : r.next ≤ g.reach → {x : Moved} → x ≡ found_at (moved_to p p.region r.next (p.number + 1) (r.shared + r.suffix_len)) p.region p.number r
        → Moves (ok (passed (view_in p key) (data_of b t) (region_from g) (row_from r))) p key out (Ok x) key' out'
    pass-stay h is =
        rw is
        (record {
          answer = refl;
          view = rw (le-ltb g.reach r.next h, s.heads, s.unmarked) (carries-key p.region r.next (p.number + 1) key-is long);
          whole = tt;
          lent = lent_is;
        })

-- ---- back before a row

module _ (p : Place) (key b : List ℕ) (t : Trailer) (n : ℕ) (g : RegionC) (h : g.start < p.at) (used : region_of b t n ≡ ok (region_from g)) (s : Option ℕ) (out out' : List ℕ) {a : Result Ended Refusal} (m : EndsAt (data_of b t) g p.at s out a out') where
  abbrev number_of : ℕ → ℕ
  number_of at = ended_by (data_of b t) (region_from g) at

  -- what the row that was found makes of the cursor
  abbrev gone : Keyed → Res Step
  gone k = ok (step_is (back_past (view_in p key) n (number_of k.row.start) k.row) (found n (number_of k.row.start) k.row k.key))

  abbrev wanted : Res Step
  wanted = step_back_in (view_in p key) b t (length out) n (region_from g) (unwrap_or s (number_at b t n p.at))

  wanted-is : wanted ≡ bind (ending_at (data_of b t) (region_from g) p.at (unwrap_or s (number_of p.at)) (length out)) gone
  wanted-is =
      ap (λ (i : ℕ). step_back_in (view_in p key) b t (length out) n (region_from g) (unwrap_or s i)) (number_in b t n p.at (region_from g) used)
      ∙ step-back-used (view_in p key) b t (length out) n (region_from g) (unwrap_or s (number_of p.at)) used h

  pub back_to : {e : Ended} {x : Moved} → a ≡ Ok e → x ≡ found_at (moved_to p n e.row.start e.number p.key_len) n e.number e.row → Moves wanted p key out (Ok x) key out'
  back_to {e} q is =
      let q = ended-row (subst (λ (x : Result Ended Refusal). EndsAt (data_of b t) g p.at s out x out') q m) in
      let want = wanted-is ∙ ap (λ (x : Res Keyed). bind x gone) q.1 in
      rw (is, want, q.4)
      (record {
        answer = ap (λ (x : RowRead). ok (row n e.number x)) (sym q.2);
        view = ap (λ (x : RowRead). back_past (view_in p key) n e.number x) (sym q.2);
        whole = tt;
        lent = q.3;
      })

  pub back-not : {x : Refusal} (r : Result Moved Refusal) (y : Refusal) → IsErrAnd r (λ q. q ≡ y) → a ≡ Err x → y ≡ x → Moves wanted p key out r key out'
  back-not {x} r y h e same =
      let q = ended-refused (subst (λ (z : Result Ended Refusal). EndsAt (data_of b t) g p.at s out z out') e m) in
      let want = wanted-is ∙ ap (λ (z : Res Keyed). bind z gone) (q.0 ∙ ap (λ (z : Refusal). refuse (number z)) (sym same)) in
      rw q.1 (moves-handed wanted p key out r y h want)

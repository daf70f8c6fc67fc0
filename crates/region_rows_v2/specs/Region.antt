-- A plain row of the region in which a cursor goes on: the step past it, whatever room there is for its key, and the cursor that it leaves, which goes on in the
-- region or is handed over to the next.
use Rattle.std.specs.Prelude.{ℕ, ◌+◌, ◌-◌, ◌<◌, ◌≤◌, ◌≡◌, refl, Bool, true, false, ◌&&◌, List, [], ◌++◌, eqb, length, take, drop, Some}
use Rattle.std.proofs.Common.{ap, sym, ◌∙◌, arith, length-take-le, lt-ltb, le-ltb, eq-eqb, ne_eqb, eqb-true}
use Rattle.layout.specs.Res.{ok}
use Rattle.layout.specs.Fixed.{unbig}
use Rattle.layout.specs.Limits.{max_key}
use Rattle.layout.specs.Key.{Key}
use Rattle.layout.specs.Place.{splice}
use Rattle.layout.specs.Plain.{Plain, plain_at, plain_read}
use Rattle.layout.specs.RowRead.{may_share, RowRead, key_of}
use Rattle.layout.specs.Trailer.{trailer_is, Region, row_in}
use Rattle.layout.specs.Cursor.{Cursor, marked, found, done, step_is, past_row, next}
use Rattle.layout.specs.Laws.Carry.{Carries, suffix_of}
use Rattle.layout.proofs.Laws.Carry.{read-carried, key_of-length, key-parts, key-new}
use Rattle.layout.proofs.Laws.Cursor.{next_up, up_done}
use Rattle.layout.proofs.Laws.Number.{right-tells, right-on}
use Rattle.layout.specs.Laws.Plain.{PlainTells}
use Rattle.layout.proofs.Laws.Plain.{plain_at-tells, fixed_at-is}
use Rattle.layout.proofs.Laws.PlainStep.{plain-reads, plain_step}
use Rattle.layout.proofs.Laws.Trailer.{trailer_of-tells}
use Rattle.row_plain_v2.specs.Promise.{plain_from}
use Rattle.row_plain_v2.specs.declared.PlainRow.{PlainRow}
use Rattle.trailer.specs.Says.{region_from}
use Rattle.place_v2.specs.Says.{view_in}
use Rattle.place_v2.specs.declared.Place.{Place}
use Rattle.region_rows_v2.specs.declared.Bounds.{Bounds}
use Rattle.region_rows_v2.specs.Bounds.{Inside, stretch_inside}
use Rattle.region_rows_v2.specs.Promise.{BoundsOf}
use Rattle.buf.specs.Promise.{or_zero, ReadsEight}

-- a plain row that stands in so many bytes
pub record PlainFits (len at : ℕ) (r : PlainRow) : Type 0 where
  pub ends : r.next ≡ at + 12 + r.unshared + r.value_len
  pub inside : r.next ≤ len
  pub some : 1 ≤ r.shared + r.unshared
  pub shared-small : r.shared ≤ 127
  pub unshared-small : r.unshared ≤ 127

-- its sequence number is read
pub seq-read : (d : List ℕ) (at : ℕ) (r : PlainRow) {q : ℕ} → PlainFits (length d) at r → ReadsEight d (r.next - 9) q → q ≡ unbig (take 8 (drop (r.next - 9) d))
seq-read d at r f e = e ∙ ap or_zero (fixed_at-is 8 d (r.next - 9) (omega (arith, f.ends, f.inside)))

-- a place whose region, position, number and key length are set
abbrev pub moved_to : Place → ℕ → ℕ → ℕ → ℕ → Place
moved_to p region at n len = record { order = p.order; region = region; at = at; number = n; key_len = len; done = p.done }

module _ (b : List ℕ) (size : ℕ) (g : Region) (p : Place) (key : List ℕ) (i : Inside b size g (view_in p key)) {most : ℕ} (r : Plain) (m : most ≡ may_share (eqb p.at g.start) p.key_len) (e : Some r ≡ plain_at (take size b) p.at g.end most) where
  abbrev pub row_here : RowRead
  row_here = plain_read (take size b) p.at r

  abbrev pub key_here : Key
  key_here = key_of (take size b) (take p.key_len key) row_here

  pub here-tells : PlainTells (take size b) p.at g.end most r
  here-tells = plain_at-tells (take size b) p.at g.end most (sym e)

  here-read : row_in (take size b) g p.at p.key_len ≡ ok row_here
  here-read = plain-reads (take size b) p.at g.end p.key_len g.start r m e

  pub here-step : (room : ℕ) → r.shared + r.unshared ≤ room → next (view_in p key) b room ≡ ok (step_is (past_row (view_in p key) g row_here key_here) (found p.region p.number row_here key_here))
  here-step room held =
      plain_step (view_in p key) b room (trailer_is i.count size) g r i.heads i.unmarked i.read i.counted i.few i.bounds i.from
      (omega (arith, here-tells.next-is, here-tells.within)) i.right m e held

  pub here-fits : (x : PlainRow) → plain_from x ≡ r → PlainFits (length (take size b)) p.at x
  here-fits x q =
      let t = here-tells in
      let n : x.next ≡ r.next = ap (λ (y : Plain). y.next) q in
      let s : x.shared ≡ r.shared = ap (λ (y : Plain). y.shared) q in
      let u : x.unshared ≡ r.unshared = ap (λ (y : Plain). y.unshared) q in
      let v : x.value_len ≡ r.value_len = ap (λ (y : Plain). y.value_len) q in
      record {
        ends = omega (arith, t.next-is);
        inside = omega (arith, t.within, t.inside);
        some = omega (arith, t.some);
        shared-small = omega (arith, t.shared-small);
        unshared-small = omega (arith, t.unshared-small);
      }

  module _ (whole : length key ≡ max_key) where
    carries : Carries key p.key_len
    carries = record { few = i.few; whole = whole }

    -- the suffix put over the carried key makes the bytes carry the row's
    pub here-carried : {key' : List ℕ} → key' ≡ splice key r.shared (suffix_of (take size b) row_here) → take (r.shared + r.unshared) key' ≡ key_here
    here-carried q =
        ap (take (r.shared + r.unshared)) q
        ∙ key-new (take size b) p.at g.end (eqb p.at g.start) key p.key_len carries row_here here-read

    -- the key in its two parts
    pub here-parts : take r.shared key ++ take r.unshared (drop (p.at + 3) (take size b)) ≡ key_here
    here-parts = key-parts (take size b) p.at g.end (eqb p.at g.start) key p.key_len carries row_here here-read

    pub here-long : length key_here ≡ r.shared + r.unshared
    here-long =
        key_of-length (take size b) p.at g.end (take p.key_len key) (eqb p.at g.start) row_here
        (read-carried (take size b) p.at g.end (eqb p.at g.start) key p.key_len carries here-read)

    module _ (key' : List ℕ) (k : take (r.shared + r.unshared) key' ≡ key_here) where
      -- a finished region hands over
      pub here-over : g.reach < r.next → view_in (moved_to p (p.region + 1) r.next 0 0) key' ≡ past_row (view_in p key) g row_here key_here
      here-over w = rw (lt-ltb g.reach r.next w, i.heads, i.unmarked)

      module _ (w : r.next ≤ g.reach) where
        pub here-stays : view_in (moved_to p p.region r.next (p.number + 1) (r.shared + r.unshared)) key' ≡ past_row (view_in p key) g row_here key_here
        here-stays = rw (le-ltb g.reach r.next w, i.heads, i.unmarked) (rw (k, here-long))

        pub here-inside : Inside b size g (view_in (moved_to p p.region r.next (p.number + 1) (r.shared + r.unshared)) key')
        here-inside =
            let s = here-tells in
            record { count = i.count; heads = i.heads; unmarked = i.unmarked; read = i.read; counted = i.counted; few = omega (arith, s.shared-small, s.unshared-small); bounds = i.bounds; from = omega (arith, i.from, s.next-is); right = right-on (p.at - g.start) p.number (r.next - g.start) i.right (omega (arith, i.from, s.next-is)) }

-- the rows' bytes are all there
pub inside-long : (b : List ℕ) (size : ℕ) (g : Region) (c : Cursor) → Inside b size g c → length (take size b) ≡ size
inside-long b size g c i = length-take-le size b (omega (arith, (trailer_of-tells b (trailer_is i.count size) i.read).0))

pub inside-region : (b : List ℕ) (size : ℕ) (g : Region) (c : Cursor) → Inside b size g c → c.region < length b
inside-region b size g c i = omega (arith, (trailer_of-tells b (trailer_is i.count size) i.read).0, i.counted)

-- one row more is still a number
pub inside-counts : (b : List ℕ) (size : ℕ) (g : Region) (c : Cursor) → Inside b size g c → c.number ≤ c.at
inside-counts b size g c i = omega (arith, right-tells (c.at - g.start) c.number i.right)

-- how many bytes a row may share: none at the region's start
pub share-none : (at start len : ℕ) → at ≡ start → 0 ≡ may_share (eqb at start) len
share-none at start len e = rw (eq-eqb at start e) refl

pub share-key : (at start len : ℕ) → (at ≡ start → ⊥) → len ≡ may_share (eqb at start) len
share-key at start len h = rw (ne_eqb at start h) refl

-- the bytes of the key do not matter
pub bounds-inside : (p : Place) (key b : List ℕ) {r : Bounds} → BoundsOf p b (Some r) → Inside b r.size (region_from r.region) (view_in p key)
bounds-inside p key b e =
    let i = stretch_inside (view_in p []) b e in
    record { count = i.count; heads = i.heads; unmarked = i.unmarked; read = i.read; counted = i.counted; few = i.few; bounds = i.bounds; from = i.from; right = i.right }

-- ---- no row left

both : {x y : Bool} → (x && y) ≡ true → (x ≡ true) × (y ≡ true)
both {x = true} {y} e = (refl, e)
both {x = false} {y} e = let z : ◌≡◌ {A = ℕ} 0 1 = cc in absurd (omega arith)

-- at the end of the last region
pub ends-here : (b : List ℕ) (size : ℕ) (g : Region) (p : Place) (key : List ℕ) → Inside b size g (view_in p key) → (eqb g.reach p.at && eqb g.end p.at) ≡ true → (room : ℕ)
    → next (view_in p key) b room ≡ ok (step_is (marked (view_in p key)) done)
ends-here b size g p key i e room =
    let t = both {x = eqb g.reach p.at} {y = eqb g.end p.at} e in
    let reach = eqb-true g.reach p.at t.0 in
    let end = eqb-true g.end p.at t.1 in
    next_up (view_in p key) b room _ i.read i.counted i.few i.unmarked i.heads
    ∙ up_done (view_in p key) b _ room g i.bounds i.from (omega arith) i.right (sym end)

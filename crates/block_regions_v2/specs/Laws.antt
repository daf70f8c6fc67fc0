-- The tests of what is handed in, by what was met: one law for each exit of the code; and a promise from it. For callers: what a promise tells, and that a
-- region that was read from the block passes the tests, so the definitions of `layout` are left (`step-back-used`, `walk-used`).
use Rattle.std.specs.Prelude.{ℕ, zero, suc, ◌+◌, ◌-◌, ◌≤◌, ◌<◌, min, ◌≡◌, Bool, true, false, cond, not, eqb, ltb, Option, Result, Ok, Err, IsErrAnd, unwrap_or}
use Rattle.std.proofs.Math.Path.{refl, ap, sym}
use Rattle.std.proofs.Common.{ap₂, ◌∙◌, le_antisymm, length-take}
use mathlib.Core.Path.{subst}
use Rattle.std.proofs.lemmas.Result.{err_from_is_err_and}
use mathlib.Core.List.{List, [], ◌++◌}
use Rattle.std.proofs.Math.Logic.{⊎_elim}
use native.Mathlib.Omega.{arith}
use Rattle.std.proofs.Math.ListN.{length, take, drop}
use Rattle.std.proofs.Math.Seq.{length-take-le, take_all}
use borrow.Author.Tests.{lt-ltb, le-ltb, le-leb, lt-leb, eq-eqb, ne_eqb}
use Rattle.layout.specs.Res.{Res, ok, refuse, bind, guard}
use Rattle.layout.specs.Limits.{max_key}
use Rattle.layout.specs.Key.{Key, below}
use Rattle.layout.specs.Place.{splice}
use Rattle.layout.specs.Plain.{spans}
use Rattle.layout.specs.RowRead.{RowRead, key_length, key_of}
use Rattle.layout.specs.Trailer.{Trailer, trailer_of, data_of, Region, region_of, row_in}
use Rattle.layout.specs.Number.{ended_by, number_at}
use Rattle.layout.specs.Cursor.{Cursor, Keyed, keyed, row_ending_at, found, Step, step_is, back_past, step_back_in}
use Rattle.layout.specs.Seek.{Stop, stop_is, walk_region}
use Rattle.layout.proofs.Laws.Res.{bind-then, ok-inj, cond-ok, ltb-cases, eqb-cases, clash}
use Rattle.layout.proofs.Laws.Carry.{key_of-length}
use Rattle.layout.proofs.Laws.Cursor.{ended, back-no, back_wrong, back-short, back_found}
use Rattle.layout.specs.Laws.MatchWalk.{Halt, halt_is}
use Rattle.layout.specs.Laws.Number.{Counting}
use Rattle.layout.proofs.Laws.Number.{counting-here, number_in}
use Rattle.layout.proofs.Laws.Plain.{span-no}
use Rattle.layout.proofs.Laws.Splice.{then-write}
use Rattle.layout.proofs.Laws.Tells.{row_in-ends}
use Rattle.layout.proofs.Laws.Trailer.{trailer_of-tells, region_of-tells}
use Rattle.basics.specs.Answers.{apart}
use Rattle.basics.specs.Number.{number}
use Rattle.basics.specs.declared.Refusal.{Refusal}
use Rattle.basics.specs.declared.Refusal.TheVariants.{BadState, KeyBufferTooShort}
use Rattle.row_decode_v2.specs.Says.{row_from}
use Rattle.row_decode_v2.specs.declared.Row.{Row}
use Rattle.trailer.specs.Says.{region_from}
use Rattle.trailer.specs.declared.Region.{Region as RegionC}
use Rattle.block_regions_v2.specs.declared.Ended.{Ended}
use Rattle.block_regions_v2.specs.declared.Halted.{Halted}
use Rattle.block_regions_v2.specs.declared.Stop.{Stop as StopC}
use Rattle.block_regions_v2.specs.declared.Reached.{Reached}
use Rattle.block_regions_v2.specs.Climb.{Climbing, climbing_no}
use Rattle.block_regions_v2.specs.Known.{part_length, known-parts}
use Rattle.block_regions_v2.specs.Parts.{halted_is, HaltsAt, Halts, Stands, Reaches, reaching_refused, reaching_straddles, reaching_found, reaching_long, reaching_shares}
use Rattle.block_regions_v2.specs.Count.{counting-ended}
use Rattle.block_regions_v2.specs.Promise.{Gives, EndsAt, WalksInto}
use Rattle.block_regions_v2.specs.Regions.{Counted, counted, row_numbered, halt_numbered, ending_at, out_after, given, walk_to, held, walk_into, key_left}
use Rattle.block_regions_v2.specs.Rows.{Filling}
use Rattle.block_regions_v2.specs.Says.{stop_from, says_place}

-- ---- answers

-- a refusal that is handed on: what is promised of the refusal r is promised of the answer x, which it is
pub handed-promise : {T : Type 0} (P : Result T Refusal → Type 0) (x : Result T Refusal) (r : Refusal) → IsErrAnd x (λ q. q ≡ r) → P (Err r) → P x
handed-promise P x r e m = let p = err_from_is_err_and x e in subst P (sym (p.1 ∙ ap Err p.2)) m

abbrev pub row_is : Row → ℕ → Ended
row_is r n = record { row = r; number = n }

abbrev pub stands_at : ℕ → ℕ → ℕ → StopC
stands_at at n m = record { at = at; key_len = n; number = m }

-- ---- the row that ends at a position

module _ (d : List ℕ) (g : Region) (stop n room : ℕ) where
  pub ending-none : stop ≤ g.start → refuse 18 ≡ ending_at d g stop n room
  unfolding ending_at
  ending-none h = rw (le-leb stop g.start h)

  module _ (h : g.start < stop) where
    pub ending-no : {i : ℕ} → refuse i ≡ row_ending_at stop d g stop g.start [] → refuse i ≡ ending_at d g stop n room
    unfolding ending_at
    ending-no e = rw (lt-leb stop g.start h, sym e)

    ending-said : (k : Keyed) → row_ending_at stop d g stop g.start [] ≡ ok k
        → ending_at d g stop n room ≡ guard (not (eqb n (ended_by d g stop))) 18 (guard (ltb room (key_length k.row)) 19 (ok k))
    unfolding ending_at
    ending-said k e = rw (lt-leb stop g.start h, e)

    -- by what the loop found of the first row that reaches the position
    pub ending-given : (r : RowRead) (key : Key) → stop ≤ r.next → (stop < r.next → refuse 18 ≡ row_ending_at stop d g stop g.start [])
        → (r.next ≡ stop → ok (keyed r key) ≡ row_ending_at stop d g stop g.start []) → given r stop (not (eqb n (ended_by d g stop))) key room ≡ ending_at d g stop n room
    ending-given r key k past there =
        ⊎_elim
        (λ t. rw t.0 (ending-no (past t.1)))
        (λ t.
        let e = sym (there (le_antisymm t.1 k)) in
        rw (t.0, (ended stop d g stop g.start [] (keyed r key) e).whole) (sym (ending-said (keyed r key) e)))
        (ltb-cases stop r.next)

-- a refusal leaves the buffer
pub gives-not : {d : List ℕ} {g : Region} {want : Res Keyed} {x : Refusal} {out out' : List ℕ} → out' ≡ out → refuse (number x) ≡ want
    → Gives d g want out (Err x) out'
gives-not q e = rw (sym e) (record { answer = refl; bytes = q })

-- the first row that reaches the position was given
gives-ended : {d : List ℕ} {g : Region} {had want : Res Keyed} {x : Result Ended Refusal} {out out' : List ℕ} → had ≡ want → Gives d g had out x out' → Gives d g want out x out'
gives-ended e p = rw (sym e) p

module _ (d : List ℕ) (g : Region) (r : Row) (stop : ℕ) (wrong : Bool) (key out : List ℕ) where
  abbrev offered : Res Keyed
  offered = given (row_from r) stop wrong key (length out)

  gives-past : stop < r.next → Gives d g offered out (Err BadState) out
  gives-past h = rw (lt-ltb stop r.next h) (record { answer = refl; bytes = refl })

  module _ (h : r.next ≤ stop) where
    gives_wrong : wrong ≡ true → Gives d g offered out (Err BadState) out
    gives_wrong w = rw (le-ltb stop r.next h, w) (record { answer = refl; bytes = refl })

    module _ (w : wrong ≡ false) where
      gives-short : length out < length key → Gives d g offered out (Err KeyBufferTooShort) out
      gives-short k = rw (le-ltb stop r.next h, w, lt-ltb (length out) (length key) k) (record { answer = refl; bytes = refl })

      gives_row : {n : ℕ} {out' : List ℕ} → ended_by d g r.start ≡ n → length key ≤ length out → out' ≡ splice out 0 key → Gives d g offered out (Ok (row_is r n)) out'
      gives_row m k e =
          rw (le-ltb stop r.next h, w, le-ltb (length out) (length key) k) (record { answer = ap (λ (i : ℕ). ok (counted (row_from r) i)) (sym m); bytes = e })

-- ---- a region that ends after the data

module _ (d : List ℕ) (g : Region) (target : Key) where
  module _ (h : length d < g.end) where
    pub walk_strange : refuse 18 ≡ walk_to d g target
    unfolding walk_to
    walk_strange = rw (lt-ltb (length d) g.end h)

  module _ (h : g.end ≤ length d) where
    pub walk-there : walk_region (length d) d g target g.start [] ≡ walk_to d g target
    unfolding walk_to
    walk-there = rw (le-ltb (length d) g.end h)

-- ---- what the walk met

module _ (d : List ℕ) (g : Region) (target : Key) (at m len from from-len n : ℕ) (s : Climbing d g target (length d) at m len from from-len) (c : Counting d g at len n) where
  pub halts_no : at < g.end → (r : Refusal) → refuse (number r) ≡ spans (row_in d g at len) → Halts d g target (Err r)
  halts_no u r e = climbing_no d g target (length d) at m len from from-len s u (span-no (row_in d g at len) e)

  pub halts_there : ok (stop_is at s.before) ≡ walk_region (length d) d g target g.start [] → {h : Halted} → h ≡ halted_is at len n from from-len → Halts d g target (Ok h)
  halts_there e is = rw is (record { match = m; climbs = s; counts = c; stopped = e })

-- ---- the promise of a walk

module _ (d : List ℕ) (g : RegionC) (target key : List ℕ) where
  into-not : {x : Refusal} → refuse (number x) ≡ walk_to d (region_from g) target → WalksInto d g target key (Err x) key
  unfolding walk_into
  into-not e = record { answer = rw (sym e); bytes = rw (sym e) }

  pub into_strange : length d < g.end → WalksInto d g target key (Err BadState) key
  into_strange h = into-not (walk_strange d (region_from g) target h)

  module _ (at n m : ℕ) (before : Key) (said : walk_to d (region_from g) target ≡ ok (stop_is at before)) (long : length before ≡ n) (is_m : ended_by d (region_from g) at ≡ m) where
    halt_is_lem : ok (counted (halt_is at n) m) ≡ halt_numbered d (region_from g) (stop_is at before)
    halt_is_lem = ap₂ (λ (i j : ℕ). ok (counted (halt_is at i) j)) (sym long) (sym is_m)

    stopped-end : g.end ≤ at → WalksInto d g target key (Ok (stands_at at n m)) key
    unfolding walk_into
    stopped-end u =
        let past = le-ltb at g.end u in
        record { answer = rw (said, past) halt_is_lem; bytes = rw (said, past, past) }

    module _ (u : at < g.end) where
      stopped-short : length key < n → WalksInto d g target key (Err KeyBufferTooShort) key
      unfolding walk_into
      stopped-short v =
          let inner = lt-ltb at g.end u in
          let short = lt-ltb (length key) (length before) (rw long v) in
          record { answer = rw (said, inner, short); bytes = rw (said, inner, short) }

      stopped-there : n ≤ length key → {part : List ℕ} → part ≡ take (length (take n key)) before → WalksInto d g target key (Ok (stands_at at n m)) (part ++ drop n key)
      unfolding walk_into splice
      stopped-there v {part} q =
          let inner = lt-ltb at g.end u in
          let fits = le-ltb (length key) (length before) (rw long v) in
          let is : part ≡ before = q ∙ take_all (length (take n key)) before (rw (length-take-le n key v) (omega arith)) in
          let from : n ≡ 0 + length before = omega arith in
          record {
            answer = rw (said, inner, fits) halt_is_lem;
            bytes = rw (said, inner, fits, inner, is) (ap (λ (i : ℕ). before ++ drop i key) from);
          }

  module _ (inside : g.end ≤ length d) where
    pub into-no : {x : Refusal} → Halts d (region_from g) target (Err x) → WalksInto d g target key (Err x) key
    into-no w = into-not (w ∙ walk-there d (region_from g) target inside)

    module _ (h : Halted) (w : HaltsAt d (region_from g) target h) where
      said : walk_to d (region_from g) target ≡ ok (stop_is h.at w.climbs.before)
      said = sym (w.stopped ∙ walk-there d (region_from g) target inside)

      ended_is : ended_by d (region_from g) h.at ≡ h.number
      ended_is = counting-here d (region_from g) h.at h.len h.number w.counts

      -- where the region is at its end
      pub into-end : g.end ≤ h.at → WalksInto d g target key (Ok (stands_at h.at h.len h.number)) key
      into-end u = stopped-end h.at h.len h.number w.climbs.before said w.climbs.long ended_is u

      module _ (u : h.at < g.end) where
        pub into-short : length key < h.len → WalksInto d g target key (Err KeyBufferTooShort) key
        into-short v = stopped-short h.at h.len h.number w.climbs.before said w.climbs.long ended_is u v

        module _ (v : h.len ≤ length key) where
          pub into-room : length (take h.len key) ≤ length w.climbs.before
          into-room = let l = w.climbs.long in rw (length-take-le h.len key v) (omega arith)

          pub into-done : {part : List ℕ} → part ≡ take (length (take h.len key)) w.climbs.before → WalksInto d g target key (Ok (stands_at h.at h.len h.number)) (part ++ drop h.len key)
          into-done q = stopped-there h.at h.len h.number w.climbs.before said w.climbs.long ended_is u v q

-- ---- the bytes that a row shares

-- a part of n bytes has no more
pub part-most : (d : List ℕ) (a n : ℕ) → length (take (a + n - a) (drop a d)) ≤ n
part-most d a n = omega (arith, length-take (a + n - a) (drop a d))

module _ (d : List ℕ) (g : Region) (there : Reached) (out : List ℕ) (shared : ℕ) (h : shared ≤ length out) (before : Key) (s : Stands d g there before) (few : shared ≤ length before) where
  -- by a second read from the region's start
  pub shared_filling : Filling d g there.at before (take shared out) g.start 0
  shared_filling =
      record {
        rows = s.rows;
        before = [];
        long = refl;
        leads = s.leads;
        room = rw (length-take-le shared out h) few;
        kept = λ r e i u v w. absurd (omega arith);
        whole = λ u i v w. absurd (omega arith);
      }

  pub shared-read : {part : List ℕ} → part ≡ take (length (take shared out)) before → part ++ drop shared out ≡ splice out 0 (take shared before)
  unfolding splice
  shared-read {part} q =
      let is : part ≡ take shared before = q ∙ ap (λ (n : ℕ). take n before) (length-take-le shared out h) in
      let m : shared ≡ 0 + length (take shared before) = omega (arith, length-take-le shared before few) in
      rw is (ap (λ (n : ℕ). take shared before ++ drop n out) m)

  -- from where they stand
  pub shared-put : shared ≤ there.known.len → {n : ℕ} {ys zs : List ℕ} → n ≡ min shared there.known.split
      → ys ≡ splice out 0 (take (there.known.first + n - there.known.first) (drop there.known.first d))
      → zs ≡ splice ys n (take (there.known.second + (shared - n) - there.known.second) (drop there.known.second d)) → zs ≡ splice out 0 (take shared before)
  shared-put u {n} {ys} {zs} e y z =
      let k = s.knows in
      let inner = k.inner in
      let one = k.one in
      let two = k.two in
      let a = there.known.first in
      let b = there.known.second in
      let p-is : a + n - a ≡ n = omega arith in
      let q-is : b + (shared - n) - b ≡ shared - n = omega arith in
      let p-long : length (take n (drop a d)) ≡ n = part_length d a n (omega arith) in
      let q-long : length (take (shared - n) (drop b d)) ≡ shared - n = part_length d b (shared - n) (omega arith) in
      then-write out ys zs 0 n (take n (drop a d)) (take (shared - n) (drop b d)) (rw p-is at y) (omega arith) (omega arith) (rw q-is at z)
      ∙ ap (splice out 0) (sym (known-parts d before there.known k shared u ∙ ap (λ (m : ℕ). take m (drop a d) ++ take (shared - m) (drop b d)) (sym e)))

-- ---- the row that ends at a position

module _ (d : List ℕ) (g : RegionC) (stop : ℕ) (p : Option ℕ) (out : List ℕ) (h : g.start < stop) (q : Reached) (w : Reaches d (region_from g) stop q) where
  abbrev said_of : ℕ
  said_of = unwrap_or p (ended_by d (region_from g) stop)

  abbrev wrong_there : Bool
  wrong_there = not (eqb said_of (ended_by d (region_from g) stop))

  pub stands : Stands d (region_from g) q w.there.before
  stands = record { rows = w.there.rows; leads = w.there.leads; knows = w.there.knows }

  pub ended-no : (y : Result Ended Refusal) (x : Refusal) → IsErrAnd y (λ q. q ≡ x) → row_in d (region_from g) q.at q.len ≡ refuse (number x) → EndsAt d g stop p out y out
  ended-no y x t e = handed-promise (λ (y : Result Ended Refusal). EndsAt d g stop p out y out) y x t (gives-not refl (ending-no d (region_from g) stop said_of (length out) h (reaching_refused d (region_from g) stop q.at q.len q.known w.there e)))

  module _ (r : Row) (e : row_in d (region_from g) q.at q.len ≡ ok (row_from r)) where
    abbrev key : Key
    key = key_of d w.there.before (row_from r)

    is-given : given (row_from r) stop wrong_there key (length out) ≡ ending_at d (region_from g) stop said_of (length out)
    is-given =
        ending-given d (region_from g) stop said_of (length out) h (row_from r) key (w.far (row_from r) e) (reaching_straddles d (region_from g) stop q.at q.len q.known w.there (row_from r) e)
        (reaching_found d (region_from g) stop q.at q.len q.known w.there (row_from r) e)

    key-long : length key ≡ key_length (row_from r)
    key-long = reaching_long d (region_from g) stop q.at q.len q.known w.there (row_from r) e

    pub ended-shares : r.shared ≤ length w.there.before
    ended-shares = reaching_shares d (region_from g) stop q.at q.len q.known w.there (row_from r) e

    pub ended-past : stop < r.next → EndsAt d g stop p out (Err BadState) out
    ended-past k = gives-ended is-given (gives-past d (region_from g) r stop wrong_there key out k)

    number_is : ended_by d (region_from g) r.start ≡ q.number
    number_is =
        ap (ended_by d (region_from g)) (row_in-ends d (region_from g) q.at q.len (row_from r) e).starts ∙ counting-here d (region_from g) q.at q.len q.number w.counts

    -- x rows are said to end where it does
    module _ (k : r.next ≤ stop) {x : ℕ} (t : x ≡ unwrap_or p (q.number + 1)) where
      all : ended_by d (region_from g) stop ≡ q.number + 1
      all = counting-ended d (region_from g) q.at q.len q.number w.counts (row_from r) e (le_antisymm k (w.far (row_from r) e))

      said_is : x ≡ said_of
      said_is = t ∙ ap (unwrap_or p) (sym all)

      pub ended_wrong : (x ≡ q.number + 1 → ⊥) → EndsAt d g stop p out (Err BadState) out
      ended_wrong v =
          let wrong : wrong_there ≡ true = rw (ne_eqb said_of (ended_by d (region_from g) stop) (λ u. v (said_is ∙ u ∙ all))) in
          gives-ended is-given (gives_wrong d (region_from g) r stop wrong_there key out k wrong)

      module _ (v : x ≡ q.number + 1) where
        right : wrong_there ≡ false
        right = rw (eq-eqb said_of (ended_by d (region_from g) stop) (sym said_is ∙ v ∙ sym all))

        pub ended-short : length out < r.shared + r.suffix_len → EndsAt d g stop p out (Err KeyBufferTooShort) out
        ended-short u = gives-ended is-given (gives-short d (region_from g) r stop wrong_there key out k right (rw key-long u))

        -- what it shares is put, then its suffix
        pub ended-put : r.shared + r.suffix_len ≤ length out → {ys zs : List ℕ} → ys ≡ splice out 0 (take r.shared w.there.before)
            → zs ≡ splice ys r.shared (take (r.suffix_at + r.suffix_len - r.suffix_at) (drop r.suffix_at d)) → EndsAt d g stop p out (Ok (row_is r q.number)) zs
        ended-put u {ys} {zs} y z =
            let p-is : r.suffix_at + r.suffix_len - r.suffix_at ≡ r.suffix_len = omega arith in
            let first-long = length-take-le r.shared w.there.before ended-shares in
            let last-long : length (take r.suffix_len (drop r.suffix_at d)) ≡ r.suffix_len =
            part_length d r.suffix_at r.suffix_len (row_in-ends d (region_from g) q.at q.len (row_from r) e).suffix in
            gives-ended is-given
            (gives_row d (region_from g) r stop wrong_there key out k right number_is (rw key-long u)
            (then-write out ys zs 0 r.shared (take r.shared w.there.before) (take r.suffix_len (drop r.suffix_at d)) y (omega arith) (omega arith) (rw p-is at z)))

-- ---- for callers

module _ {d : List ℕ} {g : Region} {want : Res Keyed} {out out' : List ℕ} where
  pub ended-row : {r : Row} {n : ℕ} → Gives d g want out (Ok (row_is r n)) out'
      → (k : Keyed) × (want ≡ ok k) × (k.row ≡ row_from r) × (out' ≡ splice out 0 k.key) × (ended_by d g k.row.start ≡ n)
  ended-row {r} {n} p =
      bind-then want _ (counted (row_from r) n) (sym p.answer) λ k e f.
      (k, e, ap (λ (x : Counted RowRead). x.what) (ok-inj f), p.bytes ∙ ap (λ (x : Res Keyed). out_after x out) e, ap (λ (x : Counted RowRead). x.number) (ok-inj f))

  pub ended-refused : {x : Refusal} → Gives d g want out (Err x) out' → (want ≡ refuse (number x)) × (out' ≡ out)
  ended-refused {x} p = go want p.answer p.bytes
    where
      go : (w : Res Keyed) → refuse (number x) ≡ bind w (row_numbered d g) → out' ≡ out_after w out → (w ≡ refuse (number x)) × (out' ≡ out)
      go (ok k) e q = absurd (apart (sym e))
      go (refuse n) e q = (cc, q)

-- the step back of a cursor that stands in the region
module _ (c : Cursor) (b : List ℕ) (t : Trailer) (room region : ℕ) (g : Region) (n : ℕ) (is : region_of b t region ≡ ok g) where
  abbrev number_of : ℕ → ℕ
  number_of at = ended_by (data_of b t) g at

  abbrev found-by : Keyed → ℕ → Res Step
  found-by k m = ok (step_is (back_past c region m k.row) (found region m k.row k.key))

  abbrev found_back : Keyed → Res Step
  found_back k = found-by k (number_of k.row.start)

  in_region : (at : ℕ) → number_at b t region at ≡ number_of at
  in_region at = number_in b t region at g is

  pub step-back-used : g.start < c.at → step_back_in c b t room region g n ≡ bind (ending_at (data_of b t) g c.at n room) found_back
  step-back-used h = go (row_ending_at c.at (data_of b t) g c.at g.start []) refl
    where
      go : (x : Res Keyed) → row_ending_at c.at (data_of b t) g c.at g.start [] ≡ x → step_back_in c b t room region g n ≡ bind (ending_at (data_of b t) g c.at n room) found_back
      go (refuse i) e = rw (sym (ending-no (data_of b t) g c.at n room h (sym e))) (back-no c b t room region g n e)
      go (ok k) e =
          let said = ending-said (data_of b t) g c.at n room h k e in
          ⊎_elim
          (λ v.
          let w = v.1 ∙ sym (in_region c.at) in
          ⊎_elim
          (λ u. rw (said, v.0, u.0) (back-short c b t room region g n k e w u.1))
          (λ u. rw (said, v.0, u.0) (back_found c b t room region g n k e w u.1 ∙ ap (found-by k) (in_region k.row.start)))
          (ltb-cases room (key_length k.row)))
          (λ v. rw (said, v.0) (back_wrong c b t room region g n k e (λ w. v.1 (w ∙ in_region c.at))))
          (eqb-cases n (number_of c.at))

-- the key that a walk leaves is one that is allowed
walk-few : (d : List ℕ) (g : Region) (fuel : ℕ) (target : Key) (at : ℕ) (before : Key) (s : Stop) → walk_region fuel d g target at before ≡ ok s → length before ≤ max_key → length s.before ≤ max_key
unfolding walk_region
walk-few d g zero target at before s e h = let w : stop_is at before ≡ s = ok-inj e in rw (← w) h
walk-few d g (suc fuel) target at before s e h =
    ⊎_elim
    (λ t.
    bind-then (row_in d g at (length before)) _ s (rw t.0 at e) λ r p q.
    let w = (row_in-ends d g at (length before) r p).fits in
    let l = key_of-length d at g.end before (eqb at g.start) r p in
    ⊎_elim
    (λ u. walk-few d g fuel target r.next (key_of d before r) s u.1 (rw l w))
    (λ u. stays (ok-inj u.1))
    (cond-ok (below (key_of d before r) target) _ _ s q))
    (λ t. stays (ok-inj (rw t.0 at e)))
    (ltb-cases at g.end)
  where
    stays : stop_is at before ≡ s → length s.before ≤ max_key
    stays w = rw (← w) h

module _ (b : List ℕ) (t : Trailer) (i : ℕ) (g : Region) (target : Key) (read : trailer_of b ≡ ok t) (is : region_of b t i ≡ ok g) where
  size_is : length (data_of b t) ≡ t.size
  size_is = length-take-le t.size b (omega (arith, (trailer_of-tells b t read).0))

  inside : g.end ≤ length (data_of b t)
  inside = rw size_is (region_of-tells b t i g is).inside

  pub walk-used : walk_to (data_of b t) g target ≡ walk_region t.size (data_of b t) g target g.start []
  walk-used =
      sym (walk-there (data_of b t) g target inside) ∙ ap (λ (n : ℕ). walk_region n (data_of b t) g target g.start []) size_is

-- the walk of a region of the block, where the slice has room for any key
module _ (b : List ℕ) (t : Trailer) (i : ℕ) (g : RegionC) (target : Key) (read : trailer_of b ≡ ok t) (is : region_of b t i ≡ ok (region_from g)) (key : List ℕ) (whole : length key ≡ max_key) where
  abbrev walked : Res Stop
  walked = walk_region t.size (data_of b t) (region_from g) target g.start []

  abbrev numbered : Stop → Res (Counted Halt)
  numbered = halt_numbered (data_of b t) (region_from g)

  into-used : walk_into (data_of b t) (region_from g) target (length key) ≡ walked
  unfolding walk_into
  into-used = rw (walk-used b t i (region_from g) target read is) (go walked refl)
    where
      go : (x : Res Stop) → walked ≡ x → bind x (held (region_from g) (length key)) ≡ x
      go (refuse n) e = refl
      go (ok s) e =
          let few = walk-few (data_of b t) (region_from g) t.size target g.start [] s e (omega arith) in
          ⊎_elim
          (λ u. rw (u.0, le-ltb (length key) (length s.before) (omega arith)))
          (λ u. rw u.0)
          (ltb-cases s.at g.end)

  module _ (r : Result StopC Refusal) (key' : List ℕ) (w : WalksInto (data_of b t) g target key r key') where
    pub into-stopped : {h : StopC} → r ≡ Ok h
        → (s : Stop) × (walked ≡ ok s) × (s.at ≡ h.at) × (length s.before ≡ h.key_len) × (key' ≡ cond (ltb s.at g.end) (splice key 0 s.before) key) × (ended_by (data_of b t) (region_from g) s.at ≡ h.number)
    into-stopped {h} e =
        bind-then walked _ (stop_from h) (sym (sym (ap says_place e) ∙ w.answer ∙ ap (λ (x : Res Stop). bind x numbered) into-used)) λ s q f.
        let is = ok-inj f in
        (s, q, ap (λ (x : Counted Halt). x.what.at) is, ap (λ (x : Counted Halt). x.what.key_len) is, w.bytes ∙ ap (λ (x : Res Stop). key_left (region_from g) x key) (into-used ∙ q), ap (λ (x : Counted Halt). x.number) is)

    pub into-refused : {n : ℕ} → says_place r ≡ refuse n → (walked ≡ refuse n) × (key' ≡ key)
    into-refused {n} e = go walked (sym e ∙ w.answer ∙ ap (λ (y : Res Stop). bind y numbered) into-used) (w.bytes ∙ ap (λ (y : Res Stop). key_left (region_from g) y key) into-used)
      where
        go : (y : Res Stop) → refuse n ≡ bind y numbered → key' ≡ key_left (region_from g) y key → (y ≡ refuse n) × (key' ≡ key)
        go (ok s) f q = absurd (apart (sym f))
        go (refuse m) f q = (cc, q)

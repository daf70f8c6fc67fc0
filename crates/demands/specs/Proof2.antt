-- Demand 2, proved: a row decodes to what was encoded, a seek lands where it must, a walk gives every row, the check is exact. Over an accepted block these are the laws of
-- its rows (`Accepts`), with the walks that stand before or after them.
use Rattle.std.specs.Prelude.{ℕ, zero, suc, ◌+◌, ◌-◌, ◌*◌, ◌<◌, ◌≤◌, ◌≡◌, refl, true, false, List, [], ◌∷◌, ◌++◌, map, length, take, drop, get_or}
use Rattle.std.proofs.Common.{zero-le, ap, ap₂, sym, ◌∙◌, ⊎_elim, not-suc-le-zero, add-one, length-append, length-drop, get_or-drop, eq-eqb}
use native.Mathlib.Omega.{arith}
use Rattle.std.proofs.lemmas.List.{length-map}
use Rattle.layout.specs.Res.{ok}
use Rattle.layout.specs.Limits.{max_key, max_restarts}
use Rattle.layout.specs.Key.{Key, below, first_at_or_above, first_above, Rank, rank_is, no_rank, Rising}
use Rattle.layout.specs.Row.{Fields, Row, row_bytes, Typed, plain_row}
use Rattle.layout.specs.RowRead.{RowRead, read_row, decode_row, key_length}
use Rattle.layout.specs.Fixed.{unbig}
use Rattle.layout.specs.Trailer.{short_at, Trailer, data_of, offset_at}
use Rattle.layout.specs.Check.{check}
use Rattle.layout.specs.Cursor.{Cursor, opened_up, opened_down, Keyed, found, done, Step, step_is, next}
use Rattle.layout.specs.Seek.{done_up}
use Rattle.demands.specs.Reads.{regions_rows, Reads, all_rows, ranks_of, verdict, keys_of, content_of}
use Rattle.demands.specs.Runs.{RoomFor, Walks, stands, gives, WalksAll}
use Rattle.demands.specs.Rows.{DecodesBack, Rows, BothWays, offered_ranks, SoughtUp, SoughtDown, PartsBelow, PartsAbove, Given, FoundFirstOf, FoundFirst}
use Rattle.demands.specs.RunsProof.{walks-before, walks-after}
use Rattle.demands.specs.SoughtProof.{landed-up, landed-down}
use Rattle.layout.proofs.Laws.Res.{ok-inj, ltb-cases, clash}
use Rattle.layout.specs.Laws.Key.{AtMost}
use Rattle.layout.proofs.Laws.Key.{at-most-refl, at-most-trans, at-most_antisym, below_false, le_below, below-most}
use Rattle.layout.specs.Laws.Row.{places_of}
use Rattle.layout.proofs.Laws.Row.{read_row-law, places_of-fields, places_of-key}
use Rattle.layout.proofs.Laws.Tells.{read_row-ends, restart-least}
use Rattle.layout.specs.Laws.Encoded.{Encoded}
use Rattle.layout.proofs.Laws.Encoded.{encoded_fields}
use Rattle.layout.proofs.Laws.Trailer.{region_of-tells, trailer_of-tells}
use Rattle.layout.proofs.Laws.Cursor.{next-marked}
use Rattle.demands.specs.Laws.Reads.{region-at, rows_all}
use Rattle.demands.specs.Laws.Ascend.{opened-before, opens_up}
use Rattle.demands.specs.Laws.Descend.{opened_after_lem, opens-down}
use Rattle.demands.specs.Laws.Accept.{check_accepts, accepts_check, check-verdict}
use Rattle.demands.specs.Laws.Sorted.{NeverFall, rising-never-falls}
use Rattle.demands.specs.Laws.First.{first-before, first-here, above_before, above-here}
use Rattle.demands.specs.Laws.Split.{split_at}
use Rattle.demands.specs.Laws.LandsUp.{SeeksUp, seeks-up}
use Rattle.demands.specs.Laws.LandsDown.{SeeksDown, seeks-down}
use Rattle.demands.specs.Laws.Laid.{LaidBlock}

-- ---- one row

pub decodes-back : (prev_len shared : ℕ) (suffix : List ℕ) (f : Fields) (w post : List ℕ) → Encoded (row_bytes shared suffix f) prev_len shared suffix f w → Typed f → DecodesBack prev_len shared suffix f w post
unfolding decode_row
decodes-back prev_len shared suffix f w post e t =
    let here : drop 0 (w ++ post) ≡ row_bytes shared suffix f ++ post = ap (λ (x : List ℕ). x ++ post) (sym e.is) in
    let fits : 0 + length (row_bytes shared suffix f) ≤ length (w ++ post) = omega (arith, ap length e.is, length-append w post) in
    record {
      row = places_of 0 shared suffix f;
      reads = read_row-law (w ++ post) 0 shared suffix f post here prev_len false e.shares e.key-ok (encoded_fields e t) (length (w ++ post)) fits;
      ends = omega (arith, ap length e.is);
      fields = places_of-fields (w ++ post) 0 shared suffix f post here;
      key = λ prev. places_of-key (w ++ post) 0 shared suffix f post here prev;
    }

-- ---- the rows of an accepted block, walked both ways

module _ (b : List ℕ) (n : ℕ) (t : Trailer) (rows : List Keyed) (q : Rows b n t rows) (room : ℕ) (f : RoomFor room rows) where
  pub rows_walked : BothWays b t room rows
  rows_walked =
      record {
        opens_up = opens_up b t q.regions q.reads;
        opens-down = opens-down b t q.regions q.reads;
        forwards = walks-before b t room opened_up rows (rw q.are (opened-before b t q.regions q.reads)) f;
        back = walks-after (length rows) b t room (opened_down b t) rows (omega arith) (rw q.are (opened_after_lem b t q.regions q.reads)) f;
      }

pub accepted-rows : (b : List ℕ) (n : ℕ) → check b ≡ ok n → (t : Trailer) × (rows : List Keyed) × Rows b n t rows
accepted-rows b n e =
    let a = check_accepts b n e in
    (a.t, all_rows a.regions, record { regions = a.regions; reads = a.reads; are = refl; in_order = a.in_order; many = a.many })

-- a key buffer of the key limit has room for every row's key
pub rows-room : (b : List ℕ) (n : ℕ) (t : Trailer) (rows : List Keyed) → Rows b n t rows → RoomFor max_key rows
rows-room b n t rows q =
    rw q.are
    (rows_all (λ (k : Keyed). key_length k.row ≤ max_key) (λ d at end before restart r e. (read_row-ends d at end (length before) restart r e).fits) t.count b t 0 q.regions q.reads.rows-read)

-- ---- seeks

module _ (b : List ℕ) (n : ℕ) (t : Trailer) (rows : List Keyed) (q : Rows b n t rows) (target : Key) (room : ℕ) (f : RoomFor room rows) where
  s-up : SeeksUp b t target rows
  s-up = rw q.are (seeks-up b t q.regions target q.reads (rw q.are at (rising-never-falls no_rank rows q.in_order)))

  s-down : SeeksDown b t target rows
  s-down = rw q.are (seeks-down b t q.regions target q.reads (rw q.are at (rising-never-falls no_rank rows q.in_order)))

  pub sought-up : SoughtUp b t target rows room
  unfolding first_at_or_above
  sought-up = let w = landed-up b t room q.reads.trailer-good target rows s-up.c f s-up.landing in record { c = s-up.c; reads = s-up.reads; is = s-up.is; walked = w.0; over = w.1 }

  pub sought-down : SoughtDown b t target rows room
  unfolding first_above
  sought-down = let w = landed-down b t room q.reads.trailer-good target rows s-down.c f s-down.landing in record { c = s-down.c; reads = s-down.reads; is = s-down.is; walked = w.0; over = w.1 }

-- ---- the retry's row

-- keys that never fall, by their numbers
sorted-from : (a : Key) (ks : List Keyed) → NeverFall a ks → (j : ℕ) → j < length ks → AtMost a (get_or (keys_of ks) j [])
sorted-from a [] o j h = absurd (not-suc-le-zero h)
sorted-from a (k ∷ ks) o zero h = below_false k.key a o.0
sorted-from a (k ∷ ks) o (suc j) h = at-most-trans a k.key (get_or (keys_of ks) j []) (below_false k.key a o.0) (sorted-from k.key ks o.1 j (omega arith))

pub sorted-by : (a : Key) (ks : List Keyed) → NeverFall a ks → (i j : ℕ) → i ≤ j → j < length ks → AtMost (get_or (keys_of ks) i []) (get_or (keys_of ks) j [])
sorted-by a [] o i j h l = absurd (not-suc-le-zero l)
sorted-by a (k ∷ ks) o zero zero h l = at-most-refl k.key
sorted-by a (k ∷ ks) o zero (suc j) h l = sorted-from k.key ks o.1 j (omega arith)
sorted-by a (k ∷ ks) o (suc i) zero h l = absurd (not-suc-le-zero h)
sorted-by a (k ∷ ks) o (suc i) (suc j) h l = sorted-by k.key ks o.1 i j (omega arith) (omega arith)

-- ---- what "first at or above" and "first above" name, where keys never fall

module _ (target : Key) (rows : List Keyed) (in_order : Rising no_rank (ranks_of rows)) (i : ℕ) (here : i < length rows) where
  o : NeverFall [] rows
  o = rising-never-falls no_rank rows in_order

  keys-many : length (keys_of rows) ≡ length rows
  keys-many = length-map rows (λ (k : Keyed). k.key)

  pub first-splits : PartsBelow target rows i
  first-splits = (first-before target (keys_of rows) i, from)
    where
      from : first_at_or_above target (keys_of rows) ≤ i → below (get_or (keys_of rows) i []) target ≡ false
      from h =
          let j : ℕ = first_at_or_above target (keys_of rows) in
          let up : AtMost target (get_or (keys_of rows) j []) = below_false (get_or (keys_of rows) j []) target (first-here target (keys_of rows) (omega (arith, keys-many))) in
          le_below (get_or (keys_of rows) i []) target (at-most-trans target (get_or (keys_of rows) j []) (get_or (keys_of rows) i []) up (sorted-by [] rows o j i h here))

  pub last-splits : PartsAbove target rows i
  last-splits = (above_before target (keys_of rows) i, from)
    where
      from : first_above target (keys_of rows) ≤ i → below target (get_or (keys_of rows) i []) ≡ true
      from h =
          let j : ℕ = first_above target (keys_of rows) in
          below-most target (get_or (keys_of rows) j []) (get_or (keys_of rows) i []) (above-here target (keys_of rows) (omega (arith, keys-many))) (sorted-by [] rows o j i h here)

pub key-at : (ks : List Keyed) (n : ℕ) (k : Keyed) (rest : List Keyed) → drop n ks ≡ k ∷ rest → get_or (keys_of ks) n [] ≡ k.key
key-at [] zero k rest e = absurd (let z : ◌≡◌ {A = ℕ} 0 1 = cc in omega arith)
key-at [] (suc n) k rest e = absurd (let z : ◌≡◌ {A = ℕ} 0 1 = cc in omega arith)
key-at (x ∷ ks) zero k rest e = let s : x ≡ k = cc in ap (λ (y : Keyed). y.key) s
key-at (x ∷ ks) (suc n) k rest e = key-at ks n k rest e

-- the first row that a walk gives
first-given : (b : List ℕ) (room : ℕ) (c : Cursor) (k : Keyed) (ks : List Keyed) (last : Cursor) → Walks b room c (k ∷ ks) last → Given b room c k
first-given b room c k ks last w = go c (k ∷ ks) last w refl
  where
    go : (c : Cursor) (xs : List Keyed) (last : Cursor) → Walks b room c xs last → xs ≡ k ∷ ks → Given b room c k
    go c xs last (stands c₀) e = absurd (let z : ◌≡◌ {A = ℕ} 0 1 = cc in omega arith)
    go c xs last (gives c₀ c' c'' x ys t region number tr named p w) e =
        let s : x ≡ k = cc in
        rw (← s) (record { moved = c'; t = t; region = region; number = number; trailer-good = tr; named = named; gives_it = p })

-- where some row has the target as its key, the first at or above the target has it, and none before it
module _ (target : Key) (rows : List Keyed) (in_order : Rising no_rank (ranks_of rows)) (i : ℕ) (here : i < length rows) (e : get_or (keys_of rows) i [] ≡ target) where
  none_before : (j : ℕ) → j < first_at_or_above target (keys_of rows) → get_or (keys_of rows) j [] ≡ target → ⊥
  none_before j h e = clash (rw e at (first-before target (keys_of rows) j h)) (le_below target target (at-most-refl target))

  no-later : first_at_or_above target (keys_of rows) ≤ i
  no-later = ⊎_elim (λ u. absurd (none_before i u.1 e)) (λ u. u.1) (ltb-cases i (first_at_or_above target (keys_of rows)))

  is_target : get_or (keys_of rows) (first_at_or_above target (keys_of rows)) [] ≡ target
  is_target =
      let key : Key = get_or (keys_of rows) (first_at_or_above target (keys_of rows)) [] in
      let up : AtMost target key = below_false key target ((first-splits target rows in_order (first_at_or_above target (keys_of rows)) (omega (arith, no-later))).1 (omega arith)) in
      let down : AtMost key target = rw e at (sorted-by [] rows (rising-never-falls no_rank rows in_order) (first_at_or_above target (keys_of rows)) i no-later here) in
      at-most_antisym key target down up

  pub found_first : (Is : Keyed → Type 0) → ((k : Keyed) (ks : List Keyed) → drop (first_at_or_above target (keys_of rows)) rows ≡ k ∷ ks → Is k) → FoundFirstOf Is target rows
  found_first Is given = made (drop (first_at_or_above target (keys_of rows)) rows) refl
    where
      made : (ks : List Keyed) → drop (first_at_or_above target (keys_of rows)) rows ≡ ks → FoundFirstOf Is target rows
      made [] z = absurd (omega (arith, ap length z, length-drop (first_at_or_above target (keys_of rows)) rows, no-later))
      made (k ∷ ks) z =
          record {
            k = k;
            rest = ks;
            given = given k ks z;
            has_it = sym (key-at rows (first_at_or_above target (keys_of rows)) k ks z) ∙ is_target;
            stands-first = z;
            none_before = none_before;
          }

module _ (b : List ℕ) (n : ℕ) (t : Trailer) (rows : List Keyed) (q : Rows b n t rows) (target : Key) (room : ℕ) (f : RoomFor room rows) where
  pub retry_present : (i : ℕ) → i < length rows → get_or (keys_of rows) i [] ≡ target → FoundFirst b target rows room (sought-up b n t rows q target room f).c
  retry_present i h e =
      let s = sought-up b n t rows q target room f in
      found_first target rows q.in_order i h e (Given b room s.c) λ k ks z. first-given b room s.c k ks s.walked.last (rw z at s.walked.walks)

  pub retry_absent : (k : Keyed) (moved : Cursor) (region number : ℕ) → next (sought-up b n t rows q target room f).c b room ≡ ok (step_is moved (found region number k.row k.key))
      → k.key ≡ target
      → (i : ℕ) × (i < length rows) × (get_or (keys_of rows) i [] ≡ target)
  retry_absent k moved region number e is =
      let s = sought-up b n t rows q target room f in
      ⊎_elim (λ l. here l.0 s.walked) (λ l. absurd (never l.1)) s.over
    where
      here : first_at_or_above target (keys_of rows) < length rows → WalksAll b room (sought-up b n t rows q target room f).c (drop (first_at_or_above target (keys_of rows)) rows)
          → (i : ℕ) × (i < length rows) × (get_or (keys_of rows) i [] ≡ target)
      here l w = made (drop (first_at_or_above target (keys_of rows)) rows) refl w
        where
          made : (ks : List Keyed) → drop (first_at_or_above target (keys_of rows)) rows ≡ ks → WalksAll b room (sought-up b n t rows q target room f).c ks
              → (i : ℕ) × (i < length rows) × (get_or (keys_of rows) i [] ≡ target)
          made [] z w = absurd (omega (arith, ap length z, length-drop (first_at_or_above target (keys_of rows)) rows))
          made (x ∷ ks) z w =
              let g = first-given b room (sought-up b n t rows q target room f).c x ks w.last w.walks in
              let s : step_is g.moved (found g.region g.number x.row x.key) ≡ step_is moved (found region number k.row k.key) = ok-inj (sym g.gives_it ∙ e) in
              let same : x.key ≡ k.key = keys-of (ap (λ (y : Step). y.answer) s) in
              (first_at_or_above target (keys_of rows), l, key-at rows (first_at_or_above target (keys_of rows)) x ks z ∙ same ∙ is)
            where
              keys-of : {a i b j : ℕ} {r s : RowRead} {x y : Key} → found a i r x ≡ found b j s y → x ≡ y
              keys-of e = cc

      never : (sought-up b n t rows q target room f).c ≡ done_up b t → ⊥
      never z =
          let tells = trailer_of-tells b t q.reads.trailer-good in
          let d : next (done_up b t) b room ≡ ok (step_is (done_up b t) done) = next-marked (done_up b t) b room t q.reads.trailer-good (omega (arith, tells.1)) zero-le refl in
          let s : step_is (done_up b t) done ≡ step_is moved (found region number k.row k.key) = ok-inj (sym d ∙ ap (λ (y : Cursor). next y b room) (sym z) ∙ e) in
          apart (ap (λ (y : Step). y.answer) s)
        where
          apart : {a i : ℕ} {r : RowRead} {x : Key} → done ≡ found a i r x → ⊥
          apart e = let y : ◌≡◌ {A = ℕ} 0 1 = cc in omega arith

-- ---- at most 5,042 restarts

-- two bytes spell less than 65,536
pub short-small : (b : List ℕ) (at : ℕ) → ((i : ℕ) → get_or b i 0 < 256) → short_at b at < 65536
unfolding short_at
short-small b at h = two (drop at b) (λ i. rw (← get_or-drop at b i 0) at (h (at + i)))
  where
    two : (s : List ℕ) → ((i : ℕ) → get_or s i 0 < 256) → unbig (take 2 s) < 65536
    two [] h = unfold unbig in omega arith
    two (x ∷ []) h = unfold unbig in omega (arith, h 0)
    two (x ∷ (y ∷ s)) h = unfold unbig in omega (arith, h 0, h 1)

-- each region's restart takes 13 bytes, so the offsets lie as far apart
offsets-apart : (b : List ℕ) (t : Trailer) (regions : List (List Keyed)) → Reads b t regions → (i : ℕ) → i < t.count → 13 * i ≤ offset_at b t i
offsets-apart b t regions q zero h = zero-le
offsets-apart b t regions q (suc i) h =
    let s = split_at b t regions q i (omega arith) in
    let tells = region_of-tells b t i s.g s.used in
    let ih = offsets-apart b t regions q i (omega arith) in
    let end : s.g.end ≡ offset_at b t (suc i) = (tells.inner (omega arith)).0 ∙ ap (offset_at b t) (add-one i) in
    region-at t.size (data_of b t) s.g s.g.start [] (s.k ∷ s.ks) s.rows-here (omega (arith, tells.inside))
    (λ over is. absurd (let z : ◌≡◌ {A = ℕ} 0 1 = cc in omega arith))
    (λ r qs m lt u more enough is.
    let whole : read_row (data_of b t) s.g.start s.g.end 0 true ≡ ok r = ap (read_row (data_of b t) s.g.start s.g.end 0) (sym (eq-eqb s.g.start s.g.start refl)) ∙ u in
    let far = restart-least (data_of b t) s.g.start s.g.end 0 r whole in
    let within = (read_row-ends (data_of b t) s.g.start s.g.end 0 true r whole).within in
    omega (arith, tells.from, end, ih, far, within))

pub restarts-few : (b : List ℕ) (t : Trailer) (regions : List (List Keyed)) → Reads b t regions → ((i : ℕ) → get_or b i 0 < 256) → t.count ≤ max_restarts
restarts-few b t regions q h =
    let some = (trailer_of-tells b t q.trailer-good).1 in
    let last = offsets-apart b t regions q (t.count - 1) (omega arith) in
    omega (arith, short-small b (t.size + 2 * (t.count - 1)) h)

-- ---- a finished block is accepted exactly when its rows are in order

-- rows of equal content stand alike in the order of rows
pub same_ranks : (d : List ℕ) (ks : List Keyed) (rows : List Row) → map (content_of d) ks ≡ map plain_row rows → ranks_of ks ≡ offered_ranks rows
same_ranks d [] [] e = refl
same_ranks d [] (r ∷ rows) e = absurd (let z : ◌≡◌ {A = ℕ} 0 1 = cc in omega arith)
same_ranks d (k ∷ ks) [] e = absurd (let z : ◌≡◌ {A = ℕ} 0 1 = cc in omega arith)
same_ranks d (k ∷ ks) (r ∷ rows) e =
    let h : content_of d k ≡ plain_row r = cc in
    let t : map (content_of d) ks ≡ map plain_row rows = cc in
    let first : rank_is k.key k.row.seq ≡ rank_is r.key r.fields.seq = ap (λ (x : Row). rank_is x.key x.fields.seq) h in
    ap₂ ◌∷◌ first (same_ranks d ks rows t)

pub laid-accepted : (b : List ℕ) (n : ℕ) (rows : List Row) → LaidBlock b n rows → Rising no_rank (offered_ranks rows) → check b ≡ ok (length rows)
laid-accepted b n rows l o =
    accepts_check b (length rows)
    (record {
      t = l.t;
      regions = l.regions;
      reads = l.reads;
      in_order = rw (same_ranks (data_of b l.t) (all_rows l.regions) rows l.contents) o;
      many =
          sym (length-map rows plain_row) ∙ ap length (sym l.contents) ∙ length-map (all_rows l.regions) (content_of (data_of b l.t));
    })

pub laid-verdict : (b : List ℕ) (n : ℕ) (rows : List Row) (l : LaidBlock b n rows) → check b ≡ verdict no_rank (offered_ranks rows) 0
laid-verdict b n rows l =
    check-verdict b l.t l.regions l.reads
    ∙ ap (λ (x : List Rank). verdict no_rank x 0) (same_ranks (data_of b l.t) (all_rows l.regions) rows l.contents)

-- the rows that are read of an accepted block are in order
pub accepted_in_order : (b : List ℕ) (n : ℕ) (t : Trailer) (regions : List (List Keyed)) → check b ≡ ok n → Reads b t regions → Rising no_rank (ranks_of (all_rows regions))
accepted_in_order b n t regions e reads =
    let a = check_accepts b n e in
    let s : a.t ≡ t = ok-inj (sym a.reads.trailer-good ∙ reads.trailer-good) in
    let r : a.regions ≡ regions = ok-inj (sym a.reads.rows-read ∙ ap (λ (x : Trailer). regions_rows x.count b x 0) s ∙ reads.rows-read) in
    rw (← r) a.in_order

pub accepted-laid : (b : List ℕ) (n : ℕ) (rows : List Row) (k : ℕ) → LaidBlock b n rows → check b ≡ ok k → Rising no_rank (offered_ranks rows)
accepted-laid b n rows k l e =
    rw (← same_ranks (data_of b l.t) (all_rows l.regions) rows l.contents) (accepted_in_order b k l.t l.regions e l.reads)

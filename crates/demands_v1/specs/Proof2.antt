-- Demand 2 for the earlier format, proved: over an accepted block, whose rows are read (`Accepts`), a seek closes at the first row at or above the target, or at the first above
-- it, and what is walked from there is what stands there. Each row takes at least 13 bytes, so two bytes for the last offset allow 5,042.
use Rattle.std.specs.Prelude.{ℕ, zero, suc, ◌+◌, ◌-◌, ◌*◌, ◌^◌, ◌<◌, ◌≤◌, ◌≡◌, refl, true, false, not, List, [], ◌∷◌, leb, length, take, drop, get_or}
use Rattle.std.proofs.Common.{zero-le, ap, sym, ◌∙◌, ⊎_elim, inl, inr, arith, zero-add, length-drop, length-take-le, le-leb}
use Rattle.std.proofs.lemmas.Bool.{lt-leb}
use Rattle.layout.specs.Res.{ok}
use Rattle.layout.specs.Limits.{max_key, max_restarts}
use Rattle.layout.specs.Varint.{significant_bits}
use Rattle.layout.specs.Key.{Key, below, no_rank, Rising, first_at_or_above, first_above, is_below, not_above}
use Rattle.layout.specs.RowRead.{RowRead, key_length}
use Rattle.layout.specs.Trailer.{Trailer, trailer_of, offset_at}
use Rattle.layout.specs.Cursor.{Direction, ascending, descending, Keyed}
use Rattle.layout_v1.specs.Check.{check}
use Rattle.layout_v1.specs.Cursor.{Cursor, cursor_is, the_first_key, found, done, Step, step_is, next, is_empty}
use Rattle.layout_v1.specs.Seek.{keeps_upper, key_passes, search_rows, Sought, sought_is, seek}
use Rattle.demands.specs.Reads.{ranks_of, keys_of}
use Rattle.demands.specs.Rows.{PartsBelow, PartsAbove, FoundFirstOf}
use Rattle.demands.specs.Runs.{RoomFor}
use Rattle.demands.specs.SoughtProof.{room_drop, room_take}
use Rattle.demands.specs.Proof2.{first-splits, last-splits, key-at, found_first, short-small}
use Rattle.demands.specs.CostProof.{bits_above}
use Rattle.demands_v1.specs.Reads.{first_key_of, Reads}
use Rattle.demands_v1.specs.Runs.{Walks, stands, gives, WalksAll}
use Rattle.demands_v1.specs.Rows.{Rows, SoughtUp, SoughtDown, BetweenNumbers, Given}
use Rattle.layout.proofs.Laws.Res.{bind-then, ok-inj, ltb-cases, clash}
use Rattle.layout.proofs.Laws.Key.{at-most-refl, at-most_antisym, below_false, le_below, below-le}
use Rattle.layout.proofs.Laws.Search.{search-reads}
use Rattle.layout.proofs.Laws.Trailer.{trailer_of-tells, region_of-tells}
use Rattle.layout_v1.proofs.Laws.Rows.{numbered-ends}
use Rattle.layout_v1.proofs.Laws.Cursor.{empty-is, seek_is}
use Rattle.demands.specs.Laws.Sorted.{leading-most}
use Rattle.demands_v1.specs.Laws.Reads.{rows_all, rows-name, first_read}
use Rattle.demands_v1.specs.Laws.Accept.{check_accepts}
use Rattle.demands_v1.specs.Laws.Walk.{walks-up, walks-down}
use Rattle.demands_v1.specs.Laws.Sought.{rows_drop, rows_take, searched}

pub accepted-rows : (b : List ℕ) (n : ℕ) → check b ≡ ok n → (t : Trailer) × (rows : List Keyed) × Rows b n t rows
accepted-rows b n e = let a = check_accepts b n e in (a.t, a.rows, record { reads = a.reads; in_order = a.in_order; many = a.many })

-- a key buffer of the key limit has room for every row's key
pub rows-room : (b : List ℕ) (t : Trailer) (rows : List Keyed) → Reads b t rows → RoomFor max_key rows
rows-room b t rows q =
    rows_all b t (first_key_of rows) (λ (k : Keyed). key_length k.row ≤ max_key) (λ i k n. (numbered-ends b t (first_key_of rows) i k.row n.is).ends.fits) 0 rows q.rows-read

-- ---- at most 5,042 rows

module _ (b : List ℕ) (t : Trailer) (rows : List Keyed) (q : Reads b t rows) where
  offsets-apart : (i : ℕ) → i < t.count → 13 * i ≤ offset_at b t i
  offsets-apart zero h = zero-le
  offsets-apart (suc i) h =
      let n = rows-name b t (first_key_of rows) 0 i rows q.rows-read (omega (arith, q.count-is)) in
      let w = numbered-ends b t (first_key_of rows) (0 + i) n.0.row n.1.is in
      let tells = region_of-tells b t (0 + i) w.g w.used in
      let z : 0 + i ≡ i = zero-add i in
      let from : w.g.start ≡ offset_at b t i = tells.from ∙ ap (offset_at b t) z in
      let to : w.g.end ≡ offset_at b t (suc i) = (tells.inner (omega arith)).0 ∙ ap (offset_at b t) (omega arith) in
      omega (arith, offsets-apart i (omega arith), from, to, w.to, w.ends.room)

  pub rows_few : ((i : ℕ) → get_or b i 0 < 256) → length rows ≤ max_restarts
  rows_few bytes =
      let some = (trailer_of-tells b t q.trailer-good).1 in
      let last = offsets-apart (t.count - 1) (omega arith) in
      omega (arith, q.count-is, short-small b (t.size + 2 * (t.count - 1)) bytes)

-- ---- seeks

module _ (b : List ℕ) (n : ℕ) (t : Trailer) (rows : List Keyed) (q : Rows b n t rows) (target : Key) where
  read : the_first_key b t ≡ ok (first_key_of rows)
  read = first_read b t rows q.reads

  up-most : first_at_or_above target (keys_of rows) ≤ length rows
  unfolding first_at_or_above
  up-most = leading-most (is_below target) rows

  down-most : first_above target (keys_of rows) ≤ length rows
  unfolding first_above
  down-most = leading-most (not_above target) rows

  module _ (room : ℕ) (f : RoomFor room rows) where
    pub sought-up : SoughtUp b target rows room
    sought-up =
        let s = searched b t rows q.reads (is_below target) (first_at_or_above target (keys_of rows)) (λ i h. first-splits target rows q.in_order i h) up-most in
        let many = q.reads.count-is in
        record {
          c = cursor_is ascending (first_at_or_above target (keys_of rows));
          reads = s.0.reads;
          is = seek_is ascending b target t q.reads.trailer-good (first_key_of rows) read s.0 s.1 ∙ ap (λ (m : ℕ). ok (sought_is (cursor_is ascending m) s.0.reads)) s.2;
          walked =
              walks-up b t (first_key_of rows) q.reads.trailer-good read room (first_at_or_above target (keys_of rows)) (drop (first_at_or_above target (keys_of rows)) rows)
              (rw (zero-add (first_at_or_above target (keys_of rows))) at (rows_drop b t (first_key_of rows) 0 (first_at_or_above target (keys_of rows)) rows q.reads.rows-read))
              (omega (arith, up-most, length-drop (first_at_or_above target (keys_of rows)) rows)) (room_drop room (first_at_or_above target (keys_of rows)) rows f);
          over =
              ⊎_elim
              (λ l. inl (l.1, empty (first_at_or_above target (keys_of rows)) ∙ ap ok (lt-leb t.count (first_at_or_above target (keys_of rows)) (omega (arith, l.1)))))
              (λ l. inr (omega (arith, l.1, up-most), empty (first_at_or_above target (keys_of rows)) ∙ ap ok (le-leb t.count (first_at_or_above target (keys_of rows)) (omega (arith, l.1)))))
              (ltb-cases (first_at_or_above target (keys_of rows)) (length rows));
        }
      where
        empty : (m : ℕ) → is_empty (cursor_is ascending m) b ≡ ok (leb t.count m)
        empty m = empty-is (cursor_is ascending m) b t q.reads.trailer-good

    pub sought-down : SoughtDown b target rows room
    sought-down =
        let s = searched b t rows q.reads (not_above target) (first_above target (keys_of rows)) splits down-most in
        let many = q.reads.count-is in
        let long : length (take (first_above target (keys_of rows)) rows) ≡ first_above target (keys_of rows) = length-take-le (first_above target (keys_of rows)) rows down-most in
        record {
          c = cursor_is descending (t.count - first_above target (keys_of rows));
          reads = s.0.reads;
          is = seek_is descending b target t q.reads.trailer-good (first_key_of rows) read s.0 s.1 ∙ ap (λ (m : ℕ). ok (sought_is (cursor_is descending (t.count - m)) s.0.reads)) s.2;
          walked =
              walks-down b t (first_key_of rows) q.reads.trailer-good read room (length (take (first_above target (keys_of rows)) rows)) (t.count - first_above target (keys_of rows))
              (take (first_above target (keys_of rows)) rows) (omega arith) (rows_take b t (first_key_of rows) 0 (first_above target (keys_of rows)) rows q.reads.rows-read)
              (omega (arith, down-most, long)) (room_take room (first_above target (keys_of rows)) rows f);
          over =
              ⊎_elim
              (λ l. inl (l.1, empty (t.count - first_above target (keys_of rows)) ∙ ap ok (lt-leb t.count (t.count - first_above target (keys_of rows)) (omega (arith, l.1, down-most)))))
              (λ l. inr (omega (arith, l.1), empty (t.count - first_above target (keys_of rows)) ∙ ap ok (le-leb t.count (t.count - first_above target (keys_of rows)) (omega (arith, l.1)))))
              (ltb-cases 0 (first_above target (keys_of rows)));
        }
      where
        empty : (m : ℕ) → is_empty (cursor_is descending m) b ≡ ok (leb t.count m)
        empty m = empty-is (cursor_is descending m) b t q.reads.trailer-good

        splits : (i : ℕ) → i < length rows
            → (i < first_above target (keys_of rows) → not_above target (get_or (keys_of rows) i []) ≡ true) × (first_above target (keys_of rows) ≤ i → not_above target (get_or (keys_of rows) i []) ≡ false)
        splits i h = let w = last-splits target rows q.in_order i h in (λ l. ap not (w.0 l), λ l. ap not (w.1 l))

-- ---- no row between the two

module _ (target : Key) (rows : List Keyed) (in_order : Rising no_rank (ranks_of rows)) (i : ℕ) (here : i < length rows) where
  parts : PartsBelow target rows i
  parts = first-splits target rows in_order i here

  above : PartsAbove target rows i
  above = last-splits target rows in_order i here

  -- so a row is from the first at or above on, or before the first above, and both exactly if its key is the target
  pub between-numbers : BetweenNumbers target rows i
  between-numbers =
      record {
        either = ⊎_elim (λ u. inr (early u.1)) (λ u. inl u.1) (ltb-cases i (first_at_or_above target (keys_of rows)));
        both = λ h k. at-most_antisym key target (below_false target key (above.0 k)) (below_false key target (parts.1 h));
        equal = λ e. (
          ⊎_elim (λ u. absurd (clash (rw e at (parts.0 u.1)) self)) (λ u. u.1) (ltb-cases i (first_at_or_above target (keys_of rows))),
          ⊎_elim (λ u. u.1) (λ u. absurd (clash (rw e at (above.1 u.1)) self)) (ltb-cases i (first_above target (keys_of rows))),
        );
      }
    where
      key : Key
      key = get_or (keys_of rows) i []

      self : below target target ≡ false
      self = le_below target target (at-most-refl target)

      early : i < first_at_or_above target (keys_of rows) → i < first_above target (keys_of rows)
      early h =
          ⊎_elim (λ u. u.1) (λ u. absurd (clash (above.1 u.1) (le_below target key (below-le key target (parts.0 h))))) (ltb-cases i (first_above target (keys_of rows)))

-- ---- the retry's row

-- the first row that a walk gives
first-given : (b : List ℕ) (room : ℕ) (c : Cursor) (k : Keyed) (ks : List Keyed) (last : Cursor) → Walks b room c (k ∷ ks) last → Given b room c k
first-given b room c k ks last w = go c (k ∷ ks) last w refl
  where
    go : (c : Cursor) (xs : List Keyed) (last : Cursor) → Walks b room c xs last → xs ≡ k ∷ ks → Given b room c k
    go c xs last (stands d) e = absurd (let z : ◌≡◌ {A = ℕ} 0 1 = cc in omega arith)
    go c xs last (gives d d' d'' x ys t first number tr read named p w) e =
        let s : x ≡ k = cc in
        rw (← s) (record { moved = d'; t = t; first = first; number = number; trailer-good = tr; first_read = read; named = named; gives_it = p })

-- what a walk gives first, a step from its start gives; and one that gives nothing has come to "done"
given-first : (b : List ℕ) (room : ℕ) (c : Cursor) (ks : List Keyed) (k : Keyed) (moved : Cursor) (number : ℕ) → WalksAll b room c ks
    → next c b room ≡ ok (step_is moved (found number k.row k.key))
    → (x : Keyed) × (rest : List Keyed) × (ks ≡ x ∷ rest) × (x.key ≡ k.key)
given-first b room c ks k moved number w e = go c ks w.last w.walks w.says-done e
  where
    keys-of : {i j : ℕ} {r s : RowRead} {x y : Key} → found i r x ≡ found j s y → x ≡ y
    keys-of e = cc

    apart : {i : ℕ} {r : RowRead} {x : Key} → done ≡ found i r x → ⊥
    apart e = let y : ◌≡◌ {A = ℕ} 0 1 = cc in omega arith

    go : (c : Cursor) (ks : List Keyed) (last : Cursor) → Walks b room c ks last → next last b room ≡ ok (step_is last done) → next c b room ≡ ok (step_is moved (found number k.row k.key))
        → (x : Keyed) × (rest : List Keyed) × (ks ≡ x ∷ rest) × (x.key ≡ k.key)
    go c ks last (stands d) over e = absurd (apart (ap (λ (y : Step). y.answer) (ok-inj (sym over ∙ e))))
    go c ks last (gives d d' d'' x xs t first i tr read named p w) over e = (x, xs, refl, keys-of (ap (λ (y : Step). y.answer) (ok-inj (sym p ∙ e))))

module _ (b : List ℕ) (n : ℕ) (t : Trailer) (rows : List Keyed) (q : Rows b n t rows) (target : Key) (room : ℕ) (f : RoomFor room rows) where
  pub retry_present : (i : ℕ) → i < length rows → get_or (keys_of rows) i [] ≡ target → FoundFirstOf (Given b room (sought-up b n t rows q target room f).c) target rows
  retry_present i h e =
      let s = sought-up b n t rows q target room f in
      found_first target rows q.in_order i h e (Given b room s.c) λ k ks z. first-given b room s.c k ks s.walked.last (rw z at s.walked.walks)

  pub retry_absent : (k : Keyed) (moved : Cursor) (number : ℕ) → next (sought-up b n t rows q target room f).c b room ≡ ok (step_is moved (found number k.row k.key)) → k.key ≡ target
      → (i : ℕ) × (i < length rows) × (get_or (keys_of rows) i [] ≡ target)
  retry_absent k moved number e is =
      let s = sought-up b n t rows q target room f in
      let g = given-first b room s.c (drop (first_at_or_above target (keys_of rows)) rows) k moved number s.walked e in
      let long = length-drop (first_at_or_above target (keys_of rows)) rows in
      let some = ap length g.2 in
      (first_at_or_above target (keys_of rows), omega arith, key-at rows (first_at_or_above target (keys_of rows)) g.0 g.1 g.2 ∙ g.3 ∙ is)

-- ---- what a seek costs

-- what it reports is what its search read: at most k keys of fewer than 2 ^ k
reads-below : (k : ℕ) (d : Direction) (b : List ℕ) (target : Key) (t : Trailer) (s : Sought) → t.count < 2 ^ k → trailer_of b ≡ ok t → seek d b target ≡ ok s → s.reads ≤ k
unfolding seek search_rows
reads-below k d b target t s few e q =
    bind-then (trailer_of b) _ s q λ t' e' q₁.
    bind-then (the_first_key b t') _ s q₁ λ first p q₂.
    bind-then (search_rows b t' first (keeps_upper d target)) _ s q₂ λ f w q₃.
    let same : t' ≡ t = ok-inj (sym e' ∙ e) in
    let r : f.reads ≡ s.reads = ap (λ (x : Sought). x.reads) (ok-inj q₃) in
    omega (arith, r, search-reads (key_passes b t' first (keeps_upper d target)) t'.count f k (rw same few) w)

-- so at most as many as the count has significant bits
pub reads-at-most : (d : Direction) (b : List ℕ) (target : Key) (t : Trailer) (s : Sought) → t.count < 2 ^ 32 → trailer_of b ≡ ok t → seek d b target ≡ ok s
    → s.reads ≤ significant_bits t.count
reads-at-most d b target t s few e q = reads-below (significant_bits t.count) d b target t s (bits_above t.count few) e q

-- on an accepted block of bytes every seek answers, and its count is the check's answer
pub seek-answers : (b : List ℕ) (n : ℕ) → check b ≡ ok n → ((i : ℕ) → get_or b i 0 < 256) → (d : Direction) (target : Key)
    → (s : Sought) × (seek d b target ≡ ok s) × (s.reads ≤ significant_bits n) × (s.reads ≤ 13)
seek-answers b n accepted bytes d target = go d
  where
    t : Trailer
    t = (accepted-rows b n accepted).0

    rows : List Keyed
    rows = (accepted-rows b n accepted).1

    q : Rows b n t rows
    q = (accepted-rows b n accepted).2

    f : RoomFor max_key rows
    f = rows-room b t rows q.reads

    n-is : t.count ≡ n
    n-is = sym q.reads.count-is ∙ sym q.many

    few : t.count ≤ max_restarts
    few = omega (arith, q.reads.count-is, rows_few b t rows q.reads bytes)

    both : (d : Direction) (s : Sought) → seek d b target ≡ ok s → (s.reads ≤ significant_bits n) × (s.reads ≤ 13)
    both d s e = (
      rw n-is at (reads-at-most d b target t s (omega (arith, few)) q.reads.trailer-good e),
      reads-below 13 d b target t s (omega (arith, few)) q.reads.trailer-good e,
    )

    go : (d : Direction) → (s : Sought) × (seek d b target ≡ ok s) × (s.reads ≤ significant_bits n) × (s.reads ≤ 13)
    go ascending =
        let s = sought-up b n t rows q target max_key f in
        let w = both ascending (sought_is s.c s.reads) s.is in
        (sought_is s.c s.reads, s.is, w.0, w.1)
    go descending =
        let s = sought-down b n t rows q target max_key f in
        let w = both descending (sought_is s.c s.reads) s.is in
        (sought_is s.c s.reads, s.is, w.0, w.1)

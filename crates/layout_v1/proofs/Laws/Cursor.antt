-- Each way through an opening, a step and a seek of the earlier format, by what was met on it: one law for each exit of the code. And two facts of a row's key, which is a part of
-- the first key and a suffix: where it lies; and that it stands to a target as the first key does where it shares more than these two have in common, else as its suffix stands to
-- what is left of the target.
use Rattle.std.specs.Prelude.{ℕ, suc, ◌+◌, ◌≤◌, ◌<◌, ◌≡◌, Bool, not, cond, List, ◌++◌, ltb, leb, eqb, length, take, drop}
use Rattle.std.proofs.Common.{ap, ⊎_elim, arith}
use borrow.Author.Tests.{ltb-false, lt-ltb, le-ltb, eq-eqb, ne_eqb}
use Rattle.layout.specs.Res.{ok, refuse}
use Rattle.layout.specs.Key.{Key, common}
use Rattle.layout.specs.RowRead.{RowRead, KeyRead, key_length, key_of, joined}
use Rattle.layout.specs.Trailer.{Trailer, trailer_of, data_of, Region, region_of, all_offsets}
use Rattle.layout.specs.Cursor.{Direction, ascending, descending}
use Rattle.layout.specs.Seek.{Found}
use Rattle.layout.proofs.Laws.Res.{bind-then, guard-then, ok-inj, eqb-cases}
use Rattle.layout.proofs.Laws.Match.{past-below, past-above, on_below, on-above}
use Rattle.layout.proofs.Laws.Search.{search-closed}
use Rattle.layout_v1.specs.RowRead.{head_at, seq_at, read_row, read_key}
use Rattle.layout_v1.specs.Check.{before, row_numbered}
use Rattle.layout_v1.specs.Cursor.{Cursor, cursor_is, key_numbered, the_first_key, found, done, step_is, number_of, step_to, next, open_block, is_empty}
use Rattle.layout_v1.specs.Seek.{keeps_upper, key_passes, search_rows, passed_by, sought_is, seek}
use Rattle.layout_v1.proofs.Laws.RowReads.{head_at-tells, read_row-ends}

-- ---- what a key that is read alone tells: its suffix lies in the data, and it shares no more than it may

pub record KeyLies (d : List ℕ) (most : ℕ) (k : KeyRead) : Type 0 where
  pub inside : k.suffix_at + k.suffix_len ≤ length d
  pub shares : k.shared ≤ most

pub read_key-lies : (d : List ℕ) (at end most : ℕ) (k : KeyRead) → read_key d at end most ≡ ok k → KeyLies d most k
unfolding read_key
read_key-lies d at end most k e =
    bind-then (head_at d at most) _ k e λ h p q.
    guard-then (ltb (length d) (seq_at h)) 9 _ k q λ t₁ q₁.
    guard-then (ltb end (seq_at h)) 16 _ k q₁ λ t₂ q₂.
    rw (← ok-inj q₂) (record { inside = ltb-false (length d) (seq_at h) t₁; shares = (head_at-tells d at most h p).shares })

-- ---- what row i may share with, in numbers; the part that it shares is the first key's, as row 0 shares nothing

pub before-length : (first : Key) (i : ℕ) → length (before first i) ≡ cond (eqb i 0) 0 (length first)
before-length first i = ⊎_elim (λ t. rw t.0) (λ t. rw t.0) (eqb-cases i 0)

module _ (first : Key) (i s : ℕ) (h : s ≤ length (before first i)) where
  pub share-fits : s ≤ length first
  share-fits = ⊎_elim (λ t. let k = rw t.0 at h in omega arith) (λ t. rw t.0 at h) (eqb-cases i 0)

  pub share-is : take s (before first i) ≡ take s first
  share-is = ⊎_elim (λ t. let k : s ≤ 0 = rw t.0 at h in let z : s ≡ 0 = omega arith in rw z) (λ t. rw t.0) (eqb-cases i 0)

-- ---- a key that shares with the first key, against the target

module _ (d : Direction) (target first suffix : Key) (s : ℕ) where
  pub keeps-past : common first target < s → s ≤ length first → keeps_upper d target (take s first ++ suffix) ≡ keeps_upper d target first
  keeps-past h k = go d
    where
      go : (d : Direction) → keeps_upper d target (take s first ++ suffix) ≡ keeps_upper d target first
      go ascending = past-below suffix first target s h k
      go descending = ap not (past-above suffix first target s h k)

  pub keeps_on : s ≤ common first target → keeps_upper d target (take s first ++ suffix) ≡ keeps_upper d (drop s target) suffix
  keeps_on h = go d
    where
      go : (d : Direction) → keeps_upper d target (take s first ++ suffix) ≡ keeps_upper d (drop s target) suffix
      go ascending = on_below suffix first target s h
      go descending = ap not (on-above suffix first target s h)

-- ---- a key read alone

module _ (b : List ℕ) (t : Trailer) (first : Key) (i : ℕ) where
  pub key-region : {n : ℕ} → region_of b t i ≡ refuse n → key_numbered b t first i ≡ refuse n
  unfolding key_numbered
  key-region e = rw e

  module _ (g : Region) (e : region_of b t i ≡ ok g) where
    pub key-no : {n : ℕ} → read_key (data_of b t) g.start g.end (length (before first i)) ≡ refuse n → key_numbered b t first i ≡ refuse n
    unfolding key_numbered
    key-no q = rw (e, q)

    pub key-is : (k : KeyRead) → read_key (data_of b t) g.start g.end (length (before first i)) ≡ ok k
        → key_numbered b t first i ≡ ok (joined (data_of b t) first k.shared k.suffix_at k.suffix_len)
    unfolding key_numbered
    key-is k q =
        let w = read_key-lies (data_of b t) g.start g.end (length (before first i)) k q in
        rw (e, q, share-is first i k.shared w.shares)

  module _ (passes : Key → Bool) where
    pub passes-no : {n : ℕ} → key_numbered b t first i ≡ refuse n → key_passes b t first passes i ≡ refuse n
    unfolding key_passes
    passes-no e = rw e

    pub passes-is : (k : Key) → key_numbered b t first i ≡ ok k → key_passes b t first passes i ≡ ok (passes k)
    unfolding key_passes
    passes-is k e = rw e

-- ---- one step

module _ (c : Cursor) (b : List ℕ) (room : ℕ) where
  pub next-trailer : {n : ℕ} → trailer_of b ≡ refuse n → next c b room ≡ refuse n
  unfolding next
  next-trailer e = rw e

  module _ (t : Trailer) (e : trailer_of b ≡ ok t) where
    pub next_strange : t.count < c.passed → next c b room ≡ refuse 18
    unfolding next
    next_strange h = rw (e, lt-ltb t.count c.passed h)

    pub next-done : c.passed ≡ t.count → next c b room ≡ ok (step_is c done)
    unfolding next
    next-done h = rw (e, le-ltb t.count c.passed (omega arith), eq-eqb c.passed t.count h)

    pub next-on : c.passed < t.count → next c b room ≡ step_to c b t room (number_of c.order t.count c.passed)
    unfolding next
    next-on h = rw (e, le-ltb t.count c.passed (omega arith), ne_eqb c.passed t.count (λ z. absurd (omega arith)))

  module _ (t : Trailer) (i : ℕ) where
    pub step-first : {n : ℕ} → the_first_key b t ≡ refuse n → step_to c b t room i ≡ refuse n
    unfolding step_to
    step-first e = rw e

    module _ (first : Key) (e : the_first_key b t ≡ ok first) where
      pub step-region : {n : ℕ} → region_of b t i ≡ refuse n → step_to c b t room i ≡ refuse n
      unfolding step_to row_numbered
      step-region q = rw (e, q)

      module _ (g : Region) (q : region_of b t i ≡ ok g) where
        pub step_row : {n : ℕ} → read_row (data_of b t) g.start g.end (length (before first i)) ≡ refuse n → step_to c b t room i ≡ refuse n
        unfolding step_to row_numbered
        step_row w = rw (e, q, w)

        module _ (r : RowRead) (w : read_row (data_of b t) g.start g.end (length (before first i)) ≡ ok r) where
          pub step-short : room < key_length r → step_to c b t room i ≡ refuse 19
          unfolding step_to row_numbered
          step-short h = rw (e, q, w, lt-ltb room (key_length r) h)

          pub step-found : key_length r ≤ room → step_to c b t room i ≡ ok (step_is (cursor_is c.order (suc c.passed)) (found i r (key_of (data_of b t) first r)))
          unfolding step_to row_numbered
          step-found h =
              let l = read_row-ends (data_of b t) g.start g.end (length (before first i)) r w in
              rw (e, q, w, le-ltb room (key_length r) h, share-is first i r.shared l.shares)

-- ---- opening, and whether a row is left

module _ (b : List ℕ) (d : Direction) where
  pub open_trailer : {n : ℕ} → trailer_of b ≡ refuse n → open_block b d ≡ refuse n
  unfolding open_block
  open_trailer e = rw e

  module _ (t : Trailer) (e : trailer_of b ≡ ok t) where
    pub open_offsets : {n : ℕ} → all_offsets b t ≡ refuse n → open_block b d ≡ refuse n
    unfolding open_block
    open_offsets q = rw (e, q)

    module _ (q : all_offsets b t ≡ ok tt) where
      pub open_first : {n : ℕ} → the_first_key b t ≡ refuse n → open_block b d ≡ refuse n
      unfolding open_block
      open_first w = rw (e, q, w)

      pub open_good : (first : Key) → the_first_key b t ≡ ok first → open_block b d ≡ ok (cursor_is d 0)
      unfolding open_block
      open_good first w = rw (e, q, w)

module _ (c : Cursor) (b : List ℕ) where
  pub empty-trailer : {n : ℕ} → trailer_of b ≡ refuse n → is_empty c b ≡ refuse n
  unfolding is_empty
  empty-trailer e = rw e

  pub empty-is : (t : Trailer) → trailer_of b ≡ ok t → is_empty c b ≡ ok (leb t.count c.passed)
  unfolding is_empty
  empty-is t e = rw e

-- ---- a seek

-- the place found is a row's number, or the count
pub search-inside : (b : List ℕ) (t : Trailer) (first : Key) (passes : Key → Bool) (f : Found) → search_rows b t first passes ≡ ok f → f.place ≤ t.count
unfolding search_rows
search-inside b t first passes f e = (search-closed (key_passes b t first passes) 0 t.count f (omega arith) e).to

module _ (d : Direction) (b : List ℕ) (target : Key) where
  pub seek-trailer : {n : ℕ} → trailer_of b ≡ refuse n → seek d b target ≡ refuse n
  unfolding seek
  seek-trailer e = rw e

  module _ (t : Trailer) (e : trailer_of b ≡ ok t) where
    pub seek-first : {n : ℕ} → the_first_key b t ≡ refuse n → seek d b target ≡ refuse n
    unfolding seek
    seek-first q = rw (e, q)

    module _ (first : Key) (q : the_first_key b t ≡ ok first) where
      pub seek-search : {n : ℕ} → search_rows b t first (keeps_upper d target) ≡ refuse n → seek d b target ≡ refuse n
      unfolding seek
      seek-search w = rw (e, q, w)

      pub seek_is : (f : Found) → search_rows b t first (keeps_upper d target) ≡ ok f
          → seek d b target ≡ ok (sought_is (cursor_is d (passed_by d t.count f.place)) f.reads)
      unfolding seek
      seek_is f w = rw (e, q, w)

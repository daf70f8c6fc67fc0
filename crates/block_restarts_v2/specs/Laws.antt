-- Each way through a search by what was met on it, one law for each exit of the code. For callers: the region answered is below the count (`up-inside`,
-- `down-inside`); a trailer that was read from the block passes the test, so the definitions of `layout` are left (`up-used`, `down-used`), and a seek is the
-- start and the walk from there (`seek-up-no`, `seek-up`, `seek-down-no`, `seek-down`).
use Rattle.std.specs.Prelude.{ℕ, suc, ◌+◌, ◌-◌, ◌*◌, ◌/◌, ◌≤◌, ◌<◌, ◌≡◌, refl, Bool, true, false, List, length, take, drop}
use Rattle.std.proofs.Math.Path.{ap}
use Rattle.std.proofs.Common.{sym, ◌∙◌, length-take-le}
use native.Mathlib.Omega.{arith}
use Rattle.std.proofs.Math.Seq.{take-nil}
use Rattle.layout.specs.Res.{Res, ok, refuse, bind}
use Rattle.layout.specs.Key.{Key, same, compare, Ordering}
use Rattle.layout.specs.RowRead.{KeyRead, read_key}
use Rattle.layout.specs.Trailer.{Trailer, trailer_of, data_of, Region, region_of}
use Rattle.layout.specs.Cursor.{Direction, ascending, descending, Cursor}
use Rattle.layout.specs.Seek.{Found, restart_key, restart_below, search_restarts, last_equal, start_down, walk_up, walk_down, sought_is, seek_along, seek}
use Rattle.layout.proofs.Laws.Res.{bind-then, ok-inj}
use Rattle.layout.proofs.Laws.Trailer.{trailer_of-tells}
use Rattle.layout.specs.Laws.Seek.{search_from}
use Rattle.layout.proofs.Laws.Seek.{restart-region, restart-no, restart-is, below-no, below-is, search-whole, Running, running_over, running_no, running_ends, running_more, start-past, start-no, start-earlier, start-run, up_from, down-no as fall_no, down-from, seek-search, seek-no, seek_is}
use Rattle.layout.specs.Laws.Compare.{is_less, is_equal}
use Rattle.layout.proofs.Laws.Compare.{compare-less-below, compare-equal-same}
use Rattle.layout.proofs.Laws.Restart.{read_key-ends, search-inside, start-inside}
use Rattle.layout.proofs.Laws.Search.{on-no, on-up, on-down}
use Rattle.basics.specs.Answers.{apart}
use Rattle.trailer.specs.Laws.{handed-known, handed-tells}
use Rattle.block_restarts_v2.specs.declared.Start.{Start}
use Rattle.block_restarts_v2.specs.Handed.{start_is, search_at, start_up_at, start_down_at}
use Rattle.block_restarts_v2.specs.Reading.{restart_compared, start_after, run_from}

-- ---- a restart's key

-- one that was read lies inside the block
pub key-lies : (b : List ℕ) (t : Trailer) (at end : ℕ) (k : KeyRead) → t.size + (2 + 2 * t.count) ≡ length b → read_key (data_of b t) at end 0 true ≡ ok k
    → k.suffix_at + k.suffix_len ≤ length b
key-lies b t at end k s e = omega (arith, (read_key-ends (data_of b t) at end 0 true k e).0, length-take-le t.size b (omega arith))

module _ (b : List ℕ) (t : Trailer) (i : ℕ) (target : Key) where
  pub compared-region : {n : ℕ} → region_of b t i ≡ refuse n → refuse n ≡ restart_compared b t target i
  unfolding restart_compared
  compared-region e = rw (restart-region b t i e)

  module _ (g : Region) (e : region_of b t i ≡ ok g) where
    pub compared-no : {n : ℕ} → read_key (data_of b t) g.start g.end 0 true ≡ refuse n → refuse n ≡ restart_compared b t target i
    unfolding restart_compared
    compared-no q = rw (restart-no b t i g e q)

    -- the part of the rows that was compared is the key
    pub compared_is : {o : Ordering} (k : KeyRead) → read_key (data_of b t) g.start g.end 0 true ≡ ok k
        → o ≡ compare (take (k.suffix_at + k.suffix_len - k.suffix_at) (drop k.suffix_at (data_of b t))) target → ok o ≡ restart_compared b t target i
    unfolding restart_compared
    compared_is k q w =
        let n : k.suffix_at + k.suffix_len - k.suffix_at ≡ k.suffix_len = omega arith in
        rw (restart-is b t i g e k q, take-nil {A = ℕ} k.shared) (ap ok (w ∙ (rw n)))

  -- what the comparison tells of the key
  key-refused : {n : ℕ} → restart_compared b t target i ≡ refuse n → restart_key b t i ≡ refuse n
  unfolding restart_compared
  key-refused {n} e = go (restart_key b t i) e
    where
      go : (x : Res Key) → bind x (λ k. ok (compare k target)) ≡ refuse n → x ≡ refuse n
      go (ok k) q = absurd (apart q)
      go (refuse m) q = let w : m ≡ n = cc in ap refuse w

  key-compared : {o : Ordering} {A : Type 0} → restart_compared b t target i ≡ ok o → ((k : Key) → restart_key b t i ≡ ok k → compare k target ≡ o → A) → A
  unfolding restart_compared
  key-compared {o} e f = bind-then (restart_key b t i) _ o e λ k p q. f k p (ok-inj q)

  key_below : {o : Ordering} → restart_compared b t target i ≡ ok o → restart_below b t target i ≡ ok (is_less o)
  key_below e = key-compared e λ k p q. below-is b t i target k p ∙ ap ok (sym (compare-less-below k target) ∙ ap is_less q)

  key-same : {o : Ordering} {x : Bool} {A : Type 0} → restart_compared b t target i ≡ ok o → is_equal o ≡ x → ((k : Key) → restart_key b t i ≡ ok k → same k target ≡ x → A) → A
  key-same e w f = key-compared e λ k p q. f k p (sym (compare-equal-same k target) ∙ ap is_equal q ∙ w)

-- ---- the span halved

module _ (b : List ℕ) (t : Trailer) (target : Key) (low high reads : ℕ) (h : low < high) where
  pub halved-no : {n : ℕ} → restart_compared b t target (low + (high - low) / 2) ≡ refuse n → refuse n ≡ search_from b t target low high reads
  halved-no e = on-no (restart_below b t target) low high reads h (below-no b t _ target (key-refused b t _ target e))

  module _ {o : Ordering} (e : restart_compared b t target (low + (high - low) / 2) ≡ ok o) where
    middle-below : {y : Bool} → is_less o ≡ y → restart_below b t target (low + (high - low) / 2) ≡ ok y
    middle-below w = key_below b t _ target e ∙ ap ok w

    pub halved-up : {x : Res Found} → is_less o ≡ true → x ≡ search_from b t target (low + (high - low) / 2 + 1) high (reads + 1) → x ≡ search_from b t target low high reads
    halved-up w q = on-up (restart_below b t target) low high reads h (middle-below w) q

    pub halved-down : {x : Res Found} → is_less o ≡ false → x ≡ search_from b t target low (low + (high - low) / 2) (reads + 1) → x ≡ search_from b t target low high reads
    halved-down w q = on-down (restart_below b t target) low high reads h (middle-below w) q

-- ---- the run of restarts equal to the target, with the count that it carries

module _ (b : List ℕ) (t : Trailer) (target : Key) (reads first : ℕ) where
  ran_to : (i : ℕ) → ok i ≡ last_equal t.count b t target first → ok (start_is i reads) ≡ run_from b t target first reads
  unfolding run_from
  ran_to i e = ap (λ (x : Res ℕ). bind x (start_after reads)) e

  ran-no : {n : ℕ} → refuse n ≡ last_equal t.count b t target first → refuse n ≡ run_from b t target first reads
  unfolding run_from
  ran-no e = ap (λ (x : Res ℕ). bind x (start_after reads)) e

  module _ (i : ℕ) (s : Running b t target first i) where
    pub run-over : t.count ≤ i + 1 → ok (start_is i reads) ≡ run_from b t target first reads
    run-over h = ran_to i (running_over b t target first i s h)

    module _ (h : i + 1 < t.count) where
      pub run-no : {n : ℕ} → restart_compared b t target (i + 1) ≡ refuse n → refuse n ≡ run_from b t target first reads
      run-no e = ran-no (running_no b t target first i s h (key-refused b t (i + 1) target e))

      module _ {o : Ordering} (e : restart_compared b t target (i + 1) ≡ ok o) where
        pub run_ends : is_equal o ≡ false → ok (start_is i reads) ≡ run_from b t target first reads
        run_ends w = key-same b t (i + 1) target e w λ k p q. ran_to i (running_ends b t target first i s h k p q)

        pub run_more : is_equal o ≡ true → Running b t target first (i + 1)
        run_more w = key-same b t (i + 1) target e w λ k p q. running_more b t target first i s h k p q

-- ---- from the search to the start

below-count : {n place r : ℕ} → 0 < n → place ≤ n → place - 1 ≡ r → r < n
below-count h k e = omega arith

module _ (b : List ℕ) (t : Trailer) (target : Key) where
  pub search-there : {x : Res Found} → (t.size + (2 + 2 * t.count) ≡ length b) × (0 < t.count) → x ≡ search_from b t target 0 t.count 0 → x ≡ search_at b t target
  search-there k e = search-whole b t target e ∙ sym (handed-known b t 0 _ k)

  -- ---- ascending, and descending by what the restart found was

  module _ {n : ℕ} (e : search_at b t target ≡ refuse n) where
    pub up-no : refuse n ≡ start_up_at b t target
    unfolding start_up_at
    up-no = rw e

    pub down-no : refuse n ≡ start_down_at b t target
    unfolding start_down_at
    down-no = rw e

  module _ (f : Found) (e : search_at b t target ≡ ok f) where
    pub up_is : {r : ℕ} → r ≡ f.place - 1 → ok (start_is r f.reads) ≡ start_up_at b t target
    unfolding start_up_at
    up_is q = rw (e, q)

    -- what the search's test showed
    pub searched : t.size + (2 + 2 * t.count) ≡ length b
    searched = (handed-tells b t 0 (search_restarts b t target) f e).0

    down_is : {x : Res Start} (y : Res ℕ) → x ≡ bind y (start_after f.reads) → y ≡ start_down b t target f.place → x ≡ start_down_at b t target
    unfolding start_down_at
    down_is y q w = q ∙ ap (λ (z : Res ℕ). bind z (start_after f.reads)) w ∙ (rw e)

    pub down-past : {r : ℕ} → t.count ≤ f.place → r ≡ f.place - 1 → ok (start_is r f.reads) ≡ start_down_at b t target
    down-past {r} h q = down_is (ok r) refl (ap ok q ∙ start-past b t target f.place h)

    module _ (h : f.place < t.count) where
      pub down-refused : {n : ℕ} → restart_compared b t target f.place ≡ refuse n → refuse n ≡ start_down_at b t target
      down-refused {n} q = down_is (refuse n) refl (start-no b t target f.place h (key-refused b t f.place target q))

      module _ {o : Ordering} (q : restart_compared b t target f.place ≡ ok o) where
        pub down-earlier : {r : ℕ} → is_equal o ≡ false → r ≡ f.place - 1 → ok (start_is r f.reads) ≡ start_down_at b t target
        down-earlier {r} w u = key-same b t f.place target q w λ k p v. down_is (ok r) refl (ap ok u ∙ start-earlier b t target f.place h k p v)

        pub down_run : {x : Res Start} → is_equal o ≡ true → x ≡ run_from b t target f.place f.reads → x ≡ start_down_at b t target
        unfolding run_from
        down_run w r =
            key-same b t f.place target q w λ k p v.
            down_is (last_equal t.count b t target f.place) r (start-run b t target f.place h k p v refl)

  -- ---- for callers

  pub up-inside : (s : Start) → start_up_at b t target ≡ ok s → s.region < t.count
  unfolding start_up_at
  up-inside s e =
      bind-then (search_at b t target) _ s e λ f q w.
      let p = handed-tells b t 0 (search_restarts b t target) f q in
      let r = ap (λ (x : Start). x.region) (ok-inj w) in
      below-count p.1 (search-inside b t target f p.2) r

  pub down-inside : (s : Start) → start_down_at b t target ≡ ok s → s.region < t.count
  unfolding start_down_at
  down-inside s e =
      bind-then (search_at b t target) _ s e λ f q w.
      let p = handed-tells b t 0 (search_restarts b t target) f q in
      bind-then (start_down b t target f.place) _ s w λ r u v.
      rw (← ok-inj v) (start-inside b t target f.place r u (search-inside b t target f p.2) p.1)

  module _ (read : trailer_of b ≡ ok t) where
    search-used : search_at b t target ≡ search_restarts b t target
    search-used = handed-known b t 0 _ (trailer_of-tells b t read)

    pub up-used : start_up_at b t target ≡ bind (search_restarts b t target) λ f. ok (start_is (f.place - 1) f.reads)
    unfolding start_up_at
    up-used = rw search-used

    pub down-used : start_down_at b t target ≡ bind (search_restarts b t target) λ f. bind (start_down b t target f.place) λ r. ok (start_is r f.reads)
    unfolding start_down_at
    down-used = rw search-used

    -- where the start is refused, so is the seek; else the seek is the walk from there, with the count
    pub seek-up-no : {n : ℕ} → start_up_at b t target ≡ refuse n → seek ascending b target ≡ refuse n
    seek-up-no {n} e = go (search_restarts b t target) refl (sym up-used ∙ e)
      where
        go : (x : Res Found) → search_restarts b t target ≡ x → bind x (λ f. ok (start_is (f.place - 1) f.reads)) ≡ refuse n → seek ascending b target ≡ refuse n
        go (ok f) p q = absurd (apart q)
        go (refuse m) p q = seek-search ascending b target t read p ∙ (let w : m ≡ n = cc in ap refuse w)

    pub seek-down-no : {n : ℕ} → start_down_at b t target ≡ refuse n → seek descending b target ≡ refuse n
    seek-down-no {n} e = go (search_restarts b t target) refl (sym down-used ∙ e)
      where
        run : (f : Found) → search_restarts b t target ≡ ok f → (x : Res ℕ) → start_down b t target f.place ≡ x → bind x (λ r. ok (start_is r f.reads)) ≡ refuse n → seek descending b target ≡ refuse n
        run f p (ok r) u q = absurd (apart q)
        run f p (refuse m) u q = seek-no descending b target t read f p (sym (fall_no b t target f.place u)) ∙ (let w : m ≡ n = cc in ap refuse w)

        go : (x : Res Found) → search_restarts b t target ≡ x → bind x (λ f. bind (start_down b t target f.place) λ r. ok (start_is r f.reads)) ≡ refuse n → seek descending b target ≡ refuse n
        go (ok f) p q = run f p (start_down b t target f.place) refl q
        go (refuse m) p q = seek-search descending b target t read p ∙ (let w : m ≡ n = cc in ap refuse w)

    along : (d : Direction) (f : Found) → search_restarts b t target ≡ ok f → (x : Res Cursor) → x ≡ seek_along d b t target f.place → seek d b target ≡ bind x λ c. ok (sought_is c f.reads)
    along d f p (ok c) e = seek_is d b target t read f p c (sym e)
    along d f p (refuse n) e = seek-no d b target t read f p (sym e)

    pub seek-up : (s : Start) → start_up_at b t target ≡ ok s → (x : Res Cursor) → x ≡ walk_up (t.count - s.region) b t target s.region → seek ascending b target ≡ bind x λ c. ok (sought_is c s.reads)
    seek-up s e x =
        bind-then (search_restarts b t target) _ s (sym up-used ∙ e) λ f p q.
        rw (← ok-inj q) (λ w. along ascending f p x (up_from b t target f.place w))

    pub seek-down : (s : Start) → start_down_at b t target ≡ ok s → (x : Res Cursor) → x ≡ walk_down (suc s.region) b t target s.region → seek descending b target ≡ bind x λ c. ok (sought_is c s.reads)
    seek-down s e x =
        bind-then (search_restarts b t target) _ s (sym down-used ∙ e) λ f p q.
        bind-then (start_down b t target f.place) _ s q λ r u v.
        rw (← ok-inj v) (λ w. along descending f p x (down-from b t target f.place r u w))

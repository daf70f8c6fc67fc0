-- Each way through the reads and the search by what was met on it: one law for each exit of the code. For callers: a trailer that was read from the block passes the test, so the
-- definitions of `layout_v1` are left, and a seek is what was found (`seek-no`, `seek_found`).
use Rattle.std.specs.Prelude.{ℕ, ◌+◌, ◌-◌, ◌≤◌, ◌<◌, ◌≡◌, Bool, not, cond, eqb, length, take, drop}
use Rattle.std.proofs.Math.Path.{refl, ap}
use Rattle.std.proofs.Common.{sym, ◌∙◌, arith, length-drop, take_all, length-take-le}
use Rattle.std.proofs.Math.Bool.{true, false}
use mathlib.Core.List.{List, [], ◌++◌}
use Rattle.std.proofs.Math.Seq.{take-nil}
use Rattle.layout.specs.Res.{Res, ok, refuse, bind, guard}
use Rattle.layout.specs.Key.{Key}
use Rattle.layout.specs.RowRead.{KeyRead, joined}
use Rattle.layout.specs.Trailer.{Trailer, trailer_of, data_of, Region, region_of}
use Rattle.layout.specs.Cursor.{Direction}
use Rattle.layout.specs.Seek.{Found}
use Rattle.layout.proofs.Laws.Match.{common-sym}
use Rattle.layout.proofs.Laws.Res.{bind-then}
use Rattle.layout.specs.Laws.Search.{search_on}
use Rattle.layout.proofs.Laws.Search.{on-whole}
use Rattle.layout.proofs.Laws.Trailer.{trailer_of-tells}
use Rattle.layout_v1.specs.RowRead.{read_key}
use Rattle.layout_v1.specs.Check.{before}
use Rattle.layout_v1.specs.Cursor.{the_first_key, cursor_is}
use Rattle.layout_v1.specs.Seek.{keeps_upper, key_passes, search_rows, passed_by, sought_is, seek}
use Rattle.layout_v1.proofs.Laws.Cursor.{read_key-lies, before-length, share-fits, keeps-past, keeps_on, key-region, key-no, key-is, passes-no, passes-is, search-inside, seek-first, seek-search, seek_is}
use Rattle.basics.specs.Says.{says_order}
use Rattle.basics.specs.declared.IterationOrder.{IterationOrder}
use Rattle.basics.specs.declared.IterationOrder.TheVariants.{Ascending, Descending}
use Rattle.match_keys.specs.Promise.{Matches}
use Rattle.match_keys.specs.declared.Matched.{Matched}
use Rattle.trailer.specs.Handed.{has_region, handed, region_at}
use Rattle.trailer.specs.Laws.{handed-known}
use Rattle.block_keys_v1.specs.declared.Stand.{Stand}
use Rattle.block_keys_v1.specs.Handed.{first_place, first_at, row_found, row_found_at}
use Rattle.block_keys_v1.specs.Parts.{Stands}

-- ---- row 0's key by its place

module _ (b : List ℕ) (t : Trailer) where
  pub place-region : {n : ℕ} → region_of b t 0 ≡ refuse n → refuse n ≡ first_place b t
  unfolding first_place
  place-region e = rw e

  pub place_read : {x : Res KeyRead} (g : Region) → region_of b t 0 ≡ ok g → x ≡ read_key (data_of b t) g.start g.end 0 → x ≡ first_place b t
  unfolding first_place
  place_read g e q = rw e q

  -- the test of the trailer is the same
  pub place_not : {n : ℕ} → region_at b t 0 ≡ refuse n → refuse n ≡ first_at b t
  unfolding handed
  place_not {n} e = go (not (has_region (length b) t 0)) e
    where
      go : (x : Bool) → guard x 18 (region_of b t 0) ≡ refuse n → refuse n ≡ guard x 18 (first_place b t)
      go true q = let w : n ≡ 18 = cc in ap refuse w
      go false q = place-region q

  pub first-used : trailer_of b ≡ ok t → first_at b t ≡ first_place b t
  first-used read = handed-known b t 0 _ (trailer_of-tells b t read)

  pub first-no : {n : ℕ} → first_place b t ≡ refuse n → the_first_key b t ≡ refuse n
  unfolding first_place
  first-no {n} = go (region_of b t 0) refl
    where
      go : (x : Res Region) → region_of b t 0 ≡ x → bind x (λ g. read_key (data_of b t) g.start g.end 0) ≡ refuse n → the_first_key b t ≡ refuse n
      go (ok g) e q = key-no b t [] 0 g e q
      go (refuse m) e q = key-region b t [] 0 e ∙ (let w : m ≡ n = cc in ap refuse w)

  module _ (k : KeyRead) (e : first_place b t ≡ ok k) where
    -- where the first key lies
    abbrev pub first_of : Key
    first_of = take k.suffix_len (drop k.suffix_at (data_of b t))

    pub first-is : the_first_key b t ≡ ok first_of
    unfolding first_place
    first-is = bind-then (region_of b t 0) _ k e λ g p q. key-is b t [] 0 g p k q ∙ rw (take-nil {A = ℕ} k.shared)

    -- as the part of the rows between its start and its end
    pub first_part : the_first_key b t ≡ ok (take (k.suffix_at + k.suffix_len - k.suffix_at) (drop k.suffix_at (data_of b t)))
    first_part = let n : k.suffix_at + k.suffix_len - k.suffix_at ≡ k.suffix_len = omega arith in rw n first-is

    pub first-lies : k.suffix_at + k.suffix_len ≤ length (data_of b t)
    unfolding first_place
    first-lies = bind-then (region_of b t 0) _ k e λ g p q. (read_key-lies (data_of b t) g.start g.end 0 k q).inside

    pub first-length : length first_of ≡ k.suffix_len
    first-length = length-take-le k.suffix_len (drop k.suffix_at (data_of b t)) (rw (length-drop k.suffix_at (data_of b t)) (omega (arith, first-lies)))

-- ---- how a key stands to the target

module _ (key target : Key) {order : IterationOrder} {m : Matched} where
  pub stands_up : order ≡ Ascending → Matches key target m → Stands (says_order order) key target (record { common = m.len; keeps = m.below })
  stands_up o w = rw o (record { shares = w.len_is; passes = w.below-is })

  pub stands-down : order ≡ Descending → Matches target key m → Stands (says_order order) key target (record { common = m.len; keeps = not m.below })
  stands-down o w = rw o (record { shares = w.len_is ∙ common-sym target key; passes = ap not w.below-is })

-- ---- row i's

module _ (b : List ℕ) (t : Trailer) (d : Direction) (first : Key) (whole : Stand) (target : Key) (i : ℕ) (s : Stands d first target whole) where
  abbrev wanted : Res Bool
  wanted = key_passes b t first (keeps_upper d target) i

  pub kept-region : {n : ℕ} → region_of b t i ≡ refuse n → refuse n ≡ wanted
  kept-region e = sym (passes-no b t first i (keeps_upper d target) (key-region b t first i e))

  module _ (g : Region) (e : region_of b t i ≡ ok g) {most : ℕ} (m : most ≡ cond (eqb i 0) 0 (length first)) where
    read : {x : Res KeyRead} → read_key (data_of b t) g.start g.end most ≡ x → read_key (data_of b t) g.start g.end (length (before first i)) ≡ x
    read q = ap (read_key (data_of b t) g.start g.end) (before-length first i ∙ sym m) ∙ q

    pub kept-no : {n : ℕ} → read_key (data_of b t) g.start g.end most ≡ refuse n → refuse n ≡ wanted
    kept-no q = sym (passes-no b t first i (keeps_upper d target) (key-no b t first i g e (read q)))

    module _ (k : KeyRead) (q : read_key (data_of b t) g.start g.end most ≡ ok k) where
      abbrev suffix : Key
      suffix = take k.suffix_len (drop k.suffix_at (data_of b t))

      key-so : wanted ≡ ok (keeps_upper d target (take k.shared first ++ suffix))
      key-so = passes-is b t first i (keeps_upper d target) (joined (data_of b t) first k.shared k.suffix_at k.suffix_len) (key-is b t first i g e k (read q))

      shares : k.shared ≤ length first
      shares = share-fits first i k.shared (read_key-lies (data_of b t) g.start g.end (length (before first i)) k (read q)).shares

      pub kept-past : whole.common < k.shared → ok whole.keeps ≡ wanted
      kept-past h = ap ok (s.passes ∙ sym (keeps-past d target first suffix k.shared (rw s.shares at h) shares)) ∙ sym key-so

      -- the part of the target that is left, and the part of the rows that was held against it
      pub kept_on : k.shared ≤ whole.common → (rest : Stand)
          → Stands d (take (k.suffix_at + k.suffix_len - k.suffix_at) (drop k.suffix_at (data_of b t))) (take (length target - k.shared) (drop k.shared target)) rest
          → ok rest.keeps ≡ wanted
      kept_on h rest w =
          let n : k.suffix_at + k.suffix_len - k.suffix_at ≡ k.suffix_len = omega arith in
          let whole-rest = take_all (length target - k.shared) (drop k.shared target) (rw (length-drop k.shared target) (omega arith)) in
          ap ok (w.passes ∙ rw (n, whole-rest) (sym (keeps_on d target first suffix k.shared (rw s.shares at h)))) ∙ sym key-so

-- ---- the whole search

module _ (b : List ℕ) (t : Trailer) (d : Direction) (target : Key) where
  pub found-no : {n : ℕ} → the_first_key b t ≡ refuse n → refuse n ≡ row_found b t d target
  unfolding row_found
  found-no e = rw e

  -- the test of the trailer is the same
  pub found-not : {n : ℕ} → first_at b t ≡ refuse n → refuse n ≡ row_found_at b t d target
  unfolding handed
  found-not {n} e = go (not (has_region (length b) t 0)) e
    where
      go : (x : Bool) → guard x 18 (first_place b t) ≡ refuse n → refuse n ≡ guard x 18 (row_found b t d target)
      go true q = let w : n ≡ 18 = cc in ap refuse w
      go false q = found-no (first-no b t q)

  pub found-by : (first : Key) → the_first_key b t ≡ ok first → {x : Res Found} → x ≡ search_on (key_passes b t first (keeps_upper d target)) 0 t.count 0 → x ≡ row_found b t d target
  unfolding row_found search_rows
  found-by first e q = rw e (on-whole (key_passes b t first (keeps_upper d target)) t.count q)

  -- ---- for callers

  module _ (read : trailer_of b ≡ ok t) where
    found-used : row_found_at b t d target ≡ row_found b t d target
    found-used = handed-known b t 0 _ (trailer_of-tells b t read)

    pub seek-no : {n : ℕ} → row_found_at b t d target ≡ refuse n → seek d b target ≡ refuse n
    unfolding row_found
    seek-no {n} e = go (the_first_key b t) refl (sym found-used ∙ e)
      where
        go : (x : Res Key) → the_first_key b t ≡ x → bind x (λ first. search_rows b t first (keeps_upper d target)) ≡ refuse n → seek d b target ≡ refuse n
        go (ok first) p q = seek-search d b target t read first p q
        go (refuse m) p q = seek-first d b target t read p ∙ (let w : m ≡ n = cc in ap refuse w)

    module _ (f : Found) (e : row_found_at b t d target ≡ ok f) where
      pub seek_found : seek d b target ≡ ok (sought_is (cursor_is d (passed_by d t.count f.place)) f.reads)
      unfolding row_found
      seek_found = bind-then (the_first_key b t) _ f (sym found-used ∙ e) λ first p q. seek_is d b target t read first p f q

      pub found_inside : f.place ≤ t.count
      unfolding row_found
      found_inside = bind-then (the_first_key b t) _ f (sym found-used ∙ e) λ first p q. search-inside b t first (keeps_upper d target) f q

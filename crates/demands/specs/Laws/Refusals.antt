-- What a seek can refuse with, on any bytes: 1 to 3 and 9 to 16, so never 18 or 19. Its answers are put together by `bind`, `guard` and `cond` alone,
-- and each of these keeps to the listed numbers where its parts do: so does every definition that a seek calls, from the varints up.
use Prim.Native.Nat.{ℕ, zero, suc, ◌<◌}
use Rattle.std.specs.Prelude.{◌≡◌, refl, Bool, true, false, cond, ◌&&◌, List, ltb}
use Rattle.std.proofs.Common.{⊎_elim, arith}
use Rattle.layout.specs.Res.{Res, ok, refuse, bind, guard}
use Rattle.layout.specs.Varint.{Num, read_varint}
use Rattle.layout.specs.Place.{varint_at, fixed_at}
use Rattle.layout.specs.Key.{Key}
use Rattle.layout.specs.Row.{key_length_tests}
use Rattle.layout.specs.RowRead.{lengths_at, head_tests, head_at, flags_at, body_tests, body_at, time_at, times_at, row_at, read_row, read_key}
use Rattle.layout.specs.Trailer.{Trailer, trailer_of, Region, region_of}
use Rattle.layout.specs.Cursor.{Direction, ascending, descending}
use Rattle.layout.specs.Seek.{search_in, search as search_span, restart_key, restart_below, search_restarts, walk_region, walk_up, seek_up, last_equal, start_down, last_at_or_below, walk_down, seek_down, Sought, seek_along, seek}
use Rattle.layout.specs.Laws.Varint.{VarintAnswer, reads, ends, spells_wrong}
use Rattle.layout.proofs.Laws.Varint.{read_varint-answers}
use Rattle.layout.proofs.Laws.Res.{ltb-cases, clash}

-- 1 to 3, or 9 to 16
abbrev pub listed : ℕ → Bool
listed n = ltb n 17 && cond (ltb n 4) (ltb 0 n) (ltb 8 n)

-- an answer that is no refusal, or one with a listed number
data Keeps {A : Type 0} : Res A → Type 0 where
  good : (a : A) → Keeps (ok a)
  says : (n : ℕ) → listed n ≡ true → Keeps (refuse n)

both : {A B : Type 0} {x : Res A} {f : A → Res B} → Keeps x → ((a : A) → Keeps (f a)) → Keeps (bind x f)
both (good a) k = k a
both (says n h) k = says n h

test : {A : Type 0} (t : Bool) (n : ℕ) {x : Res A} → listed n ≡ true → Keeps x → Keeps (guard t n x)
test true n h k = says n h
test false n h k = k

either : {A : Type 0} (t : Bool) {x y : Res A} → Keeps x → Keeps y → Keeps (cond t x y)
either true h k = h
either false h k = k

ruleset kept = (good, says, both, test, either)

-- ---- a row

varint-keeps : (s : List ℕ) → Keeps (read_varint s)
varint-keeps s = go (read_varint s) (read_varint-answers s)
  where
    go : (x : Res Num) → VarintAnswer x → Keeps x
    go x (reads r) = good r
    go x ends = says 9 refl
    go x spells_wrong = says 10 refl

head-keeps : (d : List ℕ) (at p : ℕ) (restart : Bool) → Keeps (head_at d at p restart)
unfolding head_at head_tests lengths_at varint_at key_length_tests
head-keeps d at p restart = search (kept, varint-keeps) depth 20

time-keeps : (t : Bool) (d : List ℕ) (at : ℕ) → Keeps (time_at t d at)
unfolding time_at fixed_at
time-keeps true d at = search kept
time-keeps false d at = search kept

row_keeps : (d : List ℕ) (at end p : ℕ) (restart : Bool) → Keeps (read_row d at end p restart)
unfolding read_row row_at body_at body_tests fixed_at flags_at times_at
row_keeps d at end p restart = search (kept, head-keeps, time-keeps) depth 20

-- ---- a region, and its restart's key

region-keeps : (b : List ℕ) (t : Trailer) (r : ℕ) → Keeps (region_of b t r)
unfolding region_of
region-keeps b t r = search kept depth 20

restart-keeps : (b : List ℕ) (t : Trailer) (i : ℕ) → Keeps (restart_key b t i)
unfolding restart_key read_key
restart-keeps b t i = search (kept, region-keeps, head-keeps) depth 20

-- ---- the search, and both ways on from where it closes

module _ (target : Key) where
  module _ (d : List ℕ) (g : Region) where
    walk-keeps : (left at : ℕ) (before : Key) → Keeps (walk_region left d g target at before)
    unfolding walk_region
    walk-keeps zero at before = search kept
    walk-keeps (suc left) at before = search (kept, row_keeps, walk-keeps left)

    last-keeps : (left at : ℕ) (before : Key) (best : ℕ) → Keeps (last_at_or_below left d g target at before best)
    unfolding last_at_or_below
    last-keeps zero at before best = search kept
    last-keeps (suc left) at before best = search (kept, row_keeps, last-keeps left)

  module _ (b : List ℕ) (t : Trailer) where
    search-keeps : (left low high : ℕ) → Keeps (search_in left (restart_below b t target) low high)
    unfolding search_in restart_below
    search-keeps zero low high = search kept
    search-keeps (suc left) low high = search (kept, restart-keeps, search-keeps left)

    up-keeps : (left region : ℕ) → Keeps (walk_up left b t target region)
    unfolding walk_up
    up-keeps zero region = search kept
    up-keeps (suc left) region = search (kept, region-keeps, walk-keeps, up-keeps left)

    equal-keeps : (left i : ℕ) → Keeps (last_equal left b t target i)
    unfolding last_equal
    equal-keeps zero i = search kept
    equal-keeps (suc left) i = search (kept, restart-keeps, equal-keeps left)

    down-keeps : (left region : ℕ) → Keeps (walk_down left b t target region)
    unfolding walk_down
    down-keeps zero region = search kept
    down-keeps (suc left) region = search (kept, region-keeps, last-keeps, down-keeps left)

    along-keeps : (d : Direction) (place : ℕ) → Keeps (seek_along d b t target place)
    unfolding seek_up seek_down start_down
    along-keeps ascending place = search up-keeps
    along-keeps descending place = search (kept, restart-keeps, equal-keeps, down-keeps)

seek-keeps : (d : Direction) (b : List ℕ) (target : Key) → Keeps (seek d b target)
unfolding seek trailer_of search_restarts search_span
seek-keeps d b target = search (kept, search-keeps, along-keeps)

pub seek-refuses : (d : Direction) (b : List ℕ) (target : Key) (n : ℕ) → seek d b target ≡ refuse n → listed n ≡ true
seek-refuses d b target n e = told (rw e at (seek-keeps d b target))
  where
    told : Keeps {A = Sought} (refuse n) → listed n ≡ true
    told (says m h) = h

-- "A seek .. never answers 18 or 19"
pub seek-never_18 : (d : Direction) (b : List ℕ) (target : Key) (n : ℕ) → seek d b target ≡ refuse n → n < 18
seek-never_18 d b target n e = ⊎_elim (λ c. omega arith) (λ c. absurd (clash (rw c.0 at (seek-refuses d b target n e)) refl)) (ltb-cases n 17)

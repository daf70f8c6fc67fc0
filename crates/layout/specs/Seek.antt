-- "A seek starts afresh": the search over restart keys with its count, the run of equal restarts, both walks, and the cursor left behind.
use Rattle.std.specs.Prelude.{ℕ, zero, suc, ◌+◌, ◌-◌, ◌/◌, Bool, true, false, cond, [], ltb, length}
use Rattle.layout.specs.Bytes.{Bytes}
use Rattle.layout.specs.Res.{Res, ok, refuse, bind}
use Rattle.layout.specs.Key.{Key, below, same}
use Rattle.layout.specs.RowRead.{read_key, key_of, joined}
use Rattle.layout.specs.Trailer.{Trailer, trailer_of, data_of, Region, region_of, row_in}
use Rattle.layout.specs.Cursor.{Direction, ascending, descending, Cursor, cursor_is, cursor_at}

-- ---- the search

-- where the span closes, and how many keys were read
pub record Found : Type 0 where
  pub place : ℕ
  pub reads : ℕ

abbrev pub found_is : ℕ → ℕ → Found
found_is p n = record { place = p; reads = n }

-- one more key read
abbrev pub tick : Found → Res Found
tick f = ok (found_is f.place (suc f.reads))

unfoldable pub middle : ℕ → ℕ → ℕ
middle low high = low + (high - low) / 2

-- reads the middle's key; keeps the upper part if it is below the target, else the lower one, until the span is empty; as many steps as the span is long are enough (`search_in-more`)
unfoldable pub search_in : ℕ → (ℕ → Res Bool) → ℕ → ℕ → Res Found
search_in zero is_below low high = ok (found_is low 0)
search_in (suc left) is_below low high =
    cond (ltb low high)
    (bind (is_below (middle low high)) λ b.
    bind (search_in left is_below (cond b (suc (middle low high)) low) (cond b high (middle low high))) tick)
    (ok (found_is low 0))

unfoldable pub search : (ℕ → Res Bool) → ℕ → ℕ → Res Found
search is_below low high = search_in (high - low) is_below low high

-- a restart's key is read alone; using it tests 15 for its offset and the next
unfoldable pub restart_key : Bytes → Trailer → ℕ → Res Key
restart_key b t i =
    bind (region_of b t i) λ g.
    bind (read_key (data_of b t) g.start g.end 0 true) λ k.
    ok (joined (data_of b t) [] k.shared k.suffix_at k.suffix_len)

unfoldable pub restart_below : Bytes → Trailer → Key → ℕ → Res Bool
restart_below b t target i = bind (restart_key b t i) λ k. ok (below k target)

unfoldable pub search_restarts : Bytes → Trailer → Key → Res Found
search_restarts b t target = search (restart_below b t target) 0 t.count

-- ---- ascending: start one restart earlier (not below 0) and walk to the first row at or above the target, else "done"

-- where the walk of a region stops: at that row or at the region's end, after the key of the row before in the same region, else none; as many steps as there are bytes are enough (`walk_region-enough`)
pub record Stop : Type 0 where
  pub at : ℕ
  pub before : Key

abbrev pub stop_is : ℕ → Key → Stop
stop_is at before = record { at = at; before = before }

unfoldable pub walk_region : ℕ → Bytes → Region → Key → ℕ → Key → Res Stop
walk_region zero d g target at before = ok (stop_is at before)
walk_region (suc left) d g target at before =
    cond (ltb at g.end)
    (bind (row_in d g at (length before)) λ r.
    cond (below (key_of d before r) target) (walk_region left d g target r.next (key_of d before r))
    (ok (stop_is at before)))
    (ok (stop_is at before))

-- a "done" leaves the cursor marked, at the data's end in the last region, with no key
abbrev pub done_up : Bytes → Trailer → Cursor
done_up b t = cursor_at b t ascending (t.count - 1) t.size [] true

-- over `left` regions; past the last one there is no row
unfoldable pub walk_up : ℕ → Bytes → Trailer → Key → ℕ → Res Cursor
walk_up zero b t target region = ok (done_up b t)
walk_up (suc left) b t target region =
    bind (region_of b t region) λ g.
    bind (walk_region t.size (data_of b t) g target g.start []) λ s.
    cond (ltb s.at g.end) (ok (cursor_at b t ascending region s.at s.before false))
    (walk_up left b t target (suc region))

unfoldable pub seek_up : Bytes → Trailer → Key → ℕ → Res Cursor
seek_up b t target place = walk_up (t.count - (place - 1)) b t target (place - 1)

-- ---- descending: start at the last of the run of restarts equal to the target, if the one found is equal; otherwise one earlier (not below 0)

-- as many steps as there are restarts are enough (`last_equal-enough`)
unfoldable pub last_equal : ℕ → Bytes → Trailer → Key → ℕ → Res ℕ
last_equal zero b t target i = ok i
last_equal (suc left) b t target i =
    cond (ltb (i + 1) t.count)
    (bind (restart_key b t (i + 1)) λ k.
    cond (same k target) (last_equal left b t target (i + 1)) (ok i))
    (ok i)

unfoldable pub start_down : Bytes → Trailer → Key → ℕ → Res ℕ
start_down b t target place =
    cond (ltb place t.count)
    (bind (restart_key b t place) λ k.
    cond (same k target) (last_equal t.count b t target place) (ok (place - 1)))
    (ok (place - 1))

-- read that whole region: where its last row at or below the target ends, or `best`; as many steps as there are bytes are enough (`last_at_or_below-enough`)
unfoldable pub last_at_or_below : ℕ → Bytes → Region → Key → ℕ → Key → ℕ → Res ℕ
last_at_or_below zero d g target at before best = ok best
last_at_or_below (suc left) d g target at before best =
    cond (ltb at g.end)
    (bind (row_in d g at (length before)) λ r.
    last_at_or_below left d g target r.next (key_of d before r) (cond (below target (key_of d before r)) best r.next))
    (ok best)

-- if none, the region before, and so on, else "done": marked, at 0 in region 0, with no key
abbrev pub done_down : Cursor
done_down = cursor_is descending 0 0 0 [] true

-- over `left` regions; before region 0 there is no row
unfoldable pub walk_down : ℕ → Bytes → Trailer → Key → ℕ → Res Cursor
walk_down zero b t target region = ok done_down
walk_down (suc left) b t target region =
    bind (region_of b t region) λ g.
    bind (last_at_or_below t.size (data_of b t) g target g.start [] g.start) λ best.
    cond (ltb g.start best) (ok (cursor_at b t descending region best [] false))
    (walk_down left b t target (region - 1))

unfoldable pub seek_down : Bytes → Trailer → Key → ℕ → Res Cursor
seek_down b t target place = bind (start_down b t target place) λ region. walk_down (suc region) b t target region

-- ---- a seek takes only the direction from the cursor, and reports how many restart keys the search read; it says "done" by its cursor's mark

pub record Sought : Type 0 where
  pub cursor : Cursor
  pub reads : ℕ

abbrev pub sought_is : Cursor → ℕ → Sought
sought_is c n = record { cursor = c; reads = n }

abbrev pub seek_along : Direction → Bytes → Trailer → Key → ℕ → Res Cursor
seek_along ascending b t target place = seek_up b t target place
seek_along descending b t target place = seek_down b t target place

unfoldable pub seek : Direction → Bytes → Key → Res Sought
seek d b target =
    bind (trailer_of b) λ t.
    bind (search_restarts b t target) λ f.
    bind (seek_along d b t target f.place) λ c.
    ok (sought_is c f.reads)

-- a refused seek gives the cursor back as it came
abbrev pub sought_after : Res Sought → Cursor → Cursor
sought_after (ok s) c = s.cursor
sought_after (refuse n) c = c

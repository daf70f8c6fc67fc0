-- From the place where a seek lands to the rows that are walked after it: a cursor that stands before some rows, or after some, gives exactly these, and a marked one none. Of rows in
-- order and of rows in any order.
use Rattle.std.specs.Prelude.{ℕ, zero, suc, ◌-◌, ◌<◌, ◌≡◌, refl, false, List, [], ◌∷◌, ◌++◌, ◌⊎◌, length, take, drop}
use Rattle.std.proofs.Common.{zero-le, ◌∙◌, append_assoc, arith, length-drop, drop_of_length-le}
use Rattle.std.proofs.Math.Path.{sym}
use Rattle.std.proofs.Math.Logic.{⊎_elim, inl, inr}
use Rattle.layout.specs.Res.{Res, ok}
use Rattle.layout.specs.Key.{Key, leading, is_below, not_above, first_at_or_above}
use Rattle.layout.specs.Trailer.{Trailer, trailer_of}
use Rattle.layout.specs.Cursor.{ascending, descending, Cursor, Keyed, done, step_is, next}
use Rattle.layout.specs.Seek.{done_up, done_down, start_down, walk_up, walk_down}
use Rattle.demands.specs.Reads.{Reads, all_rows, keys_of}
use Rattle.demands.specs.Runs.{RoomFor, backwards, stands, WalksAll}
use Rattle.demands.specs.AnyOrder.{rows_onward, region_at, start_among, through, left_down, SoughtAmong}
use Rattle.demands.specs.RunsProof.{walks-before, walks-after}
use Rattle.layout.proofs.Laws.Res.{ok-inj}
use Rattle.layout.proofs.Laws.Cursor.{next-marked}
use Rattle.layout.proofs.Laws.Trailer.{trailer_of-tells}
use Rattle.layout.proofs.Laws.Seek.{up_from, down-from, seek_is}
use Rattle.demands.specs.Laws.Reads.{all_append}
use Rattle.demands.specs.Laws.Split.{Searched, searched}
use Rattle.demands.specs.Laws.LandsUp.{LandsUp, lands, passes, landed}
use Rattle.demands.specs.Laws.LandsDown.{LandsDown, lands as lands-down, passes as passes-down}
use Rattle.demands.specs.Laws.AnyOrder.{search-among, lands-among, StartsAt, start-among, LandsAfter, after, nowhere, down-among}

pub room_drop : (room n : ℕ) (ks : List Keyed) → RoomFor room ks → RoomFor room (drop n ks)
room_drop room zero ks f = f
room_drop room (suc n) [] f = tt
room_drop room (suc n) (k ∷ ks) f = room_drop room n ks f.1

pub room_take : (room n : ℕ) (ks : List Keyed) → RoomFor room ks → RoomFor room (take n ks)
room_take room zero ks f = tt
room_take room (suc n) [] f = tt
room_take room (suc n) (k ∷ ks) f = (f.0, room_take room n ks f.1)

module _ (b : List ℕ) (t : Trailer) (room : ℕ) (good : trailer_of b ≡ ok t) where
  -- a marked cursor says "done", unchanged
  over-up : WalksAll b room (done_up b t) []
  over-up =
      let says : next (done_up b t) b room ≡ ok (step_is (done_up b t) done) = next-marked (done_up b t) b room t good (omega (arith, (trailer_of-tells b t good).1)) zero-le refl in
      record { last = done_up b t; walks = stands (done_up b t); ends = record { says-done = says; ever_after = says } }

  over-down : WalksAll b room done_down []
  over-down =
      let says : next done_down b room ≡ ok (step_is done_down done) = next-marked done_down b room t good (omega (arith, (trailer_of-tells b t good).1)) zero-le refl in
      record { last = done_down; walks = stands done_down; ends = record { says-done = says; ever_after = says } }

  pub landed-up : (target : Key) (rows : List Keyed) (c : Cursor) → RoomFor room rows → LandsUp b t target rows (ok c)
      → WalksAll b room c (drop (leading (is_below target) (keys_of rows)) rows)
      × (((leading (is_below target) (keys_of rows) < length rows) × (c.done ≡ false)) ⊎ ((leading (is_below target) (keys_of rows) ≡ length rows) × (c ≡ done_up b t)))
  landed-up target rows c f l = go (ok c) refl l
    where
      go : (x : Res Cursor) → x ≡ ok c → LandsUp b t target rows x
          → WalksAll b room c (drop (leading (is_below target) (keys_of rows)) rows)
          × (((leading (is_below target) (keys_of rows) < length rows) × (c.done ≡ false)) ⊎ ((leading (is_below target) (keys_of rows) ≡ length rows) × (c ≡ done_up b t)))
      go x e (lands d h l) =
          let same : d ≡ c = ok-inj e in
          rw (← same) (walks-before b t room d (drop (leading (is_below target) (keys_of rows)) rows) l (room_drop room (leading (is_below target) (keys_of rows)) rows f), inl (h, l.stands.unmarked))
      go x e (passes h) =
          let same : done_up b t ≡ c = ok-inj e in
          let none : drop (leading (is_below target) (keys_of rows)) rows ≡ [] = drop_of_length-le rows {i = leading (is_below target) (keys_of rows)} (omega (arith, h)) in
          (rw (none, ← same) over-up, inr (h, sym same))

  pub landed-down : (target : Key) (rows : List Keyed) (c : Cursor) → RoomFor room rows → LandsDown b t target rows (ok c)
      → WalksAll b room c (backwards (take (leading (not_above target) (keys_of rows)) rows))
      × (((0 < leading (not_above target) (keys_of rows)) × (c.done ≡ false)) ⊎ ((leading (not_above target) (keys_of rows) ≡ 0) × (c ≡ done_down)))
  landed-down target rows c f l = go (ok c) refl l
    where
      go : (x : Res Cursor) → x ≡ ok c → LandsDown b t target rows x
          → WalksAll b room c (backwards (take (leading (not_above target) (keys_of rows)) rows))
          × (((0 < leading (not_above target) (keys_of rows)) × (c.done ≡ false)) ⊎ ((leading (not_above target) (keys_of rows) ≡ 0) × (c ≡ done_down)))
      go x e (lands-down d h l) =
          let same : d ≡ c = ok-inj e in
          rw (← same)
          (walks-after (length (take (leading (not_above target) (keys_of rows)) rows)) b t room d (take (leading (not_above target) (keys_of rows)) rows) (omega arith) l (room_take room (leading (not_above target) (keys_of rows)) rows f), inl (h, l.unmarked))
      go x e (passes-down h) =
          let same : done_down ≡ c = ok-inj e in
          (rw (h, ← same) (unfold backwards in over-down), inr (h, sym same))

-- ---- rows in any order

room-append : (room : ℕ) (xs ys : List Keyed) → RoomFor room (xs ++ ys) → RoomFor room xs × RoomFor room ys
room-append room [] ys f = (tt, f)
room-append room (x ∷ xs) ys f = let w = room-append room xs ys f.1 in ((f.0, w.0), w.1)

-- the rows of the regions before one, of that one, and of those after it
rows_cut : (i : ℕ) (rss : List (List Keyed)) → all_rows rss ≡ all_rows (take i rss) ++ rows_onward i rss
unfolding all_rows
rows_cut zero rss = refl
rows_cut (suc i) [] = refl
rows_cut (suc i) (ks ∷ rss) = rw (rows_cut i rss) (sym (append_assoc ks (all_rows (take i rss)) (rows_onward i rss)))

region-first : (i : ℕ) (rss : List (List Keyed)) → (more : List Keyed) × (rows_onward i rss ≡ region_at rss i ++ more)
unfolding all_rows
region-first zero [] = ([], refl)
region-first (suc i) [] = ([], refl)
region-first zero (ks ∷ rss) = (all_rows rss, refl)
region-first (suc i) (ks ∷ rss) = region-first i rss

module _ (b : List ℕ) (t : Trailer) (rss : List (List Keyed)) (q : Reads b t rss) (target : Key) (room : ℕ) (f : RoomFor room (all_rows rss)) where
  room-from : (i : ℕ) → RoomFor room (all_rows (take i rss)) × RoomFor room (rows_onward i rss)
  room-from i = room-append room (all_rows (take i rss)) (rows_onward i rss) (rw (rows_cut i rss) at f)

  room-down : (i : ℕ) → RoomFor room (left_down target rss i)
  room-down i =
      let n = region-first i rss in
      let here = (room-append room (region_at rss i) n.0 (rw n.1 at (room-from i).1)).0 in
      all_append _ (all_rows (take i rss)) (take (through target (keys_of (region_at rss i))) (region_at rss i)) (room-from i).0 (room_take room (through target (keys_of (region_at rss i))) (region_at rss i) here)

  pub sought-among : SoughtAmong b t target rss room
  sought-among =
      let up = landed b t target (rows_onward (place - 1) rss) (walk_up (t.count - (place - 1)) b t target (place - 1)) lands-there in
      let u = landed-up b t room q.trailer-good target (rows_onward (place - 1) rss) up.0 (room-from (place - 1)).1 (rw up.1 at lands-there) in
      let down = landed-after (left_down target rss start) (walk_down (suc start) b t target start) (room-down start) (down-among b t rss q target start from.1) in
      record {
        f = s.f;
        searched = sym (search-among b t rss q target) ∙ s.is;
        up = up.0;
        sought-up = seek_is ascending b target t q.trailer-good s.f s.is up.0 (sym (up_from b t target place (sym up.1)));
        walked-up = unfold first_at_or_above in u.0;
        over-up =
            unfold first_at_or_above in
            ⊎_elim
            (λ h. inl (some (leading (is_below target) (keys_of (rows_onward (place - 1) rss))) (rows_onward (place - 1) rss) h.0, h.1))
            (λ h. inr (drop_of_length-le (rows_onward (place - 1) rss) {i = leading (is_below target) (keys_of (rows_onward (place - 1) rss))} (omega (arith, h.0)), h.1))
            u.1;
        down = down.0;
        sought-down = seek_is descending b target t q.trailer-good s.f s.is down.0 (sym (down-from b t target place start from.0 (sym down.1)));
        walked-down = down.2.0;
        over-down = down.2.1;
      }
    where
      s : Searched b t target
      s = searched b t rss target q

      place : ℕ
      place = s.f.place

      start : ℕ
      start = start_among target rss s.f.place

      from : (start_down b t target place ≡ ok start) × StartsAt b t rss q target start
      from = start-among b t rss q target s.f s.closed

      lands-there : LandsUp b t target (rows_onward (place - 1) rss) (walk_up (t.count - (place - 1)) b t target (place - 1))
      lands-there = lands-among b t rss q target place s.closed.to

      some : (n : ℕ) (xs : List Keyed) → n < length xs → 0 < length (drop n xs)
      some n xs h = omega (arith, length-drop n xs)

      landed-after : (rows : List Keyed) (x : Res Cursor) → RoomFor room rows → LandsAfter b t rss q target rows x
          → (c : Cursor) × (x ≡ ok c) × (WalksAll b room c (backwards rows) × (((0 < length rows) × (c.done ≡ false)) ⊎ ((rows ≡ []) × (c ≡ done_down))))
      landed-after rows x f (after c h l) = (c, refl, (walks-after (length rows) b t room c rows (omega arith) l f, inl (h, l.unmarked)))
      landed-after rows x f (nowhere z) = (done_down, refl, (rw z (unfold backwards in over-down b t room q.trailer-good), inr (z, refl)))

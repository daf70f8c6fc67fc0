-- A cursor of the earlier format that has passed so many rows gives the others, in order or back from the last, and then says "done"; with key buffers that are too short now and
-- then, the first of them. A step gives the row of its number, and nothing else in it depends on the key buffer.
use Prim.Native.Nat.{ℕ, zero, suc, ◌+◌, ◌<◌, ◌≤◌}
use Rattle.std.specs.Prelude.{◌≡◌, refl, cond, ltb, eqb}
use Rattle.std.proofs.Common.{ap, ◌∙◌, ⊎_elim, arith, zero-add}
use mathlib.Core.List.{List, [], ◌∷◌}
use Rattle.std.proofs.Math.ListN.{length, length-append}
use borrow.Author.Tests.{le-ltb}
use Rattle.layout.specs.Res.{Res, ok, guard}
use Rattle.layout.specs.Key.{Key}
use Rattle.layout.specs.RowRead.{key_length}
use Rattle.layout.specs.Trailer.{Trailer, trailer_of}
use Rattle.layout.specs.Cursor.{ascending, descending, Keyed}
use Rattle.layout_v1.specs.Check.{row_numbered}
use Rattle.layout_v1.specs.Cursor.{Cursor, cursor_is, the_first_key, Answer, found, done, Step, step_is, number_of, step_to, next}
use Rattle.demands.specs.Runs.{RoomFor, backwards, steps_by}
use Rattle.demands.specs.RunsProof.{backwards-end, room-first, room-last}
use Rattle.demands_v1.specs.Reads.{Names, RowsFrom}
use Rattle.demands_v1.specs.Runs.{Walks, stands, gives, WalksAll, GivesFirst}
use Rattle.layout.proofs.Laws.Res.{bind-then, guard-then, cond-ok, ok-inj, ltb-cases}
use Rattle.demands.specs.Laws.Descend.{FromEnd, empty, ending, from_end}
use Rattle.layout_v1.proofs.Laws.Cursor.{next-done, next-on}
use Rattle.demands_v1.specs.Laws.Reads.{rows_last}

module _ (b : List ℕ) (t : Trailer) (first : Key) (good : trailer_of b ≡ ok t) (read : the_first_key b t ≡ ok first) (room : ℕ) where
  -- one step, to the row of its number
  step_gives : (c : Cursor) (k : Keyed) (i : ℕ) → c.passed < t.count → number_of c.order t.count c.passed ≡ i → Names b t first i k → key_length k.row ≤ room
      → next c b room ≡ ok (step_is (cursor_is c.order (suc c.passed)) (found i k.row k.key))
  step_gives c k i h n named fits = next-on c b room t good h ∙ ap (step_to c b t room) n ∙ step
    where
      step : step_to c b t room i ≡ ok (step_is (cursor_is c.order (suc c.passed)) (found i k.row k.key))
      step = unfold step_to in rw (read, named.is, le-ltb room (key_length k.row) fits, named.key-is)

  -- all passed
  walks-none : (c : Cursor) → c.passed ≡ t.count → WalksAll b room c []
  walks-none c h = record { last = c; walks = stands c; says-done = next-done c b room t good h }

  pub walks-up : (n : ℕ) (rows : List Keyed) → RowsFrom b t first n rows → n + length rows ≡ t.count → RoomFor room rows → WalksAll b room (cursor_is ascending n) rows
  walks-up n [] p h f = walks-none (cursor_is ascending n) (omega arith)
  walks-up n (k ∷ ks) p h f =
      let w = walks-up (suc n) ks p.1 (omega arith) f.1 in
      record {
        last = w.last;
        walks =
            gives (cursor_is ascending n) (cursor_is ascending (suc n)) w.last k ks t first n good read p.0
            (step_gives (cursor_is ascending n) k n (omega arith) refl p.0 f.0) w.walks;
        says-done = w.says-done;
      }

  pub walks-down : (m n : ℕ) (rows : List Keyed) → length rows ≤ m → RowsFrom b t first 0 rows → n + length rows ≡ t.count → RoomFor room rows
      → WalksAll b room (cursor_is descending n) (backwards rows)
  walks-down zero n [] l p h f = unfold backwards in walks-none (cursor_is descending n) (omega arith)
  walks-down zero n (k ∷ ks) l p h f = absurd (omega arith)
  walks-down (suc m) n rows l p h f = go rows (from_end rows) l p h f (walks-down m (suc n))
    where
      go : (rows : List Keyed) → FromEnd rows → length rows ≤ suc m → RowsFrom b t first 0 rows → n + length rows ≡ t.count → RoomFor room rows
          → ((rows : List Keyed) → length rows ≤ m → RowsFrom b t first 0 rows → suc n + length rows ≡ t.count → RoomFor room rows
          → WalksAll b room (cursor_is descending (suc n)) (backwards rows))
          → WalksAll b room (cursor_is descending n) (backwards rows)
      go rows empty l p h f ih = unfold backwards in walks-none (cursor_is descending n) (omega arith)
      go rows (ending xs x) l p h f ih =
          let long = length-append xs (x ∷ []) in
          let q = rows_last b t first 0 xs x p in
          let named : Names b t first (length xs) x = rw (zero-add (length xs)) at q.1 in
          let w = ih xs (omega arith) q.0 (omega arith) (room-first room xs (x ∷ []) f) in
          rw (backwards-end xs x)
          (record {
            last = w.last;
            walks =
                gives (cursor_is descending n) (cursor_is descending (suc n)) w.last x (backwards xs) t first (length xs) good read named
                (step_gives (cursor_is descending n) x (length xs) (omega arith) (omega arith) named (room-last room xs x f)) w.walks;
            says-done = w.says-done;
          })

-- ---- steps with key buffers of any lengths

-- the same step with another key buffer: 19 where the key that it gives has no room
abbrev asked : ℕ → Answer → Res Step → Res Step
asked room (found number r key) x = guard (ltb room (key_length r)) 19 x
asked room done x = x

next-again : (c : Cursor) (b : List ℕ) (room other : ℕ) (s : Step) → next c b room ≡ ok s → next c b other ≡ asked other s.answer (ok s)
unfolding next step_to
next-again c b room other s e =
    bind-then (trailer_of b) _ s e λ t p e₁.
    guard-then (ltb t.count c.passed) 18 _ s e₁ λ u e₂.
    let goes : (n : ℕ) → next c b n ≡ cond (eqb c.passed t.count) (ok (step_is c done)) (step_to c b t n (number_of c.order t.count c.passed)) = λ n. rw (p, u) in
    ⊎_elim
    (λ w. goes other ∙ rw (w.0, ← ok-inj w.1))
    (λ w.
    bind-then (the_first_key b t) _ s w.1 λ first q e₃.
    bind-then (row_numbered b t first (number_of c.order t.count c.passed)) _ s e₃ λ r q₂ e₄.
    guard-then (ltb room (key_length r)) 19 _ s e₄ λ u₂ e₅.
    goes other ∙ rw (w.0, q, q₂, ← ok-inj e₅))
    (cond-ok (eqb c.passed t.count) _ _ s e₂)

-- a row whose key has no room stays to be given; every other step goes on along the walk
pub walks-first : (b : List ℕ) (room : ℕ) (rooms : List ℕ) (c : Cursor) (rows : List Keyed) → WalksAll b room c rows → GivesFirst b c rooms rows
unfolding steps_by
walks-first b room [] c rows w = record { rest = rows; parts = refl }
walks-first b room (other ∷ rooms) c rows w = go c rows w.last w.walks w.says-done (walks-first b room rooms)
  where
    go : (c : Cursor) (rows : List Keyed) (last : Cursor) → Walks b room c rows last → next last b room ≡ ok (step_is last done)
        → ((c : Cursor) (rows : List Keyed) → WalksAll b room c rows → GivesFirst b c rooms rows) → GivesFirst b c (other ∷ rooms) rows
    go c rows last (stands d) over ih =
        let more = ih d [] (record { last = d; walks = stands d; says-done = over }) in
        record { rest = more.rest; parts = rw (next-again d b room other (step_is d done) over) more.parts }
    go c rows last (gives d d' d'' k ks t first number tr read named p w) over ih =
        let same = next-again d b room other (step_is d' (found number k.row k.key)) p in
        ⊎_elim
        (λ u.
        let more = ih d (k ∷ ks) (record { last = d''; walks = gives d d' d'' k ks t first number tr read named p w; says-done = over }) in
        record { rest = more.rest; parts = rw (same, u.0) more.parts })
        (λ u.
        let more = ih d' ks (record { last = d''; walks = w; says-done = over }) in
        record { rest = more.rest; parts = rw (same, u.0) (ap (λ (x : List Keyed). k ∷ x) more.parts) })
        (ltb-cases other (key_length k.row))

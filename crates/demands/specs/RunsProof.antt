-- A run keeps `Made`: whatever calls were made, state and buffers are those of the accepted rows. A walk along cursors that each stand before (or after) the rows to
-- come gives exactly these rows; and with key buffers that are too short now and then, the first of them.
use Rattle.std.specs.Prelude.{ℕ, zero, suc, ◌≤◌, ◌≡◌, refl, List, [], ◌∷◌, ◌++◌, ltb, eqb, length, take}
use Rattle.std.proofs.Common.{ap, ◌∙◌, ⊎_elim, arith, length-append, ltb-false}
use Rattle.std.proofs.lemmas.Bool.{eqb-false}
use Rattle.layout.specs.Res.{ok}
use Rattle.layout.specs.Place.{splice}
use Rattle.layout.specs.Row.{Row}
use Rattle.layout.specs.RowRead.{key_length}
use Rattle.layout.specs.Block.{trailer, block_bytes}
use Rattle.layout.specs.Trailer.{Trailer}
use Rattle.layout.specs.Builder.{Builder, new_builder, state_tests, present_size, build, block_after_of}
use Rattle.layout.specs.Cursor.{Cursor, marked, Keyed, found, done, step_is}
use Rattle.demands.specs.Lends.{Call, lending_of, BeginAlike}
use Rattle.demands.specs.LendsProof.{Keeps, kept-ran}
use Rattle.demands.specs.Runs.{maker, Lending, Ran, Finishes, Walks, stands, gives, EndsDone, RoomFor, backwards, WalksAll, steps_by, GivesFirst}
use Rattle.layout.proofs.Laws.Res.{bind-then, guard-then, ltb-cases}
use Rattle.demands.specs.Laws.Ascend.{Before, before-gives, before-done, marked-stays}
use Rattle.demands.specs.Laws.Descend.{After, after-gives, after-done, FromEnd, empty, ending, from_end}
use Rattle.layout.specs.Laws.Made.{Made}
use Rattle.layout.proofs.Laws.Made.{made_none, made_more, made-stands, made-builds}
use Rattle.layout.proofs.Laws.Step.{next-again}

-- ---- the builder

-- buffers that begin alike hold the same rows
made-longer : (n : ℕ) (rs : List Row) (h : Lending) (bytes places : List ℕ) → Made n rs h.builder h.bytes h.places → BeginAlike maker h bytes places → Made n rs h.builder bytes places
made-longer n rs h bytes places m a =
    record {
      interval_is = m.interval_is;
      block = m.block;
      some = m.some;
      few = m.few;
      used-is = m.used-is;
      restarts-are = m.restarts-are;
      rows_are = m.rows_are;
      last_len_is = m.last_len_is;
      last-is = m.last-is;
      in_data = omega (arith, m.in_data, a.no_fewer_bytes);
      in_places = omega (arith, m.in_places, a.no_fewer_places);
      bytes-are = a.same_bytes ∙ m.bytes-are;
      places-are = a.same-places ∙ m.places-are;
      room = λ s. omega (arith, m.room s, a.no_fewer_bytes);
      rows_ok = m.rows_ok;
      offsets-fit = m.offsets-fit;
    }

-- a build in the middle leaves the rows: the buffer that it leaves begins alike
made-finish : (n : ℕ) (rs : List Row) (b : Builder) (bytes places : List ℕ) (k : ℕ) → Made n rs b bytes places → build b (length bytes) (length places) ≡ ok k
    → Made n rs b (block_after_of (ok k) b bytes places) places
unfolding build
made-finish n rs b bytes places k m e =
    bind-then (state_tests b (length bytes) (length places)) _ k e λ u s e₁.
    guard-then (eqb b.counter 0) 7 _ k e₁ λ t₁ e₂.
    guard-then (ltb (length bytes) (present_size b)) 6 _ k e₂ λ t₂ e₃.
    let w = made-stands n rs b bytes places m (ltb-false (length bytes) (present_size b) t₂) in
    made-longer n rs (lending_of maker b bytes places) (splice bytes b.used (trailer (take b.restarts places))) places m
    (record { no_fewer_bytes = omega (arith, w.long); no_fewer_places = omega arith; same_bytes = w.begins; same-places = refl })

pub made_kept : (n : ℕ) → Keeps maker (Made n)
made_kept n =
    record {
      more = made_more n;
      given = λ b b'. refl;
      untouched = λ b bytes places r k. (refl, refl, refl);
      unbuilt = λ b bytes places k. refl;
      longer = made-longer n;
      finished = made-finish n;
    }

pub made-ran : (size n : ℕ) (cs : List Call) (rows : List Row) (end : Lending) → Ran size n cs rows end → Made n rows end.builder end.bytes end.places
made-ran size n cs rows end r = kept-ran maker (Made n) (made_kept n) (new_builder size n) cs rows end (made_none size n) r

-- build answers a block only where a row was accepted
pub finishes_some : (n : ℕ) (rows : List Row) (h : Lending) (block : List ℕ) → Made n rows h.builder h.bytes h.places → Finishes h block → 1 ≤ length rows
unfolding build
finishes_some n rows h block m f =
    bind-then (state_tests h.builder (length h.bytes) (length h.places)) _ f.n f.answers λ u s e₁.
    guard-then (eqb h.builder.counter 0) 7 _ f.n e₁ λ t e₂.
    let ne = eqb-false h.builder.counter 0 t in
    omega (arith, ne, m.rows_are)

-- after an accepted row, build answers the block of the accepted rows
pub made_finishes : (n : ℕ) (rows : List Row) (h : Lending) → Made n rows h.builder h.bytes h.places → 1 ≤ length rows → Finishes h (block_bytes n rows)
made_finishes n rows h m s =
    let q = made-builds n rows h.builder h.bytes h.places m s in
    record { n = length (block_bytes n rows); answers = q.0; block-is = q.1 }

-- ---- the cursor

pub walks-before : (b : List ℕ) (t : Trailer) (room : ℕ) (c : Cursor) (rows : List Keyed) → Before b t c rows → RoomFor room rows → WalksAll b room c rows
walks-before b t room c [] q f =
    record {
      last = c;
      walks = stands c;
      ends =
          record {
            says-done = before-done b t c room q;
            ever_after = marked-stays b t (marked c) room q.stands.trailer-good q.stands.inside q.stands.fits refl;
          };
    }
walks-before b t room c (k ∷ ks) q f =
    let g = before-gives b t c room k ks q in
    let w = walks-before b t room g.moved ks g.then-before f.1 in
    record { last = w.last; walks = gives c g.moved w.last k ks t c.region c.number q.stands.trailer-good g.named (g.gives f.0) w.walks; ends = w.ends }

pub backwards-end : (ks : List Keyed) (k : Keyed) → backwards (ks ++ (k ∷ [])) ≡ k ∷ backwards ks
unfolding backwards
backwards-end [] k = refl
backwards-end (x ∷ ks) k = rw (backwards-end ks k)

pub room-first : (room : ℕ) (xs ys : List Keyed) → RoomFor room (xs ++ ys) → RoomFor room xs
room-first room [] ys f = tt
room-first room (x ∷ xs) ys f = (f.0, room-first room xs ys f.1)

pub room-last : (room : ℕ) (xs : List Keyed) (k : Keyed) → RoomFor room (xs ++ (k ∷ [])) → key_length k.row ≤ room
room-last room [] k f = f.0
room-last room (x ∷ xs) k f = room-last room xs k f.1

after_none : (b : List ℕ) (t : Trailer) (room : ℕ) (c : Cursor) → After b t c [] → WalksAll b room c (backwards [])
unfolding backwards
after_none b t room c q =
    record {
      last = c;
      walks = stands c;
      ends = record { says-done = after-done b t c room q; ever_after = marked-stays b t (marked c) room q.trailer-good q.inside q.fits refl };
    }

pub walks-after : (n : ℕ) (b : List ℕ) (t : Trailer) (room : ℕ) (c : Cursor) (rows : List Keyed) → length rows ≤ n → After b t c rows → RoomFor room rows → WalksAll b room c (backwards rows)
walks-after zero b t room c [] h q f = after_none b t room c q
walks-after zero b t room c (k ∷ ks) h q f = absurd (omega arith)
walks-after (suc n) b t room c rows h q f = go rows (from_end rows) h q f (walks-after n b t room)
  where
    go : (rows : List Keyed) → FromEnd rows → length rows ≤ suc n → After b t c rows → RoomFor room rows
        → ((c : Cursor) (rows : List Keyed) → length rows ≤ n → After b t c rows → RoomFor room rows → WalksAll b room c (backwards rows)) → WalksAll b room c (backwards rows)
    go rows empty h q f ih = after_none b t room c q
    go rows (ending xs x) h q f ih =
        let g = after-gives b t c room xs x q in
        let w = ih g.moved xs (omega (arith, length-append xs (x ∷ []))) g.then-after (room-first room xs (x ∷ []) f) in
        rw (backwards-end xs x)
        (record {
          last = w.last;
          walks = gives c g.moved w.last x (backwards xs) t g.region g.number q.trailer-good g.named (g.gives (room-last room xs x f)) w.walks;
          ends = w.ends;
        })

-- ---- steps with key buffers of any lengths

-- a row whose key has no room stays to be given; every other step goes on along the walk
pub walks-first : (b : List ℕ) (room : ℕ) (rooms : List ℕ) (c : Cursor) (rows : List Keyed) → WalksAll b room c rows → GivesFirst b c rooms rows
unfolding steps_by
walks-first b room [] c rows w = record { rest = rows; parts = refl }
walks-first b room (other ∷ rooms) c rows w = go c rows w.last w.walks w.ends (walks-first b room rooms)
  where
    go : (c : Cursor) (rows : List Keyed) (last : Cursor) → Walks b room c rows last → EndsDone b room last (marked last)
        → ((c : Cursor) (rows : List Keyed) → WalksAll b room c rows → GivesFirst b c rooms rows) → GivesFirst b c (other ∷ rooms) rows
    go c rows last (stands d) ends ih =
        let same = next-again d b room other (step_is (marked d) done) ends.says-done in
        let more = ih (marked d) [] (record { last = marked d; walks = stands (marked d); ends = record { says-done = ends.ever_after; ever_after = ends.ever_after } }) in
        record { rest = more.rest; parts = rw same more.parts }
    go c rows last (gives d d' d'' k ks t region number tr named p w) ends ih =
        let same = next-again d b room other (step_is d' (found region number k.row k.key)) p in
        ⊎_elim
        (λ u. let more = ih d (k ∷ ks) (record { last = d''; walks = gives d d' d'' k ks t region number tr named p w; ends = ends }) in record { rest = more.rest; parts = rw (same, u.0) more.parts })
        (λ u. let more = ih d' ks (record { last = d''; walks = w; ends = ends }) in record { rest = more.rest; parts = rw (same, u.0) (ap (λ (x : List Keyed). k ∷ x) more.parts) })
        (ltb-cases other (key_length k.row))

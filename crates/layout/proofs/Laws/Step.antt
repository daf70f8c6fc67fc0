-- A step that is not refused, taken apart once: which step it was (`Stepped`), and that with another key buffer it is the same but for 19. What else is said of
-- steps follows by cases: a key that is given has a byte, fits what a key may have and the room for it, and is as long as its row says;
-- "done" leaves the carried key.
use Rattle.std.specs.Prelude.{ℕ, ◌-◌, ◌<◌, ◌≤◌, ◌≡◌, refl, false, not, List, [], ltb, leb, eqb, length}
use Rattle.std.proofs.Common.{ap, sym, ◌∙◌, arith, ltb-false, leb-false}
use Rattle.std.proofs.Math.Logic.{⊎_elim}
use Rattle.layout.specs.Res.{Res, ok, guard}
use Rattle.layout.specs.Limits.{max_key}
use Rattle.layout.specs.Key.{Key}
use Rattle.layout.specs.RowRead.{RowRead, key_length, key_of}
use Rattle.layout.specs.Trailer.{Trailer, trailer_of, data_of, Region, region_of, row_in}
use Rattle.layout.specs.Number.{number_at, wrong_after}
use Rattle.layout.specs.Cursor.{Direction, ascending, descending, Cursor, marked, Answer, found, done, Step, step_is, give, past_row, step_up, row_ending_at, back_past, step_back_in, step_down, step_along, next}
use Rattle.layout.proofs.Laws.Res.{bind-then, guard-then, cond-ok, ok-inj}
use Rattle.layout.proofs.Laws.Carry.{key_of-length}
use Rattle.layout.proofs.Laws.Cursor.{ended}
use Rattle.layout.proofs.Laws.Tells.{row_in-ends}
use Rattle.layout.specs.Laws.Step.{KeyedWell, Stepped, UsedIn, ends, goes-up, goes_back, stays}

-- ---- the steps that there are

-- the step s, if what it gives has room
abbrev given_in : ℕ → Answer → Step → Res Step
given_in room (found region number r key) s = guard (ltb room (key_length r)) 19 (ok s)
given_in room done s = ok s

abbrev pub asked_in : ℕ → Step → Res Step
asked_in room s = given_in room s.answer s

-- by a step `at room` for each room
record Inverted (c : Cursor) (b : List ℕ) (at : ℕ → Res Step) (s : Step) : Type 0 where
  how : Stepped c b s
  again : (room : ℕ) → at room ≡ asked_in room s

module _ (c : Cursor) (b : List ℕ) (room : ℕ) (s : Step) where
  gives : (to : Cursor) (region number : ℕ) (r : RowRead) (key : Key) → Stepped c b (step_is to (found region number r key)) → give room region number r key to ≡ ok s
      → Inverted c b (λ n. give n region number r key to) s
  gives to region number r key h e = guard-then (ltb room (key_length r)) 19 _ s e λ t u. rw (← ok-inj u) (record { how = h; again = λ n. refl })

  none : (to : Cursor) → Stepped c b (step_is to done) → ◌≡◌ {A = Res Step} (ok (step_is to done)) (ok s) → Inverted c b (λ n. ok (step_is to done)) s
  none to h e = rw (← ok-inj e) (record { how = h; again = λ n. refl })

  up : (t : Trailer) → trailer_of b ≡ ok t → c.region < t.count → c.order ≡ ascending → c.done ≡ false → step_up c b t room ≡ ok s → Inverted c b (λ n. step_up c b t n) s
  unfolding step_up
  up t good inside heads unmarked e =
      bind-then (region_of b t c.region) _ s e λ g p₁ e₁.
      guard-then (ltb c.at g.start) 18 _ s e₁ λ p₂ e₂.
      guard-then (ltb g.reach c.at) 18 _ s e₂ λ p₃ e₃.
      guard-then (wrong_after (c.at - g.start) c.number) 18 _ s e₃ λ p₄ e₄.
      ⊎_elim
      (λ u. let i = none (marked c) ends u.1 in record { how = i.how; again = λ n. rw (p₁, p₂, p₃, p₄, u.0) (i.again n) })
      (λ u.
      bind-then (row_in (data_of b t) g c.at c.key_len) _ s u.1 λ r p₅ q.
      let i = gives (past_row c g r (key_of (data_of b t) c.key r)) c.region c.number r (key_of (data_of b t) c.key r) (goes-up t g r (record { trailer-good = good; inside = inside; used = p₁ }) heads unmarked p₅) q in
      record { how = i.how; again = λ n. rw (p₁, p₂, p₃, p₄, u.0, p₅) (i.again n) })
      (cond-ok (eqb c.at g.end) _ _ s e₄)

  back : (t : Trailer) (region : ℕ) (g : Region) (many : ℕ) → UsedIn b t region g → c.order ≡ descending → step_back_in c b t room region g many ≡ ok s
      → Inverted c b (λ n. step_back_in c b t n region g many) s
  unfolding step_back_in
  back t region g many used heads e =
      bind-then (row_ending_at c.at (data_of b t) g c.at g.start []) _ s e λ k p₁ e₁.
      guard-then (not (eqb many (number_at b t region c.at))) 18 _ s e₁ λ p₂ e₂.
      let number = number_at b t region k.row.start in
      let i = gives (back_past c region number k.row) region number k.row k.key (goes_back t region g k used heads p₁) e₂ in
      record { how = i.how; again = λ n. rw (p₁, p₂) (i.again n) }

  down : (t : Trailer) → trailer_of b ≡ ok t → c.region < t.count → c.order ≡ descending → step_down c b t room ≡ ok s → Inverted c b (λ n. step_down c b t n) s
  unfolding step_down
  down t good inside heads e =
      bind-then (region_of b t c.region) _ s e λ g p₁ e₁.
      guard-then (ltb c.at g.start) 18 _ s e₁ λ p₂ e₂.
      guard-then (ltb g.end c.at) 18 _ s e₂ λ p₃ e₃.
      ⊎_elim
      (λ u.
      guard-then (ltb 0 c.number) 18 _ s u.1 λ p₄ e₄.
      ⊎_elim
      (λ v. let i = none (marked c) ends v.1 in record { how = i.how; again = λ n. rw (p₁, p₂, p₃, u.0, p₄, v.0) (i.again n) })
      (λ v.
      bind-then (region_of b t (c.region - 1)) _ s v.1 λ h p₅ q.
      let i = back t (c.region - 1) h (number_at b t (c.region - 1) c.at) (record { trailer-good = good; inside = omega arith; used = p₅ }) heads q in
      record { how = i.how; again = λ n. rw (p₁, p₂, p₃, u.0, p₄, v.0, p₅) (i.again n) })
      (cond-ok (eqb c.region 0) _ _ s e₄))
      (λ u.
      let i = back t c.region g c.number (record { trailer-good = good; inside = inside; used = p₁ }) heads u.1 in
      record { how = i.how; again = λ n. rw (p₁, p₂, p₃, u.0) (i.again n) })
      (cond-ok (eqb c.at g.start) _ _ s e₃)

-- ---- the one inversion

pub record StepTells (c : Cursor) (b : List ℕ) (s : Step) : Type 0 where
  pub few : c.key_len ≤ max_key
  pub how : Stepped c b s
  pub again : (room : ℕ) → next c b room ≡ asked_in room s

pub next-tells : (c : Cursor) (b : List ℕ) (room : ℕ) (s : Step) → next c b room ≡ ok s → StepTells c b s
unfolding next
next-tells c b room s e =
    bind-then (trailer_of b) _ s e λ t p₁ e₁.
    guard-then (leb t.count c.region) 18 _ s e₁ λ p₂ e₂.
    guard-then (ltb max_key c.key_len) 18 _ s e₂ λ p₃ e₃.
    let inside = leb-false t.count c.region p₂ in
    let few = ltb-false max_key c.key_len p₃ in
    ⊎_elim
    (λ u.
    let i = none c b room s c stays u.1 in
    let says : (n : ℕ) → next c b n ≡ ok (step_is c done) = λ n. rw (p₁, p₂, p₃, u.0) in
    record { few = few; how = i.how; again = λ n. says n ∙ i.again n })
    (λ u.
    let i = along c.order refl t p₁ inside u.0 u.1 in
    let goes : (n : ℕ) → next c b n ≡ step_along c.order c b t n = λ n. rw (p₁, p₂, p₃, u.0) in
    record { few = few; how = i.how; again = λ n. goes n ∙ i.again n })
    (cond-ok c.done _ _ s e₃)
  where
    along : (d : Direction) → c.order ≡ d → (t : Trailer) → trailer_of b ≡ ok t → c.region < t.count → c.done ≡ false → step_along d c b t room ≡ ok s
        → Inverted c b (λ n. step_along d c b t n) s
    along ascending h t good inside unmarked u = up c b room s t good inside h unmarked u
    along descending h t good inside unmarked u = down c b room s t good inside h u

-- ---- what follows

-- with another key buffer
pub next-again : (c : Cursor) (b : List ℕ) (room other : ℕ) (s : Step) → next c b room ≡ ok s → next c b other ≡ asked_in other s
next-again c b room other s e = (next-tells c b room s e).again other

-- of a step from the cursor c to d
abbrev pub GivenWell : ℕ → Cursor → Cursor → Answer → Type 0
GivenWell room c d (found region number r key) = KeyedWell room r key
GivenWell room c d done = (d.key_len ≡ c.key_len) × (d.key ≡ c.key)

-- of a cursor whose key is as long as it says, unless that is too long
pub next-given : (c : Cursor) (s : Step) (b : List ℕ) (room : ℕ) → (c.key_len ≤ max_key → length c.key ≡ c.key_len) → next c b room ≡ ok s → GivenWell room c s.cursor s.answer
next-given c s b room long e = go s tells.how (sym (tells.again room) ∙ e)
  where
    tells : StepTells c b s
    tells = next-tells c b room s e

    held : (region number : ℕ) (r : RowRead) (key : Key) (to : Cursor)
        → given_in room (found region number r key) (step_is to (found region number r key)) ≡ ok (step_is to (found region number r key)) → key_length r ≤ room
    held region number r key to f = guard-then (ltb room (key_length r)) 19 _ (step_is to (found region number r key)) f λ t _. ltb-false room (key_length r) t

    go : (s : Step) → Stepped c b s → asked_in room s ≡ ok s → GivenWell room c s.cursor s.answer
    go s stays f = (refl, refl)
    go s ends f = (refl, refl)
    go s (goes-up t g r used heads unmarked p) f =
        let w = row_in-ends (data_of b t) g c.at c.key_len r p in
        record {
          some = w.some;
          fits = w.fits;
          held = held c.region c.number r (key_of (data_of b t) c.key r) (past_row c g r (key_of (data_of b t) c.key r)) f;
          whole = key_of-length (data_of b t) c.at g.end c.key (eqb c.at g.start) r (ap (λ (n : ℕ). row_in (data_of b t) g c.at n) (long tells.few) ∙ p);
        }
    go s (goes_back t region g k used heads p) f =
        let number = number_at b t region k.row.start in
        let w = ended c.at (data_of b t) g c.at g.start [] k p in
        record { some = w.some; fits = w.fits; held = held region number k.row k.key (back_past c region number k.row) f; whole = w.whole }

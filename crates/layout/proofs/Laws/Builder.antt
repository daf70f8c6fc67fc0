-- The builder. One law for each exit of the code. And from a new builder on: `Made` says that state and buffers are those of the rows accepted so far; each
-- accepted row keeps it, a refused one changes nothing; then no state is refused with 18, and what is built is the block of these rows.
use Rattle.std.specs.Prelude.{ℕ, ◌*◌, ◌<◌, ◌≤◌, ◌≡◌, refl, Bool, true, not, ◌&&◌, ◌⊎◌, eqb, length}
use Rattle.std.proofs.Math.Bool.{false}
use Rattle.std.proofs.Math.Logic.{⊎_elim}
use Rattle.std.proofs.Common.{inl, inr, arith}
use Rattle.std.proofs.Math.Dec.{ltb}
use borrow.Author.Tests.{lt-ltb, le-ltb, le-leb, lt-leb, eq-eqb, ne_eqb, ltb-false, eqb-true, eqb-false, not-false}
use Rattle.layout.specs.Res.{Res, ok, refuse, guard}
use Rattle.layout.specs.Limits.{max_key, max_block, max_interval, max_offset, max_restarts, least_row}
use Rattle.layout.specs.Key.{Key}
use Rattle.layout.specs.Row.{Fields, value_of, length_tests}
use Rattle.layout.specs.Builder.{Builder, fresh, new_builder, restarts_of, state_tests, at_restart, present_size, grown_size, fits, would_fit, grown, add, build}
use Rattle.layout.proofs.Laws.Res.{guard-then, eqb-cases}

-- ---- new

module _ (size interval : ℕ) where
  pub new_large : max_block < size → new_builder size interval ≡ refuse 8
  unfolding new_builder
  new_large h = rw (lt-ltb max_block size h)

  module _ (h : size ≤ max_block) where
    pub new_none : interval ≡ 0 → new_builder size interval ≡ refuse 8
    unfolding new_builder
    new_none k = rw (le-ltb max_block size h, eq-eqb interval 0 k)

    pub new-long : max_interval < interval → new_builder size interval ≡ refuse 8
    unfolding new_builder
    new-long k = rw (le-ltb max_block size h, ne_eqb interval 0 (omega arith), lt-ltb max_interval interval k)

    pub new-good : (interval ≡ 0 → ⊥) → interval ≤ max_interval → new_builder size interval ≡ ok (fresh size interval)
    unfolding new_builder
    new-good k l = rw (le-ltb max_block size h, ne_eqb interval 0 k, le-ltb max_interval interval l)

-- ---- state 18: whichever test fails, in whatever order they are made

pub record StateOk (b : Builder) (data_len places_len : ℕ) : Type 0 where
  pub block : b.block_size ≤ max_block
  pub some : 1 ≤ b.restart_interval
  pub few : b.restart_interval ≤ max_interval
  pub in_data : b.used ≤ data_len
  pub in_places : b.restarts ≤ places_len
  pub allowed : b.restarts ≤ max_restarts
  pub counted : b.restarts ≡ restarts_of b.counter b.restart_interval
  pub least : least_row * b.counter ≤ b.used
  pub no_rows : b.counter ≡ 0 → b.used ≡ 0
  pub last_fits : b.last_key_len ≤ max_key

-- a test of 18 adds no other answer
only : (t : Bool) {x : Res (Unit {0})} → (x ≡ ok tt) ⊎ (x ≡ refuse 18) → (guard t 18 x ≡ ok tt) ⊎ (guard t 18 x ≡ refuse 18)
only true e = inr refl
only false e = e

module _ (b : Builder) (data_len places_len : ℕ) where
  pub state-good : StateOk b data_len places_len → state_tests b data_len places_len ≡ ok tt
  unfolding state_tests
  state-good s =
      rw (
        le-ltb max_block b.block_size s.block,
        ne_eqb b.restart_interval 0 (omega (arith, s.some)),
        le-ltb max_interval b.restart_interval s.few,
        le-ltb data_len b.used s.in_data,
        le-ltb places_len b.restarts s.in_places,
        le-ltb max_restarts b.restarts s.allowed,
        eq-eqb b.restarts (restarts_of b.counter b.restart_interval) s.counted,
        le-ltb b.used (least_row * b.counter) s.least,
        nothing,
        le-ltb max_key b.last_key_len s.last_fits,
      )
    where
      nothing : (eqb b.counter 0 && ltb 0 b.used) ≡ false
      nothing = ⊎_elim (λ t. rw t.0 (le-ltb 0 b.used (omega (arith, s.no_rows t.1)))) (λ t. rw t.0) (eqb-cases b.counter 0)

  pub state-tells : (u : Unit {0}) → state_tests b data_len places_len ≡ ok u → StateOk b data_len places_len
  unfolding state_tests
  state-tells u e =
      guard-then (ltb max_block b.block_size) 18 _ u e λ t₁ e₁.
      guard-then (eqb b.restart_interval 0) 18 _ u e₁ λ t₂ e₂.
      guard-then (ltb max_interval b.restart_interval) 18 _ u e₂ λ t₃ e₃.
      guard-then (ltb data_len b.used) 18 _ u e₃ λ t₄ e₄.
      guard-then (ltb places_len b.restarts) 18 _ u e₄ λ t₅ e₅.
      guard-then (ltb max_restarts b.restarts) 18 _ u e₅ λ t₆ e₆.
      guard-then (not (eqb b.restarts (restarts_of b.counter b.restart_interval))) 18 _ u e₆ λ t₇ e₇.
      guard-then (ltb b.used (least_row * b.counter)) 18 _ u e₇ λ t₈ e₈.
      guard-then (eqb b.counter 0 && ltb 0 b.used) 18 _ u e₈ λ t₉ e₉.
      guard-then (ltb max_key b.last_key_len) 18 _ u e₉ λ t₀ e₀.
      record {
        block = ltb-false max_block b.block_size t₁;
        some = omega (arith, eqb-false b.restart_interval 0 t₂);
        few = ltb-false max_interval b.restart_interval t₃;
        in_data = ltb-false data_len b.used t₄;
        in_places = ltb-false places_len b.restarts t₅;
        allowed = ltb-false max_restarts b.restarts t₆;
        counted = eqb-true b.restarts (restarts_of b.counter b.restart_interval) (not-false (eqb b.restarts (restarts_of b.counter b.restart_interval)) t₇);
        least = ltb-false b.used (least_row * b.counter) t₈;
        no_rows = λ z. let q : ltb 0 b.used ≡ false = rw (eq-eqb b.counter 0 z) at t₉ in omega (arith, ltb-false 0 b.used q);
        last_fits = ltb-false max_key b.last_key_len t₀;
      }

  either : (state_tests b data_len places_len ≡ ok tt) ⊎ (state_tests b data_len places_len ≡ refuse 18)
  unfolding state_tests
  either =
      only (ltb max_block b.block_size)
      (only (eqb b.restart_interval 0)
      (only (ltb max_interval b.restart_interval)
      (only (ltb data_len b.used)
      (only (ltb places_len b.restarts)
      (only (ltb max_restarts b.restarts)
      (only (not (eqb b.restarts (restarts_of b.counter b.restart_interval)))
      (only (ltb b.used (least_row * b.counter))
      (only (eqb b.counter 0 && ltb 0 b.used)
      (only (ltb max_key b.last_key_len) (inl refl))))))))))

  -- a state that is not right answers 18
  pub state_bad : (StateOk b data_len places_len → ⊥) → state_tests b data_len places_len ≡ refuse 18
  state_bad h = ⊎_elim (λ e. absurd (h (state-tells tt e))) (λ e. e) either

-- ---- the fit question, adding, building

module _ (b : Builder) (key : Key) (f : Fields) where
  pub fits-empty : b.counter ≡ 0 → fits b key f ≡ true
  unfolding fits
  fits-empty h = rw (eq-eqb b.counter 0 h)

  pub fits-room : (b.counter ≡ 0 → ⊥) → grown_size b key f ≤ b.block_size → fits b key f ≡ true
  unfolding fits
  fits-room h k = rw (ne_eqb b.counter 0 h, le-leb (grown_size b key f) b.block_size k)

  pub fits_not : (b.counter ≡ 0 → ⊥) → b.block_size < grown_size b key f → fits b key f ≡ false
  unfolding fits
  fits_not h k = rw (ne_eqb b.counter 0 h, lt-leb (grown_size b key f) b.block_size k)

module _ (b : Builder) (data_len places_len : ℕ) (key : Key) (f : Fields) where
  pub fit-state : {n : ℕ} → state_tests b data_len places_len ≡ refuse n → would_fit b data_len places_len key f ≡ refuse n
  unfolding would_fit
  fit-state e = rw e

  module _ (s : state_tests b data_len places_len ≡ ok tt) where
    pub fit-lengths : {n : ℕ} → length_tests (length key) (length (value_of f)) ≡ refuse n → would_fit b data_len places_len key f ≡ refuse n
    unfolding would_fit
    fit-lengths e = rw (s, e)

    module _ (l : length_tests (length key) (length (value_of f)) ≡ ok tt) where
      pub fit-no : fits b key f ≡ false → would_fit b data_len places_len key f ≡ refuse 4
      unfolding would_fit
      fit-no e = rw (s, l, e)

      pub fit-yes : fits b key f ≡ true → would_fit b data_len places_len key f ≡ ok tt
      unfolding would_fit
      fit-yes e = rw (s, l, e)

  pub add-no : {n : ℕ} → would_fit b data_len places_len key f ≡ refuse n → add b data_len places_len key f ≡ refuse n
  unfolding add
  add-no e = rw e

  module _ (w : would_fit b data_len places_len key f ≡ ok tt) where
    pub add-far : at_restart b ≡ true → max_offset < b.used → add b data_len places_len key f ≡ refuse 5
    unfolding add
    add-far r h = rw (w, r, lt-ltb max_offset b.used h)

    module _ (near : (at_restart b && ltb max_offset b.used) ≡ false) where
      pub add-short : data_len < grown_size b key f → add b data_len places_len key f ≡ refuse 6
      unfolding add
      add-short h = rw (w, near, lt-ltb data_len (grown_size b key f) h)

      module _ (h : grown_size b key f ≤ data_len) where
        pub add-places : at_restart b ≡ true → places_len ≤ b.restarts → add b data_len places_len key f ≡ refuse 6
        unfolding add
        add-places r k = rw (w, near, le-ltb data_len (grown_size b key f) h, r, le-leb places_len b.restarts k)

        pub add-restart : at_restart b ≡ true → b.restarts < places_len → add b data_len places_len key f ≡ ok (grown b key f)
        unfolding add
        add-restart r k = rw (w, near, le-ltb data_len (grown_size b key f) h, r, lt-leb places_len b.restarts k)

        pub add-plain : at_restart b ≡ false → add b data_len places_len key f ≡ ok (grown b key f)
        unfolding add
        add-plain r = rw (w, near, le-ltb data_len (grown_size b key f) h, r)

module _ (b : Builder) (data_len places_len : ℕ) where
  pub build-state : {n : ℕ} → state_tests b data_len places_len ≡ refuse n → build b data_len places_len ≡ refuse n
  unfolding build
  build-state e = rw e

  module _ (s : state_tests b data_len places_len ≡ ok tt) where
    pub build-none : b.counter ≡ 0 → build b data_len places_len ≡ refuse 7
    unfolding build
    build-none h = rw (s, eq-eqb b.counter 0 h)

    pub build-short : (b.counter ≡ 0 → ⊥) → data_len < present_size b → build b data_len places_len ≡ refuse 6
    unfolding build
    build-short h k = rw (s, ne_eqb b.counter 0 h, lt-ltb data_len (present_size b) k)

    pub build-good : (b.counter ≡ 0 → ⊥) → present_size b ≤ data_len → build b data_len places_len ≡ ok (present_size b)
    unfolding build
    build-good h k = rw (s, ne_eqb b.counter 0 h, le-ltb data_len (present_size b) k)

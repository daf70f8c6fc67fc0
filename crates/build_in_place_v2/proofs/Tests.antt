-- The tests of the builder's code, exit by exit, by what was met on the way: of a row's fit, of its adding.
-- A row is known by what was found of it: its share is the definition's, so share and suffix make its key, its size is the count of the bytes that are laid, and the sum that is
-- compared is the grown size. Adding goes on from there with the tests of 5 and 6 alone.
use Prim.Native.Nat.{ℕ, ◌+◌, ◌*◌, ◌≤◌, ◌<◌}
use mathlib.Core.Path.{◌≡◌, refl, ap, sym, ◌∙◌}
use mathlib.Core.Bool.{Bool, true, false, ◌&&◌, ◌||◌}
use mathlib.Core.Logic.{⊎_elim}
use native.Mathlib.Omega.{arith}
use lib.Dec.{ltb, leb, eqb}
use lib.ListN.{length, drop}
use borrow.Author.Tests.{ltb-true, leb-true, leb-false}
use Rattle.layout.specs.Res.{Res, ok, refuse, bind}
use Rattle.layout.specs.Block.{share_of}
use Rattle.layout.specs.Builder.{Builder, state_tests, at_restart, next_row, grown_size, fits, would_fit, grown, add}
use Rattle.layout.specs.Key.{Key}
use Rattle.layout.specs.Limits.{max_key, max_offset, max_value}
use Rattle.layout.specs.Row.{Fields, value_of, if_so, present, row_bytes, kept_length, length_tests}
use Rattle.layout.proofs.Laws.Res.{handed, ok-inj, eqb-cases, bool_cases}
use Rattle.layout.proofs.Laws.Block.{shares-is}
use Rattle.layout.proofs.Laws.Builder.{state-tells, fits-empty, fits-room, fits_not, fit-state, fit-lengths, fit-no, fit-yes, add-no, add-far, add-short, add-places, add-restart, add-plain}
use Rattle.layout.proofs.Laws.Building.{laid_row-bytes, row_bytes-most}
use Rattle.layout.proofs.Laws.Made.{add-tells}
use Rattle.layout.proofs.Laws.Row.{length-kept}
use Rattle.layout.proofs.Laws.RowWrite.{SizeTells, size_of, size-refused, size-tells, size-bytes}
use Rattle.build_in_place_v2.specs.declared.Planned.{Planned}
use Rattle.build_in_place_v2.specs.Plan.{plan_is, plan_of, fitted, accepted}

-- no row has more bytes: three lengths of at most five, the key, number and flags, two times, the value
abbrev pub most_row : ℕ
most_row = 15 + max_key + 9 + 16 + max_value

-- ---- a row that is tested: the fit question

pub share-fits : (restart : Bool) (before key : Key) {shared : ℕ} → shared ≡ share_of restart before key → shared ≤ length key
share-fits restart before key e = omega (arith, (shares-is restart before key).own)

-- what is known of a row once its size is answered
pub record Measured (b : Builder) (data_len places_len : ℕ) (key : Key) (f : Fields) (shared : ℕ) (restart : Bool) (size : Res ℕ) : Type 0 where
  pub state : state_tests b data_len places_len ≡ ok tt
  pub mark : restart ≡ at_restart b
  pub share : shared ≡ share_of restart b.last_key_of key
  pub size_is : size_of shared (drop shared key) f ≡ size

module _ (b : Builder) (data_len places_len : ℕ) (key : Key) (f : Fields) where
  pub plan_state : {n : ℕ} → state_tests b data_len places_len ≡ refuse n → refuse n ≡ fitted b data_len places_len key f
  plan_state e = handed _ (fit-state b data_len places_len key f e)

  module _ {shared : ℕ} {restart : Bool} {size : Res ℕ} (m : Measured b data_len places_len key f shared restart size) where
    share-is : shared ≡ share_of (at_restart b) b.last_key_of key
    share-is = m.share ∙ ap (λ (t : Bool). share_of t b.last_key_of key) m.mark

    -- share and suffix make the key
    whole : shared + length (drop shared key) ≡ length key
    whole = rw share-is (shares-is (at_restart b) b.last_key_of key).whole

    pub plan_unsized : {n : ℕ} → size ≡ refuse n → refuse n ≡ fitted b data_len places_len key f
    plan_unsized q =
        let t = size-refused _ _ _ _ _ _ (m.size_is ∙ q) in
        handed _ (fit-lengths b data_len places_len key f m.state (rw (← whole, length-kept f.kind f.val) t))

    module _ {n : ℕ} (q : size ≡ ok n) where
      tells : SizeTells shared (length (drop shared key)) (kept_length f.kind (length f.val)) (present f.expire) (present f.create) n
      tells = size-tells _ _ _ _ _ _ (m.size_is ∙ q)

      tested : length_tests (length key) (length (value_of f)) ≡ ok tt
      tested = rw (← whole, length-kept f.kind f.val) tells.tested

      bytes-are : n ≡ length (row_bytes shared (drop shared key) f)
      bytes-are = size-bytes shared (drop shared key) f (m.size_is ∙ q)

      -- no sum with it wraps
      pub size_small : n ≤ most_row
      size_small = omega (arith, bytes-are, row_bytes-most shared (drop shared key) f, tells.key-small, tells.value-small, length-kept f.kind f.val)

      pub plan_past : b.block_size < b.used → refuse 4 ≡ fitted b data_len places_len key f
      plan_past h =
          let o = state-tells b data_len places_len tt m.state in
          handed _ (fit-no b data_len places_len key f m.state tested (fits_not b key f (λ z. absurd (omega (arith, o.no_rows z))) (omega arith)))

      module _ {present over : ℕ} (now : present ≡ b.used + 2 * b.restarts + 2) (more : over ≡ if_so restart 2) where
        grown-is : present + n + over ≡ grown_size b key f
        grown-is =
            let row : row_bytes shared (drop shared key) f ≡ next_row b key f = rw share-is (laid_row-bytes b.last_key_of key (at_restart b) f) in
            omega (arith, bytes-are ∙ ap length row, more ∙ ap (λ (t : Bool). if_so t 2) m.mark)

        module _ {room : Bool} (e : room ≡ (eqb b.counter 0 || leb (present + n + over) b.block_size)) where
          fits-is : fits b key f ≡ room
          fits-is =
              ⊎_elim (λ z. fits-empty b key f z.1 ∙ sym (rw z.0 at e))
              (λ z. let q : room ≡ leb (present + n + over) b.block_size = rw z.0 at e in
              ⊎_elim (λ k. fits-room b key f z.1 (rw (← grown-is) (leb-true (present + n + over) b.block_size k)) ∙ sym (q ∙ k))
              (λ k. fits_not b key f z.1 (rw (← grown-is) (leb-false (present + n + over) b.block_size k)) ∙ sym (q ∙ k))
              (bool_cases (leb (present + n + over) b.block_size)))
              (eqb-cases b.counter 0)

          pub plan_fits : room ≡ true → ok (plan_is shared (present + n + over) restart) ≡ fitted b data_len places_len key f
          plan_fits t = rw (fit-yes b data_len places_len key f m.state tested (fits-is ∙ t), grown-is, share-is, m.mark)

          pub plan_over : room ≡ false → refuse 4 ≡ fitted b data_len places_len key f
          plan_over t = handed _ (fit-no b data_len places_len key f m.state tested (fits-is ∙ t))

-- ---- a row that is tested: adding

-- an answer that was handed on under another value
pub passed-not : {A B : Type 0} (x : Res A) (g : A → B) {n : ℕ} → bind x (λ a. ok (g a)) ≡ refuse n → x ≡ refuse n
passed-not (ok a) g e = absurd (let z : ◌≡◌ {A = ℕ} 0 1 = cc in omega arith)
passed-not (refuse m) g e = cc

pub passed : {A B : Type 0} (x : Res A) (g : A → B) {q : B} → bind x (λ a. ok (g a)) ≡ ok q → (a : A) × (x ≡ ok a) × (g a ≡ q)
passed (ok a) g e = (a, refl, ok-inj e)
passed (refuse m) g e = absurd (let z : ◌≡◌ {A = ℕ} 0 1 = cc in omega arith)

both : (a b : Bool) → (a && b) ≡ true → (a ≡ true) × (b ≡ true)
both true b e = (refl, e)
both false b e = absurd (let z : ◌≡◌ {A = ℕ} 0 1 = cc in omega arith)

module _ (b : Builder) (data_len places_len : ℕ) (key : Key) (f : Fields) where
  pub accept_no : {n : ℕ} → fitted b data_len places_len key f ≡ refuse n → refuse n ≡ accepted b data_len places_len key f
  accept_no e = handed _ (add-no b data_len places_len key f (passed-not (would_fit b data_len places_len key f) (λ _. plan_of b key f) e))

  module _ {shared size : ℕ} {restart : Bool} (q : fitted b data_len places_len key f ≡ ok (plan_is shared size restart)) where
    fit : would_fit b data_len places_len key f ≡ ok tt
    fit = (passed (would_fit b data_len places_len key f) (λ _. plan_of b key f) q).1

    plan_is_lem : plan_of b key f ≡ plan_is shared size restart
    plan_is_lem = (passed (would_fit b data_len places_len key f) (λ _. plan_of b key f) q).2

    mark-is : at_restart b ≡ restart
    mark-is = ap (λ (p : Planned). p.restart) plan_is_lem

    total-is : grown_size b key f ≡ size
    total-is = ap (λ (p : Planned). p.size) plan_is_lem

    pub accept_far : (restart && ltb max_offset b.used) ≡ true → refuse 5 ≡ accepted b data_len places_len key f
    accept_far t =
        let h = both restart (ltb max_offset b.used) t in
        handed _ (add-far b data_len places_len key f fit (mark-is ∙ h.0) (ltb-true max_offset b.used h.1))

    module _ (near : (restart && ltb max_offset b.used) ≡ false) where
      close : (at_restart b && ltb max_offset b.used) ≡ false
      close = rw mark-is near

      pub accept_short : data_len < size → refuse 6 ≡ accepted b data_len places_len key f
      accept_short h = handed _ (add-short b data_len places_len key f fit close (rw total-is h))

      module _ (room : size ≤ data_len) where
        roomy : grown_size b key f ≤ data_len
        roomy = rw total-is room

        pub accept_places : (restart && leb places_len b.restarts) ≡ true → refuse 6 ≡ accepted b data_len places_len key f
        accept_places t =
            let h = both restart (leb places_len b.restarts) t in
            handed _ (add-places b data_len places_len key f fit close roomy (mark-is ∙ h.0) (leb-true places_len b.restarts h.1))

        pub accept_good : (restart && leb places_len b.restarts) ≡ false → ok (plan_is shared size restart) ≡ accepted b data_len places_len key f
        accept_good t = rw (go restart mark-is t) (ap ok (sym plan_is_lem))
          where
            go : (r : Bool) → at_restart b ≡ r → (r && leb places_len b.restarts) ≡ false → add b data_len places_len key f ≡ ok (grown b key f)
            go true e t = add-restart b data_len places_len key f fit close roomy e (leb-false places_len b.restarts t)
            go false e t = add-plain b data_len places_len key f fit close roomy e

  -- what the tests of adding found
  pub accepted-tells : {shared size : ℕ} {restart : Bool} → accepted b data_len places_len key f ≡ ok (plan_is shared size restart)
      → (add b data_len places_len key f ≡ ok (grown b key f)) × (plan_of b key f ≡ plan_is shared size restart)
  accepted-tells q =
      let p = passed (add b data_len places_len key f) (λ _. plan_of b key f) q in
      (p.1 ∙ ap ok (sym (add-tells b data_len places_len key f p.0 p.1).is), p.2)

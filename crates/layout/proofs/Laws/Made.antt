-- A builder from `new` on: `Made` says that state and buffers are those of the rows accepted so far. An accepted row keeps it, with that row at the end; so
-- no later call answers 18, there are at most 5,042 restarts, and what is built is the block of these rows.
use Rattle.std.specs.Prelude.{ℕ, ◌+◌, ◌*◌, ◌<◌, ◌≤◌, ◌≡◌, Bool, true, false, cond, ◌&&◌, List, [], ◌∷◌, ◌++◌, ltb, leb, eqb, length, take, set}
use Rattle.std.proofs.Common.{zero-le, ap₂, sym, ◌∙◌, append-nil, arith, add-zero, add-one, length-append, length-set, take-suc-set, ltb-false, leb-false}
use Rattle.std.proofs.Math.Path.{refl, ap}
use Rattle.std.proofs.lemmas.Bool.{eqb-false}
use Rattle.layout.specs.Res.{ok}
use Rattle.layout.specs.Limits.{max_key, max_value, max_block, max_interval, max_offset}
use Rattle.layout.specs.Place.{splice}
use Rattle.layout.specs.Key.{Key}
use Rattle.layout.specs.Row.{Fields, Row, value_of, if_so, key_length_tests, length_tests, Typed}
use Rattle.layout.specs.Block.{is_restart, laid_row, rows_from, offsets_from, block_rows, offsets, trailer, block_bytes}
use Rattle.layout.specs.Builder.{Builder, fresh, new_builder, restarts_of, state_tests, at_restart, next_row, present_size, grown_size, would_fit, grown, add, data_after_of, places_after_of, build, block_after_of}
use Rattle.layout.proofs.Laws.Res.{bind-then, guard-then, ok-inj}
use Rattle.layout.proofs.Laws.Tells.{key_length_tests-tells}
use Rattle.layout.proofs.Laws.Splice.{length-splice, take-splice, take-past-splice}
use Rattle.layout.specs.Laws.Block.{RowOk, AllOk, AllFit, last_key_of}
use Rattle.layout.proofs.Laws.Block.{only_if, block_rows-snoc, offsets-snoc, last_key-snoc, offsets-count, block_rows-least, offsets-few}
use Rattle.layout.proofs.Laws.Builder.{StateOk, state-good, build-good}
use Rattle.layout.proofs.Laws.Trailer.{length-trailer}
use Rattle.layout.specs.Laws.Made.{Accepted, BlockStands, Made}

-- a new builder has made nothing, whatever its buffers hold
pub made_none : (size n : ℕ) (b : Builder) (bytes places : List ℕ) → new_builder size n ≡ ok b → Made n [] b bytes places
unfolding new_builder block_rows rows_from offsets offsets_from last_key_of
made_none size n b bytes places e =
    guard-then (ltb max_block size) 8 _ b e λ t₁ e₁.
    guard-then (eqb n 0) 8 _ b e₁ λ t₂ e₂.
    guard-then (ltb max_interval n) 8 _ b e₂ λ t₃ e₃.
    let w : fresh size n ≡ b = ok-inj e₃ in
    rw (← w)
    (record {
      interval_is = refl;
      block = ltb-false max_block size t₁;
      some = omega (arith, eqb-false n 0 t₂);
      few = ltb-false max_interval n t₃;
      used-is = refl;
      restarts-are = refl;
      rows_are = refl;
      last_len_is = refl;
      last-is = refl;
      in_data = zero-le;
      in_places = zero-le;
      bytes-are = refl;
      places-are = refl;
      room = λ h. absurd (omega arith);
      rows_ok = tt;
      offsets-fit = tt;
    })

last_key-fits : (before : Key) (rs : List Row) → length before ≤ max_key → AllOk rs → length (last_key_of before rs) ≤ max_key
unfolding last_key_of
last_key-fits before [] h a = h
last_key-fits before (r ∷ rs) h a = last_key-fits r.key rs a.0.key_fits a.1

-- what is made passes 18
pub made-state : {n : ℕ} {rs : List Row} {b : Builder} {bytes places : List ℕ} → Made n rs b bytes places → StateOk b (length bytes) (length places)
made-state {n} {rs} {b} {bytes} {places} m =
    let i = m.interval_is in
    let r = m.rows_are in
    let u = m.used-is in
    record {
      block = m.block;
      some = omega (arith, m.some);
      few = omega (arith, m.few);
      in_data = m.in_data;
      in_places = m.in_places;
      allowed = omega (arith, m.restarts-are, offsets-few n rs m.rows_ok m.offsets-fit);
      counted = m.restarts-are ∙ offsets-count n rs m.some ∙ ap₂ restarts_of (sym r) (sym i);
      least = omega (arith, block_rows-least n rs);
      no_rows = λ z. u ∙ empty rs (omega arith);
      last_fits = omega (arith, m.last_len_is, last_key-fits [] rs zero-le m.rows_ok);
    }
  where
    empty : (rs : List Row) → length rs ≡ 0 → length (block_rows n rs) ≡ 0
    empty [] z = unfold block_rows rows_from in refl
    empty (x ∷ xs) z = absurd (omega arith)

-- ---- one row more

pub row_ok : (r : Row) → 1 ≤ length r.key → length r.key ≤ max_key → length (value_of r.fields) ≤ max_value → Typed r.fields → RowOk r
row_ok r some fits small t =
    record { key-some = some; key_fits = fits; fields-ok = record { value-fits = small; seq-fits = t.seq-fits; expire-fits = t.expire-fits; create-fits = t.create-fits } }

pub all_snoc : (rs : List Row) (r : Row) → AllOk rs → RowOk r → AllOk (rs ++ (r ∷ []))
all_snoc [] r a h = (h, tt)
all_snoc (x ∷ xs) r a h = (a.0, all_snoc xs r a.1 h)

pub fit_append : (xs ys : List ℕ) → AllFit xs → AllFit ys → AllFit (xs ++ ys)
fit_append [] ys a b = b
fit_append (x ∷ xs) ys a b = (a.0, fit_append xs ys a.1 b)

fit-one : (t : Bool) (o : ℕ) → (t && ltb max_offset o) ≡ false → AllFit (only_if t o)
fit-one true o e = (ltb-false max_offset o e, tt)
fit-one false o e = tt

length-only_if : (t : Bool) (o : ℕ) → length (only_if t o) ≡ if_so t 1
length-only_if true o = refl
length-only_if false o = refl

-- the places after a row
places-snoc : (t : Bool) (places : List ℕ) (k o : ℕ) → (t && leb (length places) k) ≡ false → k ≤ length places
    → (take (k + if_so t 1) (cond t (set places k o) places) ≡ take k places ++ only_if t o) × (k + if_so t 1 ≤ length (cond t (set places k o) places))
places-snoc true places k o e h =
    let l : k < length places = leb-false (length places) k e in
    (rw (add-one k) (take-suc-set places k o l), rw (length-set places k o) (omega arith))
places-snoc false places k o e h = (rw (add-zero k) (sym (append-nil (take k places))), omega arith)

pub add-tells : (b : Builder) (data_len places_len : ℕ) (key : Key) (f : Fields) (b' : Builder) → add b data_len places_len key f ≡ ok b' → Accepted b data_len places_len key f b'
unfolding add would_fit length_tests
add-tells b data_len places_len key f b' e =
    bind-then (would_fit b data_len places_len key f) _ b' e λ u w e₁.
    guard-then (at_restart b && ltb max_offset b.used) 5 _ b' e₁ λ t₁ e₂.
    guard-then (ltb data_len (grown_size b key f)) 6 _ b' e₂ λ t₂ e₃.
    guard-then (at_restart b && leb places_len b.restarts) 6 _ b' e₃ λ t₃ e₄.
    bind-then (state_tests b data_len places_len) _ u w λ u₁ w₁ w₂.
    bind-then (length_tests (length key) (length (value_of f))) _ u w₂ λ u₂ w₃ w₄.
    bind-then (key_length_tests (length key)) _ u₂ w₃ λ u₃ w₅ w₆.
    guard-then (ltb max_value (length (value_of f))) 3 _ u₂ w₆ λ t₄ w₇.
    let k = key_length_tests-tells (length key) u₃ w₅ in
    record {
      is = ok-inj e₄;
      key-some = k.0;
      key_fits = k.1;
      value-fits = ltb-false max_value (length (value_of f)) t₄;
      near = t₁;
      room = ltb-false data_len (grown_size b key f) t₂;
      place = t₃;
    }

pub made_more : (n : ℕ) (rs : List Row) (b : Builder) (bytes places : List ℕ) (r : Row) (b' : Builder) → Made n rs b bytes places → Typed r.fields
    → add b (length bytes) (length places) r.key r.fields ≡ ok b'
    → Made n (rs ++ (r ∷ [])) b' (data_after_of (ok b') b r.key r.fields bytes) (places_after_of (ok b') b places)
made_more n rs b bytes places r b' m t e = go (add-tells b (length bytes) (length places) r.key r.fields b' e)
  where
    w : List ℕ
    w = next_row b r.key r.fields

    laid : w ≡ laid_row (is_restart n (length rs)) (last_key_of [] rs) r.key r.fields
    laid = rw (m.interval_is, m.rows_are, m.last-is)

    marks : at_restart b ≡ is_restart n (length rs)
    marks = rw (m.interval_is, m.rows_are)

    grows : block_rows n (rs ++ (r ∷ [])) ≡ block_rows n rs ++ w
    grows = block_rows-snoc n rs r ∙ ap (λ (x : List ℕ). block_rows n rs ++ x) (sym laid)

    offs : offsets n (rs ++ (r ∷ [])) ≡ offsets n rs ++ only_if (at_restart b) b.used
    offs = offsets-snoc n rs r ∙ ap₂ (λ (t : Bool) (o : ℕ). offsets n rs ++ only_if t o) (sym marks) (sym m.used-is)

    go : Accepted b (length bytes) (length places) r.key r.fields b'
        → Made n (rs ++ (r ∷ [])) b' (data_after_of (ok b') b r.key r.fields bytes) (places_after_of (ok b') b places)
    go a =
        let free : b.used + length w ≤ length bytes = omega (arith, a.room) in
        let p = places-snoc (at_restart b) places b.restarts b.used a.place m.in_places in
        let long : length (splice bytes b.used w) ≡ length bytes = length-splice bytes b.used w free in
        rw (← a.is)
        (record {
          interval_is = m.interval_is;
          block = m.block;
          some = m.some;
          few = m.few;
          used-is = rw (grows, length-append (block_rows n rs) w) (ap (λ (x : ℕ). x + length w) m.used-is);
          restarts-are = rw (offs, length-append (offsets n rs) (only_if (at_restart b) b.used), length-only_if (at_restart b) b.used) (ap (λ (x : ℕ). x + if_so (at_restart b) 1) m.restarts-are);
          rows_are = rw (length-append rs (r ∷ [])) (ap (λ (x : ℕ). x + 1) m.rows_are);
          last_len_is = ap length (sym (last_key-snoc [] rs r));
          last-is = sym (last_key-snoc [] rs r);
          in_data = omega (arith, long);
          in_places = p.1;
          bytes-are = take-past-splice bytes b.used w free ∙ rw grows (ap (λ (x : List ℕ). x ++ w) m.bytes-are);
          places-are = p.0 ∙ rw offs (ap (λ (x : List ℕ). x ++ only_if (at_restart b) b.used) m.places-are);
          room = λ h. sized long a.room;
          rows_ok = all_snoc rs r m.rows_ok (row_ok r a.key-some a.key_fits a.value-fits t);
          offsets-fit = rw offs (fit_append (offsets n rs) (only_if (at_restart b) b.used) m.offsets-fit (fit-one (at_restart b) b.used a.near));
        })
      where
        twice : (t : Bool) → 2 * if_so t 1 ≡ if_so t 2
        twice true = refl
        twice false = refl

        sized : length (splice bytes b.used w) ≡ length bytes → grown_size b r.key r.fields ≤ length bytes
            → present_size (grown b r.key r.fields) ≤ length (splice bytes b.used w)
        sized long h = omega (arith, twice (at_restart b))

-- ---- what is built

pub block-stands : (bytes places rows os : List ℕ) (used count : ℕ) → used ≡ length rows → count ≡ length os → take used bytes ≡ rows → take count places ≡ os
    → used + 2 * count + 2 ≤ length bytes → BlockStands bytes places rows os used count
block-stands bytes places rows os used count u c h o fits =
    let size : length (rows ++ trailer os) ≡ used + 2 * count + 2 = rw (length-append rows (trailer os), length-trailer os) (omega arith) in
    let same : trailer (take count places) ≡ trailer os = ap trailer o in
    let long : used + length (trailer (take count places)) ≡ used + 2 * count + 2 = rw (same, length-trailer os) (omega arith) in
    let fit : used + length (trailer (take count places)) ≤ length bytes = omega arith in
    record {
      size = size;
      block =
          ap (λ (k : ℕ). take k (splice bytes used (trailer (take count places)))) (size ∙ sym long)
          ∙ take-past-splice bytes used (trailer (take count places)) fit
          ∙ ap₂ ◌++◌ h same;
      long = length-splice bytes used (trailer (take count places)) fit;
      begins = take-splice bytes used (trailer (take count places)) fit;
    }

module _ (n : ℕ) (rs : List Row) (b : Builder) (bytes places : List ℕ) (m : Made n rs b bytes places) where
  pub made-stands : present_size b ≤ length bytes → BlockStands bytes places (block_rows n rs) (offsets n rs) b.used b.restarts
  made-stands h = block-stands bytes places (block_rows n rs) (offsets n rs) b.used b.restarts m.used-is m.restarts-are m.bytes-are m.places-are h

  pub made-builds : 1 ≤ length rs
      → (build b (length bytes) (length places) ≡ ok (length (block_bytes n rs)))
      × (take (length (block_bytes n rs)) (block_after_of (ok (length (block_bytes n rs))) b bytes places) ≡ block_bytes n rs)
  unfolding block_bytes
  made-builds h =
      let w = made-stands (m.room h) in
      let ne : b.counter ≡ 0 → ⊥ = λ z. absurd (omega (arith, m.rows_are)) in
      (build-good b (length bytes) (length places) (state-good b (length bytes) (length places) (made-state m)) ne (m.room h) ∙ ap ok (sym w.size), w.block)

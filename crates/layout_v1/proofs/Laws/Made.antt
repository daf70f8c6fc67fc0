-- A builder of the earlier format from `new` on: `Made` says that state and buffers are those of the rows accepted so far. An accepted row keeps it, with that row at the end; so
-- no later call answers 18, there are at most 5,042 rows, and what is built is the block of these rows.
use Rattle.std.specs.Prelude.{ℕ, ◌+◌, ◌≤◌, ◌≡◌, refl, List, [], ◌∷◌, ◌++◌, ltb, length, take, set}
use Rattle.std.proofs.Common.{zero-le, sym, ◌∙◌, arith, add-one, length-append, length-set, take-suc-set, ltb-false, le-ltb, eq-eqb, ne_eqb}
use Rattle.std.proofs.Math.Path.{ap}
use Rattle.layout.specs.Res.{ok}
use Rattle.layout.specs.Limits.{max_key, max_block}
use Rattle.layout.specs.Place.{splice}
use Rattle.layout.specs.Key.{Key}
use Rattle.layout.specs.Row.{Row, Typed}
use Rattle.layout.proofs.Laws.Res.{guard-then, ok-inj}
use Rattle.layout.proofs.Laws.Splice.{length-splice, take-past-splice}
use Rattle.layout.specs.Laws.Block.{AllOk}
use Rattle.layout.specs.Laws.Made.{BlockStands}
use Rattle.layout.proofs.Laws.Made.{row_ok, all_snoc, fit_append, block-stands}
use Rattle.layout_v1.specs.Block.{laid_row, block_rows, offsets, block_bytes}
use Rattle.layout_v1.specs.Builder.{Builder, fresh, new_builder, shared_key, next_row, present_size, first_after, first_len_after, add, data_after_of, places_after_of, build, block_after_of}
use Rattle.layout_v1.specs.Laws.Block.{first_or}
use Rattle.layout_v1.proofs.Laws.Block.{block_rows-least, block_rows-snoc, offsets-snoc, offsets-count, rows_few}
use Rattle.layout_v1.proofs.Laws.Builder.{StateOk, state-good, Accepted, add-tells}
use Rattle.layout_v1.specs.Laws.Made.{Made}

-- a new builder has made nothing, whatever its buffers hold
pub made_none : (size : ℕ) (b : Builder) (bytes places : List ℕ) → new_builder size ≡ ok b → Made [] b bytes places
unfolding new_builder block_rows offsets
made_none size b bytes places e =
    guard-then (ltb max_block size) 8 _ b e λ t e₁.
    let w : fresh size ≡ b = ok-inj e₁ in
    rw (← w)
    (record {
      block = ltb-false max_block size t;
      used-is = refl;
      rows_are = refl;
      first_len_is = refl;
      first-is = refl;
      rows_ok = tt;
      offsets-fit = tt;
      lent = record { in_data = zero-le; in_places = zero-le; bytes-are = refl; places-are = refl; room = λ h. absurd (omega arith) };
    })

first_fits : (rs : List Row) → AllOk rs → length (first_or rs) ≤ max_key
first_fits [] a = zero-le
first_fits (r ∷ rs) a = a.0.key_fits

no_bytes : (rs : List Row) → length rs ≡ 0 → length (block_rows rs) ≡ 0
unfolding block_rows
no_bytes [] z = refl
no_bytes (x ∷ xs) z = absurd (omega arith)

build-answers : (b : Builder) (data_len places_len : ℕ) → StateOk b data_len places_len → (b.rows ≡ 0 → ⊥) → present_size b ≤ data_len → build b data_len places_len ≡ ok (present_size b)
unfolding build
build-answers b data_len places_len s some room = rw (state-good b data_len places_len s, ne_eqb b.rows 0 some, le-ltb data_len (present_size b) room)

module _ (rs : List Row) (b : Builder) (bytes places : List ℕ) (m : Made rs b bytes places) where
  -- what is made passes 18
  pub made-state : StateOk b (length bytes) (length places)
  made-state =
      let r = m.rows_are in
      let u = m.used-is in
      record {
        block = m.block;
        in_data = m.lent.in_data;
        in_places = m.lent.in_places;
        allowed = omega (arith, rows_few rs m.offsets-fit);
        least = omega (arith, block_rows-least rs);
        no_rows = λ z. u ∙ no_bytes rs (omega arith);
        first_fits = omega (arith, m.first_len_is, first_fits rs m.rows_ok);
      }

  -- a trailer after the rows makes the block of these rows
  pub made-stands : present_size b ≤ length bytes → BlockStands bytes places (block_rows rs) (offsets rs) b.used b.rows
  made-stands h = block-stands bytes places (block_rows rs) (offsets rs) b.used b.rows m.used-is (m.rows_are ∙ sym (offsets-count rs)) m.lent.bytes-are m.lent.places-are h

  pub made-builds : 1 ≤ length rs
      → (build b (length bytes) (length places) ≡ ok (length (block_bytes rs))) × (take (length (block_bytes rs)) (block_after_of (ok (length (block_bytes rs))) b bytes places) ≡ block_bytes rs)
  unfolding block_bytes
  made-builds h =
      let w = made-stands (m.lent.room h) in
      let ne : b.rows ≡ 0 → ⊥ = λ z. absurd (omega (arith, m.rows_are)) in
      (build-answers b (length bytes) (length places) made-state ne (m.lent.room h) ∙ ap ok (sym w.size), w.block)

-- ---- one row more

-- the key that it shares with, and the first key after it
first-shared : (rs : List Row) (b : Builder) → b.rows ≡ length rs → b.the_first_key ≡ first_or rs → shared_key b ≡ first_or rs
first-shared [] b n k = rw (eq-eqb b.rows 0 n)
first-shared (x ∷ xs) b n k = rw (ne_eqb b.rows 0 (λ z. absurd (omega arith))) k

first-kept : (rs : List Row) (r : Row) (b : Builder) → b.rows ≡ length rs → b.the_first_key ≡ first_or rs → b.first_key_len ≡ length (first_or rs)
    → (first_after b r.key ≡ first_or (rs ++ (r ∷ []))) × (first_len_after b r.key ≡ length (first_or (rs ++ (r ∷ []))))
first-kept [] r b n k l = rw (eq-eqb b.rows 0 n) (refl, refl)
first-kept (x ∷ xs) r b n k l = rw (ne_eqb b.rows 0 (λ z. absurd (omega arith))) (k, l)

pub made_more : (rs : List Row) (b : Builder) (bytes places : List ℕ) (r : Row) (b' : Builder) → Made rs b bytes places → Typed r.fields
    → add b (length bytes) (length places) r.key r.fields ≡ ok b'
    → Made (rs ++ (r ∷ [])) b' (data_after_of (ok b') b r.key r.fields bytes) (places_after_of (ok b') b places)
made_more rs b bytes places r b' m t e = go (add-tells b (length bytes) (length places) r.key r.fields b' e)
  where
    w : List ℕ
    w = next_row b r.key r.fields

    grows : block_rows (rs ++ (r ∷ [])) ≡ block_rows rs ++ w
    grows = block_rows-snoc rs r ∙ ap (λ (k : Key). block_rows rs ++ laid_row k r.key r.fields) (sym (first-shared rs b m.rows_are m.first-is))

    offs : offsets (rs ++ (r ∷ [])) ≡ offsets rs ++ (b.used ∷ [])
    offs = offsets-snoc rs r ∙ ap (λ (o : ℕ). offsets rs ++ (o ∷ [])) (sym m.used-is)

    go : Accepted b (length bytes) (length places) r.key r.fields b'
        → Made (rs ++ (r ∷ [])) b' (data_after_of (ok b') b r.key r.fields bytes) (places_after_of (ok b') b places)
    go a =
        let free : b.used + length w ≤ length bytes = omega (arith, a.room) in
        let long : length (splice bytes b.used w) ≡ length bytes = length-splice bytes b.used w free in
        let place = a.place in
        let k = first-kept rs r b m.rows_are m.first-is m.first_len_is in
        rw (← a.is)
        (record {
          block = m.block;
          used-is = rw (grows, length-append (block_rows rs) w) (ap (λ (x : ℕ). x + length w) m.used-is);
          rows_are = rw (length-append rs (r ∷ [])) (ap (λ (x : ℕ). x + 1) m.rows_are);
          first_len_is = k.1;
          first-is = k.0;
          rows_ok = all_snoc rs r m.rows_ok (row_ok r a.key-some a.key_fits a.value-fits t);
          offsets-fit = rw offs (fit_append (offsets rs) (b.used ∷ []) m.offsets-fit (a.near, tt));
          lent =
              record {
                in_data = omega (arith, long);
                in_places = rw (length-set places b.rows b.used) (omega arith);
                bytes-are = take-past-splice bytes b.used w free ∙ rw grows (ap (λ (x : List ℕ). x ++ w) m.lent.bytes-are);
                places-are =
                    ap (λ (n : ℕ). take n (set places b.rows b.used)) (add-one b.rows)
                    ∙ take-suc-set places b.rows b.used place
                    ∙ rw offs (ap (λ (x : List ℕ). x ++ (b.used ∷ [])) m.lent.places-are);
                room = λ h. omega (arith, long, a.room);
              };
        })

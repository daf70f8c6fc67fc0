-- The state's tests, by what its judge found, and the promise of building, from what its parts did: refused before the first write, or by the trailer's writer,
-- which leaves the buffer as it was.
use Prim.Native.Nat.{ℕ, ◌+◌, ◌*◌, ◌≤◌}
use mathlib.Core.Path.{◌≡◌, refl, ap, sym, ◌∙◌}
use mathlib.Core.Logic.{⊎_elim}
use mathlib.Core.List.{List}
use native.Mathlib.Omega.{arith}
use lib.Dec.{ltb}
use lib.ListN.{length, take}
use borrow.Author.Tests.{lt-ltb, le-ltb, eq-eqb, ne_eqb}
use Rattle.std.specs.Prelude.{Result, Ok, Err}
use Rattle.layout.specs.Res.{ok, refuse, guard}
use Rattle.layout.specs.Block.{trailer}
use Rattle.layout.specs.Limits.{max_key, max_block, max_restarts}
use Rattle.layout.proofs.Laws.Res.{ltb-cases}
use Rattle.layout_v1.specs.Row.{least_row}
use Rattle.layout_v1.specs.Builder.{Builder, state_tests, build}
use Rattle.layout_v1.proofs.Laws.Builder.{state-good, state-tells, state_bad, build-by}
use Rattle.basics.specs.Number.{number}
use Rattle.basics.specs.declared.Refusal.{Refusal}
use Rattle.basics.specs.declared.Refusal.TheVariants.{EmptyBlock, BadState}
use Rattle.buf_mut.specs.Promise.{Puts}
use Rattle.finish_in_place_v2.proofs.Ends.{trailer-put, trailer-not}
use Rattle.state_v1.specs.declared.State.{State}
use Rattle.state_v1.specs.Says.{view_from}
use Rattle.finish_in_place_v1.specs.Promise.{Ends}

-- ---- the state, where no test refuses it but perhaps the last

module _ (b : Builder) (data_len places_len : ℕ) (block : b.block_size ≤ max_block) (in_data : b.used ≤ data_len) (in_places : b.rows ≤ places_len) (allowed : b.rows ≤ max_restarts)
    (least : least_row * b.rows ≤ b.used) (first_fits : b.first_key_len ≤ max_key) where
  passed : (b.rows ≡ 0 → b.used ≡ 0) → state_tests b data_len places_len ≡ ok tt
  passed none =
      state-good b data_len places_len
      (record { block = block; in_data = in_data; in_places = in_places; allowed = allowed; least = least; no_rows = none; first_fits = first_fits })

  -- data without rows
  pub state-none : b.rows ≡ 0 → state_tests b data_len places_len ≡ guard (ltb 0 b.used) 18 (ok tt)
  state-none z =
      ⊎_elim (λ t. rw t.0 (state_bad b data_len places_len (λ o. absurd (omega (arith, o.no_rows z, t.1)))))
      (λ t. rw t.0 (passed (λ _. omega (arith, t.1))))
      (ltb-cases 0 b.used)

  pub state-some : (b.rows ≡ 0 → ⊥) → state_tests b data_len places_len ≡ ok tt
  state-some h = passed (λ z. absurd (h z))

-- ---- building

module _ (s : State) (bytes places first : List ℕ) where
  ends-not : {x : Refusal} → build (view_from s first) (length bytes) (length places) ≡ refuse (number x) → Ends (view_from s first) bytes places (Err x) bytes
  ends-not e = record { answer = sym e; bytes_after = rw e refl }

  pub ends_bad : state_tests (view_from s first) (length bytes) (length places) ≡ refuse 18 → Ends (view_from s first) bytes places (Err BadState) bytes
  ends_bad e = ends-not (build-by (view_from s first) (length bytes) (length places) e refl refl)

  module _ (state : state_tests (view_from s first) (length bytes) (length places) ≡ ok tt) where
    in_places : s.rows ≤ length places
    in_places = (state-tells (view_from s first) (length bytes) (length places) tt state).in_places

    pub ends-none : s.rows ≡ 0 → Ends (view_from s first) bytes places (Err EmptyBlock) bytes
    ends-none z = ends-not (build-by (view_from s first) (length bytes) (length places) state (eq-eqb s.rows 0 z) refl)

    -- what the trailer's writer answers is what building answers
    pub ends-put : (s.rows ≡ 0 → ⊥) → (p : Result ℕ Refusal) {bytes' : List ℕ} → Puts (trailer (take s.rows places)) bytes s.used p bytes'
        → Ends (view_from s first) bytes places p bytes'
    ends-put some (Ok n) q =
        let w = trailer-put bytes places s.used s.rows in_places q refl in
        let room = le-ltb (length bytes) (s.used + 2 * s.rows + 2) (omega (arith, w.next, w.room)) in
        let e = build-by (view_from s first) (length bytes) (length places) state (ne_eqb s.rows 0 some) room in
        record { answer = ap ok w.next ∙ sym e; bytes_after = rw e w.is }
    ends-put some (Err x) q =
        let no = trailer-not bytes places s.used s.rows in_places q refl in
        let short = lt-ltb (length bytes) (s.used + 2 * s.rows + 2) no.2 in
        let e = build-by (view_from s first) (length bytes) (length places) state (ne_eqb s.rows 0 some) short in
        rw (no.0, no.1) (ends-not e)

-- The state's tests, by what its judge found, and the promise of building, from what its parts did: refused before the first write, or by the trailer's writer,
-- which leaves the buffer as it was.
use Prim.Native.Nat.{ℕ, ◌+◌, ◌*◌, ◌≤◌, ◌<◌}
use mathlib.Core.Path.{◌≡◌, refl, ap, sym, ◌∙◌}
use mathlib.Core.Bool.{Bool, true, false, cond}
use mathlib.Core.Logic.{⊎_elim}
use native.Mathlib.Omega.{arith}
use lib.Dec.{eqb}
use lib.ListN.{length, take}
use Rattle.std.specs.Prelude.{Result, Ok, Err}
use Rattle.layout.specs.Res.{Res, ok, refuse, guard}
use Rattle.layout.specs.Block.{trailer}
use Rattle.layout.specs.Place.{splice}
use Rattle.layout.specs.Builder.{Builder, restarts_of, state_tests, build}
use Rattle.layout.specs.Limits.{max_key, max_block, max_interval, max_restarts}
use Rattle.layout.proofs.Laws.Res.{eqb-cases}
use Rattle.layout.proofs.Laws.Builder.{state-good, state-tells, build-state, build-none, build-short, build-good}
use mathlib.Core.List.{List}
use lib.Seq.{length-take-le}
use Rattle.layout.proofs.Laws.Trailer.{length-trailer}
use Rattle.basics.specs.Number.{number}
use Rattle.basics.specs.declared.Refusal.{Refusal}
use Rattle.basics.specs.declared.Refusal.TheVariants.{BufferTooSmall, EmptyBlock, BadState}
use Rattle.buf_mut.specs.Promise.{Puts}
use Rattle.buf_mut.proofs.Laws.{puts-at, puts-refused}
use Rattle.state_v2.specs.declared.State.{State}
use Rattle.state_v2.specs.Says.{view_from}
use Rattle.finish_in_place_v2.specs.Promise.{Ends}

-- ---- the state

module _ (counter used : ℕ) {n : ℕ} (e : n ≡ cond (eqb counter 0) used 0) where
  pub stray_none : n ≤ 0 → counter ≡ 0 → used ≡ 0
  stray_none h z = ⊎_elim (λ t. let q : n ≡ used = rw t.0 at e in omega arith) (λ t. absurd (t.1 z)) (eqb-cases counter 0)

  pub stray_some : 0 < n → (counter ≡ 0 → used ≡ 0) → ⊥
  stray_some h k = ⊎_elim (λ t. let q : n ≡ used = rw t.0 at e in let z = k t.1 in absurd (omega arith)) (λ t. let q : n ≡ 0 = rw t.0 at e in absurd (omega arith)) (eqb-cases counter 0)

-- a state that no test refuses
pub state-passed : (b : Builder) (data_len places_len : ℕ) → b.block_size ≤ max_block → (b.restart_interval ≡ 0 → ⊥) → b.restart_interval ≤ max_interval → b.used ≤ data_len
    → b.restarts ≤ places_len → b.restarts ≤ max_restarts → b.restarts ≡ restarts_of b.counter b.restart_interval → 12 * b.counter ≤ b.used → (b.counter ≡ 0 → b.used ≡ 0)
    → b.last_key_len ≤ max_key → state_tests b data_len places_len ≡ ok tt
state-passed b data_len places_len block some few in_data in_places allowed counted rows no_rows last_fits =
    state-good b data_len places_len
    (record {
      block = block;
      some = omega arith;
      few = few;
      in_data = in_data;
      in_places = in_places;
      allowed = allowed;
      counted = counted;
      least = rows;
      no_rows = no_rows;
      last_fits = last_fits;
    })

-- what the state's judge says, by its answer
pub state-refused : {x : Res (Unit {0})} (t : Bool) → x ≡ guard t 18 (ok tt) → t ≡ true → x ≡ refuse 18
state-refused t e q = rw q at e

pub state-taken : {x : Res (Unit {0})} (t : Bool) → x ≡ guard t 18 (ok tt) → t ≡ false → x ≡ ok tt
state-taken t e q = rw q at e

-- ---- a trailer of `count` offsets, put after `used` bytes, whatever the format: it is as long as the room that building tests

pub record Trailed (bytes places : List ℕ) (used count : ℕ) (bytes' : List ℕ) (n : ℕ) : Type 0 where
  pub is : bytes' ≡ splice bytes used (trailer (take count places))
  pub next : n ≡ used + 2 * count + 2
  pub room : n ≤ length bytes

module _ (bytes places : List ℕ) (used count : ℕ) (in_places : count ≤ length places) where
  long : used + length (trailer (take count places)) ≡ used + 2 * count + 2
  long =
      let l : length (take count places) ≡ count = length-take-le count places in_places in
      omega (arith, length-trailer (take count places), l)

  module _ {p : Result ℕ Refusal} {bytes' : List ℕ} (q : Puts (trailer (take count places)) bytes used p bytes') where
    pub trailer-put : {n : ℕ} → p ≡ Ok n → Trailed bytes places used count bytes' n
    trailer-put t =
        let w = puts-at (rw t at q) in
        record { is = w.is; next = w.next ∙ long; room = w.room }

    pub trailer-not : {x : Refusal} → p ≡ Err x → (x ≡ BufferTooSmall) × (bytes' ≡ bytes) × (length bytes < used + 2 * count + 2)
    trailer-not t =
        let no = puts-refused (rw t at q) in
        (no.0, no.1, omega (arith, long, no.2))

-- ---- building

module _ (s : State) (bytes places last : List ℕ) where
  ends-not : {x : Refusal} → build (view_from s last) (length bytes) (length places) ≡ refuse (number x) → Ends (view_from s last) bytes places (Err x) bytes
  ends-not e = record { answer = sym e; bytes_after = rw e refl }

  pub ends_bad : state_tests (view_from s last) (length bytes) (length places) ≡ refuse 18 → Ends (view_from s last) bytes places (Err BadState) bytes
  ends_bad e = ends-not (build-state (view_from s last) (length bytes) (length places) e)

  module _ (state : state_tests (view_from s last) (length bytes) (length places) ≡ ok tt) where
    in_places : s.restarts ≤ length places
    in_places = (state-tells (view_from s last) (length bytes) (length places) tt state).in_places

    pub ends-none : s.counter ≡ 0 → Ends (view_from s last) bytes places (Err EmptyBlock) bytes
    ends-none z = ends-not (build-none (view_from s last) (length bytes) (length places) state z)

    -- what the trailer's writer answers is what building answers
    pub ends-put : (s.counter ≡ 0 → ⊥) → (p : Result ℕ Refusal) {bytes' : List ℕ} → Puts (trailer (take s.restarts places)) bytes s.used p bytes'
        → Ends (view_from s last) bytes places p bytes'
    ends-put some (Ok n) q =
        let w = trailer-put bytes places s.used s.restarts in_places q refl in
        let e = build-good (view_from s last) (length bytes) (length places) state some (omega (arith, w.next, w.room)) in
        record { answer = ap ok w.next ∙ sym e; bytes_after = rw e w.is }
    ends-put some (Err x) q =
        let no = trailer-not bytes places s.used s.restarts in_places q refl in
        let e = build-short (view_from s last) (length bytes) (length places) state some no.2 in
        rw (no.0, no.1) (ends-not e)

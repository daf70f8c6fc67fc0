-- `plan_row` keeps its promise: 18, 1, 2, 3, 4, or what was found. The state's tests come first, so the first key's length is within its array; a row that passes its length tests
-- has at most `most_row` bytes and the rows before it are within the block size, so no sum wraps. Each exit is one of the fit question's.
use Prim.Native.Nat.{ℕ, ◌≤◌}
use mathlib.Core.Path.{◌≡◌, refl, ap, sym}
use mathlib.Core.List.{List}
use native.Mathlib.Omega.{arith}
use lib.ListN.{length, replicate, length-drop, length-replicate}
use Rattle.layout.specs.Res.{ok}
use Rattle.layout_v1.specs.Builder.{state_tests}
use Rattle.layout_v1.proofs.Laws.Builder.{state-tells, fit-by}
use Rattle.basics.specs.Answers.{says_same}
use Rattle.row_flags.specs.Says.{fields_from}
use Rattle.state_v1.specs.Says.{view_from}
use Rattle.finish_in_place_v2.proofs.Ends.{state-refused, state-taken}
use Rattle.build_in_place_v1.proofs.Tests.{Measured, planning-handed, share-whole, plan_unsized, plan_past, plan_first, plan_fits, plan_over, size_small, most_row}
use Rattle.build_in_place_v1.proofs.plan_row.Goals.{After-encoded_size, Else-is_bad_state}
use Rattle.build_in_place_v1.proofs.plan_row.Goals as goal

state : (c : Else-is_bad_state) → state_tests (view_from c.args.s c.args.first_key.now) c.args.data_len c.args.places_len ≡ ok tt
state c = state-taken _ (c.is_bad_state.ensures c.args.first_key.now) c.if-is_bad_state.false

-- for a value of this length, whatever its bytes are
measured : (c : After-encoded_size) (v : List ℕ) (long : length v ≡ c.args.value_len) → Measured (view_from c.args.s c.args.first_key.now) c.args.data_len c.args.places_len c.args.key.now (fields_from c.args.row v)
    c.compute_prefix-shared.result (says_same c.encoded_size.result)
measured c v long = record { state = (state-taken _ (c.is_bad_state.ensures c.args.first_key.now) c.if-is_bad_state.false); share = c.compute_prefix-shared.ensures; size_is = rw (length-drop, long) (sym c.encoded_size.ensures) }

-- no sum with its size wraps: some value has this length
small : (c : After-encoded_size) {n : ℕ} → says_same c.encoded_size.result ≡ ok n → n ≤ most_row
small c =
    let n = c.args.value_len in
    size_small _ _ _ _ _ (measured c (replicate n 0) (length-replicate {A = ℕ} n 0))

pub returns-then-is_bad_state : goal.returns-then-is_bad_state
returns-then-is_bad_state c v long = fit-by _ _ _ _ _ (state-refused _ (c.is_bad_state.ensures _) c.if-is_bad_state.true) refl refl

pub compute_prefix-shared-requires : goal.compute_prefix-shared-requires
compute_prefix-shared-requires c = omega (arith, (state-tells _ _ _ tt (state (goal.at.compute_prefix-shared-requires c).Else-is_bad_state)).first_fits)

pub encoded_size-requires : goal.encoded_size-requires
encoded_size-requires c = (share-whole _ _ c.compute_prefix-shared.ensures).0

pub returns-in_err-n : goal.returns-in_err-n
returns-in_err-n c v long = planning-handed (view_from c.args.s c.args.first_key.now) c.args.key.now (fields_from c.args.row v) _ _ c.from_residual.ensures.1 (plan_unsized _ _ _ _ _ (measured (goal.at.returns-in_err-n c).After-encoded_size v long) (ap says_same c.in_err-n.was))

pub returns-then-s : goal.returns-then-s
returns-then-s c v long = plan_past _ _ _ _ _ (measured (goal.at.returns-then-s c).After-encoded_size v long) (ap says_same c.in_ok-n.was) c.if-s.true

pub size-requires : goal.size-requires
size-requires c = let o = state-tells _ _ _ tt (state (goal.at.size-requires c).Else-is_bad_state) in (omega (arith, c.if-s.false, o.block), o.allowed)

pub overflow_add-with_row : goal.overflow_add-with_row
overflow_add-with_row c = omega (arith, c.size.ensures.1, small (goal.at.overflow_add-with_row c).After-encoded_size (ap says_same c.in_ok-n.was))

pub overflow_add-with_offset : goal.overflow_add-with_offset
overflow_add-with_offset c = omega (arith, c.size.ensures.1, small (goal.at.overflow_add-with_offset c).After-encoded_size (ap says_same c.in_ok-n.was))

pub returns-then-s-eq0 : goal.returns-then-s-eq0
returns-then-s-eq0 c v long = plan_first _ _ _ _ _ (measured (goal.at.returns-then-s-eq0 c).After-encoded_size v long) (ap says_same c.in_ok-n.was) c.size.ensures.0 c.if-s-eq0.true

pub returns-then-with_row-s : goal.returns-then-with_row-s
returns-then-with_row-s c v long = plan_fits _ _ _ _ _ (measured (goal.at.returns-then-with_row-s c).After-encoded_size v long) (ap says_same c.in_ok-n.was) c.size.ensures.0 c.if-s-eq0.false c.if-with_row-s.true

pub returns : goal.returns
returns c v long = plan_over _ _ _ _ _ (measured (goal.at.returns c).After-encoded_size v long) (ap says_same c.in_ok-n.was) c.size.ensures.0 c.if-s-eq0.false c.if-with_row-s.false

-- `find_row` keeps its promise: where a test of adding refuses, none, and else what was found. Each exit is the law of that exit in `plan_row` or `accept_row`.
use Prim.Native.Nat.{ℕ, ◌≤◌}
use mathlib.Core.Path.{◌≡◌, ap, sym, ◌∙◌}
use mathlib.Core.List.{List}
use native.Mathlib.Omega.{arith}
use lib.ListN.{length, replicate, length-drop, length-replicate}
use Rattle.layout.specs.Res.{ok}
use Rattle.layout.specs.Builder.{state_tests}
use Rattle.layout.proofs.Laws.Builder.{state-tells}
use Rattle.row_flags.specs.Says.{fields_from}
use Rattle.basics.specs.Answers.{says_same}
use Rattle.state_v2.specs.Says.{view_from}
use Rattle.build_in_place_v2.proofs.Finds.{found_none}
use Rattle.finish_in_place_v2.proofs.Ends.{state-refused, state-taken}
use Rattle.build_in_place_v2.proofs.Tests.{Measured, share-fits, plan_state, plan_unsized, plan_past, plan_fits, plan_over, size_small, accept_no, accept_far, accept_short, accept_places, accept_good, most_row}
use Rattle.build_in_place_v2.proofs.find_row.Goals.{After-entry_encoded_size, Else-is_bad_state}
use Rattle.build_in_place_v2.proofs.find_row.Goals as goal

state : (c : Else-is_bad_state) → state_tests (view_from c.args.s c.args.last_key.now) c.args.data_len c.args.places_len ≡ ok tt
state c = state-taken _ (c.is_bad_state.ensures c.args.last_key.now) c.if-is_bad_state.false

-- for a value of this length, whatever its bytes are
measured : (c : After-entry_encoded_size) (v : List ℕ) (long : length v ≡ c.args.value_len) → Measured (view_from c.args.s c.args.last_key.now) c.args.data_len c.args.places_len c.args.key.now (fields_from c.args.row v) c.shared_bytes-shared.result
    c.is_restart_point-mark.result (says_same c.entry_encoded_size.result)
measured c v long =
    record {
      state = (state-taken _ (c.is_bad_state.ensures c.args.last_key.now) c.if-is_bad_state.false);
      mark = c.is_restart_point-mark.ensures;
      share = c.shared_bytes-shared.ensures;
      size_is = rw (length-drop, long) (sym c.entry_encoded_size.ensures);
    }

-- no sum with its size wraps: some value has this length
small : (c : After-entry_encoded_size) {n : ℕ} → says_same c.entry_encoded_size.result ≡ ok n → n ≤ most_row
small c =
    let n = c.args.value_len in
    size_small _ _ _ _ _ (measured c (replicate n 0) (length-replicate {A = ℕ} n 0))

pub returns-then-is_bad_state : goal.returns-then-is_bad_state
returns-then-is_bad_state c v long = found_none (accept_no _ _ _ _ _ (sym (plan_state _ _ _ _ _ (state-refused _ (c.is_bad_state.ensures _) c.if-is_bad_state.true))))

pub is_restart_point-mark-requires : goal.is_restart_point-mark-requires
is_restart_point-mark-requires c = let o = state-tells _ _ _ tt (state (goal.at.is_restart_point-mark-requires c).Else-is_bad_state) in record { le_restart_interval = (o.some, o.few, o.allowed); restarts_value = o.counted }

pub shared_bytes-shared-requires : goal.shared_bytes-shared-requires
shared_bytes-shared-requires c = omega (arith, (state-tells _ _ _ tt (state (goal.at.shared_bytes-shared-requires c).Else-is_bad_state)).last_fits)

pub entry_encoded_size-requires : goal.entry_encoded_size-requires
entry_encoded_size-requires c = share-fits _ _ _ c.shared_bytes-shared.ensures

pub returns-in_default : goal.returns-in_default
returns-in_default c v long = found_none (accept_no _ _ _ _ _ (sym (plan_unsized _ _ _ _ _ (measured (goal.at.returns-in_default c).After-entry_encoded_size v long) (ap says_same c.in_default.is))))

pub returns-then-s : goal.returns-then-s
returns-then-s c v long = found_none (accept_no _ _ _ _ _ (sym (plan_past _ _ _ _ _ (measured (goal.at.returns-then-s c).After-entry_encoded_size v long) (ap says_same c.in-Ok.is) c.if-s.true)))

pub current_size-requires : goal.current_size-requires
current_size-requires c = (omega (arith, c.if-s.false, (state-tells _ _ _ tt (state (goal.at.current_size-requires c).Else-is_bad_state)).block), (state-tells _ _ _ tt (state (goal.at.current_size-requires c).Else-is_bad_state)).allowed)

pub overflow_add-size : goal.overflow_add-size
overflow_add-size c = omega (arith, c.current_size.ensures.1, small (goal.at.overflow_add-size c).After-entry_encoded_size (ap says_same c.in-Ok.is))

pub overflow_add-size-2 : goal.overflow_add-size-2
overflow_add-size-2 c = omega (arith, c.current_size.ensures.1, c.restart_overhead.ensures.1, small (goal.at.overflow_add-size-2 c).After-entry_encoded_size (ap says_same c.in-Ok.is))

pub returns-then-restart_too_far : goal.returns-then-restart_too_far
returns-then-restart_too_far c v long =
    let fit = plan_fits _ _ _ _ _ (measured (goal.at.returns-then-restart_too_far c).After-entry_encoded_size v long) (ap says_same c.in-Ok.is) c.current_size.ensures.0 c.restart_overhead.ensures.0 c.has_room.ensures c.if-has_room.true in
    found_none (accept_far _ _ _ _ _ (sym fit) (sym c.restart_too_far.ensures ∙ c.if-restart_too_far.true))

pub returns-then-data_len-size : goal.returns-then-data_len-size
returns-then-data_len-size c v long =
    let fit = plan_fits _ _ _ _ _ (measured (goal.at.returns-then-data_len-size c).After-entry_encoded_size v long) (ap says_same c.in-Ok.is) c.current_size.ensures.0 c.restart_overhead.ensures.0 c.has_room.ensures c.if-has_room.true in
    found_none (accept_short _ _ _ _ _ (sym fit) (sym c.restart_too_far.ensures ∙ c.if-restart_too_far.false) c.if-data_len-size.true)

pub returns-then-no_place_left : goal.returns-then-no_place_left
returns-then-no_place_left c v long =
    let fit = plan_fits _ _ _ _ _ (measured (goal.at.returns-then-no_place_left c).After-entry_encoded_size v long) (ap says_same c.in-Ok.is) c.current_size.ensures.0 c.restart_overhead.ensures.0 c.has_room.ensures c.if-has_room.true in
    found_none (accept_places _ _ _ _ _ (sym fit) (sym c.restart_too_far.ensures ∙ c.if-restart_too_far.false) c.if-data_len-size.false (sym c.no_place_left.ensures ∙ c.if-no_place_left.true))

pub returns-then-has_room : goal.returns-then-has_room
returns-then-has_room c v long =
    let fit = plan_fits _ _ _ _ _ (measured (goal.at.returns-then-has_room c).After-entry_encoded_size v long) (ap says_same c.in-Ok.is) c.current_size.ensures.0 c.restart_overhead.ensures.0 c.has_room.ensures c.if-has_room.true in
    sym (accept_good _ _ _ _ _ (sym fit) (sym c.restart_too_far.ensures ∙ c.if-restart_too_far.false) c.if-data_len-size.false (sym c.no_place_left.ensures ∙ c.if-no_place_left.false))

pub returns : goal.returns
returns c v long =
    found_none
    (accept_no _ _ _ _ _ (sym (plan_over _ _ _ _ _ (measured (goal.at.returns c).After-entry_encoded_size v long) (ap says_same c.in-Ok.is) c.current_size.ensures.0 c.restart_overhead.ensures.0 c.has_room.ensures c.if-has_room.false)))

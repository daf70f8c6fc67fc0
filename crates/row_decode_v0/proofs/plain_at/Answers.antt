-- `plain_at` keeps to the definition, which joins its tests in the code's own words, so each exit is one law of `Laws.Plain`, over the lengths as numbers.
-- The first two tests put the two lengths inside the data; the joined one puts the flags and the value's length there, before they are looked at.
use Prim.Native.Nat.{◌+◌, ◌-◌, ◌≤◌}
use mathlib.Core.Path.{◌≡◌}
use native.Mathlib.Omega.{arith}
use lib.ListN.{length}
use Rattle.layout_v1.specs.Plain.{spelt, plain_value}
use Rattle.layout_v1.proofs.Laws.Plain.{plain-short, plain-enough, plain_late, plain-starts, plain-odd, plain-room, plain_flagged, plain-good}
use Rattle.row_decode_v0.proofs.Laws.{bytes-spelt}
use Rattle.row_decode_v0.proofs.plain_at.Goals.{After-four-written, After-two-unshared, Else-end-at, Else-most-shared}
use Rattle.row_decode_v0.proofs.plain_at.Goals as goal

-- past the first two tests the row has its 17 bytes; past both reads, its two lengths
starts : (e : Else-end-at) → let a = e.args in a.at + 17 ≤ length a.s.now
starts e = let a = e.args in plain-starts a.s.now a.at a.end 0 e.if-end-s.false e.if-end-at.false

shared-is : (k : After-two-unshared) → k.two-shared.result ≡ spelt 2 k.args.s.now k.args.at
shared-is k = let h = (let a = k.args in plain-starts a.s.now a.at a.end 0 k.if-end-s.false k.if-end-at.false) in bytes-spelt 2 _ _ k.two-shared.ensures (omega arith)

unshared-is : (k : After-two-unshared) → k.two-unshared.result ≡ spelt 2 k.args.s.now (k.args.at + 2)
unshared-is k = let h = (let a = k.args in plain-starts a.s.now a.at a.end 0 k.if-end-s.false k.if-end-at.false) in bytes-spelt 2 _ _ k.two-unshared.ensures (omega arith)

room : (e : Else-most-shared) → let a = e.args in (plain_value a.at e.two-unshared.result ≤ a.end) × (a.end ≤ length a.s.now)
room e = plain-room _ _ _ _ e.if-end-s.false e.if-end-at.false _ _ (let h = (let a = e.args in plain-starts a.s.now a.at a.end 0 e.if-end-s.false e.if-end-at.false) in bytes-spelt 2 _ _ e.two-shared.ensures (omega arith)) (let h = (let a = e.args in plain-starts a.s.now a.at a.end 0 e.if-end-s.false e.if-end-at.false) in bytes-spelt 2 _ _ e.two-unshared.ensures (omega arith)) e.if-most-shared.false

written_is : (k : After-four-written) → let a = k.args in k.four-written.result ≡ spelt 4 a.s.now (plain_value a.at k.two-unshared.result - 4)
written_is k = let h = (plain-room _ _ _ _ k.if-end-s.false k.if-end-at.false _ _ (let h = (let a = k.args in plain-starts a.s.now a.at a.end 0 k.if-end-s.false k.if-end-at.false) in bytes-spelt 2 _ _ k.two-shared.ensures (omega arith)) (let h = (let a = k.args in plain-starts a.s.now a.at a.end 0 k.if-end-s.false k.if-end-at.false) in bytes-spelt 2 _ _ k.two-unshared.ensures (omega arith)) k.if-most-shared.false) in bytes-spelt 4 _ _ k.four-written.ensures (omega (arith, h.0, h.1))

pub returns-then-end-s : goal.returns-then-end-s
returns-then-end-s c = plain-short _ _ _ _ c.if-end-s.true

pub overflow_sub-end : goal.overflow_sub-end
overflow_sub-end c = plain-enough c.args.s.now 0 _ 0 c.if-end-s.false

pub returns-then-end-at : goal.returns-then-end-at
returns-then-end-at c = plain_late _ _ _ _ c.if-end-s.false c.if-end-at.true

pub overflow_add-value_at-2 : goal.overflow_add-value_at-2
overflow_add-value_at-2 c = omega (arith, starts (goal.at.overflow_add-value_at-2 c).Else-end-at, c.two-unshared.ensures.1)

pub returns-then-most-shared : goal.returns-then-most-shared
returns-then-most-shared c = plain-odd _ _ _ _ c.if-end-s.false c.if-end-at.false _ _ (shared-is (goal.at.returns-then-most-shared c).After-two-unshared) (unshared-is (goal.at.returns-then-most-shared c).After-two-unshared) c.if-most-shared.true

pub overflow_sub-value_len : goal.overflow_sub-value_len
overflow_sub-value_len c = (room (goal.at.overflow_sub-value_len c).Else-most-shared).0

pub bounds-s-value_at : goal.bounds-s-value_at
bounds-s-value_at c = let h = room (goal.at.bounds-s-value_at c).Else-most-shared in omega (arith, h.0, h.1)

pub returns-then-flags-value_len : goal.returns-then-flags-value_len
returns-then-flags-value_len c =
    plain_flagged _ _ _ _ c.if-end-s.false c.if-end-at.false _ _ (shared-is (goal.at.returns-then-flags-value_len c).After-two-unshared) (unshared-is (goal.at.returns-then-flags-value_len c).After-two-unshared) c.if-most-shared.false _ (written_is (goal.at.returns-then-flags-value_len c).After-four-written) c.if-flags-value_len.true

pub returns : goal.returns
returns c =
    plain-good _ _ _ _ c.if-end-s.false c.if-end-at.false _ _ (shared-is (goal.at.returns c).After-two-unshared) (unshared-is (goal.at.returns c).After-two-unshared) c.if-most-shared.false _ (written_is (goal.at.returns c).After-four-written) c.if-flags-value_len.false

-- `put_restart` stores a restart's offset at the next place and counts it; for any other row it leaves places and count.
-- At a restart, by what is required, the offset fits 16 bits, so the cast keeps it, and there is a place for it, so the store lies in the array and the count can't wrap.
use Prim.Native.Nat.{◌<◌}
use mathlib.Core.Path.{◌≡◌, refl}
use mathlib.Core.Bool.{false}
use native.Mathlib.Omega.{arith}
use lib.Dec.{ltb, leb}
use lib.ListN.{length}
use borrow.Author.Tests.{ltb-false, leb-false}
use Rattle.layout.specs.Limits.{max_offset}
use Rattle.build_in_place_v2.proofs.put_restart.Goals.{Then-restart}
use Rattle.build_in_place_v2.proofs.put_restart.Goals as goal

place : (c : Then-restart) → c.args.count < length c.args.restarts.now
place c =
    let h : leb (length c.args.restarts.now) c.args.count ≡ false = rw c.if-restart.true at c.requires.count_value in
    leb-false (length c.args.restarts.now) c.args.count h

pub overflow_cast-restarts : goal.overflow_cast-restarts
overflow_cast-restarts c =
    let h : ltb max_offset c.args.used ≡ false = rw c.if-restart.true at c.requires.used_value in
    omega (arith, ltb-false max_offset c.args.used h)

pub offset_bounds-restarts-count : goal.offset_bounds-restarts-count
offset_bounds-restarts-count c = omega (arith, place (goal.at.offset_bounds-restarts-count c).Then-restart)

pub bounds-restarts-count : goal.bounds-restarts-count
bounds-restarts-count c = place (goal.at.bounds-restarts-count c).Then-restart

pub overflow_add-result : goal.overflow_add-result
overflow_add-result c = omega (arith, place (goal.at.overflow_add-result c).Then-restart)

pub returns-then-restart : goal.returns-then-restart
returns-then-restart c = rw c.if-restart.true (refl, refl)

pub returns : goal.returns
returns c = rw c.if-restart.false (omega arith, refl)

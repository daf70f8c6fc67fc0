-- `compare` keeps its promise: the order of the two keys.
-- The loop's invariant: the keys from byte i on compare as the whole keys do. Each exit is one case of the order.
use mathlib.Core.Path.{◌≡◌}
use lib.ListN.{drop}
use Rattle.layout.specs.Key.{compare}
use Rattle.keys.proofs.compare.Given as goal

abbrev pub invariant-loop-i : goal.invariant-loop-i
invariant-loop-i l = compare (drop l.i l.a) (drop l.i l.b) ≡ compare l.a l.b

-- `append_whole` tests the two rooms, and writes where both are enough.
use mathlib.Core.Path.{◌≡◌, refl, ap, ◌∙◌}
use native.Mathlib.Omega.{arith}
use lib.ListN.{length}
use Prim.Native.Nat.{ℕ, ◌+◌}
use Rattle.std.specs.Prelude.{Ok}
use Rattle.journal.specs.Record.{length_of, kind_of}
use Rattle.journal_append.specs.Laws.Append.{place_short, place-most, place-good}
use Rattle.journal_append.proofs.append_whole.Goals.{After-length-n}
use Rattle.journal_append.proofs.append_whole.Goals as goal

-- the length that the code has is the record's
long : (c : After-length-n) → c.length-n.result ≡ length_of (kind_of c.args.record)
long c = c.length-n.ensures ∙ ap length_of c.kind.ensures

abbrev room : (c : After-length-n) → ℕ
room c = length c.args.buffer.now

abbrev used : (c : After-length-n) → ℕ
used c = c.args.used

abbrev size : (c : After-length-n) → ℕ
size c = length_of (kind_of c.args.record)

pub returns-then-buffer-used : goal.returns-then-buffer-used
returns-then-buffer-used c =
    record { answer = place_short (room (goal.at.returns-then-buffer-used c).After-length-n) (used (goal.at.returns-then-buffer-used c).After-length-n) (size (goal.at.returns-then-buffer-used c).After-length-n) (omega (arith, long (goal.at.returns-then-buffer-used c).After-length-n)); bytes = refl }

pub returns-then-used-n : goal.returns-then-used-n
returns-then-used-n c =
    record { answer = place-most (room (goal.at.returns-then-used-n c).After-length-n) (used (goal.at.returns-then-used-n c).After-length-n) (size (goal.at.returns-then-used-n c).After-length-n) (omega (arith, long (goal.at.returns-then-used-n c).After-length-n)) (omega (arith, long (goal.at.returns-then-used-n c).After-length-n)); bytes = refl }

pub write_record-requires : goal.write_record-requires
write_record-requires c = omega (arith, long (goal.at.write_record-requires c).After-length-n)

pub returns : goal.returns
returns c =
    record {
      answer = ap (λ (k : ℕ). Ok (used (goal.at.returns c).After-length-n + k)) (long (goal.at.returns c).After-length-n) ∙ place-good (room (goal.at.returns c).After-length-n) (used (goal.at.returns c).After-length-n) (size (goal.at.returns c).After-length-n) (omega (arith, long (goal.at.returns c).After-length-n)) (omega (arith, long (goal.at.returns c).After-length-n));
      bytes = c.write_record.ensures;
    }

-- A plain row whole: the row that is made of its numbers, and of the eight bytes of seq as they were read, is the one that the rules read.
use Rattle.std.specs.Prelude.{ℕ, ◌+◌, ◌-◌, ◌≤◌, ◌≡◌, Bool, List, length, take, drop, Some}
use Rattle.std.proofs.Common.{ap, sym, ◌∙◌, arith}
use Rattle.layout.specs.Res.{ok, bind}
use Rattle.layout.specs.Fixed.{unbig}
use Rattle.layout.specs.Place.{fixed_at}
use Rattle.layout.specs.Plain.{Plain, plain_at, span_is}
use Rattle.layout.specs.Row.{Absent}
use Rattle.layout.specs.RowRead.{RowRead, read_row, may_share, holds}
use Rattle.layout.specs.Laws.Plain.{PlainTells}
use Rattle.layout.proofs.Laws.Plain.{plain_at-tells, plain-seq, plain-read}
use Rattle.buf.specs.Promise.{or_zero}
use Rattle.row_span_v2.specs.Promise.{numbered_of}

-- a plain row with this seq
abbrev pub plain_as : List ℕ → ℕ → Plain → ℕ → RowRead
plain_as d at p v =
    record {
      start = at;
      next = p.next;
      shared = p.shared;
      suffix_at = at + 3;
      suffix_len = p.unshared;
      held = holds (at + 3 + p.unshared) p.value_len;
      seq = v;
      expire = Absent;
      create = Absent;
    }

pub plain-least : (d : List ℕ) (at end most : ℕ) (p : Plain) → Some p ≡ plain_at d at end most → (at + 12 + p.unshared ≤ p.next) × (p.next ≤ length d)
plain-least d at end most p e =
    let t = plain_at-tells d at end most (sym e) in
    (omega (arith, t.next-is), omega (arith, t.inside, t.within))

-- with the eight bytes of seq as they were read
module _ (d : List ℕ) (at end prev_len : ℕ) (restart : Bool) {most v : ℕ} (p : Plain) (m : most ≡ may_share restart prev_len) (e : Some p ≡ plain_at d at end most) (w : v ≡ or_zero (fixed_at 8 d (p.next - 9))) where
  tells : PlainTells d at end (may_share restart prev_len) p
  tells = plain_at-tells d at end (may_share restart prev_len) (sym (rw m at e))

  pub plain_row_lem : ok (plain_as d at p v) ≡ read_row d at end prev_len restart
  plain_row_lem =
      let same : v ≡ unbig (take 8 (drop (p.next - 9) d)) = w ∙ ap or_zero (plain-seq d at end prev_len restart p tells) in
      ap (λ (x : ℕ). ok (plain_as d at p x)) same ∙ plain-read d at end prev_len restart p tells

  -- and its numbers alone
  pub plain-numbered : ok (record { span = span_is p.next p.shared (at + 3) p.unshared; seq = v }) ≡ bind (read_row d at end prev_len restart) (λ r. ok (numbered_of r))
  plain-numbered = rw (← plain_row_lem)

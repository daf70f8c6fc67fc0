-- Each promise admits one outcome: two results, with the buffers that they leave, that both keep it are equal.
use Rattle.std.specs.Prelude.{ℕ, ◌≡◌, List, Result, Option, ℤ}
use Rattle.std.proofs.Common.{sym, ◌∙◌}
use Rattle.layout.specs.Row.{time_bytes}
use Rattle.basics.specs.Says.{says_time}
use Rattle.basics.specs.declared.Kind.{Kind}
use Rattle.basics.specs.declared.Refusal.{Refusal}
use Rattle.buf_mut.specs.Promise.{Puts}
use Rattle.buf_mut.specs.OneOutcome.{puts-settled}
use Rattle.row_flags.specs.declared.RowFields.{RowFields}
use Rattle.row_flags.specs.Says.{mark_bytes}
use Rattle.row_flags.specs.Promise.{Keeps, Flagged, TimeLength}

pub kept-len-settled : (kind : Kind) (n r q : ℕ) → Keeps kind n r → Keeps kind n q → r ≡ q
kept-len-settled kind n r q a b = a.0 ∙ sym b.0

pub flags-settled : (row : RowFields) (m n : ℕ) → Flagged row m → Flagged row n → m ≡ n
flags-settled row m n p q = p ∙ sym q

pub time-len-settled : (time : Option ℤ) (r q : ℕ) → TimeLength time r → TimeLength time q → r ≡ q
time-len-settled time r q a b = a.0 ∙ sym b.0

pub write-time-settled : (time : Option ℤ) (out : List ℕ) (at : ℕ) (r q : Result ℕ Refusal) (ys zs : List ℕ) → Puts (time_bytes (says_time time)) out at r ys → Puts (time_bytes (says_time time)) out at q zs
    → (r ≡ q) × (ys ≡ zs)
write-time-settled time = puts-settled (time_bytes (says_time time))

pub write-marks-settled : (row : RowFields) (out : List ℕ) (at : ℕ) (r q : Result ℕ Refusal) (ys zs : List ℕ) → Puts (mark_bytes row) out at r ys → Puts (mark_bytes row) out at q zs → (r ≡ q) × (ys ≡ zs)
write-marks-settled row = puts-settled (mark_bytes row)

-- What each public function promises: equations to the definitions of `layout`, that settle each number answered.
use Rattle.std.specs.Prelude.{ℕ, ◌≡◌, List, Result}
use Rattle.layout.specs.RowRead.{flags_at, times_at}
use Rattle.basics.specs.declared.Refusal.{Refusal}
use Rattle.row_flags_decode.specs.declared.RowFlags.{RowFlags}
use Rattle.row_flags_decode.specs.declared.Times.{Times}
use Rattle.row_flags_decode.specs.Says.{flags_from, says_flags, says_times}

abbrev pub ReadsFlags : ℕ → Result RowFlags Refusal → Type 0
ReadsFlags f r = says_flags r ≡ flags_at f

abbrev pub ReadsTimes : List ℕ → ℕ → RowFlags → Result Times Refusal → Type 0
ReadsTimes s at flags r = says_times r ≡ times_at s at (flags_from flags)

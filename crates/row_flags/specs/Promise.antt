-- What each public function promises: equations to the definitions of `layout`, that settle each number answered. Those of `write_time` and `write_marks` are `Puts` of `buf_mut`.
use Rattle.std.specs.Prelude.{ℕ, ◌≤◌, ◌≡◌, Option, ℤ}
use Rattle.layout.specs.Row.{kept_length, if_so, present, flags_of}
use Rattle.basics.specs.Says.{says_kind, says_time}
use Rattle.basics.specs.declared.Kind.{Kind}
use Rattle.row_flags.specs.declared.RowFields.{RowFields}

-- the bound follows from the equation
abbrev pub Keeps : Kind → ℕ → ℕ → Type 0
Keeps kind n r = (r ≡ kept_length (says_kind kind) n) × (r ≤ n)

abbrev pub Flagged : RowFields → ℕ → Type 0
Flagged row r = r ≡ flags_of (says_kind row.kind) (present (says_time row.expire)) (present (says_time row.create))

-- the bound follows from the equation
abbrev pub TimeLength : Option ℤ → ℕ → Type 0
TimeLength time r = (r ≡ if_so (present (says_time time)) 8) × (r ≤ 8)

-- What the fields of a row that is offered stand for in the definitions.
use Rattle.std.specs.Prelude.{List, ◌∷◌, ◌++◌, ℕ}
use Rattle.layout.specs.Row.{Fields, present, flags_of, time_bytes}
use Rattle.basics.specs.Says.{says_kind, says_time}
use Rattle.row_flags.specs.declared.RowFields.{RowFields}

-- the fields of a row that is offered with this value
abbrev pub fields_from : RowFields → List ℕ → Fields
fields_from row v = record { kind = says_kind row.kind; val = v; seq = row.seq; expire = says_time row.expire; create = says_time row.create }

-- its flags, its expire time and its create time, which stand together
abbrev pub mark_bytes : RowFields → List ℕ
mark_bytes row =
    flags_of (says_kind row.kind) (present (says_time row.expire)) (present (says_time row.create)) ∷ (time_bytes (says_time row.expire) ++ time_bytes (says_time row.create))

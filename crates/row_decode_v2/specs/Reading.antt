-- What the answers of the parts of a read say.
use Rattle.std.specs.Prelude.{Result}
use Rattle.layout.specs.Res.{Res}
use Rattle.layout.specs.RowRead.{Lengths as LengthsL, lengths_is, Body as BodyL, body_is}
use Rattle.basics.specs.Answers.{says}
use Rattle.basics.specs.Says.{says_held}
use Rattle.basics.specs.declared.Refusal.{Refusal}
use Rattle.row_flags_decode.specs.Says.{flags_from}
use Rattle.row_decode_v2.specs.declared.Lengths.{Lengths}
use Rattle.row_decode_v2.specs.declared.Body.{Body}

-- ---- the lengths, as they are written or of a key that is allowed

abbrev pub lengths_from : Lengths → LengthsL
lengths_from h = lengths_is h.shared h.unshared h.value_len h.suffix_at

abbrev pub says_lengths : Result Lengths Refusal → Res LengthsL
says_lengths = says lengths_from

-- ---- value, seq and flags

abbrev pub body_from : Body → BodyL
body_from b = body_is (says_held b.held) b.seq (flags_from b.flags) b.next

abbrev pub says_body : Result Body Refusal → Res BodyL
says_body = says body_from

-- What the private functions answer: flags that are good, and one time with the place after it.
use Rattle.std.specs.Prelude.{Bool, ℤ, Result, Option}
use Rattle.layout.specs.Res.{Res, ok}
use Rattle.layout.specs.RowRead.{Flags, flags_is, TimeAt, time_is}
use Rattle.basics.specs.Answers.{says}
use Rattle.basics.specs.Says.{says_kind, says_time}
use Rattle.basics.specs.declared.Kind.{Kind}
use Rattle.basics.specs.declared.Read.{Read}
use Rattle.basics.specs.declared.Refusal.{Refusal}

abbrev pub flags_good : Kind → Bool → Bool → Res Flags
flags_good k e c = ok (flags_is (says_kind k) e c)

abbrev pub time_from : Read (Option ℤ) → TimeAt
time_from r = time_is (says_time r.value) r.next

abbrev pub says_time_at : Result (Read (Option ℤ)) Refusal → Res TimeAt
says_time_at = says time_from

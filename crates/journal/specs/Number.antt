-- The numbers of the refusals.
use Rattle.std.specs.Prelude.{ℕ}
use Rattle.journal.specs.declared.Refusal.{Refusal}
use Rattle.journal.specs.declared.Refusal.TheVariants.{TooLong, UnknownKind, UsedPastBuffer, EndsInside, NoRoom}

abbrev pub number : Refusal → ℕ
number TooLong = 30
number (UnknownKind at) = 31
number UsedPastBuffer = 32
number EndsInside = 33
number NoRoom = 34

-- What the private functions answer.
use Rattle.std.specs.Prelude.{Result, Ok, Err, Option, Some, None}
use Rattle.basics.specs.declared.Refusal.{Refusal}
use Rattle.step_in_place_v2.specs.declared.Moved.{Moved}
use Rattle.step_in_place_v2.specs.declared.Moved.TheVariants.{Found as StepFound, Done as StepDone}
use Rattle.seek_in_place_v2.specs.declared.Found.{Found as FoundC}
use Rattle.seek_in_place_v2.specs.declared.Found.TheVariants.{Landed as FoundLanded, Done as FoundDone}
use Rattle.block_iterator_v2.specs.declared.Found.{Found}
use Rattle.block_iterator_v2.specs.declared.SeekAnswer.{SeekAnswer}
use Rattle.block_iterator_v2.specs.declared.SeekAnswer.TheVariants.{Landed, Done as SeekDone}

-- what the step over the key's bytes answers
abbrev pub answer_of : Result Moved Refusal → Result (Option Found) Refusal
answer_of (Ok (StepFound p g n r)) = Ok (Some (record { region = g; number = n; row = r }))
answer_of (Ok (StepDone p)) = Ok None
answer_of (Err r) = Err r

-- what the seek over them answers
abbrev pub answer_found : Result FoundC Refusal → Result SeekAnswer Refusal
answer_found (Ok (FoundLanded p n)) = Ok (Landed n)
answer_found (Ok (FoundDone p n)) = Ok (SeekDone n)
answer_found (Err r) = Err r

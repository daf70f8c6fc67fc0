-- What each answer says: the values, or the number of the refusal. No two say the same.
use Rattle.std.specs.Prelude.{ℕ, ◌≡◌, Result}
use Rattle.std.proofs.Common.{ap, ap₂}
use Rattle.layout.specs.Res.{Res}
use Rattle.layout.specs.RowRead.{RowRead as RowReadL}
use Rattle.layout.specs.Laws.MatchWalk.{Halt, halt_is}
use Rattle.basics.specs.Answers.{says, says-one}
use Rattle.basics.specs.declared.Refusal.{Refusal}
use Rattle.row_decode_v2.specs.Says.{row_from, row_from-one}
use Rattle.row_decode_v2.specs.declared.Row.{Row}
use Rattle.block_regions_v2.specs.Regions.{Counted, counted}
use Rattle.block_regions_v2.specs.declared.Ended.{Ended}
use Rattle.block_regions_v2.specs.declared.Stop.{Stop}

abbrev pub ended_from : Ended → Counted RowReadL
ended_from e = counted (row_from e.row) e.number

abbrev pub says_ended : Result Ended Refusal → Res (Counted RowReadL)
says_ended = says ended_from

abbrev pub stop_from : Stop → Counted Halt
stop_from s = counted (halt_is s.at s.key_len) s.number

abbrev pub says_place : Result Stop Refusal → Res (Counted Halt)
says_place = says stop_from

-- ---- one to one

ended_from-one : (a b : Ended) → ended_from a ≡ ended_from b → a ≡ b
ended_from-one a b e =
    ap₂ (λ (r : Row) (n : ℕ). record { row = r; number = n })
    (row_from-one a.row b.row (ap (λ (x : Counted RowReadL). x.what) e))
    (ap (λ (x : Counted RowReadL). x.number) e)

pub says_ended-one : (a b : Result Ended Refusal) → says_ended a ≡ says_ended b → a ≡ b
says_ended-one = says-one ended_from ended_from-one

stop_from-one : (a b : Stop) → stop_from a ≡ stop_from b → a ≡ b
stop_from-one a b e = ap (λ (h : Counted Halt). record { at = h.what.at; key_len = h.what.key_len; number = h.number }) e

pub says_place-one : (a b : Result Stop Refusal) → says_place a ≡ says_place b → a ≡ b
says_place-one = says-one stop_from stop_from-one

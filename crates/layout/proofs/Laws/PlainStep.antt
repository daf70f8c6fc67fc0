-- A plain row is a step: an ascending cursor that stands before one, and whose lent buffer holds its key, goes past it.
use Rattle.std.specs.Prelude.{ℕ, ◌+◌, ◌-◌, ◌<◌, ◌≤◌, ◌≡◌, false, List, eqb, Some}
use Rattle.std.proofs.Common.{sym, ◌∙◌, arith}
use Rattle.layout.specs.Res.{ok}
use Rattle.layout.specs.Limits.{max_key}
use Rattle.layout.specs.RowRead.{may_share, read_row, key_of}
use Rattle.layout.specs.Trailer.{Trailer, trailer_of, data_of, Region, region_of}
use Rattle.layout.specs.Plain.{Plain, plain_at, plain_read}
use Rattle.layout.specs.Number.{wrong_after}
use Rattle.layout.specs.Cursor.{ascending, Cursor, found, step_is, past_row, next}
use Rattle.layout.proofs.Laws.Trailer.{region_of-tells}
use Rattle.layout.proofs.Laws.Cursor.{next_up, up-found}
use Rattle.layout.proofs.Laws.Plain.{plain-is}

-- the row by the numbers that were met: p is what the test for a plain row gave
pub plain-reads : (d : List ℕ) (at end prev_len start : ℕ) {most : ℕ} (p : Plain) → most ≡ may_share (eqb at start) prev_len → Some p ≡ plain_at d at end most
    → read_row d at end prev_len (eqb at start) ≡ ok (plain_read d at p)
plain-reads d at end prev_len start p m e = plain-is d at end prev_len (eqb at start) (sym (rw m at e))

pub plain_step : (c : Cursor) (b : List ℕ) (room : ℕ) (t : Trailer) (g : Region) {most : ℕ} (p : Plain)
    → c.order ≡ ascending → c.done ≡ false
    → trailer_of b ≡ ok t → c.region < t.count → c.key_len ≤ max_key
    → region_of b t c.region ≡ ok g → g.start ≤ c.at → c.at < g.end → wrong_after (c.at - g.start) c.number ≡ false
    → most ≡ may_share (eqb c.at g.start) c.key_len → Some p ≡ plain_at (data_of b t) c.at g.end most
    → p.shared + p.unshared ≤ room
    → next c b room
    ≡ ok (step_is (past_row c g (plain_read (data_of b t) c.at p) (key_of (data_of b t) c.key (plain_read (data_of b t) c.at p)))
    (found c.region c.number (plain_read (data_of b t) c.at p) (key_of (data_of b t) c.key (plain_read (data_of b t) c.at p))))
plain_step c b room t g p up plain read inside few region from before right m e held =
    next_up c b room t read inside few plain up
    ∙ up-found c b t room g region from (omega (arith, (region_of-tells b t c.region g region).near)) right (λ q. absurd (omega arith))
    (plain_read (data_of b t) c.at p) (plain-reads (data_of b t) c.at g.end c.key_len g.start p m e) held

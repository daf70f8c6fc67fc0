-- What counts. "Of all records with one kind, card and retry number, only the earliest counts, whatever amounts the later ones bear; records after the card's close
-- count for nothing."
use Rattle.std.specs.Prelude.{ℕ, Bool, false, not, ◌&&◌, ◌||◌, List, [], ◌∷◌, eqb}
use Rattle.journal.specs.declared.Record.{Record}
use Rattle.journal.specs.Record.{close_kind, kind_of, card_of, retry_of}

-- one kind, card and retry number
abbrev pub alike : Record → Record → Bool
alike r q = eqb (kind_of r) (kind_of q) && (eqb (card_of r) (card_of q) && eqb (retry_of r) (retry_of q))

abbrev pub closes : ℕ → Record → Bool
closes card r = eqb (kind_of r) close_kind && eqb (card_of r) card

-- one of the records passes the test
unfoldable pub some : (Record → Bool) → List Record → Bool
some test [] = false
some test (r ∷ rs) = test r || some test rs

-- a record after those in `before`
abbrev pub counts : List Record → Record → Bool
counts before r = not (some (alike r) before) && not (some (closes (card_of r)) before)

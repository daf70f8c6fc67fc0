-- Adding keeps its promise: the words that mean nothing first, then what `add_in_place` promised of the state in the words.
-- Each exit is one law of `Rows`.
use Rattle.basics.specs.Answers.{yes}
use Rattle.row_words.proofs.Laws.{stored}
use Rattle.builder_words_v1.specs.Says.{says_offer}
use Rattle.builder_words_v1.proofs.Starts.{Offers, offer-tells}
use Rattle.slatedb_block_v1.proofs.Rows.{adds_bad, adds-good, adds-refused}
use Rattle.slatedb_block_v1.proofs.slatedb_v1_builder_add.Goals.{In-Some}
use Rattle.slatedb_block_v1.proofs.slatedb_v1_builder_add.Goals as goal

-- what the words tell
offered : (k : In-Some) → let s = k.args in Offers s.builder.now s.first_key.now s.fields.now s.value.now k.in-Some.offer.state k.in-Some.offer.row
offered k =
    let s = k.args in
    offer-tells s.builder.now s.first_key.now s.fields.now s.value.now _ _ (yes (says_offer s.first_key.now s.value.now) (k.offer_in.ensures s.value.now) k.in-Some.is)

pub returns-in_default : goal.returns-in_default
returns-in_default c =
    let s = c.args in
    adds_bad s.builder.now s.first_key.now _ _ s.key.now s.value.now s.fields.now (yes (says_offer s.first_key.now s.value.now) (c.offer_in.ensures s.value.now) c.in_default.is)

pub returns-in-Ok : goal.returns-in-Ok
returns-in-Ok c =
    let s = c.args in
    let o = offered (goal.at.returns-in-Ok c).In-Some in
    adds-good s.builder.now s.first_key.now _ _ s.key.now s.value.now s.fields.now c.in-Some.offer.row o.count o.long o.fields _ _ _ _ (rw o.state at c.add_in_place-grown.ensures) c.in-Ok.is (stored o.count c.put_state.ensures)

pub returns-in-Err : goal.returns-in-Err
returns-in-Err c =
    let s = c.args in
    let o = offered (goal.at.returns-in-Err c).In-Some in
    adds-refused s.builder.now s.first_key.now _ _ s.key.now s.value.now s.fields.now c.in-Some.offer.row o.count o.long o.fields _ _ _ _ (rw o.state at c.add_in_place-grown.ensures) c.in-Err.is c.from.ensures

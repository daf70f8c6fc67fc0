-- Adding by value keeps the promise of adding in place: the method gives back a whole builder, whose words and key bytes are put back.
-- Each exit is one law of `Adds` or `Laws`.
use Rattle.basics.specs.Answers.{yes}
use Rattle.builder_words.specs.Says.{says_offer}
use Rattle.by_value_words.proofs.Laws.{over-whole}
use Rattle.builder_words.proofs.Starts.{Offers, offer-tells}
use Rattle.builder_words.proofs.Adds.{adds_bad}
use Rattle.compare_by_value.proofs.Laws.{adds-good, adds-turned-down}
use Rattle.compare_by_value.proofs.slatedb_builder_add_by_value.Goals.{In-Some}
use Rattle.compare_by_value.proofs.slatedb_builder_add_by_value.Goals as goal

-- what the words tell
offered : (k : In-Some) → let s = k.args in Offers s.builder.now s.last_key.now s.fields.now s.value.now k.in-Some.offer.state k.in-Some.offer.row
offered k =
    let s = k.args in
    offer-tells s.builder.now s.last_key.now s.fields.now s.value.now _ _ (yes (says_offer s.last_key.now s.value.now) (k.offer_in.ensures s.value.now) k.in-Some.is)

pub returns-in_default : goal.returns-in_default
returns-in_default c =
    let s = c.args in
    adds_bad s.builder.now s.last_key.now _ _ s.key.now s.value.now s.fields.now (yes (says_offer s.last_key.now s.value.now) (c.offer_in.ensures s.value.now) c.in_default.is)

pub put_added-requires : goal.put_added-requires
put_added-requires c =
    ((offered (goal.at.put_added-requires c).In-Some).six, (offered (goal.at.put_added-requires c).In-Some).long)

pub returns-in-Ok : goal.returns-in-Ok
returns-in-Ok c =
    let o = offered (goal.at.returns-in-Ok c).In-Some in
    adds-good c.args.builder.now c.args.last_key.now _ _ c.args.key.now c.args.value.now c.args.fields.now c.in-Some.offer.row o.six o.long o.fields _ _ _ (rw (over-whole c.args.last_key.now o.long o.state c.builder_over-before.ensures) at c.add-added.ensures) c.in-Ok.is c.put_added.ensures.words c.put_added.ensures.bytes

pub returns-in-Err : goal.returns-in-Err
returns-in-Err c =
    let o = offered (goal.at.returns-in-Err c).In-Some in
    adds-turned-down c.args.builder.now c.args.last_key.now _ _ c.args.key.now c.args.value.now c.args.fields.now c.in-Some.offer.row o.six o.long o.fields _ _ _ (rw (over-whole c.args.last_key.now o.long o.state c.builder_over-before.ensures) at c.add-added.ensures) c.in-Err.is c.from.ensures

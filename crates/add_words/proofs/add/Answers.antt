-- Adding in place keeps its promise: the words that mean nothing first, then what `add_in_place` promised of the state in the words.
-- Each exit is one law of `Adds` or `Rows`.
use Rattle.basics.specs.Answers.{yes}
use Rattle.builder_words.specs.Says.{says_offer}
use Rattle.builder_words.proofs.Starts.{Offers, offer-tells}
use Rattle.builder_words.proofs.Adds.{adds_bad}
use Rattle.add_words.proofs.Rows.{adds-put}
use Rattle.add_words.proofs.add.Goals.{In-Some}
use Rattle.add_words.proofs.add.Goals as goal

-- what the words tell
offered : (k : In-Some) → let s = k.args in Offers s.builder.now s.last_key.now s.fields.now s.value.now k.in-Some.offer.state k.in-Some.offer.row
offered k =
    let s = k.args in
    offer-tells s.builder.now s.last_key.now s.fields.now s.value.now _ _ (yes (says_offer s.last_key.now s.value.now) (k.offer_in.ensures s.value.now) k.in-Some.is)

pub returns-in_default : goal.returns-in_default
returns-in_default c =
    let s = c.args in
    adds_bad s.builder.now s.last_key.now _ _ s.key.now s.value.now s.fields.now (yes (says_offer s.last_key.now s.value.now) (c.offer_in.ensures s.value.now) c.in_default.is)

pub put_grown-requires : goal.put_grown-requires
put_grown-requires c = (offered (goal.at.put_grown-requires c).In-Some).six

pub returns : goal.returns
returns c =
    let s = c.args in
    let o = offered (goal.at.returns c).In-Some in
    adds-put s.builder.now s.last_key.now _ _ s.key.now s.value.now s.fields.now c.in-Some.offer.row o.six o.long o.fields _ _ _ _ (rw o.state at c.add_in_place-grown.ensures) c.put_grown.ensures

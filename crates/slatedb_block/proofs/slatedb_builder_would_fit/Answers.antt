-- The fit question keeps its promise: the words that mean nothing first, then what `would_fit_in_place` promised of the builder in the words.
-- Each exit is one law of `Rows`.
use mathlib.Core.Path.{◌≡◌}
use Rattle.layout.specs.Res.{ok}
use Rattle.basics.specs.Answers.{yes}
use Rattle.row_flags.specs.Says.{fields_from}
use Rattle.state_v2.specs.Says.{view_from}
use Rattle.builder_words.specs.Says.{gain_is, says_offer}
use Rattle.builder_words.specs.Promise.{offer_in}
use Rattle.slatedb_block.proofs.Rows.{fits_bad, fits-yes, fits_refused}
use Rattle.slatedb_block.proofs.slatedb_builder_would_fit.Goals.{In-Some}
use Rattle.slatedb_block.proofs.slatedb_builder_would_fit.Goals as goal

offered : (k : In-Some) → let s = k.args in
    offer_in s.builder.now s.last_key.now s.fields.now s.value.now ≡ ok (gain_is (view_from k.in-Some.offer.state s.last_key.now) (fields_from k.in-Some.offer.row s.value.now))
offered k =
    let s = k.args in
    yes (says_offer s.last_key.now s.value.now) (k.offer_in.ensures s.value.now) k.in-Some.is

pub returns-in_default : goal.returns-in_default
returns-in_default c =
    let s = c.args in
    fits_bad s.builder.now s.last_key.now _ _ s.key.now s.value.now s.fields.now (yes (says_offer s.last_key.now s.value.now) (c.offer_in.ensures s.value.now) c.in_default.is)

pub returns-in-Ok : goal.returns-in-Ok
returns-in-Ok c =
    let s = c.args in
    fits-yes s.builder.now s.last_key.now _ _ s.key.now s.value.now s.fields.now c.in-Some.offer.state c.in-Some.offer.row _ (offered (goal.at.returns-in-Ok c).In-Some) c.would_fit_in_place-fit.ensures c.in-Ok.is

pub returns-in-Err : goal.returns-in-Err
returns-in-Err c =
    let s = c.args in
    fits_refused s.builder.now s.last_key.now _ _ s.key.now s.value.now s.fields.now c.in-Some.offer.state c.in-Some.offer.row _ (offered (goal.at.returns-in-Err c).In-Some) c.would_fit_in_place-fit.ensures c.in-Err.is c.from.ensures

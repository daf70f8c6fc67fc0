-- `offer_in` keeps its promise: its tests are the definition's, in its order; past them the numbers are those in the words and the fields those that `fields_in` loaded.
use mathlib.Core.Path.{◌≡◌, sym}
use lib.ListN.{length}
use Rattle.row_words.specs.Words.{builder_count}
use Rattle.builder_words.proofs.Laws.{state-none, state-counts, state-is}
use Rattle.builder_words.proofs.Starts.{offer-short, offer-no-key, offer-no-row, offer-so}
use Rattle.builder_words.proofs.offer_in.Goals.{In_ok-state}
use Rattle.builder_words.proofs.offer_in.Goals as goal

six-words : (w : In_ok-state) → length w.args.builder.now ≡ builder_count
six-words w = state-counts w.args.builder.now w.in_ok-state.ensures

pub returns-in_err-state : goal.returns-in_err-state
returns-in_err-state c =
    let s = c.args in
    λ value. rw c.from_residual.ensures (offer-short s.builder.now s.last_key.now s.fields.now value (state-none s.builder.now c.in_err-state.ensures))

pub returns-then-last_key-ne-MAX_KEY : goal.returns-then-last_key-ne-MAX_KEY
returns-then-last_key-ne-MAX_KEY c =
    let s = c.args in
    λ value. offer-no-key s.builder.now s.last_key.now s.fields.now value (six-words (goal.at.returns-then-last_key-ne-MAX_KEY c).In_ok-state) c.if-last_key-ne-MAX_KEY.true

pub returns-in_err-row : goal.returns-in_err-row
returns-in_err-row c =
    let s = c.args in
    λ value.
    rw c.from_residual-in_err-row.ensures
    (offer-no-row s.builder.now s.last_key.now s.fields.now value (six-words (goal.at.returns-in_err-row c).In_ok-state) c.if-last_key-ne-MAX_KEY.false
    (sym (c.in_err-row.ensures value)))

pub returns : goal.returns
returns c =
    let s = c.args in
    λ value.
    offer-so s.builder.now s.last_key.now s.fields.now value c.in_ok-state.state c.in_ok-row.row
    (state-is s.builder.now c.in_ok-state.ensures) (six-words (goal.at.returns c).In_ok-state) c.if-last_key-ne-MAX_KEY.false
    (sym (c.in_ok-row.ensures value))

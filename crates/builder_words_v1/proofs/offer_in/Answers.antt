-- `offer_in` keeps its promise: its tests are the definition's, in its order; past them the numbers are those in the words and the fields those that `fields_in` loaded.
use mathlib.Core.Path.{◌≡◌, sym}
use lib.ListN.{length}
use Rattle.builder_words_v1.specs.Words.{builder_count}
use Rattle.builder_words_v1.proofs.Laws.{state-none, state-counts, state-is}
use Rattle.builder_words_v1.proofs.Starts.{offer-short, offer-no-key, offer-no-row, offer-so}
use Rattle.builder_words_v1.proofs.offer_in.Goals.{In_ok-state}
use Rattle.builder_words_v1.proofs.offer_in.Goals as goal

counted_words : (w : In_ok-state) → length w.args.builder.now ≡ builder_count
counted_words w = state-counts w.args.builder.now w.in_ok-state.ensures

pub returns-in_err-state : goal.returns-in_err-state
returns-in_err-state c =
    let s = c.args in
    λ value. rw c.from_residual.ensures (offer-short s.builder.now s.first_key.now s.fields.now value (state-none s.builder.now c.in_err-state.ensures))

pub returns-then-first_key-ne-MAX_KEY : goal.returns-then-first_key-ne-MAX_KEY
returns-then-first_key-ne-MAX_KEY c =
    let s = c.args in
    λ value. offer-no-key s.builder.now s.first_key.now s.fields.now value (counted_words (goal.at.returns-then-first_key-ne-MAX_KEY c).In_ok-state) c.if-first_key-ne-MAX_KEY.true

pub returns-in_err-row : goal.returns-in_err-row
returns-in_err-row c =
    let s = c.args in
    λ value.
    rw c.from_residual-in_err-row.ensures
    (offer-no-row s.builder.now s.first_key.now s.fields.now value (counted_words (goal.at.returns-in_err-row c).In_ok-state) c.if-first_key-ne-MAX_KEY.false
    (sym (c.in_err-row.ensures value)))

pub returns : goal.returns
returns c =
    let s = c.args in
    λ value.
    offer-so s.builder.now s.first_key.now s.fields.now value c.in_ok-state.state c.in_ok-row.row
    (state-is s.builder.now c.in_ok-state.ensures) (counted_words (goal.at.returns c).In_ok-state) c.if-first_key-ne-MAX_KEY.false
    (sym (c.in_ok-row.ensures value))

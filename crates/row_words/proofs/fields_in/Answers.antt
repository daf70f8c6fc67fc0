-- Six words are a row's fields exactly when the definition says so, whatever value is offered with them.
-- Each exit is one law of `fields_in`: the number of words, the kind, the two times, and good fields.
use mathlib.Core.Path.{refl, sym}
use Rattle.row_words.specs.Words.{word_at}
use Rattle.row_words.proofs.Fields.{fields-short, fields-no-kind, fields-no-expire, fields-no-create, fields-loaded}
use Rattle.row_words.proofs.fields_in.Goals as goal

pub returns-then-words-ne-FIELDS_WORDS : goal.returns-then-words-ne-FIELDS_WORDS
returns-then-words-ne-FIELDS_WORDS c = fields-short c.args.words.now c.if-words-ne-FIELDS_WORDS.true

pub returns-in_err-kind : goal.returns-in_err-kind
returns-in_err-kind c = rw c.from_residual.ensures (fields-no-kind c.args.words.now c.if-words-ne-FIELDS_WORDS.false (sym c.in_err-kind.ensures))

pub returns-in_err-expire : goal.returns-in_err-expire
returns-in_err-expire c =
    rw c.from_residual-in_err-expire.ensures (fields-no-expire c.args.words.now c.if-words-ne-FIELDS_WORDS.false (sym c.in_ok-kind.ensures) (sym c.in_err-expire.ensures))

pub returns-in_err-create : goal.returns-in_err-create
returns-in_err-create c =
    rw c.from_residual-in_err-create.ensures (fields-no-create c.args.words.now c.if-words-ne-FIELDS_WORDS.false (sym c.in_ok-kind.ensures) (sym c.in_ok-expire.ensures) (sym c.in_err-create.ensures))

pub returns : goal.returns
returns c =
    fields-loaded c.args.words.now c.if-words-ne-FIELDS_WORDS.false (record { kind = c.in_ok-kind.kind; seq = word_at c.args.words.now 1; expire = c.in_ok-expire.expire; create = c.in_ok-create.create }) (sym c.in_ok-kind.ensures) (sym c.in_ok-expire.ensures) (sym c.in_ok-create.ensures) refl

-- Encoding keeps its promise: the fields' words first, then what `encode` promised of these fields.
-- Each exit is one law of `Rows`.
use mathlib.Core.Path.{◌≡◌}
use Rattle.layout.specs.Res.{ok}
use Rattle.basics.specs.Answers.{yes}
use Rattle.row_flags.specs.Says.{fields_from}
use Rattle.row_words.specs.Words.{fields_in}
use Rattle.row_words.specs.Says.{says_fields}
use Rattle.slatedb_block.proofs.Rows.{encodes_bad, encodes-good, encodes-refused}
use Rattle.slatedb_block.proofs.slatedb_encode.Goals.{In-Some}
use Rattle.slatedb_block.proofs.slatedb_encode.Goals as goal

fields_read : (k : In-Some) → fields_in k.args.fields.now k.args.value.now ≡ ok (fields_from k.in-Some.row k.args.value.now)
fields_read k = yes (says_fields k.args.value.now) (k.fields_in.ensures k.args.value.now) k.in-Some.is

pub returns-in_default : goal.returns-in_default
returns-in_default c =
    encodes_bad _ _ _ c.args.value.now c.args.fields.now _ _ (yes (says_fields c.args.value.now) (c.fields_in.ensures c.args.value.now) c.in_default.is)

pub returns-in-Ok : goal.returns-in-Ok
returns-in-Ok c =
    encodes-good _ _ _ c.args.value.now c.args.fields.now _ _ c.in-Some.row _ _ (fields_read (goal.at.returns-in-Ok c).In-Some) c.encode.ensures c.in-Ok.is

pub returns-in-Err : goal.returns-in-Err
returns-in-Err c =
    encodes-refused _ _ _ c.args.value.now c.args.fields.now _ _ c.in-Some.row _ _ (fields_read (goal.at.returns-in-Err c).In-Some) c.encode.ensures c.in-Err.is c.from.ensures

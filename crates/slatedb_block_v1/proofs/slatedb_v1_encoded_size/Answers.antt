-- A row's size keeps its promise: the fields' words first, then what `encoded_size` promised of these fields, of which the value is not asked.
-- Each exit is one law of `Rows`.
use mathlib.Core.List.{[]}
use Rattle.basics.specs.Answers.{yes}
use Rattle.row_words.specs.Says.{says_fields}
use Rattle.slatedb_block_v1.proofs.Rows.{sizes_bad, sizes-good, sizes-refused}
use Rattle.slatedb_block_v1.proofs.slatedb_v1_encoded_size.Goals as goal

pub returns-in_default : goal.returns-in_default
returns-in_default c = sizes_bad _ _ _ c.args.fields.now _ (yes (says_fields []) (c.fields_in.ensures []) c.in_default.is)

pub returns-in-Ok : goal.returns-in-Ok
returns-in-Ok c =
    sizes-good _ _ _ c.args.fields.now _ c.in-Some.row _ (yes (says_fields []) (c.fields_in.ensures []) c.in-Some.is) c.encoded_size-sized.ensures c.in-Ok.is

pub returns-in-Err : goal.returns-in-Err
returns-in-Err c =
    sizes-refused _ _ _ c.args.fields.now _ c.in-Some.row _ (yes (says_fields []) (c.fields_in.ensures []) c.in-Some.is) c.encoded_size-sized.ensures c.in-Err.is c.from.ensures

-- A key read alone keeps its promise: the number of words and the restart's word first, then the places that `decode_key_only` promised.
-- Each exit is one law.
use Rattle.basics.specs.Answers.{yes}
use Rattle.row_words.specs.Says.{says_truth}
use Rattle.compare_parts.proofs.Laws.{key-short, key-no_truth, key-good, key-refused}
use Rattle.compare_parts.proofs.slatedb_decode_key.Goals as goal

pub returns-then-words-ne-KEY_WORDS : goal.returns-then-words-ne-KEY_WORDS
returns-then-words-ne-KEY_WORDS c =
    key-short _ _ _ _ c.args.restart c.args.words.now c.if-words-ne-KEY_WORDS.true

pub returns-in_default : goal.returns-in_default
returns-in_default c =
    key-no_truth _ _ _ _ c.args.restart c.args.words.now c.if-words-ne-KEY_WORDS.false (yes says_truth c.truth_in.ensures c.in_default.is)

pub returns-in-Err : goal.returns-in-Err
returns-in-Err c =
    key-refused _ _ _ _ c.args.restart c.args.words.now _ _ c.if-words-ne-KEY_WORDS.false (yes says_truth c.truth_in.ensures c.in-Some.is) c.decode_key_only.ensures c.in-Err.is c.from.ensures

pub returns-in-Ok : goal.returns-in-Ok
returns-in-Ok c =
    key-good _ _ _ _ c.args.restart c.args.words.now _ _ c.if-words-ne-KEY_WORDS.false (yes says_truth c.truth_in.ensures c.in-Some.is) c.decode_key_only.ensures c.in-Ok.is

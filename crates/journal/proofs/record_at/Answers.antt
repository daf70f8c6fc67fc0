-- `record_at` tests 30 first.
use Rattle.journal.specs.Record.{record_at}
use borrow.Author.Tests.{lt-ltb, le-ltb}
use Rattle.journal.proofs.record_at.Goals as goal

pub returns-then-journal-gt-MAX_JOURNAL : goal.returns-then-journal-gt-MAX_JOURNAL
unfolding record_at
returns-then-journal-gt-MAX_JOURNAL c = rw (lt-ltb _ _ c.if-journal-gt-MAX_JOURNAL.true)

pub returns : goal.returns
unfolding record_at
returns c = rw (le-ltb _ _ c.if-journal-gt-MAX_JOURNAL.false) c.found_in.ensures

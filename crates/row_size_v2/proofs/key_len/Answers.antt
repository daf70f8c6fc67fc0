-- `key_len` answers the full key's length, tested: each exit is one of the tests. The first two, of each length by itself, keep the sum from
-- wrapping; either is a key over its limit.
use native.Mathlib.Omega.{arith}
use Rattle.row_size_v2.proofs.Writes.{no_key_lem, long-key, some_key}
use Rattle.row_size_v2.proofs.key_len.Goals as goal

pub returns-then-shared-gt-MAX_KEY : goal.returns-then-shared-gt-MAX_KEY
returns-then-shared-gt-MAX_KEY c = long-key _ (omega arith)

pub returns-then-suffix_len-gt-MAX_KEY : goal.returns-then-suffix_len-gt-MAX_KEY
returns-then-suffix_len-gt-MAX_KEY c = long-key _ (omega arith)

pub returns-then-len-eq0 : goal.returns-then-len-eq0
returns-then-len-eq0 c = no_key_lem _ c.if-len-eq0.true

pub returns-then-len-gt-MAX_KEY : goal.returns-then-len-gt-MAX_KEY
returns-then-len-gt-MAX_KEY c = long-key _ c.if-len-gt-MAX_KEY.true

pub returns : goal.returns
returns c = some_key _ c.if-len-eq0.false c.if-len-gt-MAX_KEY.false

-- `grow` keeps its promise: the row passed all tests, so its offset fits two bytes and has a place, it has room in the data, and its key fits the first key's bytes.
-- The three writes are what the definition says that they are.
use native.Mathlib.Omega.{arith}
use lib.ListN.{length}
use Rattle.layout_v1.specs.Builder.{grown}
use Rattle.state_v1.specs.Says.{view_from}
use Rattle.row_flags.specs.Says.{fields_from}
use Rattle.layout_v1.proofs.Laws.Builder.{Accepted}
use Rattle.build_in_place_v1.proofs.Writes.{tells, tested-fits, grew}
use Rattle.build_in_place_v1.proofs.grow.Goals.{Start}
use Rattle.build_in_place_v1.proofs.grow.Goals as goal

accepted : (c : Start)
    → let a = c.args in Accepted (view_from a.s a.first_key.now) (length a.data.now) (length a.offsets.now) a.key.now (fields_from a.row a.value.now)
    (grown (view_from a.s a.first_key.now) a.key.now (fields_from a.row a.value.now))
accepted c = let a = c.args in tells a.s a.first_key.now a.data.now a.offsets.now a.key.now (fields_from a.row a.value.now) c.requires.tested

pub overflow_cast-offsets : goal.overflow_cast-offsets
overflow_cast-offsets c = omega (arith, (accepted (goal.at.overflow_cast-offsets c).Start).near)

pub offset_bounds-offsets-rows : goal.offset_bounds-offsets-rows
offset_bounds-offsets-rows c = omega (arith, (accepted (goal.at.offset_bounds-offsets-rows c).Start).place)

pub bounds-offsets-rows : goal.bounds-offsets-rows
bounds-offsets-rows c = (accepted (goal.at.bounds-offsets-rows c).Start).place

pub write_row-used-requires : goal.write_row-used-requires
write_row-used-requires c = let a = c.args in tested-fits a.s a.first_key.now a.data.now a.offsets.now a.key.now (fields_from a.row a.value.now) c.requires.tested

pub keep_first-first_key_len-requires : goal.keep_first-first_key_len-requires
keep_first-first_key_len-requires c = omega (arith, (accepted (goal.at.keep_first-first_key_len-requires c).Start).key_fits, c.requires.first_key_len)

pub overflow_add-result : goal.overflow_add-result
overflow_add-result c = omega (arith, (accepted (goal.at.overflow_add-result c).Start).state.allowed)

pub returns : goal.returns
returns c = let a = c.args in grew a.s a.first_key.now a.data.now a.offsets.now a.key.now (fields_from a.row a.value.now) c.requires.tested c.write_row-used.ensures c.keep_first-first_key_len.ensures

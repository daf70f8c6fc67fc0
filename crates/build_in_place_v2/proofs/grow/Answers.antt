-- `grow` keeps its promise: the row passed all tests, so it has room in the data, its offset a place, and its key fits the last key's bytes, over which its suffix is put where the
-- bytes that it shares end. The three writes are what the definition says that they are.
use native.Mathlib.Omega.{arith}
use Rattle.row_flags.specs.Says.{fields_from}
use Rattle.build_in_place_v2.proofs.Writes.{tested-fits, tested-near, tested-place, tested-rows, grew}
use Rattle.build_in_place_v2.proofs.grow.Goals as goal

pub write_row-used-requires : goal.write_row-used-requires
write_row-used-requires c =
    let a = c.args in
    tested-fits a.s a.last_key.now a.data.now a.restarts.now a.key.now (fields_from a.row a.value.now) c.requires.tested

pub put_restart-count-requires : goal.put_restart-count-requires
put_restart-count-requires c =
    let a = c.args in
    let t = c.requires.tested in
    record { used_value = tested-near a.s a.last_key.now a.data.now a.restarts.now a.key.now (fields_from a.row a.value.now) t; count_value = tested-place a.s a.last_key.now a.data.now a.restarts.now a.key.now (fields_from a.row a.value.now) t }

pub slice_bounds-copy_in-count : goal.slice_bounds-copy_in-count
slice_bounds-copy_in-count c =
    let a = c.args in
    (tested-fits a.s a.last_key.now a.data.now a.restarts.now a.key.now (fields_from a.row a.value.now) c.requires.tested).own

pub slice_bounds-copy_in-start : goal.slice_bounds-copy_in-start
slice_bounds-copy_in-start c =
    let a = c.args in
    omega (arith, (tested-fits a.s a.last_key.now a.data.now a.restarts.now a.key.now (fields_from a.row a.value.now) c.requires.tested).own)

pub overflow_add-result : goal.overflow_add-result
overflow_add-result c =
    let a = c.args in
    omega (arith, tested-rows a.s a.last_key.now a.data.now a.restarts.now a.key.now (fields_from a.row a.value.now) c.requires.tested)

pub returns : goal.returns
returns c =
    let a = c.args in
    grew a.s a.last_key.now a.data.now a.restarts.now a.key.now (fields_from a.row a.value.now) c.requires.tested c.requires.last_key_len c.write_row-used.ensures c.put_restart-count.ensures c.copy_in.ensures

-- `pass` keeps the promise of a step past the row: the suffix goes over the carried key, the key to the lent buffer, and a finished region hands over.
-- The row was read after the carried key, so there is room for both writes; each exit is then a law over what they left.
use Prim.Native.Nat.{◌-◌}
use mathlib.Core.Path.{sym}
use native.Mathlib.Omega.{arith}
use lib.Seq.{length-take-le}
use Rattle.layout.proofs.Laws.Number.{right-tells}
use Rattle.layout.proofs.Laws.Tells.{read_row-ends}
use Rattle.layout.proofs.Laws.Trailer.{trailer_of-tells}
use Rattle.step_in_place_v2.proofs.Laws.{key-held, pass-over, pass-stay}
use Rattle.step_in_place_v2.proofs.pass.Goals as goal

pub slice_bounds-put_suffix-end : goal.slice_bounds-put_suffix-end
slice_bounds-put_suffix-end c =
    sym (length-take-le _ _ (omega (arith, (trailer_of-tells _ _ c.requires.stands.read).0)))

pub put_suffix-requires : goal.put_suffix-requires
put_suffix-requires c =
    let ends = read_row-ends _ _ _ _ _ _ c.requires.fits.read in
    (omega (arith, c.requires.key_len, ends.fits), ends.suffix)

pub give_key-requires : goal.give_key-requires
give_key-requires c =
    (key-held c.args.p c.args.key.now _ _ _ c.args.ahead.row c.args.out.now _ c.requires.key_len c.requires.stands c.requires.fits c.put_suffix.ensures, c.requires.fits.held)

pub overflow_add-place : goal.overflow_add-place
overflow_add-place c =
    omega (arith, c.requires.stands.inside, (trailer_of-tells _ _ c.requires.stands.read).0)

pub overflow_add-place-2 : goal.overflow_add-place-2
overflow_add-place-2 c =
    omega (arith, right-tells (c.args.p.at - c.args.ahead.region.start) c.args.p.number c.requires.fits.right)

pub returns-then-ahead-row : goal.returns-then-ahead-row
returns-then-ahead-row c =
    pass-over c.args.p _ _ _ _ _ _ _ c.requires.key_len c.requires.stands c.requires.fits c.put_suffix.ensures _ c.give_key.ensures c.if-ahead-row.true c.found.ensures

pub returns : goal.returns
returns c =
    pass-stay c.args.p _ _ _ _ _ _ _ c.requires.key_len c.requires.stands c.requires.fits c.put_suffix.ensures _ c.give_key.ensures c.if-ahead-row.false c.found-2.ensures

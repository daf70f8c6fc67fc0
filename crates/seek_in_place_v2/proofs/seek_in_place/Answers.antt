-- `seek_in_place` keeps its promise: 18 unless the key bytes are as many as a key may have, 14, else the seek of the cursor's order.
-- The two seeks keep the same promise of their own order.
use mathlib.Core.Path.{◌≡◌, refl, ap, sym}
use Rattle.layout.specs.Res.{ok}
use Rattle.layout.specs.Seek.{seek}
use Rattle.layout.specs.Trailer.{trailer_of}
use Rattle.layout.proofs.Laws.Seek.{seek-trailer}
use Rattle.basics.specs.Says.{says_order}
use Rattle.basics.specs.declared.IterationOrder.{IterationOrder}
use Rattle.trailer.specs.Says.{trailer_from}
use Rattle.seek_in_place_v2.specs.Lent.{lent_other, lent-whole}
use Rattle.seek_in_place_v2.proofs.Walks.{finds-not, finds-handed, finds_as}
use Rattle.seek_in_place_v2.proofs.seek_in_place.Goals.{In_ok-t}
use Rattle.seek_in_place_v2.proofs.seek_in_place.Goals as goal

trailer-read : (k : In_ok-t) → trailer_of k.args.block.now ≡ ok (trailer_from k.in_ok-t.t)
trailer-read k = sym k.in_ok-t.ensures

pub returns-then-key-ne-MAX_KEY : goal.returns-then-key-ne-MAX_KEY
returns-then-key-ne-MAX_KEY c = finds-not _ _ _ (lent_other _ _ _ _ c.if-key-ne-MAX_KEY.true) refl

pub returns-in_err-t : goal.returns-in_err-t
returns-in_err-t c = finds-handed _ _ _ _ _ c.from_residual.ensures.1 (lent-whole _ _ _ _ c.if-key-ne-MAX_KEY.false (seek-trailer _ _ _ (sym c.in_err-t.ensures))) refl

pub seek_ascending-requires : goal.seek_ascending-requires
seek_ascending-requires c = (c.if-key-ne-MAX_KEY.false, trailer-read (goal.at.seek_ascending-requires c).In_ok-t)

pub seek_descending-requires : goal.seek_descending-requires
seek_descending-requires c = trailer-read (goal.at.seek_descending-requires c).In_ok-t

pub returns-in-Ascending : goal.returns-in-Ascending
returns-in-Ascending c =
    let a = c.args in
    finds_as _ _ _ (lent-whole _ _ _ _ c.if-key-ne-MAX_KEY.false (ap (λ (o : IterationOrder). seek (says_order o) a.block.now a.target.now) c.in-Ascending.is)) (c.seek_ascending.ensures _)

pub returns-in-Descending : goal.returns-in-Descending
returns-in-Descending c =
    let a = c.args in
    finds_as _ _ _ (lent-whole _ _ _ _ c.if-key-ne-MAX_KEY.false (ap (λ (o : IterationOrder). seek (says_order o) a.block.now a.target.now) c.in-Descending.is)) (c.seek_descending.ensures _ _)

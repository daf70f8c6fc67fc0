-- `open` keeps its promise: 14, then all of 15, then what row 0's key refuses, whatever the direction.
-- Each exit is a law of the opening, over what was read on the way to it.
use mathlib.Core.Path.{◌≡◌, sym, ◌∙◌}
use Rattle.layout.specs.Res.{ok}
use Rattle.layout.specs.Trailer.{trailer_of, all_offsets}
use Rattle.layout_v1.specs.Cursor.{cursor_is}
use Rattle.layout_v1.proofs.Laws.Cursor.{open_trailer, open_offsets, open_first, open_good}
use Rattle.basics.specs.Answers.{handed-on}
use Rattle.trailer.specs.Laws.{offsets-used}
use Rattle.trailer.specs.Says.{trailer_from}
use Rattle.block_keys_v1.specs.Laws.{first-used, first-no, first-is}
use Rattle.block_iterator.proofs.open.Goals.{In_ok-t, In_ok-all_offsets}
use Rattle.block_iterator.proofs.open.Goals as goal

trailer-read : (k : In_ok-t) → trailer_of k.args.block.now ≡ ok (trailer_from k.in_ok-t.t)
trailer-read k = sym k.in_ok-t.ensures

offsets-good : (o : In_ok-all_offsets) → all_offsets o.args.block.now (trailer_from o.in_ok-t.t) ≡ ok tt
offsets-good o = sym (offsets-used _ _ (sym o.in_ok-t.ensures)) ∙ sym o.in_ok-all_offsets.ensures

pub returns-in_err-t : goal.returns-in_err-t
returns-in_err-t c d = handed-on (λ v. cursor_is d 0) _ _ c.from_residual.ensures.1 (sym (open_trailer _ d (sym c.in_err-t.ensures)))

pub returns-in_err-all_offsets : goal.returns-in_err-all_offsets
returns-in_err-all_offsets c d =
    let r = trailer-read (goal.at.returns-in_err-all_offsets c).In_ok-t in
    handed-on (λ v. cursor_is d 0) _ _ c.from_residual-in_err-all_offsets.ensures.1 (sym (open_offsets _ d _ r (sym (offsets-used _ _ r) ∙ sym c.in_err-all_offsets.ensures)))

pub returns-in_err-first_key : goal.returns-in_err-first_key
returns-in_err-first_key c d =
    let r = trailer-read (goal.at.returns-in_err-first_key c).In_ok-t in
    let o = offsets-good (goal.at.returns-in_err-first_key c).In_ok-all_offsets in
    handed-on (λ v. cursor_is d 0) _ _ c.from_residual-in_err-first_key.ensures.1 (sym (open_first _ d _ r o (first-no _ _ (sym (first-used _ _ r) ∙ sym c.in_err-first_key.ensures))))

pub returns : goal.returns
returns c d =
    let r = trailer-read (goal.at.returns c).In_ok-t in
    let o = offsets-good (goal.at.returns c).In_ok-all_offsets in
    sym (open_good _ d _ r o _ (first-is _ _ _ (sym (first-used _ _ r) ∙ sym c.in_ok-first_key.ensures)))

use Prim.Native.Nat.{◌/◌, ◌<◌}
use mathlib.Core.Path.{◌≡◌, refl, ap, subst, sym, ◌∙◌}
use mathlib.Core.Logic.{⊎_elim}
use native.Mathlib.Omega.{arith}
use lib.ListN.{length}
use borrow.Author.Rules.{rules}
use Rattle.layout.specs.Limits.{max_key}
use Rattle.layout.proofs.Laws.Res.{bool_cases}
use Rattle.layout.proofs.Laws.Splice.{wrote-length}
use Rattle.place_v2.specs.Says.{view_in}
use Rattle.row_words.specs.Words.{row_count}
use Rattle.std.specs.Prelude.{Result, Ok}
use Rattle.std.proofs.lemmas.Result.{err_from_is_err_and}
use Rattle.basics.specs.declared.Refusal.{Refusal}
use Rattle.block_rows_v2.specs.declared.Went.{Went}
use Rattle.block_rows_v2.specs.Chain.{Gone, gone-start}
use Rattle.block_rows_v2.specs.Says.{StepsOn}
use Rattle.block_rows_v2.proofs.Laws.{all-given}
use Rattle.block_rows_v2.proofs.give_rows.Goals.{After-run_here-here, After-step_row}
use Rattle.block_rows_v2.proofs.give_rows.Goals as goal

-- what the plain rows left
gone : (h : After-run_here-here) → Gone h.args.block.now h.args.keys.now h.args.rows.now (view_in h.args.start h.args.key.now) (view_in h.run_here-here.result.place h.run_here-here.new.key) h.run_here-here.new.keys h.run_here-here.new.rows h.run_here-here.result.used h.run_here-here.result.count
gone h = h.run_here-here.ensures.on _ _ _ h.loop-here.invariant.0

whole : (h : After-run_here-here) → length h.run_here-here.new.key ≡ max_key
whole h = h.run_here-here.ensures.long ∙ h.loop-here.invariant.2

key-kept : (h : After-run_here-here) → h.run_here-here.result.count ≡ 0 → h.run_here-here.new.key ≡ h.args.key.now
key-kept h z =
    let l = h.loop-here in
    h.run_here-here.ensures.kept (omega (arith, h.run_here-here.ensures.more)) ∙ l.invariant.3 (omega (arith, h.run_here-here.ensures.more))

-- what one more step left
few : (t : After-step_row) → t.run_here-here.result.count < length t.args.rows.now / row_count
few t = omega (arith, t.if-here-before.true, t.loop-here-test.true)

abbrev told : (t : After-step_row) → Result Went Refusal → Type 0
told t w = StepsOn t.args.block.now t.run_here-here.result t.run_here-here.new.key t.run_here-here.new.keys t.run_here-here.new.rows w t.step_row.new.key t.step_row.new.keys t.step_row.new.rows

says : (t : After-step_row) → {w : Result Went Refusal} → t.step_row.result ≡ w → (told t) w
says t e = subst (told t) e t.step_row.ensures

key-same : (t : After-step_row) → length t.step_row.new.key ≡ length t.args.key.now
key-same t =
    let same : length t.step_row.new.key ≡ length t.run_here-here.new.key = t.step_row.auto.key in
    same ∙ (t.run_here-here.ensures.long ∙ t.loop-here.invariant.2) ∙ sym t.requires

keys-same : (t : After-step_row) → length t.step_row.new.keys ≡ length t.args.keys.now
keys-same t =
    let same : length t.step_row.new.keys ≡ length t.run_here-here.new.keys = t.step_row.auto.keys in
    same ∙ wrote-length (t.run_here-here.ensures.on _ _ _ t.loop-here.invariant.0).keys-are

rows_same : (t : After-step_row) → length t.step_row.new.rows ≡ length t.args.rows.now
rows_same t =
    let same : length t.step_row.new.rows ≡ length t.run_here-here.new.rows = t.step_row.auto.rows in
    same ∙ wrote-length (t.run_here-here.ensures.on _ _ _ t.loop-here.invariant.0).rows_are

pub loop-here-init : goal.loop-here-init
loop-here-init c = (gone-start _ _ _ _, omega arith, search rules, (λ z. refl), refl)

pub run_here-here-requires : goal.run_here-here-requires
run_here-here-requires c =
    let l = c.loop-here in
    let g = l.invariant.0 in
    record { roomy = record { whole = l.invariant.2; inside = omega (arith, g.keys-are.room, wrote-length g.keys-are); few = l.invariant.1; words = omega (arith, wrote-length g.rows_are) }; ended_value = l.invariant.4 }

pub step_row-requires-clause-roomy : goal.step_row-requires-clause-roomy
step_row-requires-clause-roomy c =
    let g = gone (goal.at.step_row-requires-clause-roomy c).After-run_here-here in
    record {
      whole = whole (goal.at.step_row-requires-clause-roomy c).After-run_here-here;
      inside = omega (arith, g.keys-are.room, wrote-length g.keys-are);
      few = omega arith;
      words = omega (arith, wrote-length g.rows_are, c.if-here-before.true, c.loop-here-test.true);
    }

pub loop-here-smaller-in-On : goal.loop-here-smaller-in-On
loop-here-smaller-in-On c =
    omega (arith, few (goal.at.loop-here-smaller-in-On c).After-step_row, c.if-here-before.true, (says (goal.at.loop-here-smaller-in-On c).After-step_row (c.in_ok-went.was ∙ ap Ok c.in-On.is)).1)

pub loop-here-preserved-in-On : goal.loop-here-preserved-in-On
loop-here-preserved-in-On c =
    let m = says (goal.at.loop-here-preserved-in-On c).After-step_row (c.in_ok-went.was ∙ ap Ok c.in-On.is) in
    (m.0.on _ _ _ (gone (goal.at.loop-here-preserved-in-On c).After-run_here-here), omega (arith, few (goal.at.loop-here-preserved-in-On c).After-step_row, m.1), m.0.long ∙ whole (goal.at.loop-here-preserved-in-On c).After-run_here-here, (λ z. absurd (omega (arith, m.1))), m.2)

pub shape_of-key-in-Stopped : goal.shape_of-key-in-Stopped
shape_of-key-in-Stopped c = key-same (goal.at.shape_of-key-in-Stopped c).After-step_row

pub shape_of-keys-in-Stopped : goal.shape_of-keys-in-Stopped
shape_of-keys-in-Stopped c = keys-same (goal.at.shape_of-keys-in-Stopped c).After-step_row

pub shape_of-rows-in-Stopped : goal.shape_of-rows-in-Stopped
shape_of-rows-in-Stopped c = rows_same (goal.at.shape_of-rows-in-Stopped c).After-step_row

pub returns-in-Stopped : goal.returns-in-Stopped
returns-in-Stopped c =
    says (goal.at.returns-in-Stopped c).After-step_row (c.in_ok-went.was ∙ ap Ok c.in-Stopped.is) _ _ _ _ _ (few (goal.at.returns-in-Stopped c).After-step_row) (key-kept (goal.at.returns-in-Stopped c).After-run_here-here) (gone (goal.at.returns-in-Stopped c).After-run_here-here)

pub loop-here-smaller : goal.loop-here-smaller
loop-here-smaller c =
    omega (arith, c.run_here-here.ensures.more, c.if-here-before.false, c.loop-here-test.true)

pub loop-here-preserved : goal.loop-here-preserved
loop-here-preserved c =
    (gone (goal.at.loop-here-preserved c).After-run_here-here, c.run_here-here.ensures.few, whole (goal.at.loop-here-preserved c).After-run_here-here, key-kept (goal.at.loop-here-preserved c).After-run_here-here, ⊎_elim (λ e. absurd (c.if-here-before.false (c.run_here-here.ensures.still e))) (λ e. e) (bool_cases c.run_here-here.result.ended))

pub shape_of-keys : goal.shape_of-keys
shape_of-keys c = wrote-length c.loop-here.invariant.0.keys-are

pub shape_of-rows : goal.shape_of-rows
shape_of-rows c = wrote-length c.loop-here.invariant.0.rows_are

pub returns : goal.returns
returns c =
    let l = c.loop-here in
    all-given l.invariant.0 _ _ (omega (arith, c.loop-here-test.false, l.invariant.1)) refl

pub shape_of-key-in_err-went : goal.shape_of-key-in_err-went
shape_of-key-in_err-went c = key-same (goal.at.shape_of-key-in_err-went c).After-step_row

pub shape_of-keys-in_err-went : goal.shape_of-keys-in_err-went
shape_of-keys-in_err-went c = keys-same (goal.at.shape_of-keys-in_err-went c).After-step_row

pub shape_of-rows-in_err-went : goal.shape_of-rows-in_err-went
shape_of-rows-in_err-went c = rows_same (goal.at.shape_of-rows-in_err-went c).After-step_row

pub returns-in_err-went : goal.returns-in_err-went
returns-in_err-went c =
    let p = err_from_is_err_and c.from_residual.result c.from_residual.ensures.1 in
    rw (p.1, p.2)
    (says (goal.at.returns-in_err-went c).After-step_row c.in_err-went.was _ _ _ _ _ (few (goal.at.returns-in_err-went c).After-step_row) (key-kept (goal.at.returns-in_err-went c).After-run_here-here) (gone (goal.at.returns-in_err-went c).After-run_here-here))

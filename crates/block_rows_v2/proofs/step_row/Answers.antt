-- `step_row` keeps its promise: a row that is found is given behind those before it; each exit where none is, is one law of what was given (`Gone`).
use Rattle.std.specs.Prelude.{Ok}
use borrow.Author.Rules.{rules}
use Prim.Native.Nat.{ℕ, ◌+◌, ◌-◌, ◌^◌, ◌<◌}
use mathlib.Core.Path.{◌≡◌, refl, ap, sym, ◌∙◌}
use mathlib.Core.List.{List}
use native.Mathlib.Omega.{arith}
use lib.ListN.{length}
use borrow.Rule.Slice.PartMut.{mid_of, put_mid}
use Rattle.layout.specs.Res.{ok}
use Rattle.layout.specs.Cursor.{done, step_is}
use Rattle.layout.proofs.Laws.Splice.{wrote-length}
use Rattle.row_decode_v2.specs.Says.{row_from}
use Rattle.place_v2.specs.Says.{view_in}
use Rattle.place_v2.specs.declared.Place.{Place}
use Rattle.region_rows_v2.specs.Found.{Finds, moved-finds, moved_ends, moved-refuses}
use Rattle.block_rows_v2.specs.declared.Ran.{Ran}
use Rattle.block_rows_v2.specs.Says.{ran_to_of, RunsOn}
use Rattle.block_rows_v2.proofs.Laws.{key_fits, turn, back, gives-stop, gives-refusal, steps-refused, done-stays}
use Rattle.block_rows_v2.proofs.Plain.{runs_to}
use Rattle.block_rows_v2.proofs.step_row.Goals.{After-next_in_place, In-Found}
use Rattle.block_rows_v2.proofs.step_row.Goals as goal

abbrev here : (n : After-next_in_place) → Ran
here n = n.args.here

abbrev rest : (n : After-next_in_place) → List ℕ
rest n = mid_of (n.args.here).used (length n.args.keys.now - (n.args.here).used) n.args.keys.now

row-found : (k : In-Found) → Finds k.args.block.now (view_in (k.args.here).place k.args.key.now) (view_in k.in-Found.place k.next_in_place.new.key) k.in-Found.region k.in-Found.number (row_from k.in-Found.row) (mid_of (k.args.here).used (length k.args.keys.now - (k.args.here).used) k.args.keys.now) k.next_in_place.new.out
row-found k = moved-finds _ _ _ _ _ _ _ k.requires.roomy.whole k.next_in_place.ensures (k.in-Ok.is ∙ ap Ok k.in-Found.is)

pub returns-then-here : goal.returns-then-here
returns-then-here c =
    let h = c.args.here in
    λ most key₀ keys₀ rows₀ c₀ few kept g.
    gives-stop g (wrote-length g.keys-are) c.requires.roomy.inside most key₀ refl (omega arith) (omega arith) h.place c.marked.result c.args.key.now refl
    (c.requires.ended c.if-here.true _ ∙ ap (λ (q : Place). ok (step_is (view_in q c.args.key.now) done)) (sym c.marked.ensures)) c.stop.ensures

pub put_nth-requires : goal.put_nth-requires
put_nth-requires c = c.requires.roomy.words

pub overflow_add-result : goal.overflow_add-result
overflow_add-result c = omega (arith, (row-found (goal.at.overflow_add-result c).In-Found).well.fits)

pub overflow_add-result-in-Found : goal.overflow_add-result-in-Found
overflow_add-result-in-Found c =
    let long : length c.args.keys.now < 2 ^ 64 = search rules in
    omega (arith, key_fits c.args.here.used c.args.keys.now c.requires.roomy.inside (row-found (goal.at.overflow_add-result-in-Found c).In-Found))

pub overflow_add-result-in-Found-2 : goal.overflow_add-result-in-Found-2
overflow_add-result-in-Found-2 c =
    let long : length c.args.rows.now < 2 ^ 64 = search rules in
    omega (arith, c.requires.roomy.words)

pub returns-in-Found : goal.returns-in-Found
returns-in-Found c =
    let same : length c.next_in_place.new.key ≡ length c.args.key.now = c.next_in_place.auto.key in
    let more : RunsOn c.args.block.now ((here (goal.at.returns-in-Found c).After-next_in_place).count + 1) (here (goal.at.returns-in-Found c).After-next_in_place) c.args.key.now c.args.keys.now c.args.rows.now (ran_to_of c.in-Found.place ((here (goal.at.returns-in-Found c).After-next_in_place).used + (c.in-Found.row.shared + c.in-Found.row.suffix_len)) ((here (goal.at.returns-in-Found c).After-next_in_place).count + 1)) c.next_in_place.new.key (put_mid (here (goal.at.returns-in-Found c).After-next_in_place).used (length c.args.keys.now - (here (goal.at.returns-in-Found c).After-next_in_place).used) c.args.keys.now c.next_in_place.new.out) c.put_nth.new.rows =
    runs_to c.args.block.now ((here (goal.at.returns-in-Found c).After-next_in_place).count + 1) (here (goal.at.returns-in-Found c).After-next_in_place) c.args.key.now c.args.keys.now c.args.rows.now _ _ _ _ _ _ refl (omega arith) (omega arith)
    (λ ks rs c₀ g. turn g (wrote-length g.keys-are) c.requires.roomy.inside (row-found (goal.at.returns-in-Found c).In-Found) c.put_nth.ensures) same (λ z. absurd (omega arith)) in
    (more, refl, refl)

pub returns-in-Done : goal.returns-in-Done
returns-in-Done c =
    let h = here (goal.at.returns-in-Done c).After-next_in_place in
    let e = moved_ends _ _ _ _ _ _ _ c.requires.roomy.whole c.next_in_place.ensures (c.in-Ok.is ∙ ap Ok c.in-Done.is) in
    λ most key₀ keys₀ rows₀ c₀ few kept g.
    gives-stop g (wrote-length g.keys-are) c.requires.roomy.inside most key₀ (back g (wrote-length g.keys-are) c.requires.roomy.inside e.1) (omega arith) (omega arith) h.place c.in-Done.place c.next_in_place.new.key
    (done-stays c.args.block.now (length (rest (goal.at.returns-in-Done c).After-next_in_place)) h.place c.in-Done.place c.args.key.now c.next_in_place.new.key c.requires.roomy.whole e.0) e.0 c.stop-in-Done.ensures

pub returns-in-Err : goal.returns-in-Err
returns-in-Err c =
    let h = here (goal.at.returns-in-Err c).After-next_in_place in
    let e = moved-refuses _ _ _ _ _ _ _ c.requires.roomy.whole c.next_in_place.ensures c.in-Err.is in
    steps-refused _ _ _ _ _ _ _ _ _ _ _ c.refuse.ensures
    λ most key₀ keys₀ rows₀ c₀ few kept g.
    gives-refusal g (wrote-length g.keys-are) c.requires.roomy.inside most key₀ (back g (wrote-length g.keys-are) c.requires.roomy.inside e.2) (omega arith) (omega arith) h.place c.in-Err.refusal c.next_in_place.new.key
    (ap (view_in h.place) e.1) e.0 (λ z. e.1 ∙ kept z) refl

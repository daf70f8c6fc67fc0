-- The records that were passed: a walk goes on by the record that stands at its end.
use Rattle.std.specs.Prelude.{ℕ, ◌≤◌, ◌<◌, ◌≡◌, refl, Bool, true, false, ◌||◌, List, [], ◌∷◌, Ok}
use Rattle.std.proofs.Common.{arith}
use Rattle.journal.specs.declared.Record.{Record}
use Rattle.journal.specs.declared.Found.TheVariants.{Whole}
use Rattle.journal.specs.Record.{found_in}
use Rattle.journal_balance.specs.Counts.{some}
use Rattle.journal_balance.specs.Parts.{Walk, here, step}
use Rattle.journal.specs.Laws.Found.{found-moves}

pub some-none : (test : Record → Bool) → some test [] ≡ false
unfolding some
some-none test = refl

pub some_more : (test : Record → Bool) (r : Record) (rs : List Record) → some test (r ∷ rs) ≡ test r || some test rs
unfolding some
some_more test r rs = refl

pub or-true : (b : Bool) → b || true ≡ true
or-true true = refl
or-true false = refl

module _ {d : List ℕ} {end : ℕ} {all : List Record} where
  pub walk-le : {at : ℕ} {before : List Record} → Walk d end all at before → at ≤ end
  walk-le here = omega arith
  walk-le {at} (step {next} {r} e w) = let m = found-moves d at r next e in omega (arith, walk-le w)

  pub walk_more : {r : Record} {next : ℕ} {at : ℕ} {before : List Record} → Walk d end all at before → found_in d end ≡ Ok (Whole r next) → Walk d next (r ∷ all) at before
  walk_more here f = step f here
  walk_more (step e w) f = step e (walk_more w f)

  -- at its end it has passed all; before that a record stands there, and the rest goes on
  pub walk-over : {at : ℕ} {before : List Record} → Walk d end all at before → end ≤ at → all ≡ before
  walk-over here h = refl
  walk-over {at} (step {next} {r} e w) h = absurd (let m = found-moves d at r next e in omega (arith, walk-le w))

  pub walk-rest : {A : Type 0} {at : ℕ} {before : List Record} → Walk d end all at before → at < end
      → ((r : Record) (next : ℕ) → found_in d at ≡ Ok (Whole r next) → Walk d end all next (r ∷ before) → A) → A
  walk-rest here h k = absurd (omega arith)
  walk-rest (step {next} {r} e w) h k = k r next e w

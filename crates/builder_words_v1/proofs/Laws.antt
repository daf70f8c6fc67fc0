-- What `state_in` tells of a builder's words, over plain variables, for the exits of the functions here and of the exports above.
use Prim.Native.Nat.{ℕ}
use mathlib.Core.Path.{◌≡◌, sym, ◌∙◌}
use mathlib.Core.List.{List}
use lib.ListN.{length}
use Rattle.std.specs.Prelude.{Some, None}
use Rattle.layout.specs.Res.{ok}
use Rattle.layout.proofs.Laws.Res.{ok-inj}
use Rattle.basics.specs.Answers.{apart}
use Rattle.state_v1.specs.declared.State.{State}
use Rattle.builder_words_v1.specs.Words.{builder_count}
use Rattle.builder_words_v1.specs.Says.{state_in}
use Rattle.builder_words_v1.specs.Promise.{LoadsState}
use Rattle.row_words.proofs.Laws.{counted-so}
use Rattle.row_words.proofs.Counted.{counted-then}

-- a builder's words, as `state_in` answered of them
module _ (ws : List ℕ) where
  pub state-none : LoadsState ws None → length ws ≡ builder_count → ⊥
  state-none l h = apart (sym (counted-so ws builder_count (ok (state_in ws)) h) ∙ sym l)

  pub state-counts : {s : State} → LoadsState ws (Some s) → length ws ≡ builder_count
  state-counts {s} l = (counted-then ws builder_count (ok (state_in ws)) s (sym l)).0

  pub state-is : {s : State} → LoadsState ws (Some s) → s ≡ state_in ws
  state-is {s} l = sym (ok-inj (counted-then ws builder_count (ok (state_in ws)) s (sym l)).1)

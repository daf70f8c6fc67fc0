-- What the private function that puts a builder back leaves. What the exports promise, `AddsFlat` and `StepsFlat`, is in `Exports` of `block_words`.
use Rattle.std.specs.Prelude.{ℕ, ◌≡◌, List}
use Rattle.block_v2.specs.Says.{view_of}
use Rattle.block_v2.specs.declared.BlockBuilderV2.{BlockBuilderV2}
use Rattle.row_words.specs.Words.{builder_words}

pub record PutsBuilder (b : BlockBuilderV2) (ws last : List ℕ) : Type 0 where
  pub words : ws ≡ builder_words (view_of b)
  pub bytes : last ≡ b.last_key

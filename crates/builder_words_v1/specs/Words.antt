-- The words that stand for a builder of the earlier format: block size, bytes and places in use, length of the first key; the first key's bytes stand beside them.
use Rattle.std.specs.Prelude.{ℕ, List, [], ◌∷◌}
use Rattle.layout.specs.Res.{Res, ok}
use Rattle.layout.specs.Key.{Key}
use Rattle.layout_v1.specs.Builder.{Builder, kept_builder}
use Rattle.row_words.specs.Words.{counted, word_at}

abbrev pub builder_count : ℕ
builder_count = 4

abbrev pub builder_from : List ℕ → Key → Builder
builder_from ws first = kept_builder (word_at ws 0) (word_at ws 1) (word_at ws 2) (word_at ws 3) first

abbrev pub builder_in : List ℕ → Key → Res Builder
builder_in ws first = counted ws builder_count (ok (builder_from ws first))

abbrev pub builder_words : Builder → List ℕ
builder_words v = v.block_size ∷ v.used ∷ v.rows ∷ v.first_key_len ∷ []

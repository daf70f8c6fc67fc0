-- The promise admits one outcome: two codes, with the words that they leave, that both keep it are equal. Both walks keep it, so they answer alike.
use Rattle.std.specs.Prelude.{◌≡◌, ℕ, List}
use Rattle.std.proofs.Common.{sym, ◌∙◌}
use Rattle.compare_walks.specs.Promise.{WalksFlat}

-- also where slatedb_walk_by_value answered c and left xs, and slatedb_walk_in_place d and ys
pub walks-settled : (b : List ℕ) (order limit : ℕ) (sums : List ℕ) (c d : ℕ) (xs ys : List ℕ) → WalksFlat b order limit sums c xs → WalksFlat b order limit sums d ys
    → (c ≡ d) × (xs ≡ ys)
walks-settled b order limit sums c d xs ys m n = (m.answer ∙ sym n.answer, m.words ∙ sym n.words)

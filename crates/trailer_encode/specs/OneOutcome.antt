-- The promise admits one outcome: two results, with the buffers that they leave, that both keep it are equal.
use Rattle.std.specs.Prelude.{ℕ, ◌≡◌, List, take, Result}
use Rattle.layout.specs.Block.{trailer}
use Rattle.buf_mut.specs.OneOutcome.{puts-settled}
use Rattle.basics.specs.declared.Refusal.{Refusal}
use Rattle.trailer_encode.specs.Promise.{PutsTrailer}

pub put-trailer-settled : (os : List ℕ) (count : ℕ) (buf : List ℕ) (at : ℕ) (r q : Result ℕ Refusal) (ys zs : List ℕ) → PutsTrailer os count buf at r ys
    → PutsTrailer os count buf at q zs → (r ≡ q) × (ys ≡ zs)
put-trailer-settled os count buf at r q ys zs = puts-settled (trailer (take count os)) buf at r q ys zs

-- Each promise admits one outcome: two results, with the buffers that they leave, that both keep it are equal.
use Rattle.std.specs.Prelude.{ℕ, ◌≡◌, List, Option, Result}
use Rattle.std.proofs.Common.{sym, ◌∙◌}
use Rattle.basics.specs.declared.Refusal.{Refusal}
use Rattle.trailer.specs.declared.Region.{Region}
use Rattle.block_regions_v2.specs.declared.Ended.{Ended}
use Rattle.block_regions_v2.specs.declared.Stop.{Stop}
use Rattle.block_regions_v2.specs.Promise.{EndsAt, WalksInto}
use Rattle.block_regions_v2.specs.Says.{says_ended-one, says_place-one}

pub row-ending-at-settled : (d : List ℕ) (g : Region) (stop : ℕ) (p : Option ℕ) (out : List ℕ) (r q : Result Ended Refusal) (ys zs : List ℕ) → EndsAt d g stop p out r ys
    → EndsAt d g stop p out q zs → (r ≡ q) × (ys ≡ zs)
row-ending-at-settled d g stop p out r q ys zs m n = (says_ended-one r q (m.answer ∙ sym n.answer), m.bytes ∙ sym n.bytes)

pub walk-into-settled : (d : List ℕ) (g : Region) (target key : List ℕ) (r q : Result Stop Refusal) (ys zs : List ℕ) → WalksInto d g target key r ys
    → WalksInto d g target key q zs → (r ≡ q) × (ys ≡ zs)
walk-into-settled d g target key r q ys zs m n = (says_place-one r q (m.answer ∙ sym n.answer), m.bytes ∙ sym n.bytes)

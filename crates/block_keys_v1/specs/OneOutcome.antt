-- Each promise admits one outcome: two results that both keep it are equal.
use Rattle.std.specs.Prelude.{ℕ, ◌≡◌, List, Result}
use Rattle.std.proofs.Common.{sym, ◌∙◌}
use Rattle.basics.specs.declared.Refusal.{Refusal}
use Rattle.basics.specs.declared.IterationOrder.{IterationOrder}
use Rattle.row_decode_v2.specs.Says.{says_key-one}
use Rattle.row_decode_v2.specs.declared.KeyPlace.{KeyPlace}
use Rattle.trailer.specs.declared.Trailer.{Trailer}
use Rattle.block_keys_v1.specs.declared.Search.{Search}
use Rattle.block_keys_v1.specs.Promise.{ReadsFirst, MayShare, FindsRow}
use Rattle.block_keys_v1.specs.Says.{says_search-one}

pub first-key-settled : (b : List ℕ) (t : Trailer) (r q : Result KeyPlace Refusal) → ReadsFirst b t r → ReadsFirst b t q → r ≡ q
first-key-settled b t r q m n = says_key-one r q (m ∙ sym n)

pub may-share-settled : (i first_len r q : ℕ) → MayShare i first_len r → MayShare i first_len q → r ≡ q
may-share-settled i first_len r q m n = m ∙ sym n

pub find-row-settled : (b : List ℕ) (t : Trailer) (order : IterationOrder) (target : List ℕ) (r q : Result Search Refusal) → FindsRow b t order target r → FindsRow b t order target q → r ≡ q
find-row-settled b t order target r q m n = says_search-one r q (m ∙ sym n)

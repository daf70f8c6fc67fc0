-- What a search's answer says: where it closed and its count, or the number of the refusal. No two say the same.
use Rattle.std.specs.Prelude.{◌≡◌, Result}
use Rattle.std.proofs.Common.{ap}
use Rattle.layout.specs.Res.{Res}
use Rattle.layout.specs.Seek.{Found, found_is}
use Rattle.basics.specs.Answers.{says, says-one}
use Rattle.basics.specs.declared.Refusal.{Refusal}
use Rattle.block_keys_v1.specs.declared.Search.{Search}

abbrev pub found_from : Search → Found
found_from s = found_is s.place s.reads

abbrev pub says_search : Result Search Refusal → Res Found
says_search = says found_from

found_from-one : (a b : Search) → found_from a ≡ found_from b → a ≡ b
found_from-one a b e = ap (λ (x : Found). record { place = x.place; reads = x.reads }) e

pub says_search-one : (a b : Result Search Refusal) → says_search a ≡ says_search b → a ≡ b
says_search-one = says-one found_from found_from-one

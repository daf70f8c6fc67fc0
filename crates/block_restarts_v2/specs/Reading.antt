-- What the answers of the parts of a search say. And two parts of the rules' search by themselves: how a restart's key stands to the target, and the run
-- with the count that it carries.
use Rattle.std.specs.Prelude.{ℕ, List, Result}
use Rattle.std.specs.declared.cmp.Ordering.{Ordering as OrderingR}
use Rattle.layout.specs.Res.{Res, ok, bind}
use Rattle.layout.specs.Key.{Key, Ordering, compare}
use Rattle.layout.specs.Trailer.{Trailer}
use Rattle.layout.specs.Seek.{Found, found_is, restart_key, last_equal}
use Rattle.basics.specs.Answers.{says}
use Rattle.basics.specs.declared.Refusal.{Refusal}
use Rattle.keys.specs.Says.{says_ordering}
use Rattle.block_restarts_v2.specs.declared.Start.{Start}
use Rattle.block_restarts_v2.specs.declared.Search.{Search}
use Rattle.block_restarts_v2.specs.Handed.{start_is}

abbrev pub says_compared : Result OrderingR Refusal → Res Ordering
says_compared = says says_ordering

abbrev pub found_from : Search → Found
found_from s = found_is s.place s.reads

abbrev pub says_search : Result Search Refusal → Res Found
says_search = says found_from

-- what both `restart_below` and `start_down` ask of a restart's key
unfoldable pub restart_compared : List ℕ → Trailer → Key → ℕ → Res Ordering
restart_compared b t target i = bind (restart_key b t i) λ k. ok (compare k target)

abbrev pub start_after : ℕ → ℕ → Res Start
start_after reads r = ok (start_is r reads)

unfoldable pub run_from : List ℕ → Trailer → Key → ℕ → ℕ → Res Start
run_from b t target first reads = bind (last_equal t.count b t target first) (start_after reads)

-- What the contracts and the theorems say by the laws of `Seek`: definitions.
use Prim.Native.Nat.{ℕ}
use Rattle.std.specs.Prelude.{List}
use Rattle.layout.specs.Res.{Res}
use Rattle.layout.specs.Key.{Key}
use Rattle.layout.specs.Trailer.{Trailer}
use Rattle.layout.specs.Seek.{Found, restart_below}
use Rattle.layout.specs.Laws.Search.{search_on}

abbrev pub search_from : List ℕ → Trailer → Key → ℕ → ℕ → ℕ → Res Found
search_from b t target low high reads = search_on (restart_below b t target) low high reads

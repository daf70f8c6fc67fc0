-- What the public function promises: an equation to the definitions, that settles the number answered and each byte lent.
use Rattle.std.specs.Prelude.{ℕ, List, take, Result}
use Rattle.layout.specs.Block.{trailer}
use Rattle.buf_mut.specs.Promise.{Puts}
use Rattle.basics.specs.declared.Refusal.{Refusal}

-- the trailer of the first `count` offsets, or of all where there are fewer. Its last two bytes hold the low 16 bits of their count
abbrev pub PutsTrailer : List ℕ → ℕ → List ℕ → ℕ → Result ℕ Refusal → List ℕ → Type 0
PutsTrailer os count buf at r buf' = Puts (trailer (take count os)) buf at r buf'

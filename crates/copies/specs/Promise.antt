-- What each public function promises: equations to the definitions of `layout`, that settle what is answered and each byte lent.
use Rattle.std.specs.Prelude.{ℕ, ◌+◌, ◌≡◌, Bool, cond, List, ltb, leb, length, take}
use Rattle.layout.specs.Place.{splice, after_put}

-- a buffer with the first n bytes of src at its start; as it was where either has fewer
abbrev pub first_copied : ℕ → List ℕ → List ℕ → List ℕ
first_copied n src buf = cond (ltb (length buf) n) buf (cond (ltb (length src) n) buf (splice buf 0 (take n src)))

abbrev pub CopiesFirst : ℕ → List ℕ → List ℕ → List ℕ → Type 0
CopiesFirst n src buf buf' = buf' ≡ first_copied n src buf

-- all of src at a place: whether there is room, and the buffer that is left
pub record CopiesAll (src buf : List ℕ) (at : ℕ) (r : Bool) (buf' : List ℕ) : Type 0 where
  pub answer : r ≡ leb (at + length src) (length buf)
  pub bytes : buf' ≡ after_put buf at src

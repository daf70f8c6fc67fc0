-- What the contracts and the theorems say by the laws of `Block`: definitions.
use Rattle.std.specs.Prelude.{ℕ, suc, ◌+◌, ◌<◌, ◌≤◌, ◌≡◌, length, drop, get_or}
use mathlib.Core.List.{List, [], ◌∷◌, ◌++◌}
use Rattle.layout.specs.Res.{ok}
use Rattle.layout.specs.Key.{Key, common}
use Rattle.layout.specs.Row.{Row}
use Rattle.layout.specs.RowRead.{RowRead}
use Rattle.layout.specs.Trailer.{Trailer, trailer_of, data_of, offset_at, all_offsets}
use Rattle.layout_v1.specs.Block.{laid_row, rows_from, offsets_from, block_rows}
use Rattle.layout_v1.specs.Laws.Codec.{places_of}

-- the first row's key, or none
abbrev pub first_or : List Row → Key
first_or [] = []
first_or (r ∷ rs) = r.key

-- row number i is w, at `at`, before the bytes `post`: it ends where the next one starts, the last at the data's end
pub record StandsAt (b : List ℕ) (t : Trailer) (d : List ℕ) (i at : ℕ) (w post : List ℕ) : Type 0 where
  pub data_is : data_of b t ≡ d
  pub size_is : t.size ≡ length d
  pub here : drop at d ≡ w ++ post
  pub some : 1 ≤ length w
  pub offset : offset_at b t i ≡ at
  pub zeroth : i ≡ 0 → at ≡ 0
  pub last : t.count ≤ i + 1 → post ≡ []
  pub inner : i + 1 < t.count → (offset_at b t (i + 1) ≡ at + length w) × (1 ≤ length post)

abbrev pub placed_row : Key → ℕ → Row → RowRead
placed_row prev at r = places_of at (common prev r.key) (drop (common prev r.key) r.key) r.fields

-- the rows rs, from number i on, from `at` to the data's end
pub record RestAt (b : List ℕ) (t : Trailer) (d : List ℕ) (first : Key) (i at : ℕ) (rs : List Row) : Type 0 where
  pub data_is : data_of b t ≡ d
  pub size_is : t.size ≡ length d
  pub here : drop at d ≡ rows_from first rs
  pub offs : (j : ℕ) → j < length rs → offset_at b t (i + j) ≡ get_or (offsets_from at first rs) j 0
  pub count : i + length rs ≡ t.count

-- a block of rows: row 0 stands at its start, and then the rest
pub record BlockLaid (r : Row) (rs : List Row) (b : List ℕ) : Type 0 where
  pub t : Trailer
  pub count-is : t.count ≡ suc (length rs)
  pub trailer-good : trailer_of b ≡ ok t
  pub offsets-good : all_offsets b t ≡ ok tt
  pub zeroth : StandsAt b t (block_rows (r ∷ rs)) 0 0 (laid_row [] r.key r.fields) (rows_from r.key rs)
  pub rest : RestAt b t (block_rows (r ∷ rs)) r.key 1 (length (laid_row [] r.key r.fields)) rs

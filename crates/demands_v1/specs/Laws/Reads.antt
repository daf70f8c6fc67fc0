-- Rows by their numbers, taken apart: the first key is row 0's, the last of some rows has its number, each key is read alone, and a block has one list of rows.
use Rattle.std.specs.Prelude.{ℕ, zero, suc, ◌+◌, ◌<◌, ◌≤◌, ◌≡◌, List, [], ◌∷◌, ◌++◌, length, get_or}
use Rattle.std.proofs.Math.Path.{refl}
use Rattle.std.proofs.Common.{ap, ap₂, sym, ◌∙◌, arith, not-suc-le-zero, add-suc, suc-add, add-zero}
use Rattle.layout.specs.Res.{ok}
use Rattle.layout.specs.Key.{Key}
use Rattle.layout.specs.RowRead.{key_of, key_length}
use Rattle.layout.specs.Trailer.{Trailer, data_of}
use Rattle.layout.specs.Cursor.{Keyed, keyed}
use Rattle.layout_v1.specs.Check.{before}
use Rattle.layout_v1.specs.Cursor.{key_numbered, the_first_key}
use Rattle.demands.specs.Reads.{AllOf, keys_of}
use Rattle.demands_v1.specs.Reads.{Names, RowsFrom, first_key_of, Reads}
use Rattle.layout.proofs.Laws.Res.{ok-inj}
use Rattle.layout.proofs.Laws.Trailer.{trailer_of-tells}
use Rattle.layout_v1.proofs.Laws.Rows.{key-numbered, numbered-length}

-- a row's key is read alone
pub names_key : (b : List ℕ) (t : Trailer) (first : Key) (i : ℕ) (k : Keyed) → Names b t first i k → key_numbered b t first i ≡ ok k.key
names_key b t first i k n = key-numbered b t first i k.row n.is ∙ ap ok n.key-is

-- one number names one row
pub names_one : (b : List ℕ) (t : Trailer) (first : Key) (i : ℕ) (k q : Keyed) → Names b t first i k → Names b t first i q → k ≡ q
names_one b t first i k q n m =
    let r : k.row ≡ q.row = ok-inj (sym n.is ∙ m.is) in
    ap₂ keyed r (sym n.key-is ∙ ap (key_of (data_of b t) (before first i)) r ∙ m.key-is)

module _ (b : List ℕ) (t : Trailer) (first : Key) where
  pub rows-one : (i : ℕ) (ks qs : List Keyed) → RowsFrom b t first i ks → RowsFrom b t first i qs → length ks ≡ length qs → ks ≡ qs
  rows-one i [] [] p q e = refl
  rows-one i [] (y ∷ qs) p q e = absurd (omega arith)
  rows-one i (x ∷ ks) [] p q e = absurd (omega arith)
  rows-one i (x ∷ ks) (y ∷ qs) p q e = ap₂ ◌∷◌ (names_one b t first i x y p.0 q.0) (rows-one (suc i) ks qs p.1 q.1 (omega arith))

  -- the last of some rows, and those before it
  pub rows_last : (i : ℕ) (ks : List Keyed) (k : Keyed) → RowsFrom b t first i (ks ++ (k ∷ [])) → RowsFrom b t first i ks × Names b t first (i + length ks) k
  rows_last i [] k p = (tt, rw (add-zero i) p.0)
  rows_last i (x ∷ ks) k p =
      let w = rows_last (suc i) ks k p.1 in
      ((p.0, w.0), rw (add-suc i (length ks), ← suc-add i (length ks)) w.1)

  -- row number i, by its place in the list, and its key
  pub rows-name : (i j : ℕ) (ks : List Keyed) → RowsFrom b t first i ks → j < length ks → (k : Keyed) × Names b t first (i + j) k
  rows-name i j [] p h = absurd (not-suc-le-zero h)
  rows-name i zero (k ∷ ks) p h = (k, rw (add-zero i) p.0)
  rows-name i (suc j) (k ∷ ks) p h = let w = rows-name (suc i) j ks p.1 (omega arith) in (w.0, rw (add-suc i j, ← suc-add i j) w.1)

  pub rows-key : (i j : ℕ) (ks : List Keyed) → RowsFrom b t first i ks → j < length ks → key_numbered b t first (i + j) ≡ ok (get_or (keys_of ks) j [])
  rows-key i j [] p h = absurd (not-suc-le-zero h)
  rows-key i zero (k ∷ ks) p h = rw (add-zero i) (names_key b t first i k p.0)
  rows-key i (suc j) (k ∷ ks) p h = rw (add-suc i j, ← suc-add i j) (rows-key (suc i) j ks p.1 (omega arith))

  -- what holds of each row that is read holds of all
  pub rows_all : (P : Keyed → Type 0) → ((i : ℕ) (k : Keyed) → Names b t first i k → P k) → (i : ℕ) (ks : List Keyed) → RowsFrom b t first i ks → AllOf P ks
  rows_all P each i [] p = tt
  rows_all P each i (k ∷ ks) p = (each i k p.0, rows_all P each (suc i) ks p.1)

-- a row's key is as long as the row says
pub names_length : (b : List ℕ) (t : Trailer) (first : Key) (i : ℕ) (k : Keyed) → Names b t first i k → length k.key ≡ key_length k.row
names_length b t first i k n = ap length (sym n.key-is) ∙ numbered-length b t first i k.row n.is

-- ---- of a whole block

module _ (b : List ℕ) (t : Trailer) (rows : List Keyed) (q : Reads b t rows) where
  pub first_read : the_first_key b t ≡ ok (first_key_of rows)
  first_read = go rows q.rows-read (omega (arith, q.count-is, (trailer_of-tells b t q.trailer-good).1))
    where
      go : (rows : List Keyed) → RowsFrom b t (first_key_of rows) 0 rows → 1 ≤ length rows → the_first_key b t ≡ ok (first_key_of rows)
      go [] p h = absurd (omega arith)
      go (k ∷ ks) p h = no_key_lem k.key ∙ names_key b t k.key 0 k p.0
        where
          -- before row 0 there is none
          no_key_lem : (first : Key) → key_numbered b t [] 0 ≡ key_numbered b t first 0
          no_key_lem first = unfold key_numbered in refl

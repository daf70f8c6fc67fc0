-- A laid block of the earlier format is read: row 0 and then the rest, each where it stands, with its key, and its content is what was laid.
use Rattle.std.specs.Prelude.{ℕ, suc, ◌+◌, ◌≤◌, ◌≡◌}
use Rattle.std.proofs.Math.Path.{refl, ap₂}
use Rattle.std.proofs.Common.{ap, sym, ◌∙◌, arith, ne_eqb}
use mathlib.Core.List.{List, [], ◌∷◌, map}
use Rattle.std.proofs.Math.ListN.{length}
use Rattle.layout.specs.Key.{Key}
use Rattle.layout.specs.Row.{Row, plain_row}
use Rattle.layout.specs.Trailer.{Trailer, data_of}
use Rattle.layout.specs.Cursor.{Keyed, keyed}
use Rattle.layout_v1.specs.Block.{laid_row, rows_from, block_rows, offsets, block_bytes}
use Rattle.layout_v1.specs.Check.{before}
use Rattle.demands.specs.Reads.{content_of}
use Rattle.demands_v1.specs.Reads.{Names, RowsFrom, Reads}
use Rattle.layout.specs.Laws.Block.{RowOk, AllOk, AllFit}
use Rattle.layout_v1.specs.Laws.Block.{StandsAt, placed_row, RestAt, BlockLaid}
use Rattle.layout_v1.proofs.Laws.Block.{row_laid, key-laid, fields_laid, rest-after, rest-stands, block-laid}

pub record LaidBlock (b : List ℕ) (rows : List Row) : Type 0 where
  pub t : Trailer
  pub given : List Keyed
  pub reads : Reads b t given
  pub contents : map (content_of (data_of b t)) given ≡ map plain_row rows

-- the rows after row 0, where they stand
unfoldable placed : Key → ℕ → List Row → List Keyed
placed first at [] = []
placed first at (r ∷ rs) = keyed (placed_row first at r) r.key ∷ placed first (at + length (laid_row first r.key r.fields)) rs

length-placed : (first : Key) (at : ℕ) (rs : List Row) → length (placed first at rs) ≡ length rs
unfolding placed
length-placed first at [] = refl
length-placed first at (r ∷ rs) = ap suc (length-placed first (at + length (laid_row first r.key r.fields)) rs)

-- one row
module _ (b : List ℕ) (t : Trailer) (d : List ℕ) (i at : ℕ) (first prev : Key) (r : Row) (post : List ℕ) (o : RowOk r) (is : before first i ≡ prev) (inside : suc i ≤ t.count)
    (s : StandsAt b t d i at (laid_row prev r.key r.fields) post) where
  named : Names b t first i (keyed (placed_row prev at r) r.key)
  named = record { inside = inside; is = row_laid b t d i at first prev r post o is s; key-is = key-laid b t d i at first prev r post o is s }

  holds_it : content_of (data_of b t) (keyed (placed_row prev at r) r.key) ≡ plain_row r
  holds_it = rw (fields_laid b t d i at first prev r post o is s)

module _ (b : List ℕ) (t : Trailer) (d : List ℕ) (first : Key) where
  before-is : (i : ℕ) → 1 ≤ i → before first i ≡ first
  before-is i h = rw (ne_eqb i 0 (λ z. absurd (omega arith)))

  rest-rows : (i at : ℕ) (rs : List Row) → AllOk rs → 1 ≤ i → RestAt b t d first i at rs → RowsFrom b t first i (placed first at rs)
  unfolding placed
  rest-rows i at [] a h s = tt
  rest-rows i at (r ∷ rs) a h s = (
    named b t d i at first first r (rows_from first rs) a.0 (before-is i h) (omega (arith, s.count)) (rest-stands b t d first i at r rs s h),
    rest-rows (suc i) (at + length (laid_row first r.key r.fields)) rs a.1 (omega arith) (rest-after b t d first i at r rs s),
  )

  rest-contents : (i at : ℕ) (rs : List Row) → AllOk rs → 1 ≤ i → RestAt b t d first i at rs → map (content_of (data_of b t)) (placed first at rs) ≡ map plain_row rs
  unfolding placed
  rest-contents i at [] a h s = refl
  rest-contents i at (r ∷ rs) a h s =
      ap₂ ◌∷◌ (holds_it b t d i at first first r (rows_from first rs) a.0 (before-is i h) (omega (arith, s.count)) (rest-stands b t d first i at r rs s h))
      (rest-contents (suc i) (at + length (laid_row first r.key r.fields)) rs a.1 (omega arith) (rest-after b t d first i at r rs s))

pub laid-block : (r : Row) (rs : List Row) → AllOk (r ∷ rs) → AllFit (offsets (r ∷ rs)) → LaidBlock (block_bytes (r ∷ rs)) (r ∷ rs)
laid-block r rs a f = go (block_bytes (r ∷ rs)) (block-laid r rs f)
  where
    at : ℕ
    at = length (laid_row [] r.key r.fields)

    go : (b : List ℕ) → BlockLaid r rs b → LaidBlock b (r ∷ rs)
    go b l =
        record {
          t = l.t;
          given = keyed (placed_row [] 0 r) r.key ∷ placed r.key at rs;
          reads =
              record {
                trailer-good = l.trailer-good;
                offsets-good = l.offsets-good;
                rows-read = (named b l.t d 0 0 r.key [] r post a.0 refl some l.zeroth, rest-rows b l.t d r.key 1 at rs a.1 (omega arith) l.rest);
                count-is = ap suc (length-placed r.key at rs) ∙ sym l.count-is;
              };
          contents =
              ap₂ ◌∷◌ (holds_it b l.t d 0 0 r.key [] r post a.0 refl some l.zeroth) (rest-contents b l.t d r.key 1 at rs a.1 (omega arith) l.rest);
        }
      where
        d : List ℕ
        d = block_rows (r ∷ rs)

        post : List ℕ
        post = rows_from r.key rs

        some : 1 ≤ l.t.count
        some = omega (arith, l.count-is)

-- Rows counted as they are read, each by its span: so many end where a read stands.
use Rattle.std.specs.Prelude.{ℕ, ◌+◌, ◌≡◌, List, eqb}
use Rattle.std.proofs.Common.{ap, sym, ◌∙◌}
use Rattle.layout.specs.Res.{ok}
use Rattle.layout.specs.RowRead.{RowRead, key_length}
use Rattle.layout.specs.Plain.{RowSpan, spans}
use Rattle.layout.specs.Trailer.{Region, row_in}
use Rattle.layout.specs.Number.{ended_by}
use Rattle.layout.specs.Laws.Number.{Counting}
use Rattle.layout.proofs.Laws.Number.{counting-here, counting-on}
use Rattle.layout.proofs.Laws.Plain.{span-row}

module _ (d : List ℕ) (g : Region) (at len n : ℕ) (c : Counting d g at len n) where
  -- at a row's end, by the row
  pub counting-ended : (r : RowRead) → row_in d g at len ≡ ok r → {stop : ℕ} → r.next ≡ stop → ended_by d g stop ≡ n + 1
  counting-ended r e is = ap (ended_by d g) (sym is) ∙ counting-here d g r.next (key_length r) (n + 1) (counting-on d g at len n c r e)

  module _ (p : RowSpan) (e : ok p ≡ spans (row_in d g at len)) where
    pub counting-span : Counting d g p.next (p.shared + p.suffix_len) (n + 1)
    counting-span = span-row (row_in d g at len) p e λ r q is. rw (sym is) (counting-on d g at len n c r q)

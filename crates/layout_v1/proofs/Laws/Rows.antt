-- Rows of the earlier format by their numbers: where a whole row is read, its key alone is read too; where it stands; and its key is as long as it says.
use Rattle.std.specs.Prelude.{ℕ, ◌≤◌, ◌≡◌, List, length, take, drop}
use Rattle.std.proofs.Common.{ap, ◌∙◌, arith, length-append, length-drop, length-take-le, le-ltb}
use Rattle.layout.specs.Res.{ok}
use Rattle.layout.specs.Key.{Key}
use Rattle.layout.specs.RowRead.{times_at, RowRead, key_length, key_of}
use Rattle.layout.specs.Trailer.{Trailer, data_of, Region, region_of}
use Rattle.layout.proofs.Laws.Res.{bind-then, ok-inj}
use Rattle.layout.specs.Laws.Tells.{key_part}
use Rattle.layout_v1.specs.RowRead.{head_at, seq_at, body_at, held_at, row_is, row_at, read_key}
use Rattle.layout_v1.specs.Check.{before, row_numbered}
use Rattle.layout_v1.specs.Cursor.{key_numbered}
use Rattle.layout_v1.proofs.Laws.RowReads.{RowEnds, row_at-ends, read_row-tells}

pub read_key-of-row : (d : List ℕ) (at end most : ℕ) (r : RowRead) → row_at d at most ≡ ok r → r.next ≤ end → read_key d at end most ≡ ok (key_part r)
unfolding row_at read_key
read_key-of-row d at end most r e n =
    let w = row_at-ends d at most r e in
    let w₁ = w.suffixes in
    let w₂ = w.room in
    let w₃ = w.inside in
    bind-then (head_at d at most) _ r e λ h p e₁.
    bind-then (body_at d h) _ r e₁ λ b q e₂.
    bind-then (times_at d b.next b.flags) _ r e₂ λ t s e₃.
    bind-then (held_at b.flags.kind d t.next) _ r e₃ λ v u e₄.
    let is : row_is at h b t v ≡ r = ok-inj e₄ in
    let a : h.suffix_at ≡ r.suffix_at = ap (λ (x : RowRead). x.suffix_at) is in
    let l : h.unshared ≡ r.suffix_len = ap (λ (x : RowRead). x.suffix_len) is in
    rw (p, le-ltb (length d) (seq_at h) (omega arith), le-ltb end (seq_at h) (omega arith)) (ap (λ (x : RowRead). ok (key_part x)) is)

-- the key of a row that is read whole
pub key-numbered : (b : List ℕ) (t : Trailer) (first : Key) (i : ℕ) (r : RowRead) → row_numbered b t first i ≡ ok r → key_numbered b t first i ≡ ok (key_of (data_of b t) (before first i) r)
unfolding row_numbered key_numbered
key-numbered b t first i r e =
    bind-then (region_of b t i) _ r e λ g p q.
    let w = read_row-tells (data_of b t) g.start g.end (length (before first i)) r q in
    let n = w.1 in
    rw (p, read_key-of-row (data_of b t) g.start g.end (length (before first i)) r w.0 (omega arith))

-- where a numbered row stands
pub record NumberedEnds (b : List ℕ) (t : Trailer) (first : Key) (i : ℕ) (r : RowRead) : Type 0 where
  pub g : Region
  pub used : region_of b t i ≡ ok g
  pub ends : RowEnds (data_of b t) g.start (length (before first i)) r
  pub to : r.next ≡ g.end

pub numbered-ends : (b : List ℕ) (t : Trailer) (first : Key) (i : ℕ) (r : RowRead) → row_numbered b t first i ≡ ok r → NumberedEnds b t first i r
unfolding row_numbered
numbered-ends b t first i r e =
    bind-then (region_of b t i) _ r e λ g p q.
    let w = read_row-tells (data_of b t) g.start g.end (length (before first i)) r q in
    record { g = g; used = p; ends = row_at-ends (data_of b t) g.start (length (before first i)) r w.0; to = w.1 }

-- its key is as long as it says: it shares no more than the key before it has, and its suffix lies in the data
pub numbered-length : (b : List ℕ) (t : Trailer) (first : Key) (i : ℕ) (r : RowRead) → row_numbered b t first i ≡ ok r → length (key_of (data_of b t) (before first i) r) ≡ key_length r
numbered-length b t first i r e =
    let w = (numbered-ends b t first i r e).ends in
    let lies : r.suffix_len ≤ length (drop r.suffix_at (data_of b t)) = rw (length-drop r.suffix_at (data_of b t)) (omega (arith, w.suffixes, w.room, w.inside)) in
    length-append (take r.shared (before first i)) (take r.suffix_len (drop r.suffix_at (data_of b t)))
    ∙ rw (length-take-le r.shared (before first i) w.shares, length-take-le r.suffix_len (drop r.suffix_at (data_of b t)) lies)

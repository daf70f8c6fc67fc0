-- A key that an array carries, with its length beside it, and a row read after it: what the array holds once the row's suffix is put over it, and how the
-- row's key compares while it still lies in two parts, the carried bytes that it shares and its suffix in the data.
use Rattle.std.specs.Prelude.{ℕ, ◌+◌, ◌≤◌, ◌≡◌, refl, Bool, List, [], ◌∷◌, ◌++◌, length, take, drop}
use Rattle.std.proofs.Common.{ap, sym, ◌∙◌, arith, length-append, length-drop, take-append-drop, take-take, length-take-le, le-ltb}
use Rattle.layout.specs.Res.{Res, ok}
use Rattle.layout.specs.Place.{splice}
use Rattle.layout.specs.Key.{Key, below, Ordering, compare, rank_is, may_follow}
use Rattle.layout.specs.RowRead.{RowRead, read_row, key_length, key_of}
use Rattle.layout.specs.Laws.Order.{may_by}
use Rattle.layout.proofs.Laws.Order.{may-by}
use Rattle.layout.proofs.Laws.Splice.{length-splice, take-past-splice}
use Rattle.layout.specs.Laws.Tells.{RowEnds}
use Rattle.layout.proofs.Laws.Tells.{read_row-ends, row-shares}
use Rattle.layout.specs.Laws.Carry.{Carries, suffix_of}

pub carried : (key : List ℕ) (len : ℕ) → Carries key len → length (take len key) ≡ len
carried key len c = length-take-le len key (omega (arith, c.few, c.whole))

-- a row read after a carried key is read after as many bytes
pub read-carried : (d : List ℕ) (at end : ℕ) (restart : Bool) (key : List ℕ) (len : ℕ) → Carries key len → {x : Res RowRead} → read_row d at end len restart ≡ x
    → read_row d at end (length (take len key)) restart ≡ x
read-carried d at end restart key len c e = ap (λ (n : ℕ). read_row d at end n restart) (carried key len c) ∙ e

suffix-length : (d : List ℕ) (at end prev_len : ℕ) (restart : Bool) (r : RowRead) → RowEnds d at end prev_len restart r → length (suffix_of d r) ≡ r.suffix_len
suffix-length d at end prev_len restart r w = length-take-le r.suffix_len (drop r.suffix_at d) (rw (length-drop r.suffix_at d) (omega (arith, w.suffix)))

-- the key of a row that is read is as long as it says
pub key_of-length : (d : List ℕ) (at end : ℕ) (before : Key) (restart : Bool) (r : RowRead) → read_row d at end (length before) restart ≡ ok r
    → length (key_of d before r) ≡ key_length r
key_of-length d at end before restart r e =
    let w = read_row-ends d at end (length before) restart r e in
    length-append (take r.shared before) (suffix_of d r)
    ∙ rw (suffix-length d at end (length before) restart r w, length-take-le r.shared before (row-shares d at end (length before) restart r w))

module _ (d : List ℕ) (at end : ℕ) (restart : Bool) (key : List ℕ) (len : ℕ) (c : Carries key len) (r : RowRead) (e : read_row d at end len restart ≡ ok r) where
  w : RowEnds d at end len restart r
  w = read_row-ends d at end len restart r e

  suffix-long : length (suffix_of d r) ≡ r.suffix_len
  suffix-long = suffix-length d at end len restart r w

  shared-fits : r.shared ≤ len
  shared-fits = row-shares d at end len restart r w

  -- the key in its two parts
  pub key-parts : take r.shared key ++ suffix_of d r ≡ key_of d (take len key) r
  key-parts = rw (take-take r.shared len key shared-fits)

  pub suffix-fits : r.shared + length (suffix_of d r) ≤ length key
  suffix-fits = rw (suffix-long, c.whole) w.fits

  -- once the suffix is put over the carried key, the array carries the row's
  pub key-new : take (key_length r) (splice key r.shared (suffix_of d r)) ≡ key_of d (take len key) r
  key-new =
      ap (λ (n : ℕ). take (r.shared + n) (splice key r.shared (suffix_of d r))) (sym suffix-long)
      ∙ take-past-splice key r.shared (suffix_of d r) suffix-fits
      ∙ key-parts

  pub carries-on : Carries (splice key r.shared (suffix_of d r)) (key_length r)
  carries-on = record { few = w.fits; whole = length-splice key r.shared (suffix_of d r) suffix-fits ∙ c.whole }

-- ---- comparing in parts

-- what two keys begin with in common tells nothing
pub below-after : (p a b : Key) → below (p ++ a) (p ++ b) ≡ below a b
unfolding below
below-after [] a b = refl
below-after (x ∷ p) a b = rw (le-ltb x x (omega arith)) (below-after p a b)

pub compare-after : (p a b : Key) → compare (p ++ a) (p ++ b) ≡ compare a b
unfolding compare
compare-after p a b = rw (below-after p a b, below-after p b a)

-- a row's key against the carried one: only what follows the shared bytes is compared, and then, where that is equal, the numbers are
pub follows-suffix : (key : List ℕ) (len shared : ℕ) (s : List ℕ) (before seq : ℕ) → shared ≤ len
    → may_follow (rank_is (take len key) before) (rank_is (take shared key ++ s) seq) ≡ may_by (compare s (drop shared (take len key))) before seq
follows-suffix key len shared s before seq h =
    let split : take shared key ++ drop shared (take len key) ≡ take len key =
    ap (λ (x : List ℕ). x ++ drop shared (take len key)) (sym (take-take shared len key h)) ∙ take-append-drop shared (take len key) in
    may-by (rank_is (take len key) before) (rank_is (take shared key ++ s) seq)
    ∙ ap (λ (o : Ordering). may_by o before seq) (ap (compare (take shared key ++ s)) (sym split) ∙ compare-after (take shared key) s (drop shared (take len key)))

-- Rows counted as they are read: who has read n rows of a region, and stands at `at` after a key of `len` bytes, knows that n rows end at or before it, that each
-- took 12 bytes or more, and what every later position's number is. One record for all reads of a region.
use Prim.Native.Nat.{ℕ, zero, suc, ◌+◌, ◌-◌, ◌*◌, ◌≤◌}
use Rattle.std.specs.Prelude.{◌≡◌, Bool, true, false, ◌&&◌, ◌||◌, List, ltb, eqb}
use Rattle.std.proofs.Math.Path.{refl, sym}
use Rattle.std.proofs.Common.{◌∙◌, ⊎_elim, arith}
use borrow.Author.Tests.{lt-ltb, le-ltb, ne_eqb}
use Rattle.layout.specs.Res.{Res, ok, refuse}
use Rattle.layout.specs.RowRead.{RowRead, key_length}
use Rattle.layout.specs.Trailer.{Trailer, data_of, Region, region_of, row_in}
use Rattle.layout.specs.Number.{ended_from, ended_by, number_at, wrong_after}
use Rattle.layout.proofs.Laws.Res.{ltb-cases}
use Rattle.layout.proofs.Laws.Tells.{row_in-ends}
use Rattle.layout.specs.Laws.Number.{Counting}

module _ (d : List ℕ) (g : Region) (stop : ℕ) where
  -- past the position nothing is counted
  ended-over : (left at len : ℕ) → stop ≤ at → ended_from left d g stop at len ≡ 0
  unfolding ended_from
  ended-over zero at len h = refl
  ended-over (suc left) at len h = go (row_in d g at len) refl
    where
      go : (x : Res RowRead) → row_in d g at len ≡ x → ended_from (suc left) d g stop at len ≡ 0
      go (ok r) e = rw (e, lt-ltb stop r.next (omega (arith, (row_in-ends d g at len r e).least)))
      go (refuse n) e = rw e

  pub ended_from-enough : (m n at len : ℕ) → stop ≤ at + m → stop ≤ at + n → ended_from m d g stop at len ≡ ended_from n d g stop at len
  unfolding ended_from
  ended_from-enough zero n at len h k = sym (ended-over n at len (omega arith))
  ended_from-enough (suc m) zero at len h k = ended-over (suc m) at len (omega arith)
  ended_from-enough (suc m) (suc n) at len h k = go (row_in d g at len) refl (ended_from-enough m n)
    where
      go : (x : Res RowRead) → row_in d g at len ≡ x → ((at len : ℕ) → stop ≤ at + m → stop ≤ at + n → ended_from m d g stop at len ≡ ended_from n d g stop at len)
          → ended_from (suc m) d g stop at len ≡ ended_from (suc n) d g stop at len
      go (ok r) e ih = let on = (row_in-ends d g at len r e).least in rw (e, ih r.next (key_length r) (omega arith) (omega arith))
      go (refuse j) e ih = rw e

-- ---- as far as rows were read

module _ (d : List ℕ) (g : Region) where
  pub counting-start : Counting d g g.start 0 0
  unfolding ended_by
  counting-start =
      record {
        rest = λ stop left h k. ended_from-enough d g stop stop left g.start 0 (omega arith) k ∙ omega arith;
        far = omega arith;
        none = λ _. refl;
      }

  module _ (at len n : ℕ) (c : Counting d g at len n) where
    pub counting-here : ended_by d g at ≡ n
    counting-here = c.rest at 0 (omega arith) (omega arith) ∙ rw (ended-over d g at 0 at len (omega arith)) (omega arith)

    module _ (r : RowRead) (e : row_in d g at len ≡ ok r) where
      pub counting-on : Counting d g r.next (key_length r) (n + 1)
      unfolding ended_from
      counting-on =
          record {
            rest =
                λ stop left h k.
                c.rest stop (suc stop) (omega (arith, on)) (omega arith)
                ∙ rw (e, le-ltb stop r.next h, ended_from-enough d g stop stop left r.next (key_length r) (omega arith) k) (omega arith);
            far = omega (arith, on, c.far);
            none = λ z. absurd (omega arith);
          }
        where
          on : at + 12 ≤ r.next
          on = (row_in-ends d g at len r e).least

    -- such a number is no wrong one
    pub counting-right : wrong_after (at - g.start) n ≡ false
    counting-right =
        ⊎_elim
        (λ t. rw (t.0, ne_eqb n 0 (λ z. absurd (omega (arith, t.1, c.none z))), le-ltb (at - g.start) (12 * n) (omega (arith, c.far))))
        (λ t. rw (t.0, le-ltb (at - g.start) (12 * n) (omega (arith, c.far))))
        (ltb-cases 0 (at - g.start))

-- ---- a number that is not wrong, of a cursor that counts on from it

pub right-tells : (passed n : ℕ) → wrong_after passed n ≡ false → 12 * n ≤ passed
right-tells passed n e = ⊎_elim (λ t. absurd (no (ltb 0 passed && eqb n 0) (rw t.0 at e))) (λ t. t.1) (ltb-cases passed (12 * n))
  where
    no : (b : Bool) → (b || true) ≡ false → ⊥
    no true e = let z : ◌≡◌ {A = ℕ} 0 1 = cc in omega arith
    no false e = let z : ◌≡◌ {A = ℕ} 0 1 = cc in omega arith

pub right-on : (passed n further : ℕ) → wrong_after passed n ≡ false → passed + 12 ≤ further → wrong_after further (n + 1) ≡ false
right-on passed n further e h =
    let k = right-tells passed n e in
    rw (lt-ltb 0 further (omega arith), ne_eqb (n + 1) 0 (λ z. absurd (omega arith)), le-ltb further (12 * (n + 1)) (omega arith))

-- ---- in a region of a block

pub number_in : (b : List ℕ) (t : Trailer) (region stop : ℕ) (g : Region) → region_of b t region ≡ ok g → number_at b t region stop ≡ ended_by (data_of b t) g stop
unfolding number_at
number_in b t region stop g e = rw e

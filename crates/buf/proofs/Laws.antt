-- The eight bytes of a part that is lent for them are all there: their number is that of the bytes where they stand in the whole. Four bytes at a place are two
-- pairs. What a read of a number of any width tells of the number alone.
use Prim.Native.Nat.{ℕ, suc, ◌+◌, ◌-◌, ◌*◌, ◌<◌, ◌≤◌}
use mathlib.Core.Path.{◌≡◌, ap, sym, ◌∙◌}
use mathlib.Core.List.{List, ◌∷◌}
use native.Mathlib.Omega.{arith}
use lib.ListN.{length, take, drop, get_or, length-drop}
use lib.Seq.{take-take, drop-cons, length-take-le}
use borrow.Author.Tests.{le-ltb}
use Rattle.layout.specs.Res.{ok}
use Rattle.layout.specs.Fixed.{unbig}
use Rattle.layout.specs.Place.{NumAt, num_at, fixed_at}
use Rattle.layout.proofs.Laws.Res.{ok-inj}
use Rattle.layout.specs.Laws.Place.{four_at}
use Rattle.layout.proofs.Laws.Place.{fixed_at-eight}
use Rattle.layout.proofs.Laws.Plain.{fixed_at-is}
use Rattle.std.specs.Prelude.{Result}
use Rattle.basics.specs.Answers.{says_num}
use Rattle.basics.specs.declared.Read.{Read}
use Rattle.basics.specs.declared.Refusal.{Refusal}
use Rattle.buf.specs.Promise.{or_zero, ReadsEight, ReadsNarrow, ReadsBytes}

pub eight-part : (d : List ℕ) (at : ℕ) {q : ℕ} → at + 8 ≤ length d → ReadsEight (take (at + 8 - at) (drop at d)) 0 q → q ≡ four_at d at * 4294967296 + four_at d (at + 4)
eight-part d at h e =
    let m : at + 8 - at ≡ 8 = omega arith in
    let long : length (take 8 (drop at d)) ≡ 8 = length-take-le 8 (drop at d) (rw length-drop (omega arith)) in
    (rw m at e)
    ∙ ap or_zero (fixed_at-is 8 (take 8 (drop at d)) 0 (omega (arith, long)))
    ∙ ap unbig (take-take 8 8 (drop at d) (omega arith))
    ∙ sym (ap (λ (x : NumAt). x.val) (ok-inj (fixed_at-eight d at h ∙ fixed_at-is 8 d at h)))

-- ---- fewer bytes

byte-then : (d : List ℕ) (p q : ℕ) → q ≡ suc p → p < length d → drop p d ≡ get_or d p 0 ∷ drop q d
byte-then d p q e h = rw e (drop-cons d p 0 h)

four_bytes : (a b c e : ℕ) (more : List ℕ) → unbig (take 4 (a ∷ b ∷ c ∷ e ∷ more)) ≡ (a * 256 + b) * 65536 + (c * 256 + e)
unfolding unbig
four_bytes a b c e more = omega arith

pub fixed_at-four : (d : List ℕ) (at : ℕ) → at + 4 ≤ length d → ok (num_at (four_at d at) (at + 4)) ≡ fixed_at 4 d at
unfolding fixed_at
fixed_at-four d at h =
    rw (
      le-ltb (length d) (at + 4) h,
      byte-then d at (at + 1) (omega arith) (omega arith),
      byte-then d (at + 1) (at + 2) (omega arith) (omega arith),
      byte-then d (at + 2) (at + 2 + 1) (omega arith) (omega arith),
      byte-then d (at + 2 + 1) (at + 4) (omega arith) (omega arith),
      four_bytes (get_or d at 0) (get_or d (at + 1) 0) (get_or d (at + 2) 0) (get_or d (at + 2 + 1) 0) (drop (at + 4) d),
    )

-- an answer that is known to be the case v tells the number, or 0 where it is refused
pub bytes-known : (n : ℕ) (d : List ℕ) (at : ℕ) {a v : Result (Read ℕ) Refusal} → ReadsNarrow n d at a → a ≡ v → ReadsBytes n d at (or_zero (says_num v))
bytes-known n d at e q = rw (← q) (ap or_zero e.0, e.1)

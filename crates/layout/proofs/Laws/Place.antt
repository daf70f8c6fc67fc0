-- Numbers at a place: bytes that were laid there are read; what is read lies inside the data; what code that reads byte by byte uses.
use Rattle.std.specs.Prelude.{ℕ, suc, ◌+◌, ◌*◌, ◌^◌, ◌<◌, ◌≤◌, ◌≡◌, refl, List, ◌∷◌, ◌++◌, ltb, length, take, drop, get_or}
use Rattle.std.proofs.Common.{ap, sym, ◌∙◌, arith, length-append, length-drop, drop_of_length-le, drop_at, drop-drop, drop-cons, get_or-drop, lt-ltb, le-ltb, ltb-false}
use Rattle.layout.specs.Res.{ok, refuse}
use Rattle.layout.specs.Varint.{read_varint, varint, num}
use Rattle.layout.specs.Fixed.{big, unbig}
use Rattle.layout.specs.Place.{NumAt, num_at, varint_at, fixed_at, SignedAt, signed_at}
use Rattle.layout.proofs.Laws.Res.{bind-then, guard-then, ok-inj}
use Rattle.layout.proofs.Laws.Varint.{read_varint-varint, read_varint-len, read_varint-none}
use Rattle.layout.proofs.Laws.Fixed.{length-big, unbig-take-big}
use Rattle.layout.specs.Laws.Place.{four_at, pair_at}

-- ---- laws: bytes that were laid

-- bytes w stand at a place, and what follows them
pub past : (d : List ℕ) (at : ℕ) (w post : List ℕ) → drop at d ≡ w ++ post → drop (at + length w) d ≡ post
past d at w post e = sym (drop-drop (length w) at d) ∙ rw e (drop_at w post (length w) refl)

pub within : (d : List ℕ) (at : ℕ) (w post : List ℕ) → drop at d ≡ w ++ post → 1 ≤ length w → at + length w ≤ length d
within d at w post e h = omega (arith, length-drop at d, ap length e, length-append w post)

pub varint_at-law : (d : List ℕ) (at v : ℕ) (post : List ℕ) → v < 2 ^ 32 → drop at d ≡ varint v ++ post → varint_at d at ≡ ok (num_at v (at + length (varint v)))
unfolding varint_at
varint_at-law d at v post h e = rw (e, read_varint-varint v post h)

pub fixed_at-law : (n : ℕ) (d : List ℕ) (at v : ℕ) (post : List ℕ) → 1 ≤ n → v < 256 ^ n → drop at d ≡ big n v ++ post → fixed_at n d at ≡ ok (num_at v (at + n))
unfolding fixed_at
fixed_at-law n d at v post k h e =
    rw (le-ltb (length d) (at + n) (omega (arith, within d at (big n v) post e (rw (length-big n v) k), length-big n v)), e, unbig-take-big n v post h)

-- ---- laws: any bytes

-- a number that is read has at least a byte, and lies inside the data
pub varint_at-ends : (d : List ℕ) (at : ℕ) (r : NumAt) → varint_at d at ≡ ok r → (at + 1 ≤ r.next) × (r.next ≤ length d)
unfolding varint_at
varint_at-ends d at r e =
    bind-then (read_varint (drop at d)) _ r e λ a p q.
    let n = ap (λ (x : NumAt). x.next) (ok-inj q) in
    let w = simp length-drop at (read_varint-len (drop at d) a p) in
    omega arith

pub fixed_at-ends : (n : ℕ) (d : List ℕ) (at : ℕ) (r : NumAt) → fixed_at n d at ≡ ok r → (at + n ≡ r.next) × (r.next ≤ length d)
unfolding fixed_at
fixed_at-ends n d at r e =
    guard-then (ltb (length d) (at + n)) 9 _ r e λ t q.
    let k = ap (λ (x : NumAt). x.next) (ok-inj q) in
    omega (arith, ltb-false)

pub signed_at-ends : (d : List ℕ) (at : ℕ) (r : SignedAt) → signed_at d at ≡ ok r → (at + 8 ≡ r.next) × (r.next ≤ length d)
signed_at-ends d at r e =
    bind-then (fixed_at 8 d at) _ r e λ w p q.
    let n = ap (λ (x : SignedAt). x.next) (ok-inj q) in
    omega (arith, fixed_at-ends 8 d at w p)

-- the byte that stands at a place
pub byte_at : (d : List ℕ) (at b : ℕ) (post : List ℕ) → drop at d ≡ b ∷ post → get_or d at 0 ≡ b
byte_at d at b post e = ap (λ (k : ℕ). get_or d k 0) (omega arith) ∙ sym (get_or-drop at d 0 0) ∙ ap (λ (l : List ℕ). get_or l 0 0) e

-- ---- laws: what code that reads byte by byte uses

pub varint_at-is : (d : List ℕ) (at v n p : ℕ) → ok (num v n) ≡ read_varint (drop at d) → p ≡ at + n → ok (num_at v p) ≡ varint_at d at
unfolding varint_at
varint_at-is d at v n p e h = rw (← e, h)

pub varint_at-no : (d : List ℕ) (at k : ℕ) → refuse k ≡ read_varint (drop at d) → refuse k ≡ varint_at d at
unfolding varint_at
varint_at-no d at k e = rw (← e)

pub varint_at-none : (d : List ℕ) (at : ℕ) → length d ≤ at → refuse 9 ≡ varint_at d at
unfolding varint_at
varint_at-none d at h = rw (drop_of_length-le d h, read_varint-none)

pub fixed_at-none : (n : ℕ) (d : List ℕ) (at : ℕ) → length d < at + n → refuse 9 ≡ fixed_at n d at
unfolding fixed_at
fixed_at-none n d at h = rw (lt-ltb (length d) (at + n) h)

byte-then : (d : List ℕ) (p q : ℕ) → q ≡ suc p → p < length d → drop p d ≡ get_or d p 0 ∷ drop q d
byte-then d p q e h = rw e (drop-cons d p 0 h)

two_bytes : (a b : ℕ) (more : List ℕ) → unbig (take 2 (a ∷ b ∷ more)) ≡ a * 256 + b
unfolding unbig
two_bytes a b more = omega arith

pub fixed_at-two : (d : List ℕ) (at : ℕ) → at + 2 ≤ length d → ok (num_at (pair_at d at) (at + 2)) ≡ fixed_at 2 d at
unfolding fixed_at
fixed_at-two d at h =
    rw (
      le-ltb (length d) (at + 2) h,
      byte-then d at (at + 1) (omega arith) (omega arith),
      byte-then d (at + 1) (at + 2) (omega arith) (omega arith),
      two_bytes (get_or d at 0) (get_or d (at + 1) 0) (drop (at + 2) d),
    )

eight-bytes : (a b c e f g h i : ℕ) (more : List ℕ)
    → unbig (take 8 (a ∷ b ∷ c ∷ e ∷ f ∷ g ∷ h ∷ i ∷ more)) ≡ ((a * 256 + b) * 65536 + (c * 256 + e)) * 4294967296 + ((f * 256 + g) * 65536 + (h * 256 + i))
unfolding unbig
eight-bytes a b c e f g h i more = omega arith

pub fixed_at-eight : (d : List ℕ) (at : ℕ) → at + 8 ≤ length d → ok (num_at (four_at d at * 4294967296 + four_at d (at + 4)) (at + 8)) ≡ fixed_at 8 d at
unfolding fixed_at
fixed_at-eight d at h =
    rw (
      le-ltb (length d) (at + 8) h,
      byte-then d at (at + 1) (omega arith) (omega arith),
      byte-then d (at + 1) (at + 2) (omega arith) (omega arith),
      byte-then d (at + 2) (at + 2 + 1) (omega arith) (omega arith),
      byte-then d (at + 2 + 1) (at + 4) (omega arith) (omega arith),
      byte-then d (at + 4) (at + 4 + 1) (omega arith) (omega arith),
      byte-then d (at + 4 + 1) (at + 4 + 2) (omega arith) (omega arith),
      byte-then d (at + 4 + 2) (at + 4 + 2 + 1) (omega arith) (omega arith),
      byte-then d (at + 4 + 2 + 1) (at + 8) (omega arith) (omega arith),
      eight-bytes (get_or d at 0) (get_or d (at + 1) 0) (get_or d (at + 2) 0) (get_or d (at + 2 + 1) 0) (get_or d (at + 4) 0) (get_or d (at + 4 + 1) 0) (get_or d (at + 4 + 2) 0) (get_or d (at + 4 + 2 + 1) 0) (drop (at + 8) d),
    )

-- What an answer tells of any bytes, by taking the reader's answer apart: a row that is read takes at least 12 bytes, at a restart 13, and ends
-- inside its region and the data; its key is allowed and stands inside the data; where it is read whole, its key alone is read too.
use Rattle.std.specs.Prelude.{ℕ, ◌+◌, ◌≤◌, ◌≡◌, refl, Bool, true, false, List, ltb, eqb, length, get_or}
use Rattle.std.proofs.Common.{zero-le, ap, ◌∙◌, le_trans, arith, le-ltb, ltb-false}
use Rattle.std.proofs.lemmas.Bool.{eqb-false}
use Rattle.layout.specs.Res.{ok}
use Rattle.layout.specs.Limits.{max_key, max_value}
use Rattle.layout.specs.Place.{varint_at, fixed_at, signed_at}
use Rattle.layout.specs.Row.{key_length_tests}
use Rattle.layout.specs.RowRead.{Lengths, value_at, seq_at, lengths_at, may_share, head_tests, head_at, Flags, flags_at, Body, body_tests, body_at, TimeAt, time_at, Times, times_at, RowRead, row_is, row_at, read_row, read_key}
use Rattle.layout.specs.Trailer.{Region, row_in}
use Rattle.layout.proofs.Laws.Res.{bind-then, guard-then, ok-inj}
use Rattle.layout.proofs.Laws.Place.{varint_at-ends, signed_at-ends}
use Rattle.layout.specs.Laws.Tells.{RowEnds, RowTells, key_part}

pub lengths_at-ends : (d : List ℕ) (at : ℕ) (l : Lengths) → lengths_at d at ≡ ok l → (at + 3 ≤ l.body) × (l.body ≤ length d)
unfolding lengths_at
lengths_at-ends d at l e =
    bind-then (varint_at d at) _ l e λ a pa e₁.
    bind-then (varint_at d a.next) _ l e₁ λ b pb e₂.
    bind-then (varint_at d b.next) _ l e₂ λ c pc e₃.
    let q = ap (λ (x : Lengths). x.body) (ok-inj e₃) in
    let la = varint_at-ends d at a pa in
    let lb = varint_at-ends d a.next b pb in
    let lc = varint_at-ends d b.next c pc in
    omega arith

-- the lengths that passed the key's tests
pub record Headed (d : List ℕ) (at prev_len : ℕ) (restart : Bool) (l : Lengths) : Type 0 where
  pub moved : at + 3 ≤ l.body
  pub inside : l.body ≤ length d
  pub shares : l.shared ≤ may_share restart prev_len
  pub some : 1 ≤ l.shared + l.unshared
  pub fits : l.shared + l.unshared ≤ max_key

pub key_length_tests-tells : (n : ℕ) (u : Unit {0}) → key_length_tests n ≡ ok u → (1 ≤ n) × (n ≤ max_key)
unfolding key_length_tests
key_length_tests-tells n u e =
    guard-then (eqb n 0) 1 _ u e λ t₁ e₁.
    guard-then (ltb max_key n) 2 _ u e₁ λ t₂ e₂.
    let ne = eqb-false n 0 t₁ in
    (omega arith, ltb-false max_key n t₂)

pub head_tests-tell : (most shared unshared : ℕ) (u : Unit {0}) → head_tests most shared unshared ≡ ok u → (shared ≤ most) × (1 ≤ shared + unshared) × (shared + unshared ≤ max_key)
unfolding head_tests
head_tests-tell most shared unshared u e =
    guard-then (ltb most shared) 13 _ u e λ t k.
    let w = key_length_tests-tells (shared + unshared) u k in
    (ltb-false most shared t, w.0, w.1)

pub body_tests-tell : (data_len value_len end : ℕ) (u : Unit {0}) → body_tests data_len value_len end ≡ ok u → (value_len ≤ max_value) × (end ≤ data_len)
unfolding body_tests
body_tests-tell data_len value_len end u e =
    guard-then (ltb max_value value_len) 3 _ u e λ t₁ e₁.
    guard-then (ltb data_len end) 9 _ u e₁ λ t₂ e₂.
    (ltb-false max_value value_len t₁, ltb-false data_len end t₂)

pub head_at-tells : (d : List ℕ) (at prev_len : ℕ) (restart : Bool) (l : Lengths) → head_at d at prev_len restart ≡ ok l → Headed d at prev_len restart l
unfolding head_at
head_at-tells d at prev_len restart l e =
    bind-then (lengths_at d at) _ l e λ m p q.
    bind-then (head_tests (may_share restart prev_len) m.shared m.unshared) _ l q λ u k q₁.
    rw (← ok-inj q₁) (made m (lengths_at-ends d at m p) (head_tests-tell (may_share restart prev_len) m.shared m.unshared u k))
  where
    made : (m : Lengths) → (at + 3 ≤ m.body) × (m.body ≤ length d) → (m.shared ≤ may_share restart prev_len) × (1 ≤ m.shared + m.unshared) × (m.shared + m.unshared ≤ max_key)
        → Headed d at prev_len restart m
    made m a b = record { moved = a.0; inside = a.1; shares = b.0; some = b.1; fits = b.2 }

-- the value's length passed its test, and the fixed part lies inside the data
pub body_at-tells : (d : List ℕ) (l : Lengths) (b : Body) → body_at d l ≡ ok b → (l.value_len ≤ max_value) × (seq_at l + 9 ≤ length d) × (seq_at l + 9 ≡ b.next)
unfolding body_at
body_at-tells d l b e =
    bind-then (body_tests (length d) l.value_len (seq_at l + 9)) _ b e λ u t e₁.
    bind-then (fixed_at 8 d (seq_at l)) _ b e₁ λ q p e₂.
    bind-then (flags_at (get_or d q.next 0)) _ b e₂ λ f v e₃.
    let w = body_tests-tell (length d) l.value_len (seq_at l + 9) u t in
    (w.0, w.1, ap (λ (x : Body). x.next) (ok-inj e₃))

pub time_at-ends : (f : Bool) (d : List ℕ) (at : ℕ) (t : TimeAt) → time_at f d at ≡ ok t → at ≤ length d → (at ≤ t.next) × (t.next ≤ length d)
unfolding time_at
time_at-ends true d at t e h =
    bind-then (signed_at d at) _ t e λ w p q.
    let n = ap (λ (x : TimeAt). x.next) (ok-inj q) in
    let k = signed_at-ends d at w p in
    omega arith
time_at-ends false d at t e h =
    let n = ap (λ (x : TimeAt). x.next) (ok-inj e) in
    omega arith

pub times_at-ends : (d : List ℕ) (at : ℕ) (f : Flags) (t : Times) → times_at d at f ≡ ok t → at ≤ length d → (at ≤ t.next) × (t.next ≤ length d)
unfolding times_at
times_at-ends d at f t e h =
    bind-then (time_at f.expire d at) _ t e λ a p e₁.
    bind-then (time_at f.create d a.next) _ t e₁ λ c q e₂.
    let n = ap (λ (x : Times). x.next) (ok-inj e₂) in
    let k = time_at-ends f.expire d at a p h in
    let m = time_at-ends f.create d a.next c q k.1 in
    omega arith

pub row_at-tells : (d : List ℕ) (at prev_len : ℕ) (restart : Bool) (r : RowRead) → row_at d at prev_len restart ≡ ok r → RowTells d at prev_len restart r
unfolding row_at
row_at-tells d at prev_len restart r e =
    bind-then (head_at d at prev_len restart) _ r e λ l p e₁.
    bind-then (body_at d l) _ r e₁ λ b q e₂.
    bind-then (times_at d b.next b.flags) _ r e₂ λ t s e₃.
    record { l = l; b = b; t = t; head = p; body = q; times = s; is = ok-inj e₃ }

pub read_row-ends : (d : List ℕ) (at end prev_len : ℕ) (restart : Bool) (r : RowRead) → read_row d at end prev_len restart ≡ ok r → RowEnds d at end prev_len restart r
unfolding read_row
read_row-ends d at end prev_len restart r e =
    bind-then (row_at d at prev_len restart) _ r e λ g p q.
    guard-then (ltb end g.next) 16 _ r q λ t c.
    rw (← ok-inj c) (go g (ltb-false end g.next t) (row_at-tells d at prev_len restart g p))
  where
    go : (g : RowRead) → g.next ≤ end → RowTells d at prev_len restart g → RowEnds d at end prev_len restart g
    go g u w =
        let h = head_at-tells d at prev_len restart w.l w.head in
        let b = body_at-tells d w.l w.b w.body in
        let b₀ = b.1 in
        let b₁ = b.2 in
        let k = times_at-ends d w.b.next w.b.flags w.t w.times (omega arith) in
        let k₀ = k.0 in
        let k₁ = k.1 in
        let h₁ = h.moved in
        let m : (row_is at w.l w.b w.t).next ≡ g.next = ap (λ (x : RowRead). x.next) w.is in
        let u' : w.t.next ≤ end = omega arith in
        rw (← w.is)
        (record { starts = refl; least = omega arith; room = omega arith; within = u'; inside = k₁; shares = h.shares; some = h.some; fits = h.fits; suffix = omega arith })

pub row_in-ends : (d : List ℕ) (g : Region) (at prev_len : ℕ) (r : RowRead) → row_in d g at prev_len ≡ ok r → RowEnds d at g.end prev_len (eqb at g.start) r
row_in-ends d g at prev_len r e = read_row-ends d at g.end prev_len (eqb at g.start) r e

-- a restart takes at least 13: it shares nothing, so its suffix has a byte
pub restart-least : (d : List ℕ) (at end prev_len : ℕ) (r : RowRead) → read_row d at end prev_len true ≡ ok r → at + 13 ≤ r.next
restart-least d at end prev_len r e =
    let w = read_row-ends d at end prev_len true r e in
    let s : r.shared ≤ 0 = w.shares in
    let n = w.some in
    let m = w.room in
    omega arith

-- a row shares no more than the key before it has
pub row-shares : (d : List ℕ) (at end prev_len : ℕ) (restart : Bool) (r : RowRead) → RowEnds d at end prev_len restart r → r.shared ≤ prev_len
row-shares d at end prev_len restart r w = le_trans w.shares (most restart)
  where
    most : (restart : Bool) → may_share restart prev_len ≤ prev_len
    most true = zero-le
    most false = omega arith

-- where the whole row is read, the key-only read gives its key's places
pub read_key-of-read_row : (d : List ℕ) (at end prev_len : ℕ) (restart : Bool) (r : RowRead) → read_row d at end prev_len restart ≡ ok r
    → read_key d at end prev_len restart ≡ ok (key_part r)
unfolding read_row read_key
read_key-of-read_row d at end prev_len restart r e =
    bind-then (row_at d at prev_len restart) _ r e λ g p q.
    guard-then (ltb end g.next) 16 _ r q λ t c.
    go g (ok-inj c) (ltb-false end g.next t) (row_at-tells d at prev_len restart g p)
  where
    made : (g : RowRead) → g.next ≤ end → (l : Lengths) (b : Body) (t : Times) → head_at d at prev_len restart ≡ ok l → body_at d l ≡ ok b
        → times_at d b.next b.flags ≡ ok t → row_is at l b t ≡ g → g ≡ r
        → read_key d at end prev_len restart ≡ ok (key_part r)
    made g u l b t ph pb pt is same =
        let k = body_at-tells d l b pb in
        let w = times_at-ends d b.next b.flags t pt (omega (arith, k.1, k.2)) in
        let m = ap (λ (x : RowRead). x.next) is in
        rw (ph, le-ltb (length d) (value_at l) (omega (arith, k.1)), le-ltb end (value_at l) (omega arith)) (ap (λ (x : RowRead). ok (key_part x)) (is ∙ same))

    go : (g : RowRead) → g ≡ r → g.next ≤ end → RowTells d at prev_len restart g
        → read_key d at end prev_len restart ≡ ok (key_part r)
    go g same u w = made g u w.l w.b w.t w.head w.body w.times w.is same

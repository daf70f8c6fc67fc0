-- Each way through a row's read, by what was met on it: one law for each exit of the code, answer on the left, as a contract asks it. And what an answer tells
-- of any bytes: a row that is read takes at least 13, ends where it must and inside the data, and its key is allowed and stands inside the data.
use Rattle.std.specs.Prelude.{ℕ, ◌+◌, ◌<◌, ◌≤◌, ◌≡◌, List, ltb, length, get_or}
use Rattle.std.proofs.Math.Path.{refl}
use Rattle.std.proofs.Common.{ap, sym, ◌∙◌, arith}
use borrow.Author.Tests.{lt-ltb, le-ltb, ltb-false, eq-eqb, ne_eqb}
use Rattle.layout.specs.Res.{ok, refuse, bind}
use Rattle.layout.specs.Limits.{max_key, max_value}
use Rattle.layout.specs.Place.{NumAt, fixed_at}
use Rattle.layout.specs.Row.{Kind, value, tombstone, merge, key_length_tests}
use Rattle.layout.specs.RowRead.{head_tests, held_as, gone, Flags, flags_at, Times, times_at, RowRead, key_length}
use Rattle.layout.proofs.Laws.Res.{bind-then, guard-then, ok-inj}
use Rattle.layout.proofs.Laws.Place.{fixed_at-ends}
use Rattle.layout.proofs.Laws.Tells.{head_tests-tell, times_at-ends}
use Rattle.layout_v1.specs.RowRead.{Head, head_is, head_at, seq_at, Body, body_is, body_at, Span, span_is, value_at, HeldAt, held_is, held_at, row_is, row_at, read_row, key_is, read_key}

-- ---- the two lengths

module _ (d : List ℕ) (at most : ℕ) where
  pub head-one : {n : ℕ} → fixed_at 2 d at ≡ refuse n → refuse n ≡ head_at d at most
  unfolding head_at
  head-one e = rw e

  pub head-two : {s : NumAt} {n : ℕ} → fixed_at 2 d at ≡ ok s → fixed_at 2 d s.next ≡ refuse n → refuse n ≡ head_at d at most
  unfolding head_at
  head-two e₁ e₂ = rw (e₁, e₂)

  module _ {s u : NumAt} (e₁ : fixed_at 2 d at ≡ ok s) (e₂ : fixed_at 2 d s.next ≡ ok u) where
    pub head-share : most < s.val → refuse 13 ≡ head_at d at most
    unfolding head_at head_tests
    head-share h = rw (e₁, e₂, lt-ltb most s.val h)

    pub head-empty : s.val ≤ most → s.val + u.val ≡ 0 → refuse 1 ≡ head_at d at most
    unfolding head_at head_tests key_length_tests
    head-empty h k = rw (e₁, e₂, le-ltb most s.val h, eq-eqb (s.val + u.val) 0 k)

    pub head-long : s.val ≤ most → max_key < s.val + u.val → refuse 2 ≡ head_at d at most
    unfolding head_at head_tests key_length_tests
    head-long h k = rw (e₁, e₂, le-ltb most s.val h, ne_eqb (s.val + u.val) 0 (omega arith), lt-ltb max_key (s.val + u.val) k)

    pub head-good : s.val ≤ most → (s.val + u.val ≡ 0 → ⊥) → s.val + u.val ≤ max_key → ok (head_is s.val u.val u.next) ≡ head_at d at most
    unfolding head_at head_tests key_length_tests
    head-good h k m = rw (e₁, e₂, le-ltb most s.val h, ne_eqb (s.val + u.val) 0 k, le-ltb max_key (s.val + u.val) m)

-- the lengths that passed the key's tests
pub record Headed (d : List ℕ) (at most : ℕ) (h : Head) : Type 0 where
  pub moved : at + 4 ≡ h.suffix_at
  pub inside : h.suffix_at ≤ length d
  pub shares : h.shared ≤ most
  pub some : 1 ≤ h.shared + h.unshared
  pub fits : h.shared + h.unshared ≤ max_key

pub head_at-tells : (d : List ℕ) (at most : ℕ) (h : Head) → head_at d at most ≡ ok h → Headed d at most h
unfolding head_at
head_at-tells d at most h e =
    bind-then (fixed_at 2 d at) _ h e λ s p e₁.
    bind-then (fixed_at 2 d s.next) _ h e₁ λ u q e₂.
    bind-then (head_tests most s.val u.val) _ h e₂ λ t k e₃.
    let one = fixed_at-ends 2 d at s p in
    let two = fixed_at-ends 2 d s.next u q in
    let w = head_tests-tell most s.val u.val t k in
    rw (← ok-inj e₃) (record { moved = omega arith; inside = two.1; shares = w.0; some = w.1; fits = w.2 })

-- ---- seq and flags

module _ (d : List ℕ) (h : Head) where
  pub body-short : length d < seq_at h + 9 → refuse 9 ≡ body_at d h
  unfolding body_at
  body-short k = rw (lt-ltb (length d) (seq_at h + 9) k)

  module _ (k : seq_at h + 9 ≤ length d) where
    pub body-word : {n : ℕ} → fixed_at 8 d (seq_at h) ≡ refuse n → refuse n ≡ body_at d h
    unfolding body_at
    body-word e = rw (le-ltb (length d) (seq_at h + 9) k, e)

    pub body-flags : {q : NumAt} {n : ℕ} → fixed_at 8 d (seq_at h) ≡ ok q → flags_at (get_or d q.next 0) ≡ refuse n → refuse n ≡ body_at d h
    unfolding body_at
    body-flags e₁ e₂ = rw (le-ltb (length d) (seq_at h + 9) k, e₁, e₂)

    pub body-good : {q : NumAt} {f : Flags} → fixed_at 8 d (seq_at h) ≡ ok q → flags_at (get_or d q.next 0) ≡ ok f → ok (body_is q.val f (seq_at h + 9)) ≡ body_at d h
    unfolding body_at
    body-good e₁ e₂ = rw (le-ltb (length d) (seq_at h + 9) k, e₁, e₂)

pub body_at-tells : (d : List ℕ) (h : Head) (b : Body) → body_at d h ≡ ok b → (seq_at h + 9 ≤ length d) × (seq_at h + 9 ≡ b.next)
unfolding body_at
body_at-tells d h b e =
    guard-then (ltb (length d) (seq_at h + 9)) 9 _ b e λ t e₁.
    bind-then (fixed_at 8 d (seq_at h)) _ b e₁ λ q p e₂.
    bind-then (flags_at (get_or d q.next 0)) _ b e₂ λ f v e₃.
    (ltb-false (length d) (seq_at h + 9) t, ap (λ (x : Body). x.next) (ok-inj e₃))

-- ---- the value

module _ (d : List ℕ) (at : ℕ) where
  pub value_none : {n : ℕ} → fixed_at 4 d at ≡ refuse n → refuse n ≡ value_at d at
  unfolding value_at
  value_none e = rw e

  module _ {n : NumAt} (e : fixed_at 4 d at ≡ ok n) where
    pub value-long : max_value < n.val → refuse 3 ≡ value_at d at
    unfolding value_at
    value-long h = rw (e, lt-ltb max_value n.val h)

    pub value-short : n.val ≤ max_value → length d < n.next + n.val → refuse 9 ≡ value_at d at
    unfolding value_at
    value-short h k = rw (e, le-ltb max_value n.val h, lt-ltb (length d) (n.next + n.val) k)

    pub value-good : n.val ≤ max_value → n.next + n.val ≤ length d → ok (span_is n.next n.val) ≡ value_at d at
    unfolding value_at
    value-good h k = rw (e, le-ltb max_value n.val h, le-ltb (length d) (n.next + n.val) k)

pub value_at-tells : (d : List ℕ) (at : ℕ) (v : Span) → value_at d at ≡ ok v → (at + 4 ≡ v.at) × (v.at + v.len ≤ length d) × (v.len ≤ max_value)
unfolding value_at
value_at-tells d at v e =
    bind-then (fixed_at 4 d at) _ v e λ n p e₁.
    guard-then (ltb max_value n.val) 3 _ v e₁ λ t₁ e₂.
    guard-then (ltb (length d) (n.next + n.val)) 9 _ v e₂ λ t₂ e₃.
    let w = fixed_at-ends 4 d at n p in
    rw (← ok-inj e₃) (w.0, ltb-false (length d) (n.next + n.val) t₂, ltb-false max_value n.val t₁)

-- a tombstone has none; another kind is told by it
module _ (k : Kind) (d : List ℕ) (at : ℕ) where
  pub held-gone : k ≡ tombstone → ok (held_is gone at) ≡ held_at k d at
  unfolding held_at
  held-gone e = rw e

  pub held_kept : (k ≡ tombstone → ⊥) → held_at k d at ≡ bind (value_at d at) (λ (v : Span). ok (held_is (held_as k v.at v.len) (v.at + v.len)))
  unfolding held_at
  held_kept h = go k h
    where
      go : (k : Kind) → (k ≡ tombstone → ⊥) → held_at k d at ≡ bind (value_at d at) (λ (v : Span). ok (held_is (held_as k v.at v.len) (v.at + v.len)))
      go value h = refl
      go tombstone h = absurd (h refl)
      go merge h = refl

  module _ (h : k ≡ tombstone → ⊥) where
    pub held-no : {n : ℕ} → value_at d at ≡ refuse n → refuse n ≡ held_at k d at
    held-no e = sym (held_kept h ∙ rw e)

    pub held-good : {v : Span} → value_at d at ≡ ok v → ok (held_is (held_as k v.at v.len) (v.at + v.len)) ≡ held_at k d at
    held-good e = sym (held_kept h ∙ rw e)

pub held_at-ends : (k : Kind) (d : List ℕ) (at : ℕ) (v : HeldAt) → at ≤ length d → held_at k d at ≡ ok v → (at ≤ v.next) × (v.next ≤ length d)
unfolding held_at
held_at-ends value d at v h e =
    bind-then (value_at d at) _ v e λ s p q.
    let w = value_at-tells d at s p in
    let n = ap (λ (x : HeldAt). x.next) (ok-inj q) in
    omega (arith, w.0, w.1)
held_at-ends tombstone d at v h e = let n = ap (λ (x : HeldAt). x.next) (ok-inj e) in omega arith
held_at-ends merge d at v h e =
    bind-then (value_at d at) _ v e λ s p q.
    let w = value_at-tells d at s p in
    let n = ap (λ (x : HeldAt). x.next) (ok-inj q) in
    omega (arith, w.0, w.1)

-- ---- the row, wherever it ends

module _ (d : List ℕ) (at most : ℕ) where
  pub row-head : {n : ℕ} → head_at d at most ≡ refuse n → refuse n ≡ row_at d at most
  unfolding row_at
  row-head e = rw e

  module _ {h : Head} (e₁ : head_at d at most ≡ ok h) where
    pub row-body : {n : ℕ} → body_at d h ≡ refuse n → refuse n ≡ row_at d at most
    unfolding row_at
    row-body e₂ = rw (e₁, e₂)

    module _ {b : Body} (e₂ : body_at d h ≡ ok b) where
      pub row-times : {n : ℕ} → times_at d b.next b.flags ≡ refuse n → refuse n ≡ row_at d at most
      unfolding row_at
      row-times e₃ = rw (e₁, e₂, e₃)

      module _ {t : Times} (e₃ : times_at d b.next b.flags ≡ ok t) where
        pub row-held : {n : ℕ} → held_at b.flags.kind d t.next ≡ refuse n → refuse n ≡ row_at d at most
        unfolding row_at
        row-held e₄ = rw (e₁, e₂, e₃, e₄)

        pub row-good : {v : HeldAt} → held_at b.flags.kind d t.next ≡ ok v → ok (row_is at h b t v) ≡ row_at d at most
        unfolding row_at
        row-good e₄ = rw (e₁, e₂, e₃, e₄)

-- ---- and in a block

module _ (d : List ℕ) (at end most : ℕ) where
  pub read_no : {n : ℕ} → row_at d at most ≡ refuse n → refuse n ≡ read_row d at end most
  unfolding read_row
  read_no e = rw e

  module _ {r : RowRead} (e : row_at d at most ≡ ok r) where
    pub read_past : end < r.next → refuse 16 ≡ read_row d at end most
    unfolding read_row
    read_past h = rw (e, lt-ltb end r.next h)

    pub read-early : r.next < end → refuse 20 ≡ read_row d at end most
    unfolding read_row
    read-early h = rw (e, le-ltb end r.next (omega arith), lt-ltb r.next end h)

    pub read-good : r.next ≡ end → ok r ≡ read_row d at end most
    unfolding read_row
    read-good h = rw (e, le-ltb end r.next (omega arith), le-ltb r.next end (omega arith))

  -- ---- its key alone

  pub key-head : {n : ℕ} → head_at d at most ≡ refuse n → refuse n ≡ read_key d at end most
  unfolding read_key
  key-head e = rw e

  module _ {h : Head} (e : head_at d at most ≡ ok h) where
    pub key-short : length d < seq_at h → refuse 9 ≡ read_key d at end most
    unfolding read_key
    key-short k = rw (e, lt-ltb (length d) (seq_at h) k)

    pub key-past : seq_at h ≤ length d → end < seq_at h → refuse 16 ≡ read_key d at end most
    unfolding read_key
    key-past k m = rw (e, le-ltb (length d) (seq_at h) k, lt-ltb end (seq_at h) m)

    pub key-good : seq_at h ≤ length d → seq_at h ≤ end → ok (key_is h) ≡ read_key d at end most
    unfolding read_key
    key-good k m = rw (e, le-ltb (length d) (seq_at h) k, le-ltb end (seq_at h) m)

-- ---- what a row that is read keeps

pub record RowEnds (d : List ℕ) (at most : ℕ) (r : RowRead) : Type 0 where
  pub starts : r.start ≡ at
  pub suffixes : r.suffix_at ≡ at + 4
  pub room : at + 13 + r.suffix_len ≤ r.next
  pub inside : r.next ≤ length d
  pub shares : r.shared ≤ most
  pub some : 1 ≤ key_length r
  pub fits : key_length r ≤ max_key

pub row_at-ends : (d : List ℕ) (at most : ℕ) (r : RowRead) → row_at d at most ≡ ok r → RowEnds d at most r
unfolding row_at
row_at-ends d at most r e =
    bind-then (head_at d at most) _ r e λ h p e₁.
    bind-then (body_at d h) _ r e₁ λ b q e₂.
    bind-then (times_at d b.next b.flags) _ r e₂ λ t s e₃.
    bind-then (held_at b.flags.kind d t.next) _ r e₃ λ v u e₄.
    let w₁ = head_at-tells d at most h p in
    let w₂ = body_at-tells d h b q in
    let w₃ = times_at-ends d b.next b.flags t s (omega (arith, w₂.0, w₂.1)) in
    let w₄ = held_at-ends b.flags.kind d t.next v w₃.1 u in
    rw (← ok-inj e₄)
    (record {
      starts = refl;
      suffixes = sym w₁.moved;
      room = omega (arith, w₁.moved, w₂.1, w₃.0, w₄.0);
      inside = w₄.1;
      shares = w₁.shares;
      some = w₁.some;
      fits = w₁.fits;
    })

-- in a block it is the row wherever it ends, and ends there
pub read_row-tells : (d : List ℕ) (at end most : ℕ) (r : RowRead) → read_row d at end most ≡ ok r → (row_at d at most ≡ ok r) × (r.next ≡ end)
unfolding read_row
read_row-tells d at end most r e =
    bind-then (row_at d at most) _ r e λ g p q.
    guard-then (ltb end g.next) 16 _ r q λ t₁ q₁.
    guard-then (ltb g.next end) 20 _ r q₁ λ t₂ q₂.
    let low = ltb-false end g.next t₁ in
    let high = ltb-false g.next end t₂ in
    let same = ok-inj q₂ in
    (p ∙ ap ok same, sym (ap (λ (x : RowRead). x.next) same) ∙ omega arith)

pub read_row-ends : (d : List ℕ) (at end most : ℕ) (r : RowRead) → read_row d at end most ≡ ok r → RowEnds d at most r
read_row-ends d at end most r e = row_at-ends d at most r (read_row-tells d at end most r e).0

-- Demand 1. Whatever arrives, every call ends without fault, checks for itself and refuses by number: this is each function's contract, an equation that any input meets. What is shown
-- here: a refused call changes neither cursor, builder nor lent memory; and bytes that tell nothing tell nothing: two cursors, or two builders, whose arrays differ only past the end of
-- the key that they carry, and two lent key buffers of equal length, give equal answers, equal cursors or builders, and equal bytes.
use Rattle.std.specs.Prelude.{ℕ, ◌+◌, ◌≤◌, ◌≡◌, refl, Bool, List, length, take, drop}
use Rattle.std.proofs.Common.{ap, zero-add, arith}
use Rattle.layout.specs.Res.{ok, refuse}
use Rattle.layout.specs.Key.{Key}
use Rattle.layout.specs.Row.{Fields, encode_row, written, restore_key}
use Rattle.layout.specs.RowRead.{RowRead}
use Rattle.layout.specs.Builder.{Builder, kept_builder, would_fit, add, state_after_of, data_after_of, places_after_of, build, block_after_of}
use Rattle.layout.specs.Cursor.{Direction, Cursor, kept_cursor, found, step_is, next, cursor_after, key_after, is_empty}
use Rattle.layout.specs.Seek.{seek, sought_after}
use Rattle.layout.proofs.Laws.Kept.{kept-cursor, kept-builder}
use Rattle.layout.proofs.Laws.Splice.{take-past-splice, drop-past-splice}
use Rattle.layout.proofs.Laws.Step.{next-given}

-- ---- a refused call changes nothing

pub refused-step : (c : Cursor) (b out : List ℕ) (n : ℕ) → next c b (length out) ≡ refuse n
    → (cursor_after (next c b (length out)) c ≡ c) × (key_after (next c b (length out)) out ≡ out)
refused-step c b out n e = rw e (refl, refl)

pub refused-seek : (c : Cursor) (b : List ℕ) (target : Key) (n : ℕ) → seek c.order b target ≡ refuse n → sought_after (seek c.order b target) c ≡ c
refused-seek c b target n e = rw e

module _ (b : Builder) (bytes places : List ℕ) (n : ℕ) where
  pub refused-add : (key : Key) (f : Fields) → let want = add b (length bytes) (length places) key f in want ≡ refuse n
      → (state_after_of want b ≡ b) × (data_after_of want b key f bytes ≡ bytes) × (places_after_of want b places ≡ places)
  refused-add key f e = rw e (refl, refl, refl)

  pub refused-build : let want = build b (length bytes) (length places) in want ≡ refuse n → block_after_of want b bytes places ≡ bytes
  refused-build e = rw e

pub refused-encode : (prev_len shared : ℕ) (suffix : List ℕ) (f : Fields) (buf : List ℕ) (n : ℕ) → encode_row prev_len shared suffix f (length buf) ≡ refuse n
    → written (encode_row prev_len shared suffix f (length buf)) buf ≡ buf
refused-encode prev_len shared suffix f buf n e = rw e

pub refused_restore : (prev : Key) (shared : ℕ) (suffix buf : List ℕ) (n : ℕ) → restore_key prev shared suffix (length buf) ≡ refuse n
    → written (restore_key prev shared suffix (length buf)) buf ≡ buf
refused_restore prev shared suffix buf n e = rw e

-- ---- bytes that tell nothing: a cursor's, and a lent key buffer's

module _ (d : Direction) (region at number key_len : ℕ) (mark : Bool) (array₁ array₂ : List ℕ) (agree : take key_len array₁ ≡ take key_len array₂) (b : List ℕ) where
  abbrev c₁ : Cursor
  c₁ = kept_cursor d region at number key_len array₁ mark

  abbrev c₂ : Cursor
  c₂ = kept_cursor d region at number key_len array₂ mark

  one : c₁ ≡ c₂
  one = kept-cursor d region at number key_len array₁ array₂ mark agree

  -- the answer of a step holds the row's places and fields and the key bytes given; so equal answers give equal key bytes
  pub stale_bytes-tell-nothing : (out₁ out₂ : List ℕ) → length out₁ ≡ length out₂
      → (next c₁ b (length out₁) ≡ next c₂ b (length out₂)) × (cursor_after (next c₁ b (length out₁)) c₁ ≡ cursor_after (next c₂ b (length out₂)) c₂)
  stale_bytes-tell-nothing out₁ out₂ equal = rw (one, equal) (refl, refl)

  pub stale_bytes-empty : is_empty c₁ b ≡ is_empty c₂ b
  stale_bytes-empty = ap (λ (c : Cursor). is_empty c b) one

  -- a seek takes only the direction; one that is refused gives back the cursor that came, which carries the same
  pub stale_bytes-seek : (target : Key) → sought_after (seek c₁.order b target) c₁ ≡ sought_after (seek c₂.order b target) c₂
  stale_bytes-seek target = ap (λ (c : Cursor). sought_after (seek c.order b target) c) one

-- the key bytes that a step gives stand at the start of the lent buffer, whatever it held; its other bytes stay
pub given-bytes : (c : Cursor) (b out : List ℕ) (moved : Cursor) (region number : ℕ) (r : RowRead) (key : Key) → length c.key ≡ c.key_len → next c b (length out) ≡ ok (step_is moved (found region number r key))
    → let after = key_after (next c b (length out)) out in (take (length key) after ≡ key) × (drop (length key) after ≡ drop (length key) out)
given-bytes c b out moved region number r key whole e =
    let n : 0 + length key ≡ length key = zero-add (length key) in
    let w = next-given c (step_is moved (found region number r key)) b (length out) (λ few. whole) e in
    let within : length key ≤ length out = omega (arith, w.whole, w.held) in
    let fits : 0 + length key ≤ length out = omega arith in
    rw e (rw n at (take-past-splice out 0 key fits), rw n at (drop-past-splice out 0 key fits))

-- ---- a builder's

module _ (size interval used restarts rows last_len : ℕ) (array₁ array₂ : List ℕ) (agree : take last_len array₁ ≡ take last_len array₂) (bytes places : List ℕ) where
  abbrev b₁ : Builder
  b₁ = kept_builder size interval used restarts rows last_len array₁

  abbrev b₂ : Builder
  b₂ = kept_builder size interval used restarts rows last_len array₂

  one-builder : b₁ ≡ b₂
  one-builder = kept-builder size interval used restarts rows last_len array₁ array₂ agree

  pub stale_bytes-fit : (key : Key) (f : Fields) → would_fit b₁ (length bytes) (length places) key f ≡ would_fit b₂ (length bytes) (length places) key f
  stale_bytes-fit key f = ap (λ (x : Builder). would_fit x (length bytes) (length places) key f) one-builder

  pub stale_bytes-add : (key : Key) (f : Fields) → let x = add b₁ (length bytes) (length places) key f in let y = add b₂ (length bytes) (length places) key f in
      (x ≡ y) × (state_after_of x b₁ ≡ state_after_of y b₂) × (data_after_of x b₁ key f bytes ≡ data_after_of y b₂ key f bytes) × (places_after_of x b₁ places ≡ places_after_of y b₂ places)
  stale_bytes-add key f = rw one-builder (refl, refl, refl, refl)

  pub stale_bytes-build : let x = build b₁ (length bytes) (length places) in let y = build b₂ (length bytes) (length places) in
      (x ≡ y) × (block_after_of x b₁ bytes places ≡ block_after_of y b₂ bytes places)
  stale_bytes-build = rw one-builder (refl, refl)

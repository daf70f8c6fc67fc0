-- What a cursor is to the definitions, and what each answer says: the values, or the number of the refusal. No two say the same.
use Rattle.std.specs.Prelude.{ℕ, Bool, ◌≡◌, refl, Result, Option, Some, None}
use Rattle.std.proofs.Common.{ap, ◌∙◌, arith, sym}
use Rattle.layout.specs.Res.{Res, ok}
use Rattle.layout.specs.RowRead.{RowRead as RowReadL}
use Rattle.layout_v1.specs.Cursor.{Cursor, cursor_is, Answer, found, done, Step}
use Rattle.layout_v1.specs.Seek.{Sought}
use Rattle.basics.specs.Answers.{says, says-one, says_same, says_same-one}
use Rattle.basics.specs.Says.{says_order, says_order-one}
use Rattle.basics.specs.declared.Refusal.{Refusal}
use Rattle.row_decode_v2.specs.Says.{row_from, row_from-one}
use Rattle.row_decode_v2.specs.declared.Row.{Row}
use Rattle.block_iterator.specs.declared.BlockIterator.{BlockIterator}
use Rattle.block_iterator.specs.declared.Found.{Found}

abbrev pub view_of : BlockIterator → Cursor
view_of c = cursor_is (says_order c.order) c.passed

abbrev pub says_empty : Result Bool Refusal → Res Bool
says_empty = says_same

-- what a step answers beside the key, which goes to the lent buffer: the row's number in the block, and the row
pub data Told : Type 0 where
  row : ℕ → RowReadL → Told
  none : Told

abbrev pub told_of : Answer → Told
told_of (found number r key) = row number r
told_of done = none

abbrev pub told : Step → Res Told
told s = ok (told_of s.answer)

abbrev pub told_from : Option Found → Told
told_from (Some f) = row f.number (row_from f.row)
told_from None = none

abbrev pub says_next : Result (Option Found) Refusal → Res Told
says_next = says told_from

-- what a seek answers beside its cursor: how many keys the search read
abbrev pub reported : Sought → Res ℕ
reported s = ok s.reads

abbrev pub says_seek : Result ℕ Refusal → Res ℕ
says_seek = says_same

-- ---- one to one

pub view_of-one : (a b : BlockIterator) → view_of a ≡ view_of b → a ≡ b
view_of-one a b e =
    let o = says_order-one a.order b.order (ap (λ (x : Cursor). x.order) e) in
    ap (λ (x : Cursor). record { order = a.order; passed = x.passed }) e ∙ rw o

pub says_empty-one : (a b : Result Bool Refusal) → says_empty a ≡ says_empty b → a ≡ b
says_empty-one = says_same-one

told-row : {m n : ℕ} {r q : RowReadL} → ◌≡◌ {A = Told} (row m r) (row n q) → (m ≡ n) × (r ≡ q)
told-row e = (cc, cc)

told-apart : {n : ℕ} {r : RowReadL} → ◌≡◌ {A = Told} (row n r) none → ⊥
told-apart e = let z : ◌≡◌ {A = ℕ} 0 1 = cc in omega arith

told_from-one : (a b : Option Found) → told_from a ≡ told_from b → a ≡ b
told_from-one (Some f) (Some g) e =
    let t = told-row e in
    let r = row_from-one f.row g.row t.1 in
    ap (λ (n : ℕ). Some (record { number = n; row = f.row })) t.0 ∙ ap (λ (x : Row). Some (record { number = g.number; row = x })) r
told_from-one (Some f) None e = absurd (told-apart e)
told_from-one None (Some g) e = absurd (told-apart (sym e))
told_from-one None None e = refl

pub says_next-one : (a b : Result (Option Found) Refusal) → says_next a ≡ says_next b → a ≡ b
says_next-one = says-one told_from told_from-one

pub says_seek-one : (a b : Result ℕ Refusal) → says_seek a ≡ says_seek b → a ≡ b
says_seek-one = says_same-one

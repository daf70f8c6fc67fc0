-- What a step's answer says: the values, or the number of the refusal.
use Rattle.std.specs.Prelude.{ℕ, ◌≡◌, List, Result, Ok, Err}
use Rattle.std.proofs.Common.{ap, sym, arith}
use Rattle.layout.specs.Res.{Res, ok}
use Rattle.layout.specs.RowRead.{RowRead as RowReadL}
use Rattle.layout.specs.Cursor.{Answer, found, done, Step}
use Rattle.layout.proofs.Laws.Res.{ok-inj}
use Rattle.basics.specs.Answers.{says, apart, refused-one}
use Rattle.basics.specs.declared.Refusal.{Refusal}
use Rattle.row_decode_v2.specs.Says.{row_from, row_from-one}
use Rattle.place_v2.specs.declared.Place.{Place}
use Rattle.place_v2.specs.Says.{view_in, view_in-one}
use Rattle.step_in_place_v2.specs.declared.Moved.{Moved}
use Rattle.step_in_place_v2.specs.declared.Moved.TheVariants.{Found, Done}

-- what a step answers beside the key, which goes to the lent buffer: the row's region, its number there, and the row
pub data Told : Type 0 where
  row : ℕ → ℕ → RowReadL → Told
  none : Told

abbrev pub told_of : Answer → Told
told_of (found region number r key) = row region number r
told_of done = none

abbrev pub told : Step → Res Told
told s = ok (told_of s.answer)

abbrev pub moved_from : Moved → Told
moved_from (Found p region n r) = row region n (row_from r)
moved_from (Done p) = none

abbrev pub says_moved : Result Moved Refusal → Res Told
says_moved = says moved_from

abbrev pub place_in : Moved → Place
place_in (Found p region n r) = p
place_in (Done p) = p

-- a refusal leaves the place as it came
abbrev pub place_after : Result Moved Refusal → Place → Place
place_after (Ok m) came = place_in m
place_after (Err r) came = came

-- ---- one to one

pub told-row : {g h m n : ℕ} {r q : RowReadL} → ◌≡◌ {A = Told} (row g m r) (row h n q) → (g ≡ h) × (m ≡ n) × (r ≡ q)
told-row e = (cc, cc, cc)

pub told-apart : {g n : ℕ} {r : RowReadL} → ◌≡◌ {A = Told} (row g n r) none → ⊥
told-apart e = let z : ◌≡◌ {A = ℕ} 0 1 = cc in omega arith

-- two answers that say the same, with places that are known as one
moved_from-one : (a b : Moved) (k l : List ℕ) → moved_from a ≡ moved_from b → view_in (place_in a) k ≡ view_in (place_in b) l → a ≡ b
moved_from-one (Found p g m r) (Found q h n s) k l e v =
    let t = told-row e in
    rw (view_in-one p q k l v, t.0, t.1, row_from-one r s t.2)
moved_from-one (Found p g m r) (Done q) k l e v = absurd (told-apart e)
moved_from-one (Done p) (Found q h n s) k l e v = absurd (told-apart (sym e))
moved_from-one (Done p) (Done q) k l e v = ap Done (view_in-one p q k l v)

pub says_moved-one : (a b : Result Moved Refusal) (came : Place) (k l : List ℕ) → says_moved a ≡ says_moved b → view_in (place_after a came) k ≡ view_in (place_after b came) l
    → a ≡ b
says_moved-one (Ok a) (Ok b) came k l e v = ap Ok (moved_from-one a b k l (ok-inj e) v)
says_moved-one (Ok a) (Err s) came k l e v = absurd (apart e)
says_moved-one (Err r) (Ok b) came k l e v = absurd (apart (sym e))
says_moved-one (Err r) (Err s) came k l e v = ap Err (refused-one e)

-- What each answer says: the values, or the number of the refusal. No two say the same.
use Rattle.std.specs.Prelude.{ℕ, Bool, true, false, List, ◌≡◌, Result, Ok, Err}
use Rattle.std.proofs.Common.{ap, ap₂, sym, arith}
use Rattle.layout.specs.Res.{Res, ok}
use Rattle.layout.specs.Seek.{Sought}
use Rattle.layout.proofs.Laws.Res.{ok-inj}
use Rattle.basics.specs.Answers.{says, apart, refused-one}
use Rattle.basics.specs.declared.Refusal.{Refusal}
use Rattle.place_v2.specs.declared.Place.{Place}
use Rattle.place_v2.specs.Says.{view_in, view_in-one}
use Rattle.seek_in_place_v2.specs.declared.Found.{Found}
use Rattle.seek_in_place_v2.specs.declared.Found.TheVariants.{Landed, Done}

-- what a seek answers beside its cursor: whether none is left, and how many restart keys the search read
pub record Report : Type 0 where
  pub over : Bool
  pub reads : ℕ

abbrev pub report_is : Bool → ℕ → Report
report_is o n = record { over = o; reads = n }

abbrev pub reported : Sought → Res Report
reported s = ok (report_is s.cursor.done s.reads)

abbrev pub found_from : Found → Report
found_from (Landed p n) = report_is false n
found_from (Done p n) = report_is true n

abbrev pub says_found : Result Found Refusal → Res Report
says_found = says found_from

abbrev pub place_left : Found → Place
place_left (Landed p n) = p
place_left (Done p n) = p

-- a refusal leaves the place as it came
abbrev pub place_found : Result Found Refusal → Place → Place
place_found (Ok f) came = place_left f
place_found (Err r) came = came

-- ---- one to one

pub over-apart : {m n : ℕ} → report_is false m ≡ report_is true n → ⊥
over-apart e = let o : false ≡ true = ap (λ (x : Report). x.over) e in let z : ◌≡◌ {A = ℕ} 0 1 = cc in omega arith

-- two answers that say the same, with places that are known as one
found_from-one : (a b : Found) (k l : List ℕ) → found_from a ≡ found_from b → view_in (place_left a) k ≡ view_in (place_left b) l → a ≡ b
found_from-one (Landed p m) (Landed q n) k l e v = ap₂ Landed (view_in-one p q k l v) (ap (λ (x : Report). x.reads) e)
found_from-one (Landed p m) (Done q n) k l e v = absurd (over-apart e)
found_from-one (Done p m) (Landed q n) k l e v = absurd (over-apart (sym e))
found_from-one (Done p m) (Done q n) k l e v = ap₂ Done (view_in-one p q k l v) (ap (λ (x : Report). x.reads) e)

pub says_found-one : (a b : Result Found Refusal) (came : Place) (k l : List ℕ) → says_found a ≡ says_found b → view_in (place_found a came) k ≡ view_in (place_found b came) l
    → a ≡ b
says_found-one (Ok a) (Ok b) came k l e v = ap Ok (found_from-one a b k l (ok-inj e) v)
says_found-one (Ok a) (Err s) came k l e v = absurd (apart e)
says_found-one (Err r) (Ok b) came k l e v = absurd (apart (sym e))
says_found-one (Err r) (Err s) came k l e v = ap Err (refused-one e)

-- What a cursor is to the definitions, and what each answer says: the values, or the number of the refusal. No two say the same.
use Rattle.std.specs.Prelude.{ℕ, true, false, List, ◌≡◌, refl, Result, Option, Some, None}
use Rattle.std.proofs.Common.{ap, ap₂, sym}
use Rattle.layout.specs.Res.{Res}
use Rattle.layout.specs.Cursor.{Cursor}
use Rattle.basics.specs.Answers.{says, says-one}
use Rattle.basics.specs.declared.Refusal.{Refusal}
use Rattle.row_decode_v2.specs.Says.{row_from, row_from-one}
use Rattle.row_decode_v2.specs.declared.Row.{Row}
use Rattle.place_v2.specs.declared.Place.{Place}
use Rattle.step_in_place_v2.specs.Says.{Told, row, none, told-row, told-apart}
use Rattle.place_v2.specs.Says.{view_in, view_in-one}
use Rattle.seek_in_place_v2.specs.Says.{Report, report_is, over-apart}
use Rattle.block_iterator_v2.specs.declared.BlockIteratorV2.{BlockIteratorV2}
use Rattle.block_iterator_v2.specs.declared.Found.{Found}
use Rattle.block_iterator_v2.specs.declared.SeekAnswer.{SeekAnswer}
use Rattle.block_iterator_v2.specs.declared.SeekAnswer.TheVariants.{Landed, Done as SeekDone}

abbrev pub view_of : BlockIteratorV2 → Cursor
view_of c = view_in c.place c.key

abbrev pub next_from : Option Found → Told
next_from (Some f) = row f.region f.number (row_from f.row)
next_from None = none

abbrev pub says_next : Result (Option Found) Refusal → Res Told
says_next = says next_from

abbrev pub seek_from : SeekAnswer → Report
seek_from (Landed n) = report_is false n
seek_from (SeekDone n) = report_is true n

abbrev pub says_seek : Result SeekAnswer Refusal → Res Report
says_seek = says seek_from

-- ---- one to one

-- two cursors that are known as one, with the same bytes past the key
pub view_of-one : (a b : BlockIteratorV2) → view_of a ≡ view_of b → a.key ≡ b.key → a ≡ b
view_of-one a b e k =
    ap₂ (λ (p : Place) (x : List ℕ). record { place = p; key = x }) (view_in-one a.place b.place a.key b.key e) k

next_from-one : (a b : Option Found) → next_from a ≡ next_from b → a ≡ b
next_from-one (Some f) (Some g) e =
    let t = told-row e in
    ap Some
    (ap₂ (λ (n : ℕ × ℕ) (r : Row). record { region = n.0; number = n.1; row = r }) (ap₂ (λ (m n : ℕ). (m, n)) t.0 t.1) (row_from-one f.row g.row t.2))
next_from-one (Some f) None e = absurd (told-apart e)
next_from-one None (Some g) e = absurd (told-apart (sym e))
next_from-one None None e = refl

pub says_next-one : (a b : Result (Option Found) Refusal) → says_next a ≡ says_next b → a ≡ b
says_next-one = says-one next_from next_from-one

seek_from-one : (a b : SeekAnswer) → seek_from a ≡ seek_from b → a ≡ b
seek_from-one (Landed m) (Landed n) e = ap (λ (x : Report). Landed x.reads) e
seek_from-one (Landed m) (SeekDone n) e = absurd (over-apart e)
seek_from-one (SeekDone m) (Landed n) e = absurd (over-apart (sym e))
seek_from-one (SeekDone m) (SeekDone n) e = ap (λ (x : Report). SeekDone x.reads) e

pub says_seek-one : (a b : Result SeekAnswer Refusal) → says_seek a ≡ says_seek b → a ≡ b
says_seek-one = says-one seek_from seek_from-one

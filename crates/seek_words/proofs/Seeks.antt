-- A seek in place: what each of its exits leaves, from what `seek_in_place` promised.
-- The key bytes are as many as a key may have, so the seek is the rules' own (`lent-whole`); for each case of its answer, what `put_found` stored is what a seek over words has to leave.
use Prim.Native.Nat.{ℕ}
use mathlib.Core.Bool.{Bool, true, false, cond}
use mathlib.Core.Path.{◌≡◌, refl, ap, sym, ◌∙◌}
use mathlib.Core.List.{List}
use lib.ListN.{length, take}
use borrow.Author.Tests.{eq-eqb, ne_eqb}
use Rattle.std.specs.Prelude.{Result, Ok, Err}
use Rattle.basics.specs.declared.Refusal.{Refusal}
use Rattle.layout.specs.Res.{Res, ok, refuse, bind}
use Rattle.layout.specs.Cursor.{Cursor}
use Rattle.layout.specs.Seek.{Sought, seek, sought_after}
use Rattle.layout.specs.Limits.{max_key}
use Rattle.layout.proofs.Laws.Res.{ok-inj}
use Rattle.basics.specs.Answers.{apart, yes}
use Rattle.basics.specs.Number.{number}
use Rattle.basics.specs.Says.{says_order}
use Rattle.step_in_place_v2.specs.Promise.{Kept}
use Rattle.place_v2.specs.Says.{view_in}
use Rattle.place_v2.specs.declared.Place.{Place}
use Rattle.seek_in_place_v2.specs.Lent.{lent-whole}
use Rattle.seek_in_place_v2.specs.Promise.{Finds, SeeksInPlace}
use Rattle.seek_in_place_v2.specs.Says.{Report, report_is, reported, says_found, place_found}
use Rattle.seek_in_place_v2.specs.declared.Found.{Found}
use Rattle.seek_in_place_v2.specs.declared.Found.TheVariants.{Landed, Done}
use Rattle.row_words.specs.Words.{bad_words, done_code, code_of, cursor_in, cursor_words}
use Rattle.seek_words.specs.Says.{PutsFound}
use Rattle.seek_words.specs.Promise.{SeeksAs, SeeksFlat}

-- the cursor c that was left, by its words and its key's bytes
left : (want : Res Sought) (old c : Cursor) (o : Bool) (ws key ws' key' : List ℕ) (n k : ℕ) → bind want reported ≡ ok (report_is o k) → c ≡ sought_after want old
    → ws' ≡ cursor_words c → take c.key_len key' ≡ c.key → SeeksAs want ws key n (cond o done_code 0) ws' key' k
left (ok s) old c o ws key ws' key' n k e v w b =
    let over = ap (λ (x : Report). x.over) (ok-inj e) in
    let reads = ap (λ (x : Report). x.reads) (ok-inj e) in
    record {
      answer = sym (ap (λ x. cond x done_code 0) over);
      state = w ∙ ap cursor_words v;
      key-bytes = sym (ap (λ (x : Cursor). take x.key_len key') v) ∙ b ∙ ap (λ (x : Cursor). x.key) v;
      number = sym reads;
    }
left (refuse m) old c o ws key ws' key' n k e v w b = absurd (apart (sym e))

not_left : (want : Res Sought) (ws key key' : List ℕ) (n k code : ℕ) → bind want reported ≡ refuse k → code ≡ k → Kept want key' key → SeeksAs want ws key n code ws key' n
not_left (ok s) ws key key' n k code e q b = absurd (apart e)
not_left (refuse m) ws key key' n k code e q b = record { answer = q ∙ sym (ap code_of e); state = refl; key-bytes = b; number = refl }

pub seeks-short : (b target ws key : List ℕ) (n : ℕ) → (length key ≡ max_key → ⊥) → SeeksFlat b target ws key n bad_words ws key n
seeks-short b target ws key n h = rw (ne_eqb (length key) max_key h) (record { answer = refl; state = refl; key-bytes = refl; number = refl })

pub seeks-no-cursor : (b target ws key : List ℕ) (n : ℕ) → length key ≡ max_key → cursor_in ws key ≡ refuse bad_words → SeeksFlat b target ws key n bad_words ws key n
seeks-no-cursor b target ws key n h e = rw (eq-eqb (length key) max_key h, e) (record { answer = refl; state = refl; key-bytes = refl; number = refl })

module _ (b target ws key : List ℕ) (n : ℕ) (p : Place) (h : length key ≡ max_key) (is : cursor_in ws key ≡ ok (view_in p key)) where
  asked : {ws' key' : List ℕ} {code k : ℕ} → SeeksAs (seek (says_order p.order) b target) ws key n code ws' key' k → SeeksFlat b target ws key n code ws' key' k
  asked w = rw (eq-eqb (length key) max_key h, is) w

  module _ (r : Result Found Refusal) (key' : List ℕ) (m : SeeksInPlace p key b target r key') where
    whole : Finds (seek (says_order p.order) b target) p key r key'
    whole = rw (lent-whole p key b target h refl) at m

    -- whatever was found, and what `put_found` left of it
    pub found-put : (f : Found) → r ≡ Ok f → {code n' : ℕ} {ws' : List ℕ} → PutsFound f ws n code ws' n' → SeeksFlat b target ws key n code ws' key' n'
    found-put (Landed q k) e {ws' = ws'} g =
        rw (g.answer, g.number) (asked (left (seek (says_order p.order) b target) (view_in p key) (view_in q key') false ws key ws' key' n k (yes says_found whole.answer e)
        (sym (ap (λ (y : Result Found Refusal). view_in (place_found y p) key') e) ∙ whole.view) g.state refl))
    found-put (Done q k) e {ws' = ws'} g =
        rw (g.answer, g.number) (asked (left (seek (says_order p.order) b target) (view_in p key) (view_in q key') true ws key ws' key' n k (yes says_found whole.answer e)
        (sym (ap (λ (y : Result Found Refusal). view_in (place_found y p) key') e) ∙ whole.view) g.state refl))

    pub found-refused : {x : Refusal} {code : ℕ} → r ≡ Err x → code ≡ number x → SeeksFlat b target ws key n code ws key' n
    found-refused {x} {code} e q = asked (not_left (seek (says_order p.order) b target) ws key key' n (number x) code (yes says_found whole.answer e) q whole.whole)

-- What a step in place tells a loop that makes many: the rules' own step, whatever room was lent for the key.
-- A row, "done" and a refusal are told apart, so what was told leaves one case of the step that is wanted.
use Rattle.std.specs.Prelude.{ℕ, ◌≤◌, ◌≡◌, refl, List, length, Result, Ok, Err}
use Rattle.std.proofs.Common.{ap, sym, ◌∙◌, arith, length-take-le}
use Rattle.layout.specs.Res.{Res, ok, refuse, bind}
use Rattle.layout.specs.Limits.{max_key}
use Rattle.layout.specs.Key.{Key}
use Rattle.layout.specs.Place.{splice}
use Rattle.layout.specs.RowRead.{RowRead}
use Rattle.layout.specs.Cursor.{Cursor, Answer, found, done, Step, step_is, next, cursor_after, key_after}
use Rattle.layout.proofs.Laws.Res.{ok-inj}
use Rattle.layout.specs.Laws.Step.{KeyedWell}
use Rattle.layout.proofs.Laws.Step.{next-given}
use Rattle.basics.specs.Answers.{apart, yes}
use Rattle.basics.specs.Number.{number}
use Rattle.basics.specs.declared.Refusal.{Refusal}
use Rattle.row_decode_v2.specs.Says.{row_from}
use Rattle.row_decode_v2.specs.declared.Row.{Row}
use Rattle.step_in_place_v2.specs.Lent.{lent-whole}
use Rattle.step_in_place_v2.specs.Promise.{Moves, StepsInPlace}
use Rattle.step_in_place_v2.specs.Says.{row, none, told, told_of, told-row, told-apart, says_moved, place_after}
use Rattle.place_v2.specs.Says.{view_in}
use Rattle.step_in_place_v2.specs.declared.Moved.{Moved}
use Rattle.step_in_place_v2.specs.declared.Moved.TheVariants.{Found, Done}
use Rattle.place_v2.specs.declared.Place.{Place}

-- a row found, with its region and its number there: the step from c to d, and its key, which stands at the start of the lent bytes then
pub record Finds (b : List ℕ) (c d : Cursor) (region n : ℕ) (r : RowRead) (out out' : List ℕ) : Type 0 where
  pub key : Key
  pub is : next c b (length out) ≡ ok (step_is d (found region n r key))
  pub well : KeyedWell (length out) r key
  pub lent : out' ≡ splice out 0 key

module _ (b : List ℕ) (c d : Cursor) (out out' : List ℕ) (long : c.key_len ≤ max_key → length c.key ≡ c.key_len) where
  found-so : (a : Answer) (region n : ℕ) (r : RowRead) → next c b (length out) ≡ ok (step_is d a) → ok (told_of a) ≡ ok (row region n r) → out' ≡ key_after (ok (step_is d a)) out
      → Finds b c d region n r out out'
  found-so (found h m s key) region n r e t o =
      let same = told-row (ok-inj t) in
      rw (← same.0, ← same.1, ← same.2) (record { key = key; is = e; well = next-given c (step_is d (found h m s key)) b (length out) long e; lent = o })
  found-so done region n r e t o = absurd (told-apart (sym (ok-inj t)))

  pub finds : (region n : ℕ) (r : RowRead) → bind (next c b (length out)) told ≡ ok (row region n r) → d ≡ cursor_after (next c b (length out)) c → out' ≡ key_after (next c b (length out)) out
      → Finds b c d region n r out out'
  finds region n r t v o = go (next c b (length out)) refl t v o
    where
      go : (want : Res Step) → next c b (length out) ≡ want → bind want told ≡ ok (row region n r) → d ≡ cursor_after want c → out' ≡ key_after want out → Finds b c d region n r out out'
      go (ok s) e t v o = found-so s.answer region n r (e ∙ ap (λ (x : Cursor). ok (step_is x s.answer)) (sym v)) t o
      go (refuse n) e t v o = absurd (apart (sym t))

-- ---- "done", which writes no key, and a refusal

pub ends : (b : List ℕ) (c d : Cursor) (out out' : List ℕ) → bind (next c b (length out)) told ≡ ok none → d ≡ cursor_after (next c b (length out)) c → out' ≡ key_after (next c b (length out)) out
    → (next c b (length out) ≡ ok (step_is d done)) × (out' ≡ out)
ends b c d out out' t v o = go (next c b (length out)) refl t v o
  where
    over : (a : Answer) → next c b (length out) ≡ ok (step_is d a) → ok (told_of a) ≡ ok none → out' ≡ key_after (ok (step_is d a)) out → (next c b (length out) ≡ ok (step_is d done)) × (out' ≡ out)
    over (found region n r key) e t o = absurd (told-apart (ok-inj t))
    over done e t o = (e, o)

    go : (want : Res Step) → next c b (length out) ≡ want → bind want told ≡ ok none → d ≡ cursor_after want c → out' ≡ key_after want out → (next c b (length out) ≡ ok (step_is d done)) × (out' ≡ out)
    go (ok s) e t v o = over s.answer (e ∙ ap (λ (x : Cursor). ok (step_is x s.answer)) (sym v)) t o
    go (refuse n) e t v o = absurd (apart (sym t))

pub refuses : (want : Res Step) {k : ℕ} → bind want told ≡ refuse k → want ≡ refuse k
refuses (ok s) t = absurd (apart t)
refuses (refuse n) {k} t = let same : n ≡ k = cc in ap refuse same

-- ---- of a step in place, whose key bytes are as many as a key may have

module _ (p : Place) (key b out : List ℕ) (r : Result Moved Refusal) (key' out' : List ℕ) (k : length key ≡ max_key) (m : StepsInPlace p key b out r key' out') where
  whole : Moves (next (view_in p key) b (length out)) p key out r key' out'
  whole = rw (lent-whole p key b (length out) k refl) at m

  pub moved-finds : {q : Place} {region n : ℕ} {x : Row} → r ≡ Ok (Found q region n x) → Finds b (view_in p key) (view_in q key') region n (row_from x) out out'
  moved-finds {q} {region} {n} {x} e =
      finds b (view_in p key) (view_in q key') out out' (λ few. length-take-le p.key_len key (omega (arith, few, k))) region n (row_from x) (yes says_moved whole.answer e)
      (sym (ap (λ (y : Result Moved Refusal). view_in (place_after y p) key') e) ∙ whole.view) whole.lent

  pub moved_ends : {q : Place} → r ≡ Ok (Done q) → (next (view_in p key) b (length out) ≡ ok (step_is (view_in q key') done)) × (out' ≡ out)
  moved_ends {q} e =
      ends b (view_in p key) (view_in q key') out out' (yes says_moved whole.answer e) (sym (ap (λ (y : Result Moved Refusal). view_in (place_after y p) key') e) ∙ whole.view) whole.lent

  -- a refusal writes nothing
  pub moved-refuses : {x : Refusal} → r ≡ Err x → (next (view_in p key) b (length out) ≡ refuse (number x)) × (key' ≡ key) × (out' ≡ out)
  moved-refuses {x} e =
      let z = refuses (next (view_in p key) b (length out)) (yes says_moved whole.answer e) in
      (z, rw z at whole.whole, rw z at whole.lent)

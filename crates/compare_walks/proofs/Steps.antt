-- What a step tells a walk, whose buffer is as long as the longest key: its row's key has a byte, fits the buffer and stands whole at its start.
-- The laws are those of any step (`region_rows_v2`, Found), at that length.
use Rattle.std.proofs.Common.{◌≡◌, ℕ, ◌+◌, ◌≤◌, List, length, take, sym, ap, ◌∙◌, arith}
use Rattle.std.specs.Prelude.{Result, Ok, Err}
use Rattle.layout.specs.Res.{ok, refuse, bind}
use Rattle.layout.specs.Limits.{max_key}
use Rattle.layout.specs.Key.{Key}
use Rattle.layout.specs.Place.{splice}
use Rattle.layout.specs.RowRead.{RowRead, key_length}
use Rattle.layout.specs.Cursor.{Cursor, found, done, step_is, next, cursor_after, key_after}
use Rattle.layout.proofs.Laws.Splice.{take-past-splice}
use Rattle.layout.specs.Laws.Step.{KeyedWell}
use Rattle.region_rows_v2.specs.Found as any
use Rattle.basics.specs.Number.{number}
use Rattle.basics.specs.declared.Refusal.{Refusal}
use Rattle.row_decode_v2.specs.Says.{row_from}
use Rattle.row_decode_v2.specs.declared.Row.{Row}
use Rattle.step_in_place_v2.specs.Promise.{StepsInPlace}
use Rattle.step_in_place_v2.specs.Says.{row, none, told}
use Rattle.place_v2.specs.Says.{view_in}
use Rattle.step_in_place_v2.specs.declared.Moved.{Moved}
use Rattle.step_in_place_v2.specs.declared.Moved.TheVariants.{Found, Done}
use Rattle.place_v2.specs.declared.Place.{Place}

-- ---- a row found: the step from c to d, whose key stands at the start of what the buffer then holds

pub record Finds (b : List ℕ) (c d : Cursor) (region n : ℕ) (r : RowRead) (out' : List ℕ) : Type 0 where
  pub is : next c b max_key ≡ ok (step_is d (found region n r (take (key_length r) out')))
  pub some : 1 ≤ key_length r
  pub fits : key_length r ≤ max_key

stands : (r : RowRead) (key out : List ℕ) → KeyedWell max_key r key → length out ≡ max_key → take (key_length r) (splice out 0 key) ≡ key
stands r key out w h =
    let long : key_length r ≡ 0 + length key = omega (arith, w.whole) in
    ap (λ (n : ℕ). take n (splice out 0 key)) long ∙ take-past-splice out 0 key (omega (arith, w.whole, w.fits))

at-start : (b : List ℕ) (c d : Cursor) (region n : ℕ) (r : RowRead) (out out' : List ℕ) → length out ≡ max_key → any.Finds b c d region n r out out' → Finds b c d region n r out'
at-start b c d region n r out out' h f =
    let w : KeyedWell max_key r f.key = rw h at f.well in
    record {
      is = (rw h at f.is) ∙ ap (λ (k : Key). ok (step_is d (found region n r k))) (sym (rw f.lent (stands r f.key out w h)));
      some = w.some;
      fits = w.fits;
    }

module _ (b : List ℕ) (c d : Cursor) (out out' : List ℕ) (h : length out ≡ max_key) where
  pub finds : (c.key_len ≤ max_key → length c.key ≡ c.key_len) → (region n : ℕ) (r : RowRead) → bind (next c b (length out)) told ≡ ok (row region n r) → d ≡ cursor_after (next c b (length out)) c → out' ≡ key_after (next c b (length out)) out
      → Finds b c d region n r out'
  finds long region n r t v o = at-start b c d region n r out out' h (any.finds b c d out out' long region n r t v o)

  pub ends : bind (next c b (length out)) told ≡ ok none → d ≡ cursor_after (next c b (length out)) c → out' ≡ key_after (next c b (length out)) out → next c b max_key ≡ ok (step_is d done)
  ends t v o = rw h at (any.ends b c d out out' t v o).0

pub refuses : (b : List ℕ) (c : Cursor) (room : ℕ) {k : ℕ} → room ≡ max_key → bind (next c b room) told ≡ refuse k → next c b max_key ≡ refuse k
refuses b c room h t = rw h at (any.refuses (next c b room) t)

-- ---- the same of a step in place, whose key bytes are as many

module _ (p : Place) (key b out : List ℕ) (r : Result Moved Refusal) (key' out' : List ℕ) (k : length key ≡ max_key) (h : length out ≡ max_key) (m : StepsInPlace p key b out r key' out') where
  pub moved-finds : {q : Place} {region n : ℕ} {x : Row} → r ≡ Ok (Found q region n x) → Finds b (view_in p key) (view_in q key') region n (row_from x) out'
  moved-finds {q} {region} {n} {x} e = at-start b (view_in p key) (view_in q key') region n (row_from x) out out' h (any.moved-finds p key b out r key' out' k m e)

  pub moved_ends : {q : Place} → r ≡ Ok (Done q) → next (view_in p key) b max_key ≡ ok (step_is (view_in q key') done)
  moved_ends e = rw h at (any.moved_ends p key b out r key' out' k m e).0

  pub moved-refuses : {x : Refusal} → r ≡ Err x → next (view_in p key) b max_key ≡ refuse (number x)
  moved-refuses e = rw h at (any.moved-refuses p key b out r key' out' k m e).0

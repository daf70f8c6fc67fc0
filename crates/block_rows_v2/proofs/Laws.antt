-- The exits of the loop and of the call: what each answers and leaves.
-- A run that is wanted is met by its rows, its cursor and its count; where the first step finds no row, nothing is written.
use Prim.Native.Nat.{ℕ, ◌+◌, ◌-◌, ◌*◌, ◌<◌, ◌≤◌}
use mathlib.Core.Path.{◌≡◌, refl, ap, ap₂, sym, ◌∙◌}
use mathlib.Core.Bool.{Bool, true, false, cond}
use mathlib.Core.List.{List, append-nil}
use mathlib.Core.Logic.{⊎_elim}
use native.Mathlib.Nat.{add-zero}
use native.Mathlib.Omega.{arith}
use lib.Dec.{eqb}
use lib.ListN.{length, take, drop_of_length-le}
use lib.Seq.{length-take-le}
use borrow.Author.Tests.{eq-eqb, ne_eqb}
use borrow.Rule.Slice.PartMut.{mid_of, put_mid, mid_len, put_same}
use Rattle.std.specs.Prelude.{Result, Ok, Err}
use Rattle.layout.specs.Res.{Res, ok, refuse}
use Rattle.layout.specs.Limits.{max_key}
use Rattle.layout.specs.Place.{splice}
use Rattle.layout.specs.RowRead.{RowRead, key_length}
use Rattle.layout.specs.Cursor.{Cursor, done, Step, step_is, next}
use Rattle.layout.proofs.Laws.Res.{ok-inj, ltb-cases, eqb-cases}
use Rattle.layout.specs.Laws.Splice.{Wrote}
use Rattle.layout.proofs.Laws.Splice.{wrote-rest, splice-lent, splice-none}
use Rattle.basics.specs.Answers.{apart}
use Rattle.basics.specs.Number.{number}
use Rattle.basics.specs.Says.{says_order}
use Rattle.basics.specs.declared.Refusal.{Refusal}
use Rattle.place_v2.specs.Says.{view_in}
use Rattle.place_v2.specs.declared.Place.{Place}
use Rattle.row_words.specs.Words.{bad_words, done_code, code_of, cursor_in, cursor_words, row_words_of, row_count}
use Rattle.row_words.specs.Promise.{Stores}
use Rattle.row_words.proofs.Fields.{row_count_lem}
use Rattle.row_words.proofs.Laws.{stored}
use Rattle.region_rows_v2.specs.Found.{Finds}
use Rattle.layout.proofs.Laws.Step.{next-given}
use Rattle.block_rows_v2.specs.declared.Gave.{Gave}
use Rattle.block_rows_v2.specs.declared.Ran.{Ran}
use Rattle.block_rows_v2.specs.declared.Went.{Went}
use Rattle.block_rows_v2.specs.declared.Went.TheVariants.{Stopped}
use Rattle.block_rows_v2.specs.Rows.{Given, given_is, Run, run_is, next_rows, keys_of, words_of}
use Rattle.block_rows_v2.specs.Chain.{Gone, gone-more, gone-full, gone-stop, gone-first, Stops, stops-refused, stops-done, rows-refused, rows-done}
use Rattle.block_rows_v2.specs.Promise.{RowsAs, most_rows, RowsFlat}
use Rattle.block_rows_v2.specs.Says.{End, end_is, gave_is, Gives, PutsGave, StopsOn, StepsOn}

-- ---- the words of one row, in their place

all-put : (w xs : List ℕ) → length xs ≡ length w → splice xs 0 w ≡ w
unfolding splice
all-put w xs g = rw (drop_of_length-le xs {i = 0 + length w} (omega arith), append-nil w) refl

-- a part that is all of w, put back
put-part : (xs : List ℕ) (a k e : ℕ) (w part : List ℕ) → length (mid_of a k xs) ≡ length w → e ≡ a + length w → e ≤ length xs → part ≡ w → Wrote xs a w (put_mid a k xs part) e
put-part xs a k e w part long q h is =
    record {
      is = ap (put_mid a k xs) (is ∙ sym (all-put w (mid_of a k xs) long)) ∙ splice-lent xs a k 0 w (omega (arith, long)) ∙ ap (λ (i : ℕ). splice xs i w) (add-zero a);
      next = q;
      room = h;
    }

pub put-words : (rows : List ℕ) (n region number : ℕ) (r : RowRead) (part : List ℕ) {t : Bool} → (n + 1) * row_count ≤ length rows
    → Stores row_count (row_words_of region number r) (mid_of (n * row_count) (n * row_count + row_count - n * row_count) rows) t part
    → Wrote rows (n * row_count) (row_words_of region number r) (put_mid (n * row_count) (n * row_count + row_count - n * row_count) rows part) ((n + 1) * row_count)
put-words rows n region number r part h s =
    let count : length (row_words_of region number r) ≡ row_count = row_count_lem region number r in
    let long : length (mid_of (n * row_count) (n * row_count + row_count - n * row_count) rows) ≡ row_count = mid_len (n * row_count) (n * row_count + row_count) rows (omega arith) ∙ omega arith in
    put-part rows (n * row_count) (n * row_count + row_count - n * row_count) ((n + 1) * row_count) (row_words_of region number r) part (long ∙ sym count) (omega (arith, count)) h (stored long s)

-- ---- a run that is wanted

gives-rows : {want : Res Run} {o : Bool} {c : Cursor} {ks : List Given} (key keys rows : List ℕ) {p : Place} {n : ℕ} {key' keys' rows' : List ℕ} → want ≡ ok (run_is o c ks) → view_in p key' ≡ c
    → n ≡ length ks → keys' ≡ splice keys 0 (keys_of ks) → rows' ≡ splice rows 0 (words_of ks) → Gives want key keys rows (Ok (gave_is o p n)) key' keys' rows'
gives-rows {o = o} key keys rows e v m k w = rw e (record { answer = ap₂ (λ (x : Cursor) (y : ℕ). ok (end_is o x y)) v m; whole = tt; keys-given = k; row_words = w })

-- a key that is found fits what is left
pub key_fits : (used : ℕ) (keys : List ℕ) → used ≤ length keys → {b : List ℕ} {c d : Cursor} {region m : ℕ} {r : RowRead} {out' : List ℕ} → Finds b c d region m r (mid_of used (length keys - used) keys) out' → used + key_length r ≤ length keys
key_fits used keys h f = omega (arith, f.well.held, mid_len used (length keys) keys (omega arith))

-- ---- a turn of the loop: the row that was found, with its key and its words

module _ {b keys₀ rows₀ : List ℕ} {c₀ c : Cursor} {keys rows : List ℕ} {used n : ℕ} (g : Gone b keys₀ rows₀ c₀ c keys rows used n) (long : length keys ≡ length keys₀) (inside : used ≤ length keys) where
  abbrev rest : List ℕ
  rest = mid_of used (length keys - used) keys

  rest-long : length rest ≡ length keys₀ - used
  rest-long = mid_len used (length keys) keys (omega arith) ∙ omega arith

  module _ {d : Cursor} {region m : ℕ} {r : RowRead} {out' : List ℕ} (f : Finds b c d region m r rest out') where
    pub turn : {rows' : List ℕ} → Wrote rows (n * row_count) (row_words_of region m r) rows' ((n + 1) * row_count)
        → Gone b keys₀ rows₀ c₀ d (put_mid used (length keys - used) keys out') rows' (used + key_length r) (n + 1)
    turn v =
        gone-more g (length rest) d (given_is region m r f.key) rest-long f.is
        (wrote-rest keys used (used + key_length r) f.key out' (omega (arith, key_fits used keys inside f, f.well.whole)) (omega (arith, f.well.whole)) f.lent) v

  -- ---- the exits: the rows so far; or, with none yet, what the first step answers

  pub back : {out' : List ℕ} → out' ≡ rest → put_mid used (length keys - used) keys out' ≡ keys
  back o = ap (put_mid used (length keys - used) keys) o ∙ put_same used (length keys - used) keys

  module _ (most : ℕ) (key : List ℕ) {keys' : List ℕ} (same : keys' ≡ keys) (few : n ≤ most) (some : 0 < most) where
    so_far : {p : Place} {key' : List ℕ} → (n ≡ 0 → ⊥) → Stops c b (length rest) → view_in p key' ≡ c → Gives (next_rows most c₀ b (length keys₀)) key keys₀ rows₀ (Ok (gave_is false p n)) key' keys' rows
    so_far z stop v = gives-rows key keys₀ rows₀ (⊎_elim (λ t. gone-stop g most (length rest) t.1 z rest-long stop) (λ t. gone-full g most (omega (arith, t.1))) (ltb-cases n most)) v g.many (same ∙ g.keys-are.is) g.rows_are.is

    module _ (z : n ≡ 0) where
      first : (c ≡ c₀) × (keys ≡ keys₀) × (rows ≡ rows₀) × (used ≡ 0)
      first = gone-first g z

      from : {w : Res Step} → next c b (length rest) ≡ w → next c₀ b (length keys₀) ≡ w
      from e =
          let long : length rest ≡ length keys₀ = omega (arith, rest-long, first.3) in
          rw (← first.0, ← long) e

      first_done : {q : Place} {key' : List ℕ} → next c b (length rest) ≡ ok (step_is (view_in q key') done) → Gives (next_rows most c₀ b (length keys₀)) key keys₀ rows₀ (Ok (gave_is true q 0)) key' keys' rows
      first_done e =
          gives-rows key keys₀ rows₀ (rows-done c₀ b (length keys₀) most some (from e)) refl refl
          (same ∙ first.1 ∙ sym (splice-none keys₀ 0)) (first.2 ∙ sym (splice-none rows₀ 0))

      first-refused : {x : Refusal} {key' : List ℕ} → next c b (length rest) ≡ refuse (number x) → key' ≡ key → Gives (next_rows most c₀ b (length keys₀)) key keys₀ rows₀ (Err x) key' keys' rows
      first-refused e k =
          rw (rows-refused c₀ b (length keys₀) most some (from e))
          (record { answer = refl; whole = k; keys-given = same ∙ first.1; row_words = first.2 })

    -- by whether there is a row yet
    pub gives-stop : {r : Gave} (p q : Place) (key' : List ℕ) → view_in p key' ≡ c → next c b (length rest) ≡ ok (step_is (view_in q key') done) → r ≡ cond (eqb n 0) (gave_is true q 0) (gave_is false p n)
        → Gives (next_rows most c₀ b (length keys₀)) key keys₀ rows₀ (Ok r) key' keys' rows
    gives-stop p q key' v e is =
        ⊎_elim (λ t. rw (is, t.0) (first_done t.1 e)) (λ t. rw (is, t.0) (so_far t.1 (stops-done c b (length rest) e) v)) (eqb-cases n 0)

    pub gives-refusal : {r : Result Gave Refusal} (p : Place) (x : Refusal) (key' : List ℕ) → view_in p key' ≡ c → next c b (length rest) ≡ refuse (number x) → (n ≡ 0 → key' ≡ key)
        → r ≡ cond (eqb n 0) (Err x) (Ok (gave_is false p n)) → Gives (next_rows most c₀ b (length keys₀)) key keys₀ rows₀ r key' keys' rows
    gives-refusal p x key' v e k is =
        ⊎_elim (λ t. rw (is, t.0) (first-refused t.1 e (k t.1))) (λ t. rw (is, t.0) (so_far t.1 (stops-refused c b (length rest) e) v)) (eqb-cases n 0)

-- what is answered of a refusal is what one more step leads to
pub steps-refused : (b : List ℕ) (here : Ran) (key keys rows key' keys' rows' : List ℕ) (n : ℕ) {x : Result Went Refusal} (r : Refusal) (g : Gave) → x ≡ cond (eqb n 0) (Err r) (Ok (Stopped g))
    → StopsOn b here key keys rows (cond (eqb n 0) (Err r) (Ok g)) key' keys' rows' → StepsOn b here key keys rows x key' keys' rows'
steps-refused b here key keys rows key' keys' rows' n r g is p = rw is (go (eqb n 0) p)
  where
    go : (t : Bool) → StopsOn b here key keys rows (cond t (Err r) (Ok g)) key' keys' rows' → StepsOn b here key keys rows (cond t (Err r) (Ok (Stopped g))) key' keys' rows'
    go true p = p
    go false p = p

pub all-given : {b keys₀ rows₀ : List ℕ} {c₀ c : Cursor} {keys rows : List ℕ} {used n : ℕ} → Gone b keys₀ rows₀ c₀ c keys rows used n → (most : ℕ) (key : List ℕ) {p : Place} {key' : List ℕ} → n ≡ most → view_in p key' ≡ c
    → Gives (next_rows most c₀ b (length keys₀)) key keys₀ rows₀ (Ok (gave_is false p n)) key' keys rows
all-given {keys₀ = keys₀} {rows₀ = rows₀} g most key h v = gives-rows key keys₀ rows₀ (gone-full g most h) v g.many g.keys-are.is g.rows_are.is

-- "done" leaves the carried key, so the cursor of the rows before stands
pub done-stays : (b : List ℕ) (room : ℕ) (p q : Place) (key key' : List ℕ) → length key ≡ max_key → next (view_in p key) b room ≡ ok (step_is (view_in q key') done) → view_in p key' ≡ view_in p key
done-stays b room p q key key' k e =
    let w = next-given (view_in p key) (step_is (view_in q key') done) b room (λ few. length-take-le p.key_len key (omega (arith, few, k))) e in
    ap (λ (l : List ℕ). record { order = says_order p.order; region = p.region; at = p.at; number = p.number; key_len = p.key_len; key = l; done = p.done }) (ap (λ (m : ℕ). take m key') (sym w.0) ∙ w.1)

-- ---- the call

module _ (b ws key keys rows : List ℕ) (n : ℕ) where
  pub rows-no-key : (length key ≡ max_key → ⊥) → RowsFlat b ws key keys rows n bad_words ws key keys rows n
  rows-no-key h = rw (ne_eqb (length key) max_key h) (record { answer = refl; state = refl; key-bytes = refl; keys-given = refl; row_words = refl; number = refl })

  module _ (k : length key ≡ max_key) where
    pub rows-no-cursor : cursor_in ws key ≡ refuse bad_words → RowsFlat b ws key keys rows n bad_words ws key keys rows n
    rows-no-cursor e = rw (eq-eqb (length key) max_key k, e) (record { answer = refl; state = refl; key-bytes = refl; keys-given = refl; row_words = refl; number = refl })

    pub rows-asked : {c : Cursor} {code : ℕ} {ws' key' keys' rows' : List ℕ} {n' : ℕ} → cursor_in ws key ≡ ok c
        → RowsAs (next_rows (most_rows rows) c b (length keys)) ws key keys rows n code ws' key' keys' rows' n' → RowsFlat b ws key keys rows n code ws' key' keys' rows' n'
    rows-asked e r = rw (eq-eqb (length key) max_key k, e) r

-- whatever was given, and what `put_gave` left of it
pub rows-put : (ws key keys rows : List ℕ) (n : ℕ) (want : Res Run) (r : Result Gave Refusal) {code : ℕ} {ws' key' keys' rows' : List ℕ} {n' : ℕ} → Gives want key keys rows r key' keys' rows' → PutsGave r ws n code ws' n'
    → RowsAs want ws key keys rows n code ws' key' keys' rows' n'
rows-put ws key keys rows n (ok run) (Ok a) {key' = key'} g q =
    let e : end_is a.over (view_in a.place key') a.count ≡ end_is run.over run.cursor (length run.rows) = ok-inj g.answer in
    let c : view_in a.place key' ≡ run.cursor = ap (λ (x : End). x.cursor) e in
    record {
      answer = q.answer ∙ ap (λ (x : End). cond x.over done_code 0) e;
      state = q.state ∙ ap cursor_words c;
      key-bytes = ap (λ (x : Cursor). take x.key_len key') (sym c) ∙ ap (λ (x : Cursor). x.key) c;
      keys-given = g.keys-given;
      row_words = g.row_words;
      number = q.number ∙ ap (λ (x : End). x.count) e;
    }
rows-put ws key keys rows n (ok run) (Err x) g q = absurd (apart (sym g.answer))
rows-put ws key keys rows n (refuse k) (Ok a) g q = absurd (apart g.answer)
rows-put ws key keys rows n (refuse k) (Err x) g q =
    record {
      answer = q.answer ∙ ap code_of g.answer;
      state = q.state;
      key-bytes = g.whole;
      keys-given = g.keys-given;
      row_words = g.row_words;
      number = q.number;
    }

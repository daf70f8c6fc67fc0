-- Many rows in one call are so many calls of slatedb_next, one after another: each with the words and the key bytes that the one before left, and with what
-- follows its key in the buffer. Where no row is given, the call is one call of slatedb_next.
use Rattle.std.specs.Prelude.{ℕ, zero, suc, ◌-◌, ◌≤◌, ◌≡◌, refl, Bool, true, false, not, List, [], ◌∷◌, ◌⊎◌, eqb, length, take, drop}
use Rattle.std.proofs.Common.{ap, sym, ◌∙◌, ⊎_elim, inl, inr, arith, length-drop, length-take-le, eq-eqb, eqb-true}
use Rattle.std.proofs.lemmas.Bool.{not-false}
use Rattle.layout.specs.Res.{Res, ok, refuse, bind, guard}
use Rattle.layout.specs.Key.{Key}
use Rattle.layout.specs.Limits.{max_key}
use Rattle.layout.specs.Place.{splice}
use Rattle.layout.specs.Cursor.{ascending, descending, Cursor, Answer, found, done, Step, step_is, next}
use Rattle.layout.proofs.Laws.Res.{bind-then, guard-then, ok-inj, eqb-cases}
use Rattle.layout.proofs.Laws.Splice.{length-splice, splice-none}
use Rattle.row_words.specs.Words.{bad_words, counted, word_at, one_of, truth_in, truth_word, order_in, order_word, cursor_from, cursor_in, cursor_words, cursor_count, row_count}
use Rattle.block_words.specs.Again.{step-again}
use Rattle.block_words.specs.Exports.{StepsAs, StepsFlat}
use Rattle.layout.proofs.Laws.Step.{next-given}
use Rattle.block_rows_v2.specs.Rows.{Given, given_is, found_of, Run, step_on, rows_from, or_done, next_rows, keys_of, given_words, words_of}
use Rattle.block_rows_v2.specs.Promise.{RowsAs, most_rows, RowsFlat}

-- whatever calls of slatedb_next leave that are made for the rows ks, one after another: each is good and gives the row's words, with the numbers that name it,
-- and its key at the start of what is left of the buffer; and of what the last of them leaves, `end` holds
abbrev pub Calls : List ℕ → List Given → List ℕ → List ℕ → List ℕ → (List ℕ → List ℕ → List ℕ → Type 0) → Type 0
Calls b [] ws key out end = end ws key out
Calls b (k ∷ ks) ws key out end =
    (row ws' key' out' row' : List ℕ) (code : ℕ) → length row ≡ row_count → length key' ≡ length key → StepsFlat b ws key out row code ws' key' out' row'
    → (code ≡ 0) × (row' ≡ given_words k) × (out' ≡ splice out 0 k.key) × Calls b ks ws' key' (drop (length k.key) out') end

-- a call that gives no row: its words and the buffer stay
abbrev pub GivesNone : List ℕ → List ℕ → List ℕ → List ℕ → Type 0
GivesNone b ws key out = (row ws' key' out' row' : List ℕ) (code : ℕ) → StepsFlat b ws key out row code ws' key' out' row' → (row' ≡ row) × (out' ≡ out)

-- the cursor and its key are those that the call for many left; and as many rows as there is room for were given, or one call more gives none
pub record Ends (b : List ℕ) (n most : ℕ) (ws' key' ws key out : List ℕ) : Type 0 where
  pub state : ws ≡ ws'
  pub key-bytes : take (word_at ws' 3) key ≡ take (word_at ws' 3) key'
  pub stops : (n ≡ most) ⊎ GivesNone b ws key out

pub record SoManyCalls (b ws key keys rows ws' key' keys' rows' : List ℕ) (n' : ℕ) : Type 0 where
  pub given : List Given
  pub count : n' ≡ length given
  pub keys-are : keys' ≡ splice keys 0 (keys_of given)
  pub rows_are : rows' ≡ splice rows 0 (words_of given)
  pub calls : Calls b given ws key keys (Ends b n' (most_rows rows) ws' key')

-- ---- a cursor in its words

of_word : {A : Type 0} (a b : A) (word : A → ℕ) (w : ℕ) (x : A) → word a ≡ 0 → word b ≡ 1 → one_of a b w ≡ ok x → w ≡ word x
of_word a b word w x za ob e =
    ⊎_elim
    (λ t. let is : ok a ≡ ok x = rw t.0 at e in t.1 ∙ sym za ∙ ap word (ok-inj is))
    (λ t.
    ⊎_elim
    (λ u. let is : ok b ≡ ok x = rw (t.0, u.0) at e in u.1 ∙ sym ob ∙ ap word (ok-inj is))
    (λ u. let is : refuse bad_words ≡ ok x = rw (t.0, u.0) at e in absurd (let z : ◌≡◌ {A = ℕ} 0 1 = cc in omega arith))
    (eqb-cases w 1))
    (eqb-cases w 0)

six : (ws : List ℕ) → length ws ≡ 6 → ws ≡ word_at ws 0 ∷ word_at ws 1 ∷ word_at ws 2 ∷ word_at ws 3 ∷ word_at ws 4 ∷ word_at ws 5 ∷ []
six [] h = absurd (omega arith)
six (a ∷ []) h = absurd (omega arith)
six (a ∷ b ∷ []) h = absurd (omega arith)
six (a ∷ b ∷ c ∷ []) h = absurd (omega arith)
six (a ∷ b ∷ c ∷ d ∷ []) h = absurd (omega arith)
six (a ∷ b ∷ c ∷ d ∷ e ∷ []) h = absurd (omega arith)
six (a ∷ b ∷ c ∷ d ∷ e ∷ f ∷ []) h = refl
six (a ∷ b ∷ c ∷ d ∷ e ∷ f ∷ g ∷ ws) h = absurd (omega arith)

record Loaded (ws key : List ℕ) (c : Cursor) : Type 0 where
  words : ws ≡ cursor_words c
  bytes : c.key ≡ take c.key_len key
  len : c.key_len ≡ word_at ws 3

loaded : (ws key : List ℕ) (c : Cursor) → cursor_in ws key ≡ ok c → Loaded ws key c
unfolding cursor_in
loaded ws key c e =
    guard-then (not (eqb (length ws) cursor_count)) bad_words _ c e λ t q.
    bind-then (order_in (word_at ws 0)) _ c q λ d p q.
    bind-then (truth_in (word_at ws 4)) _ c q λ m o q.
    let is : cursor_from ws key d m ≡ c = ok-inj q in
    let h = eqb-true (length ws) cursor_count (not-false (eqb (length ws) cursor_count) t) in
    let w₀ : word_at ws 0 ≡ order_word d = of_word ascending descending order_word (word_at ws 0) d refl refl p in
    let w₄ : word_at ws 4 ≡ truth_word m = of_word false true truth_word (word_at ws 4) m refl refl o in
    rw (← is)
    (record { words = six ws h ∙ rw (w₀, w₄) refl; bytes = refl; len = refl })

-- ---- a call from a cursor that its words have

module _ (b ws key out row : List ℕ) (c : Cursor) (is : cursor_in ws key ≡ ok c) (k : length key ≡ max_key) where
  called : length row ≡ row_count → {code : ℕ} {ws' key' out' row' : List ℕ} → StepsFlat b ws key out row code ws' key' out' row'
      → StepsAs (next c b (length out)) ws key out row code ws' key' out' row'
  called h s = rw (eq-eqb (length row) row_count h, eq-eqb (length key) max_key k, is) at s

-- a cursor from which no row is found
abbrev NoRow : Cursor → List ℕ → ℕ → Type 0
NoRow c b room = (d : Cursor) (k : Given) → next c b room ≡ ok (step_is d (found_of k)) → ⊥

none-given : (b ws key out : List ℕ) (c : Cursor) → cursor_in ws key ≡ ok c → length key ≡ max_key → NoRow c b (length out) → GivesNone b ws key out
none-given b ws key out c is k empty row ws' key' out' row' code s = ⊎_elim (λ t. counts t.1) (λ t. short t.0) (eqb-cases (length row) row_count)
  where
    left : (want : Res Step) → next c b (length out) ≡ want → StepsAs want ws key out row code ws' key' out' row' → (row' ≡ row) × (out' ≡ out)
    left (refuse n) e s = (s.row_words, s.lent)
    left (ok t) e s = by t.answer e s
      where
        by : (a : Answer) → next c b (length out) ≡ ok (step_is t.cursor a) → StepsAs (ok (step_is t.cursor a)) ws key out row code ws' key' out' row' → (row' ≡ row) × (out' ≡ out)
        by (found region n r given) e s = absurd (empty t.cursor (given_is region n r given) e)
        by done e s = (s.row_words, s.lent)

    counts : length row ≡ row_count → (row' ≡ row) × (out' ≡ out)
    counts h = left (next c b (length out)) refl (called b ws key out row c is k h s)

    short : eqb (length row) row_count ≡ false → (row' ≡ row) × (out' ≡ out)
    short e = let q : StepsAs (refuse bad_words) ws key out row code ws' key' out' row' = rw e at s in (q.row_words, q.lent)

-- ---- the calls of a run

-- what the last call leaves has the run's cursor, and as many rows were asked for, or none is found from there
abbrev Last : List ℕ → ℕ → Run → List ℕ → List ℕ → List ℕ → Type 0
Last b n run ws key out = (cursor_in ws key ≡ ok run.cursor) × (length key ≡ max_key) × ((length run.rows ≡ n) ⊎ NoRow run.cursor b (length out))

calls_as : (b : List ℕ) (ks : List Given) (ws key out : List ℕ) {one two : List ℕ → List ℕ → List ℕ → Type 0} → ((ws key out : List ℕ) → one ws key out → two ws key out)
    → Calls b ks ws key out one → Calls b ks ws key out two
calls_as b [] ws key out f c = f ws key out c
calls_as b (k ∷ ks) ws key out f c = λ row ws' key' out' row' code h l s.
    let q = c row ws' key' out' row' code h l s in
    (q.0, q.1, q.2, calls_as b ks ws' key' (drop (length k.key) out') f q.3)

run-calls : (n : ℕ) (b ws key out : List ℕ) (c : Cursor) → cursor_in ws key ≡ ok c → length key ≡ max_key
    → Calls b (rows_from n c b (length out)).rows ws key out (Last b n (rows_from n c b (length out)))
unfolding rows_from
run-calls zero b ws key out c is k = (is, k, inl refl)
run-calls (suc n) b ws key out c is k = go (next c b (length out)) refl (run-calls n b)
  where
    rest : Cursor → Key → Run
    rest d given = rows_from n d b (length out - length given)

    go : (x : Res Step) → next c b (length out) ≡ x
        → ((ws key out : List ℕ) (c : Cursor) → cursor_in ws key ≡ ok c → length key ≡ max_key → Calls b (rows_from n c b (length out)).rows ws key out (Last b n (rows_from n c b (length out))))
        → Calls b (step_on c x rest).rows ws key out (Last b (suc n) (step_on c x rest))
    go (refuse i) e ih = (is, k, inr λ d x f. absurd (let z : ◌≡◌ {A = ℕ} 0 1 = cc in omega arith))
    go (ok s) e ih = by s.answer e
      where
        by : (a : Answer) → next c b (length out) ≡ ok (step_is s.cursor a) → Calls b (step_on c (ok (step_is s.cursor a)) rest).rows ws key out (Last b (suc n) (step_on c (ok (step_is s.cursor a)) rest))
        by done e = (is, k, inr λ d x f. let w : done ≡ found_of x = ap (λ (x : Step). x.answer) (ok-inj (sym e ∙ f)) in let z : ◌≡◌ {A = ℕ} 0 1 = cc in omega arith)
        by (found region m r given) e = λ row ws' key' out' row' code h l s'.
            let q : StepsAs (ok (step_is s.cursor (found region m r given))) ws key out row code ws' key' out' row' = rw e at (called b ws key out row c is k h s') in
            let i = loaded ws key c is in
            let w = next-given c (step_is s.cursor (found region m r given)) b (length out) (λ few. ap length i.bytes ∙ length-take-le c.key_len key (omega (arith, few, k))) e in
            let same = step-again (step_is s.cursor (found region m r given)) ws key out row code ws' key' out' row' q in
            let long : length (drop (length given) out') ≡ length out - length given =
            length-drop (length given) out' ∙ ap (λ (x : List ℕ). length x - length given) q.lent ∙ ap (λ (i : ℕ). i - length given) (length-splice out 0 given (omega (arith, w.whole, w.held))) in
            let on = rw long at (ih ws' key' (drop (length given) out') s.cursor same (l ∙ k)) in (
              q.answer,
              q.row_words,
              q.lent,
              calls_as b (rest s.cursor given).rows ws' key' (drop (length given) out') (λ vs ks os t. (t.0, t.1, ⊎_elim (λ u. inl (ap suc u)) (λ u. inr u) t.2)) on,
            )

-- ---- what the call for many left

wanted : {A : Type 0} (b ws key keys rows : List ℕ) (run : Run) → counted key max_key (bind (cursor_in ws key) λ c. next_rows (most_rows rows) c b (length keys)) ≡ ok run
    → ((c : Cursor) → length key ≡ max_key → cursor_in ws key ≡ ok c → next_rows (most_rows rows) c b (length keys) ≡ ok run → A) → A
wanted b ws key keys rows run e f =
    guard-then (not (eqb (length key) max_key)) bad_words _ run e λ t e.
    bind-then (cursor_in ws key) _ run e λ c is e.
    f c (eqb-true (length key) max_key (not-false (eqb (length key) max_key) t)) is e

-- with no "done", the run is that of the steps
run_is_lem : (n : ℕ) (c : Cursor) (b : List ℕ) (room : ℕ) (run : Run) → next_rows n c b room ≡ ok run → run.over ≡ false → rows_from n c b room ≡ run
unfolding next_rows
run_is_lem zero c b room run e o = ok-inj e
run_is_lem (suc n) c b room run e o = bind-then (next c b room) _ run e λ s p q. by s.cursor s.answer (ok-inj q)
  where
    by : (d : Cursor) (a : Answer) → or_done a d (rows_from (suc n) c b room) ≡ run → rows_from (suc n) c b room ≡ run
    by d (found region m r key) i = i
    by d done i = absurd (let z : true ≡ false = ap (λ (x : Run). x.over) i ∙ o in let w : ◌≡◌ {A = ℕ} 0 1 = cc in omega arith)

-- the rows that were given, by so many calls of slatedb_next
pub rows-are-steps : (b ws key keys rows : List ℕ) (n code : ℕ) (ws' key' keys' rows' : List ℕ) (n' : ℕ) → RowsFlat b ws key keys rows n code ws' key' keys' rows' n'
    → (run : Run) → counted key max_key (bind (cursor_in ws key) λ c. next_rows (most_rows rows) c b (length keys)) ≡ ok run → run.over ≡ false
    → (code ≡ 0) × SoManyCalls b ws key keys rows ws' key' keys' rows' n'
rows-are-steps b ws key keys rows n code ws' key' keys' rows' n' q run e o =
    wanted b ws key keys rows run e λ c k is t.
    let a : RowsAs (ok run) ws key keys rows n code ws' key' keys' rows' n' = rw e at q in
    let made : rows_from (most_rows rows) c b (length keys) ≡ run = run_is_lem (most_rows rows) c b (length keys) run t o in
    let all = rw made at (run-calls (most_rows rows) b ws key keys c is k) in (
      a.answer ∙ rw o refl,
      record {
        given = run.rows;
        count = a.number;
        keys-are = a.keys-given;
        rows_are = a.row_words;
        calls = calls_as b run.rows ws key keys (λ vs ks os l. ends run a.state a.key-bytes a.number vs ks os l) all;
      },
    )
  where
    ends : (run : Run) → ws' ≡ cursor_words run.cursor → take run.cursor.key_len key' ≡ run.cursor.key → n' ≡ length run.rows → (vs ks os : List ℕ) → Last b (most_rows rows) run vs ks os
        → Ends b n' (most_rows rows) ws' key' vs ks os
    ends run s u m vs ks os l =
        let w = loaded vs ks run.cursor l.0 in
        record {
          state = w.words ∙ sym s;
          key-bytes = rw s (sym w.bytes ∙ sym u);
          stops = ⊎_elim (λ x. inl (m ∙ x)) (λ x. inr (none-given b vs ks os run.cursor l.0 l.1 x)) l.2;
        }

-- ---- where no row is given: the first step says "done", or is refused

abbrev pub Unfound : Res Run → Type 0
Unfound (ok run) = run.over ≡ true
Unfound (refuse k) = Unit {0}

next-rows-suc : (m : ℕ) (c : Cursor) (b : List ℕ) (room : ℕ) → next_rows (suc m) c b room ≡ bind (next c b room) λ s. ok (or_done s.answer s.cursor (rows_from (suc m) c b room))
unfolding next_rows
next-rows-suc m c b room = refl

some-found : (m : ℕ) (c : Cursor) (b : List ℕ) (room : ℕ) (d : Cursor) (k : Given) → next c b room ≡ ok (step_is d (found_of k)) → (rows_from (suc m) c b room).over ≡ true → ⊥
unfolding rows_from
some-found m c b room d k e o = let f : false ≡ true = rw e at o in let z : ◌≡◌ {A = ℕ} 0 1 = cc in omega arith

-- the code and the cursor's words are those of one call of slatedb_next; nothing else is written
pub none-is-a-step : (b ws key keys rows : List ℕ) (n code : ℕ) (ws' key' keys' rows' : List ℕ) (n' : ℕ) → RowsFlat b ws key keys rows n code ws' key' keys' rows' n'
    → 1 ≤ most_rows rows → Unfound (counted key max_key (bind (cursor_in ws key) λ c. next_rows (most_rows rows) c b (length keys)))
    → (row vs ks os row' : List ℕ) (d : ℕ) → length row ≡ row_count → StepsFlat b ws key keys row d vs ks os row' → (code ≡ d) × (ws' ≡ vs) × (keys' ≡ keys) × (rows' ≡ rows)
none-is-a-step b ws key keys rows n code ws' key' keys' rows' n' q some u row vs ks os row' d h s =
    by (eqb (length key) max_key) (cursor_in ws key) (most_rows rows) some q u (rw (eq-eqb (length row) row_count h) at s)
  where
    first : (m : ℕ) (c : Cursor) (x : Res Step) → next c b (length keys) ≡ x
        → RowsAs (bind x λ s. ok (or_done s.answer s.cursor (rows_from (suc m) c b (length keys)))) ws key keys rows n code ws' key' keys' rows' n'
        → Unfound (bind x λ s. ok (or_done s.answer s.cursor (rows_from (suc m) c b (length keys)))) → StepsAs x ws key keys row d vs ks os row'
        → (code ≡ d) × (ws' ≡ vs) × (keys' ≡ keys) × (rows' ≡ rows)
    first m c (refuse i) e q u s = (q.answer ∙ sym s.answer, q.state ∙ sym s.state, q.keys-given, q.row_words)
    first m c (ok t) e q u s = told t.answer e q u s
      where
        told : (a : Answer) → next c b (length keys) ≡ ok (step_is t.cursor a) → RowsAs (ok (or_done a t.cursor (rows_from (suc m) c b (length keys)))) ws key keys rows n code ws' key' keys' rows' n'
            → Unfound (ok (or_done a t.cursor (rows_from (suc m) c b (length keys)))) → StepsAs (ok (step_is t.cursor a)) ws key keys row d vs ks os row'
            → (code ≡ d) × (ws' ≡ vs) × (keys' ≡ keys) × (rows' ≡ rows)
        told (found region i r given) e q u s = absurd (some-found m c b (length keys) t.cursor (given_is region i r given) e u)
        told done e q u s = (q.answer ∙ sym s.answer, q.state ∙ sym s.state, q.keys-given ∙ splice-none keys 0, q.row_words ∙ splice-none rows 0)

    by : (t : Bool) (x : Res Cursor) (m : ℕ) → 1 ≤ m → RowsAs (guard (not t) bad_words (bind x λ c. next_rows m c b (length keys))) ws key keys rows n code ws' key' keys' rows' n'
        → Unfound (guard (not t) bad_words (bind x λ c. next_rows m c b (length keys))) → StepsAs (guard (not t) bad_words (bind x λ c. next c b (length keys))) ws key keys row d vs ks os row'
        → (code ≡ d) × (ws' ≡ vs) × (keys' ≡ keys) × (rows' ≡ rows)
    by false x m some q u s = (q.answer ∙ sym s.answer, q.state ∙ sym s.state, q.keys-given, q.row_words)
    by true (refuse i) m some q u s = (q.answer ∙ sym s.answer, q.state ∙ sym s.state, q.keys-given, q.row_words)
    by true (ok c) zero some q u s = absurd (omega arith)
    by true (ok c) (suc m) some q u s = first m c (next c b (length keys)) refl (rw (next-rows-suc m c b (length keys)) at q) (rw (next-rows-suc m c b (length keys)) at u) s

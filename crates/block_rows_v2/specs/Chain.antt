-- Steps that each find a row, one after another: the run that they are, and what a loop over them has written so far.
use Rattle.std.specs.Prelude.{ℕ, zero, suc, ◌+◌, ◌-◌, ◌*◌, ◌<◌, ◌≡◌, refl, true, false, List, [], ◌∷◌, ◌++◌, length}
use Rattle.std.proofs.Common.{ap, sym, ◌∙◌, append_assoc, append-nil, arith, length-append}
use Rattle.layout.specs.Res.{ok, refuse}
use Rattle.layout.specs.Key.{Key}
use Rattle.layout.specs.Cursor.{Cursor, done, step_is, next}
use Rattle.layout.specs.Laws.Splice.{Wrote}
use Rattle.layout.proofs.Laws.Splice.{wrote_then, wrote_as, wrote_none, splice-none}
use Rattle.row_words.specs.Words.{row_count}
use Rattle.block_rows_v2.specs.Rows.{Given, found_of, Run, run_is, with_row, step_on, rows_from, next_rows, keys_of, given_words, words_of}

-- from c, with so much room for keys, by the rows ks to a cursor
pub data Steps (b : List ℕ) : ℕ → Cursor → List Given → Cursor → Type 0 where
  none : {room : ℕ} {c : Cursor} → Steps b room c [] c
  more : {room : ℕ} {c e : Cursor} {ks : List Given} (d : Cursor) (k : Given) → next c b room ≡ ok (step_is d (found_of k)) → Steps b (room - length k.key) d ks e
      → Steps b room c (k ∷ ks) e

-- one more
pub steps-snoc : {b : List ℕ} {room : ℕ} {c d : Cursor} {ks : List Given} → Steps b room c ks d → {left : ℕ} (e : Cursor) (k : Given)
    → left ≡ room - length (keys_of ks) → next d b left ≡ ok (step_is e (found_of k)) → Steps b room c (ks ++ (k ∷ [])) e
steps-snoc {b} {room} {c} none {left} e k l q =
    let same : left ≡ room = omega arith in
    more e k (rw same at q) none
steps-snoc {b} (more {room} {ks = ks} d j p s) {left} e k l q = more d j p (steps-snoc s e k (omega (arith, length-append j.key (keys_of ks))) q)

-- ---- the run that they are

-- no row is found from here
abbrev pub Stops : Cursor → List ℕ → ℕ → Type 0
Stops c b room = (rest : Cursor → Key → Run) → step_on c (next c b room) rest ≡ run_is false c []

pub stops-refused : (c : Cursor) (b : List ℕ) (room : ℕ) {k : ℕ} → next c b room ≡ refuse k → Stops c b room
stops-refused c b room e rest = rw e

pub stops-done : (c : Cursor) (b : List ℕ) (room : ℕ) {d : Cursor} → next c b room ≡ ok (step_is d done) → Stops c b room
stops-done c b room e rest = rw e

-- as many as were asked for
pub steps-full : {b : List ℕ} {room : ℕ} {c d : Cursor} {ks : List Given} → Steps b room c ks d → rows_from (length ks) c b room ≡ run_is false d ks
unfolding rows_from
steps-full none = refl
steps-full (more d k e s) = rw e (ap (with_row k) (steps-full s))

-- fewer, and no row after them
pub steps-stop : {b : List ℕ} {room : ℕ} {c d : Cursor} {ks : List Given} → Steps b room c ks d → (n left : ℕ) → length ks < n → left ≡ room - length (keys_of ks) → Stops d b left
    → rows_from n c b room ≡ run_is false d ks
unfolding rows_from
steps-stop s zero left h l stop = absurd (omega arith)
steps-stop {b} {room} {c} none (suc n) left h l stop =
    let same : left ≡ room = omega arith in
    (rw same at stop) (λ d key. rows_from n d b (room - length key))
steps-stop {room = room} (more {ks = ks} d k e s) (suc n) left h l stop = rw e (ap (with_row k) (steps-stop {room = room - length k.key} s n left (omega arith) (omega (arith, length-append k.key (keys_of ks))) stop))

-- what a call answers then
pub rows-given : {b : List ℕ} {room : ℕ} {c d : Cursor} {ks : List Given} → Steps b room c ks d → (n : ℕ) → (length ks ≡ 0 → n ≡ 0) → rows_from n c b room ≡ run_is false d ks
    → next_rows n c b room ≡ ok (run_is false d ks)
unfolding next_rows
rows-given s zero h q = ap ok q
rows-given none (suc n) h q = absurd (omega (arith, h refl))
rows-given (more d k e s) (suc n) h q = rw e (ap ok q)

pub rows-refused : (c : Cursor) (b : List ℕ) (room : ℕ) {k : ℕ} (n : ℕ) → 0 < n → next c b room ≡ refuse k → next_rows n c b room ≡ refuse k
unfolding next_rows
rows-refused c b room zero h e = absurd (omega arith)
rows-refused c b room (suc n) h e = rw e

pub rows-done : (c : Cursor) (b : List ℕ) (room : ℕ) {d : Cursor} (n : ℕ) → 0 < n → next c b room ≡ ok (step_is d done) → next_rows n c b room ≡ ok (run_is true d [])
unfolding next_rows
rows-done c b room zero h e = absurd (omega arith)
rows-done c b room (suc n) h e = rw e

-- ---- a loop over them: from c₀ to c, with all keys and all words written one after another

pub record Gone (b keys₀ rows₀ : List ℕ) (c₀ c : Cursor) (keys rows : List ℕ) (used n : ℕ) : Type 0 where
  pub given : List Given
  pub steps : Steps b (length keys₀) c₀ given c
  pub many : n ≡ length given
  pub keys-are : Wrote keys₀ 0 (keys_of given) keys used
  pub rows_are : Wrote rows₀ 0 (words_of given) rows (n * row_count)

pub gone-start : (b keys rows : List ℕ) (c : Cursor) → Gone b keys rows c c keys rows 0 0
gone-start b keys rows c = record { given = []; steps = none; many = refl; keys-are = wrote_none keys 0 (omega arith); rows_are = wrote_none rows 0 (omega arith) }

keys-snoc : (ks : List Given) (k : Given) → keys_of ks ++ k.key ≡ keys_of (ks ++ (k ∷ []))
keys-snoc [] k = sym (append-nil k.key)
keys-snoc (j ∷ ks) k = append_assoc j.key (keys_of ks) k.key ∙ ap (λ (l : List ℕ). j.key ++ l) (keys-snoc ks k)

words_snoc : (ks : List Given) (k : Given) → words_of ks ++ given_words k ≡ words_of (ks ++ (k ∷ []))
words_snoc [] k = sym (append-nil (given_words k))
words_snoc (j ∷ ks) k = append_assoc (given_words j) (words_of ks) (given_words k) ∙ ap (λ (l : List ℕ). given_words j ++ l) (words_snoc ks k)

module _ {b keys₀ rows₀ : List ℕ} {c₀ c : Cursor} {keys rows : List ℕ} {used n : ℕ} (g : Gone b keys₀ rows₀ c₀ c keys rows used n) where
  left_is : (room : ℕ) → room ≡ length keys₀ - used → room ≡ length keys₀ - length (keys_of g.given)
  left_is room e = omega (arith, e, g.keys-are.next)

  pub gone-more : (room : ℕ) (d : Cursor) (k : Given) {keys' rows' : List ℕ} {used' : ℕ} → room ≡ length keys₀ - used → next c b room ≡ ok (step_is d (found_of k))
      → Wrote keys used k.key keys' used' → Wrote rows (n * row_count) (given_words k) rows' ((n + 1) * row_count) → Gone b keys₀ rows₀ c₀ d keys' rows' used' (n + 1)
  gone-more room d k l e w v =
      record {
        given = g.given ++ (k ∷ []);
        steps = steps-snoc g.steps d k (left_is room l) e;
        many = simp length-append (omega (arith, g.many));
        keys-are = wrote_as (keys-snoc g.given k) (wrote_then g.keys-are w);
        rows_are = wrote_as (words_snoc g.given k) (wrote_then g.rows_are v);
      }

  -- the whole is what was asked for; or, once there is a row, no row after it
  pub gone-full : (most : ℕ) → n ≡ most → next_rows most c₀ b (length keys₀) ≡ ok (run_is false c g.given)
  gone-full most h =
      let same : most ≡ length g.given = omega (arith, g.many) in
      rw same (rows-given g.steps (length g.given) (λ z. z) (steps-full g.steps))

  pub gone-stop : (most room : ℕ) → n < most → (n ≡ 0 → ⊥) → room ≡ length keys₀ - used → Stops c b room → next_rows most c₀ b (length keys₀) ≡ ok (run_is false c g.given)
  gone-stop most room h some l stop =
      rows-given g.steps most (λ z. absurd (some (omega (arith, g.many)))) (steps-stop g.steps most room (omega (arith, g.many)) (left_is room l) stop)

  -- with no row yet, nothing has moved and nothing is written
  pub gone-first : n ≡ 0 → (c ≡ c₀) × (keys ≡ keys₀) × (rows ≡ rows₀) × (used ≡ 0)
  gone-first z =
      let h : length g.given ≡ 0 = omega (arith, g.many) in
      let w = nothing g.given h in
      (still g.steps h, (rw w.0 at g.keys-are.is) ∙ splice-none keys₀ 0, (rw w.1 at g.rows_are.is) ∙ splice-none rows₀ 0, omega (arith, g.keys-are.next, ap length w.0))
    where
      still : {x y : Cursor} {ks : List Given} → Steps b (length keys₀) x ks y → length ks ≡ 0 → y ≡ x
      still none h = refl
      still (more d k e s) h = absurd (omega arith)

      nothing : (ks : List Given) → length ks ≡ 0 → (keys_of ks ≡ []) × (words_of ks ≡ [])
      nothing [] h = (refl, refl)
      nothing (k ∷ ks) h = absurd (omega arith)

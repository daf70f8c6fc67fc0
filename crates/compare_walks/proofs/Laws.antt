-- The loop of a walk, whatever carries the cursor: the walk from here on, with what is left of the limit, put upon the rows and the sum so far, is the whole.
-- And what each exit of an export answers and stores.
use Rattle.std.proofs.Common.{◌≡◌, ℕ, suc, ◌+◌, ◌-◌, ◌%◌, ◌^◌, ◌<◌, ◌≤◌, Bool, true, false, cond, List, [], ◌∷◌, length, get_or, take, set, replicate, sym, refl, ap, ◌∙◌, subst, ap₂, arith, length-take-le, get_or-take, eq-eqb, ne_eqb}
use Rattle.std.specs.Prelude.{Result, Ok, Err}
use Rattle.layout.specs.Res.{Res, ok, refuse, bind}
use Rattle.layout.specs.Limits.{max_key}
use Rattle.layout.specs.Key.{Key}
use Rattle.layout.specs.RowRead.{RowRead}
use Rattle.layout.specs.Cursor.{Cursor, cursor_or, open_block, found, done, step_is, next}
use Rattle.layout.proofs.Laws.Res.{spend, whether-good, whether-refused}
use Rattle.basics.specs.Answers.{yes, says_verdict}
use Rattle.basics.specs.Number.{number}
use Rattle.basics.specs.Says.{says_order}
use Rattle.basics.specs.declared.Refusal.{Refusal}
use Rattle.basics.specs.declared.IterationOrder.{IterationOrder}
use Rattle.place_v2.specs.Promise.{OpensPlace}
use Rattle.place_v2.specs.Says.{view_in}
use Rattle.place_v2.specs.declared.OpenedPlace.{OpenedPlace}
use Rattle.row_words.specs.Words.{bad_words, done_code, order_in}
use Rattle.row_words.proofs.Stores.{all-stored}
use Rattle.compare_walks.specs.declared.Ran.{Ran}
use Rattle.compare_walks.specs.declared.Walked.{Walked}
use Rattle.compare_walks.specs.declared.Went.{Went}
use Rattle.compare_walks.specs.declared.Went.TheVariants.{On, Over}
use Rattle.compare_walks.specs.Walk.{amount, Walk, walk_is, with_row, walk, wrapped}
use Rattle.compare_walks.specs.Loop.{onto, Walking, added, RunsOn, Ends, Goes, OneMore, Stops}
use Rattle.compare_walks.specs.Promise.{Tells, WalksFlat}

-- ---- the loop

alike : {o : Bool} {n m s t : ℕ} → n ≡ m → s ≡ t → ok (walk_is o n s) ≡ ok (walk_is o m t)
alike {o} p q = ap₂ (λ (x y : ℕ). ok (walk_is o x y)) p q

pub walking_start : (b : List ℕ) (limit : ℕ) (c : Cursor) → Walking (bind (walk limit c b) wrapped) b limit c 0 0
walking_start b limit c = record { left = limit; all = omega arith; few = omega arith; makes = go (walk limit c b) }
  where
    go : (x : Res Walk) → bind x (onto 0 0) ≡ bind x wrapped
    go (ok w) = alike (omega arith) (omega arith)
    go (refuse n) = refl

module _ {want : Res Walk} (b : List ℕ) (limit : ℕ) (c : Cursor) (rows sum : ℕ) (s : Walking want b limit c rows sum) where
  pub walking_whole : limit ≤ rows → ok (walk_is false rows sum) ≡ want
  unfolding walk
  walking_whole h =
      let none : s.left ≡ 0 = omega (arith, s.all) in
      alike (omega arith) (omega (arith, s.few)) ∙ rw none at s.makes

  -- with rows to go one step is the whole
  stepped : {A : Type 0} → rows < limit → ((left : ℕ) → rows + suc left ≡ limit → bind (walk (suc left) c b) (onto rows sum) ≡ want → A) → A
  stepped h f = spend (λ (n : ℕ). bind (walk n c b) (onto rows sum)) s.left (λ z. absurd (omega (arith, s.all))) s.makes λ more is m. f more (omega (arith, s.all)) m

  module _ (h : rows < limit) where
    pub walking_done : {d : Cursor} → next c b max_key ≡ ok (step_is d done) → ok (walk_is true rows sum) ≡ want
    unfolding walk
    walking_done e = stepped h λ left q m. alike (omega arith) (omega (arith, s.few)) ∙ rw e at m

    pub walking_refused : {n : ℕ} → next c b max_key ≡ refuse n → refuse n ≡ want
    unfolding walk
    walking_refused e = stepped h λ left q m. rw e at m

    pub walking_more : {region n : ℕ} (d : Cursor) (r : RowRead) (key : Key) (sum' : ℕ) → next c b max_key ≡ ok (step_is d (found region n r key)) → sum' ≡ (sum + amount r key) % 2 ^ 64
        → Walking want b limit d (rows + 1) sum'
    unfolding walk
    walking_more d r key sum' e q = stepped h λ left t m. record { left = left; all = omega arith; few = omega (arith, q); makes = go (amount r key) q (walk left d b) ∙ rw e at m }
      where
        go : (a : ℕ) → sum' ≡ (sum + a) % 2 ^ 64 → (x : Res Walk) → bind x (onto (rows + 1) sum') ≡ bind (bind x (with_row a)) (onto rows sum)
        go a p (ok w) = alike (omega arith) (omega (arith, p))
        go a p (refuse n) = refl

-- ---- one way after another

module _ {b : List ℕ} {limit : ℕ} {a q : Ran} {k k' : List ℕ} (x : RunsOn b limit a k q k') where
  pub ends-then : (w : Result Walked Refusal) → Ends b limit q k' w → Ends b limit a k w
  ends-then w y want u = y want (x.on want u)

  pub runs_then : {r : Ran} {k'' : List ℕ} → RunsOn b limit q k' r k'' → RunsOn b limit a k r k''
  runs_then y = record { most = omega (arith, x.most, y.most); on = λ want w. y.on want (x.on want w) }

  -- and what more was gone, by how it went
  module _ (g : Result Went Refusal) (k'' : List ℕ) (y : Goes b limit q k' g k'') where
    pub went_on : {r : Ran} → g ≡ Ok (On r) → RunsOn b limit a k r k''
    went_on e = runs_then (subst (λ (z : Result Went Refusal). Goes b limit q k' z k'') e y)

    pub went_over : (room : ℕ) {w : Walked} → g ≡ Ok (Over w) → Goes b limit a k g k'' × Stops limit room g
    went_over room {w} e = subst (λ (z : Result Went Refusal). Goes b limit a k z k'' × Stops limit room z) (sym e) (ends-then (Ok w) (subst (λ (z : Result Went Refusal). Goes b limit q k' z k'') e y), tt)

-- the case of an answer is known, so what it tells is
pub goes_as : (b : List ℕ) (limit : ℕ) (a : Ran) (k : List ℕ) {g h : Result Went Refusal} (k' : List ℕ) → Goes b limit a k g k' → g ≡ h → Goes b limit a k h k'
goes_as b limit a k k' y e = subst (λ (z : Result Went Refusal). Goes b limit a k z k') e y

pub stops-on : (limit room : ℕ) {g : Result Went Refusal} {r : Ran} → Stops limit room g → g ≡ Ok (On r) → (r.rows < limit) × (room ≡ max_key → ⊥)
stops-on limit room y e = subst (λ (z : Result Went Refusal). Stops limit room z) e y

pub one_more : (here : Ran) {g : Result Went Refusal} {r : Ran} → OneMore here g → g ≡ Ok (On r) → r.rows ≡ here.rows + 1
one_more here o e = subst (λ (z : Result Went Refusal). OneMore here z) e o

-- ---- what a row adds, summed piece by piece

pub row-added : (sum seq held : ℕ) (key : List ℕ) (n : ℕ) {last lengths named both r : ℕ} → 1 ≤ n → n ≤ length key
    → lengths ≡ (n + held) % 2 ^ 64 → last ≡ get_or key (n - 1) 0 → named ≡ (seq + last) % 2 ^ 64 → both ≡ (named + lengths) % 2 ^ 64 → r ≡ (sum + both) % 2 ^ 64
    → r ≡ (sum + added seq held (take n key)) % 2 ^ 64
row-added sum seq held key n some h lengths-is last-is named-is both_is r-is =
    let long = length-take-le n key h in
    rw (long, get_or-take n key (n - 1) 0 (omega arith), ← last-is) (omega (arith, lengths-is, named-is, both_is, r-is))

-- what a walk that ended leaves
pub told-ended : {want : Res Walk} (sums : List ℕ) (o : Bool) (rows sum : ℕ) {code : ℕ} → length sums ≡ 2 → want ≡ ok (walk_is o rows sum) → code ≡ cond o done_code 0
    → Tells want sums code (set (set sums 0 rows) 1 sum)
told-ended sums o rows sum h e q =
    let are : set (set sums 0 rows) 1 sum ≡ rows ∷ sum ∷ [] = all-stored (rows ∷ sum ∷ []) sums h in
    rw (e, are) (record { answer = q; words = refl })

pub told-refused : {want : Res Walk} (sums : List ℕ) {code n : ℕ} → want ≡ refuse n → code ≡ n → Tells want sums code sums
told-refused sums e q = rw e (record { answer = q; words = refl })

-- ---- the exits of an export

module _ (b : List ℕ) (order limit : ℕ) (sums : List ℕ) where
  pub walks-short : (length sums ≡ 2 → ⊥) → WalksFlat b order limit sums bad_words sums
  walks-short h = rw (ne_eqb (length sums) 2 h) (record { answer = refl; words = refl })

  pub walks-no-order : length sums ≡ 2 → order_in order ≡ refuse bad_words → WalksFlat b order limit sums bad_words sums
  walks-no-order h o = rw (eq-eqb (length sums) 2 h, o) (record { answer = refl; words = refl })

  module _ (r : OpenedPlace) (o : IterationOrder) (h : length sums ≡ 2) (is : order_in order ≡ ok (says_order o)) (opens : OpensPlace b o r) where
    opened-so : r.answer ≡ Ok tt → (key : List ℕ) → open_block b (says_order o) ≡ ok (view_in r.place key)
    opened-so e key = whether-good (open_block b (says_order o)) (view_in r.place key) (yes says_verdict opens.answer e) (λ a z. opens.view key ∙ ap (cursor_or (says_order o)) z)

    -- what the walk from the opened cursor answers is what is told; it carries no key, so that zeros do for its bytes
    pub walks-told : {want : Res Walk} {code : ℕ} {sums' : List ℕ} → r.answer ≡ Ok tt → want ≡ bind (walk limit (view_in r.place (replicate max_key 0)) b) wrapped → Tells want sums code sums'
        → WalksFlat b order limit sums code sums'
    walks-told e w t = rw (eq-eqb (length sums) 2 h, is, opened-so e (replicate max_key 0), ← w) t

    pub walks-not-opened : {x : Refusal} {code : ℕ} → r.answer ≡ Err x → code ≡ number x → WalksFlat b order limit sums code sums
    walks-not-opened {x} e q = rw (eq-eqb (length sums) 2 h, is, whether-refused (open_block b (says_order o)) (number x) (yes says_verdict opens.answer e), q) (record { answer = refl; words = refl })

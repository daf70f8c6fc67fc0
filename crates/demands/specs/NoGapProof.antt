-- No row falls between the two seeks, proved. Keys never fall, so a target parts an accepted block's rows in three: those below it, those that equal it, those above it. The ascending seek
-- walks the last two parts, the descending one the first two, backwards; and no two rows start at one place.
use Prim.Native.Nat.{ℕ, suc, ◌+◌, ◌<◌, ◌≤◌, zero-le, suc-le-suc}
use Rattle.std.specs.Prelude.{◌≡◌, Bool, take, drop, get_or}
use Rattle.std.proofs.Math.Path.{refl, ap, sym}
use Rattle.std.proofs.Common.{ap₂, ◌∙◌, inl, inr, arith, length-append, length-drop, drop_of_length-le}
use Rattle.std.proofs.Math.Bool.{true, false, not}
use mathlib.Core.List.{List, [], ◌∷◌, ◌++◌, append_assoc}
use Rattle.std.proofs.Math.Logic.{⊎_elim}
use Rattle.std.proofs.Math.ListN.{length, length-take}
use Rattle.std.proofs.Math.Seq.{take_at, drop_at}
use borrow.Author.Tests.{not-false}
use Rattle.layout.specs.Res.{ok}
use Rattle.layout.specs.Key.{Key, below, same, leading, is_below, not_above, first_at_or_above, first_above}
use Rattle.layout.specs.RowRead.{RowRead}
use Rattle.layout.specs.Trailer.{Trailer}
use Rattle.layout.specs.Cursor.{Direction, ascending, descending, Cursor, marked, Keyed, keyed, found, done, Step, step_is, next}
use Rattle.layout.specs.Seek.{Sought}
use Rattle.demands.specs.Reads.{AllOf, keys_of}
use Rattle.demands.specs.Runs.{RoomFor, backwards, Walks, stands, gives, EndsDone, WalksAll}
use Rattle.demands.specs.Rows.{Rows}
use Rattle.demands.specs.Walked.{WalkedAfter, StartsAt, NoneTwice, equal_to, NoGap}
use Rattle.demands.specs.Proof2.{sought-up, sought-down, first-splits, last-splits}
use Rattle.layout.proofs.Laws.Res.{ok-inj, clash}
use Rattle.layout.proofs.Laws.Key.{at-most-refl, at-most_antisym, below_false, le_below, below-le}
use Rattle.demands.specs.Laws.Reads.{all_append}
use Rattle.demands.specs.Laws.Sorted.{leading-most, leading_step, leading-stop}
use Rattle.demands.specs.Laws.Places.{rows-once, at_left, at_right, apart, once-first, once_last, at_back, back_at, once-back}

-- ---- a walk gives one list of rows

apart-answers : {a i : ℕ} {r : RowRead} {k : Key} → done ≡ found a i r k → ⊥
apart-answers e = let y : ◌≡◌ {A = ℕ} 0 1 = cc in omega arith

found-one : {a i b j : ℕ} {r s : RowRead} {x y : Key} → found a i r x ≡ found b j s y → keyed r x ≡ keyed s y
found-one e = cc

pub walks-one : (b : List ℕ) (room : ℕ) (c : Cursor) (xs ys : List Keyed) → WalksAll b room c xs → WalksAll b room c ys → xs ≡ ys
walks-one b room c xs ys v w = go c xs v.last v.walks v.ends ys w
  where
    none : (c : Cursor) (ys : List Keyed) (l : Cursor) → Walks b room c ys l → next c b room ≡ ok (step_is (marked c) done) → [] ≡ ys
    none c ys l (stands d) p = refl
    none c ys l (gives d d' d'' k ks t region number tr named q w) p =
        absurd (apart-answers (ap (λ (s : Step). s.answer) (ok-inj (sym p ∙ q))))

    go : (c : Cursor) (xs : List Keyed) (l : Cursor) → Walks b room c xs l → EndsDone b room l (marked l) → (ys : List Keyed) → WalksAll b room c ys → xs ≡ ys
    go c xs l (stands d) e ys w = none d ys w.last w.walks e.says-done
    go c xs l (gives d d' d'' k ks t region number tr named p v) e ys w = some d ys w.last w.walks w.ends p (go d' ks d'' v e)
      where
        some : (d : Cursor) (ys : List Keyed) (l : Cursor) → Walks b room d ys l → EndsDone b room l (marked l) → next d b room ≡ ok (step_is d' (found region number k.row k.key))
            → ((zs : List Keyed) → WalksAll b room d' zs → ks ≡ zs) → k ∷ ks ≡ ys
        some d ys l (stands d₁) f p ih = absurd (apart-answers (ap (λ (s : Step). s.answer) (ok-inj (sym f.says-done ∙ p))))
        some d ys l (gives d₁ d₁' d₁'' k₁ ks₁ t₁ region₁ number₁ tr₁ named₁ q w) f p ih =
            let z : step_is d' (found region number k.row k.key) ≡ step_is d₁' (found region₁ number₁ k₁.row k₁.key) = ok-inj (sym p ∙ q) in
            let moved : d₁' ≡ d' = sym (ap (λ (s : Step). s.cursor) z) in
            let row : k ≡ k₁ = found-one (ap (λ (s : Step). s.answer) z) in
            ap₂ ◌∷◌ row (ih ks₁ (rw (← moved) (record { last = d₁''; walks = w; ends = f })))

-- ---- the three parts

pub record Parts (target : Key) (rows : List Keyed) : Type 0 where
  pub lower : List Keyed
  pub equal : List Keyed
  pub upper : List Keyed
  pub are : rows ≡ lower ++ (equal ++ upper)
  pub lows : AllOf (λ (k : Keyed). below k.key target ≡ true) lower
  pub equals : AllOf (λ (k : Keyed). k.key ≡ target) equal
  pub highs : AllOf (λ (k : Keyed). below target k.key ≡ true) upper
  pub first : leading (is_below target) (keys_of rows) ≡ length lower
  pub last : leading (not_above target) (keys_of rows) ≡ length lower + length equal
  pub many : equal_to target (keys_of rows) ≡ length equal

module _ (target : Key) where
  equal-step : (k : Keyed) (ks : List Keyed) → same k.key target ≡ true → equal_to target (keys_of (k ∷ ks)) ≡ suc (equal_to target (keys_of ks))
  unfolding equal_to
  equal-step k ks e = rw e

  equal-stop : (k : Keyed) (ks : List Keyed) → same k.key target ≡ false → equal_to target (keys_of (k ∷ ks)) ≡ equal_to target (keys_of ks)
  unfolding equal_to
  equal-stop k ks e = rw e

  -- past the first row that fails a test none passes it
  abbrev Cut : (Key → Bool) → List Keyed → Type 0
  Cut p ks = (i : ℕ) → i < length ks → leading p (keys_of ks) ≤ i → p (get_or (keys_of ks) i []) ≡ false

  cut_on : (p : Key → Bool) (k : Keyed) (ks : List Keyed) → p k.key ≡ true → Cut p (k ∷ ks) → Cut p ks
  cut_on p k ks e c i h l = c (suc i) (suc-le-suc h) (rw (leading_step p k ks e) (suc-le-suc l))

  cut_all : (p : Key → Bool) (k : Keyed) (ks : List Keyed) → p k.key ≡ false → Cut p (k ∷ ks) → (i : ℕ) → i < length ks → p (get_or (keys_of ks) i []) ≡ false
  cut_all p k ks e c i h = c (suc i) (suc-le-suc h) (rw (leading-stop p k ks e) zero-le)

  none-leads : (p : Key → Bool) (ks : List Keyed) → ((i : ℕ) → i < length ks → p (get_or (keys_of ks) i []) ≡ false) → leading p (keys_of ks) ≡ 0
  none-leads p [] f = unfold leading in refl
  none-leads p (k ∷ ks) f = leading-stop p k ks (f 0 (suc-le-suc zero-le))

  -- what is above the target is neither below it nor equal to it
  all_above : (ks : List Keyed) → ((i : ℕ) → i < length ks → not_above target (get_or (keys_of ks) i []) ≡ false)
      → AllOf (λ (k : Keyed). below target k.key ≡ true) ks × (equal_to target (keys_of ks) ≡ 0)
  all_above [] f = (tt, unfold equal_to in refl)
  all_above (k ∷ ks) f =
      let up : below target k.key ≡ true = not-false (below target k.key) (f 0 (suc-le-suc zero-le)) in
      let rest = all_above ks (λ i h. f (suc i) (suc-le-suc h)) in
      ((up, rest.0), equal-stop k ks (rw (le_below k.key target (below-le target k.key up), up)) ∙ rest.1)

  pub parts : (ks : List Keyed) → Cut (is_below target) ks → Cut (not_above target) ks → Parts target ks
  parts [] c d = unfold leading equal_to in record { lower = []; equal = []; upper = []; are = refl; lows = tt; equals = tt; highs = tt; first = refl; last = refl; many = refl }
  parts (k ∷ ks) c d = go (below k.key target) refl (below target k.key) refl (parts ks)
    where
      go : (x : Bool) → below k.key target ≡ x → (y : Bool) → below target k.key ≡ y → (Cut (is_below target) ks → Cut (not_above target) ks → Parts target ks) → Parts target (k ∷ ks)
      go true e y f ih =
          let low : below target k.key ≡ false = le_below target k.key (below-le k.key target e) in
          let p = ih (cut_on (is_below target) k ks e c) (cut_on (not_above target) k ks (ap not low) d) in
          record {
            lower = k ∷ p.lower;
            equal = p.equal;
            upper = p.upper;
            are = ap (λ (x : List Keyed). k ∷ x) p.are;
            lows = (e, p.lows);
            equals = p.equals;
            highs = p.highs;
            first = leading_step (is_below target) k ks e ∙ ap suc p.first;
            last = leading_step (not_above target) k ks (ap not low) ∙ omega (arith, p.last);
            many = equal-stop k ks (rw e) ∙ p.many;
          }
      go false e true f ih =
          let rest = all_above ks (cut_all (not_above target) k ks (ap not f) d) in
          record {
            lower = [];
            equal = [];
            upper = k ∷ ks;
            are = refl;
            lows = tt;
            equals = tt;
            highs = (f, rest.0);
            first = leading-stop (is_below target) k ks e;
            last = leading-stop (not_above target) k ks (ap not f);
            many = equal-stop k ks (rw (e, f)) ∙ rest.1;
          }
      go false e false f ih =
          let is : k.key ≡ target = at-most_antisym k.key target (below_false target k.key f) (below_false k.key target e) in
          let none_below = cut_all (is_below target) k ks e c in
          let p = ih (λ i h l. none_below i h) (cut_on (not_above target) k ks (ap not f) d) in
          let none : p.lower ≡ [] = empty p.lower (sym p.first ∙ none-leads (is_below target) ks none_below) in
          record {
            lower = [];
            equal = k ∷ p.equal;
            upper = p.upper;
            are = ap (λ (x : List Keyed). k ∷ x) (p.are ∙ ap (λ (x : List Keyed). x ++ (p.equal ++ p.upper)) none);
            lows = tt;
            equals = (is, p.equals);
            highs = p.highs;
            first = leading-stop (is_below target) k ks e;
            last = leading_step (not_above target) k ks (ap not f) ∙ omega (arith, p.last, ap length none);
            many = equal-step k ks (rw (e, f)) ∙ ap suc p.many;
          }
        where
          empty : (xs : List Keyed) → length xs ≡ 0 → xs ≡ []
          empty [] z = refl
          empty (x ∷ xs) z = absurd (omega arith)

-- ---- what each seek walks

length-backwards : (xs : List Keyed) → length (backwards xs) ≡ length xs
unfolding backwards
length-backwards [] = refl
length-backwards (x ∷ xs) = omega (arith, length-append (backwards xs) (x ∷ []), length-backwards xs)

-- one seek has one answer, so the rows walked after it are these and no others
pub walked_one : (d : Direction) (b : List ℕ) (target : Key) (room : ℕ) (xs ys : List Keyed) → WalkedAfter d b target room xs → WalkedAfter d b target room ys → xs ≡ ys
walked_one d b target room xs ys v w =
    let same_place : w.c ≡ v.c = sym (ap (λ (s : Sought). s.cursor) (ok-inj (sym v.is ∙ w.is))) in
    walks-one b room v.c xs ys v.walked (rw (← same_place) w.walked)

-- ---- what holds of each row

all_map : (P Q : Keyed → Type 0) (xs : List Keyed) → ((k : Keyed) → P k → Q k) → AllOf P xs → AllOf Q xs
all_map P Q [] f a = tt
all_map P Q (x ∷ xs) f a = (f x a.0, all_map P Q xs f a.1)

all_back : (P : Keyed → Type 0) (xs : List Keyed) → AllOf P xs → AllOf P (backwards xs)
unfolding backwards
all_back P [] a = tt
all_back P (x ∷ xs) a = all_append P (backwards xs) (x ∷ []) (all_back P xs a.1) (a.0, tt)

abbrev In : List Keyed → Keyed → Type 0
In xs k = StartsAt k.row.start xs

each_in : (xs : List Keyed) → AllOf (In xs) xs
each_in [] = tt
each_in (x ∷ xs) = (inl refl, all_map (In xs) (In (x ∷ xs)) xs (λ k s. inr s) (each_in xs))

-- ---- the theorem, of three parts

module _ (target : Key) (L E U : List Keyed) (n : NoneTwice (L ++ (E ++ U))) (lows : AllOf (λ (k : Keyed). below k.key target ≡ true) L) (equals : AllOf (λ (k : Keyed). k.key ≡ target) E)
    (highs : AllOf (λ (k : Keyed). below target k.key ≡ true) U) where
  n' : NoneTwice ((L ++ E) ++ U)
  n' = rw (append_assoc L E U) n

  three : (P : Keyed → Type 0) → AllOf P L → AllOf P E → AllOf P U → AllOf P (L ++ (E ++ U))
  three P a b c = all_append P L (E ++ U) a (all_append P E U b c)

  -- where the rows of each part are walked
  low-down : (k : Keyed) → In L k → In (backwards (L ++ E)) k
  low-down k s = at_back k.row.start (L ++ E) (at_left k.row.start L E s)

  equal-down : (k : Keyed) → In E k → In (backwards (L ++ E)) k
  equal-down k s = at_back k.row.start (L ++ E) (at_right k.row.start L E s)

  equal-up : (k : Keyed) → In E k → In (E ++ U) k
  equal-up k s = at_left k.row.start E U s

  high-up : (k : Keyed) → In U k → In (E ++ U) k
  high-up k s = at_right k.row.start E U s

  -- and where they are not
  low-not-up : (k : Keyed) → In L k → In (E ++ U) k → ⊥
  low-not-up k s r = apart k.row.start L (E ++ U) n s r

  high-not-down : (k : Keyed) → In U k → In (backwards (L ++ E)) k → ⊥
  high-not-down k s r = apart k.row.start (L ++ E) U n' (back_at k.row.start (L ++ E) r) s

  not_itself : below target target ≡ true → ⊥
  not_itself e = clash e (le_below target target (at-most-refl target))

  pub no_gap : equal_to target (keys_of (L ++ (E ++ U))) ≡ length E → NoGap target (L ++ (E ++ U)) (E ++ U) (backwards (L ++ E))
  no_gap many =
      record {
        once = n;
        once-up = once_last L (E ++ U) n;
        once-down = once-back (L ++ E) (once-first (L ++ E) U n');
        only-up = all_map (In (E ++ U)) _ (E ++ U) (λ k s. at_right k.row.start L (E ++ U) s) (each_in (E ++ U));
        only-down =
            all_back _ (L ++ E)
            (all_map (In (L ++ E)) (In (L ++ (E ++ U))) (L ++ E) (λ k s. rw (append_assoc L E U) at (at_left k.row.start (L ++ E) U s)) (each_in (L ++ E)));
        together =
            three _
            (all_map (In L) _ L (λ k s. inr (low-down k s)) (each_in L))
            (all_map (In E) _ E (λ k s. inl (equal-up k s)) (each_in E))
            (all_map (In U) _ U (λ k s. inl (high-up k s)) (each_in U));
        both_equal =
            three _
            (all_map (In L) _ L (λ k s r d. absurd (low-not-up k s r)) (each_in L))
            (all_map (λ (k : Keyed). k.key ≡ target) _ E (λ k e r d. e) equals)
            (all_map (In U) _ U (λ k s r d. absurd (high-not-down k s d)) (each_in U));
        equal-both =
            three _
            (all_map (λ (k : Keyed). below k.key target ≡ true) _ L (λ k h e. absurd (not_itself (rw e at h))) lows)
            (all_map (In E) _ E (λ k s e. (equal-up k s, equal-down k s)) (each_in E))
            (all_map (λ (k : Keyed). below target k.key ≡ true) _ U (λ k h e. absurd (not_itself (rw e at h))) highs);
        sum = omega (arith, many, length-append E U, length-backwards (L ++ E), length-append L E, length-append L (E ++ U));
      }

-- ---- of an accepted block

module _ (b : List ℕ) (n : ℕ) (t : Trailer) (rows : List Keyed) (q : Rows b n t rows) (room : ℕ) (f : RoomFor room rows) (target : Key) where
  in_three : Parts target rows
  unfolding first_at_or_above first_above
  in_three = parts target rows (λ i h l. (first-splits target rows q.in_order i h).1 l) (λ i h l. ap not ((last-splits target rows q.in_order i h).1 l))

  -- the rows walked after each seek
  pub walked-up : WalkedAfter ascending b target room (drop (first_at_or_above target (keys_of rows)) rows)
  walked-up = let s = sought-up b n t rows q target room f in record { c = s.c; reads = s.reads; is = s.is; walked = s.walked }

  pub walked-down : WalkedAfter descending b target room (backwards (take (first_above target (keys_of rows)) rows))
  walked-down = let s = sought-down b n t rows q target room f in record { c = s.c; reads = s.reads; is = s.is; walked = s.walked }

  -- by the parts
  up_is : (p : Parts target rows) → drop (first_at_or_above target (keys_of rows)) rows ≡ p.equal ++ p.upper
  unfolding first_at_or_above
  up_is p = rw p.first (ap (drop (length p.lower)) p.are ∙ drop_at p.lower (p.equal ++ p.upper) (length p.lower) refl)

  down_is : (p : Parts target rows) → take (first_above target (keys_of rows)) rows ≡ p.lower ++ p.equal
  unfolding first_above
  down_is p =
      let split : rows ≡ (p.lower ++ p.equal) ++ p.upper = p.are ∙ sym (append_assoc p.lower p.equal p.upper) in
      let m : leading (not_above target) (keys_of rows) ≡ length (p.lower ++ p.equal) = p.last ∙ sym (length-append p.lower p.equal) in
      rw m (ap (take (length (p.lower ++ p.equal))) split ∙ take_at (p.lower ++ p.equal) p.upper (length (p.lower ++ p.equal)) refl)

  pub between : (up down : List Keyed) → WalkedAfter ascending b target room up → WalkedAfter descending b target room down → NoGap target rows up down
  between up down v w = go in_three
    where
      go : Parts target rows → NoGap target rows up down
      go p =
          let u : up ≡ p.equal ++ p.upper = walked_one ascending b target room up _ v walked-up ∙ up_is p in
          let d : down ≡ backwards (p.lower ++ p.equal) = walked_one descending b target room down _ w walked-down ∙ ap backwards (down_is p) in
          let each : NoneTwice rows = rw q.are (rows-once b t q.regions q.reads) in
          let once : NoneTwice (p.lower ++ (p.equal ++ p.upper)) = rw p.are at each in
          let many : equal_to target (keys_of (p.lower ++ (p.equal ++ p.upper))) ≡ length p.equal = ap (λ (x : List Keyed). equal_to target (keys_of x)) (sym p.are) ∙ p.many in
          rw (u, d, p.are) (no_gap target p.lower p.equal p.upper once p.lows p.equals p.highs many)

  -- a seek says "done" exactly when nothing is walked after it
  pub done-up : (up : List Keyed) (v : WalkedAfter ascending b target room up) → (v.c.done ≡ true → up ≡ []) × (up ≡ [] → v.c.done ≡ true)
  done-up up v =
      let s = sought-up b n t rows q target room f in
      let is : up ≡ drop (first_at_or_above target (keys_of rows)) rows = walked_one ascending b target room up _ v walked-up in
      let c-is : v.c ≡ s.c = ap (λ (x : Sought). x.cursor) (ok-inj (sym v.is ∙ s.is)) in
      ⊎_elim
      (λ o. (λ e. absurd (clash e (ap (λ (x : Cursor). x.done) c-is ∙ o.1)), λ z. absurd (omega (arith, o.0, ap length is, ap length z, length-drop (first_at_or_above target (keys_of rows)) rows))))
      (λ o. (λ e. is ∙ drop_of_length-le rows {i = first_at_or_above target (keys_of rows)} (omega (arith, o.0)), λ z. ap (λ (x : Cursor). x.done) (c-is ∙ o.1)))
      s.over

  pub done-down : (down : List Keyed) (w : WalkedAfter descending b target room down) → (w.c.done ≡ true → down ≡ []) × (down ≡ [] → w.c.done ≡ true)
  unfolding first_above
  done-down down w =
      let s = sought-down b n t rows q target room f in
      let is : down ≡ backwards (take (first_above target (keys_of rows)) rows) = walked_one descending b target room down _ w walked-down in
      let c-is : w.c ≡ s.c = ap (λ (x : Sought). x.cursor) (ok-inj (sym w.is ∙ s.is)) in
      ⊎_elim
      (λ o. (λ e. absurd (clash e (ap (λ (x : Cursor). x.done) c-is ∙ o.1)), λ z. absurd (omega (arith, o.0, ap length is, ap length z, length-backwards (take (first_above target (keys_of rows)) rows), length-take (first_above target (keys_of rows)) rows, leading-most (not_above target) rows))))
      (λ o. (λ e. is ∙ rw o.0 (unfold backwards in refl), λ z. ap (λ (x : Cursor). x.done) (c-is ∙ o.1)))
      s.over

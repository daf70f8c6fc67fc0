-- What stands at a place, case by case; and what a record that was found tells: its kind is one of the three, its bytes are all there.
use Rattle.std.specs.Prelude.{ℕ, ◌+◌, ◌≤◌, ◌<◌, ◌≡◌, refl, Bool, true, false, cond, List, ltb, leb, eqb, length, Result, Ok, Err, MatchResult}
use Rattle.std.proofs.Common.{ap, sym, ◌∙◌, ⊎_elim, arith}
use borrow.Author.Tests.{lt-ltb, le-ltb, le-leb, lt-leb, eq-eqb, ne_eqb, ltb-false, eqb-false}
use Rattle.layout.proofs.Laws.Res.{eqb-cases}
use Rattle.journal.specs.declared.Refusal.TheVariants.{UnknownKind}
use Rattle.journal.specs.declared.Kind.{Kind}
use Rattle.journal.specs.declared.Kind.TheVariants.{Debit as DebitKind, TopUp as TopUpKind, Close as CloseKind}
use Rattle.journal.specs.declared.NoKind.{NoKind}
use Rattle.journal.specs.declared.Record.{Record}
use Rattle.journal.specs.declared.Record.TheVariants.{Debit, TopUp, Close}
use Rattle.journal.specs.declared.Found.TheVariants.{Whole, Incomplete, End}
use Rattle.journal.specs.Record.{byte_of, kind_in, length_of, kind_of, card_of, retry_of, amount_of, number_at, kind_at, body_at, found_in, max_journal, record_at}

-- ---- lengths

pub length-debit : (k : ℕ) → k ≡ 1 → length_of k ≡ 21
unfolding length_of
length-debit k e = rw (eq-eqb k 1 e)

pub length_up : (k : ℕ) → k ≡ 2 → length_of k ≡ 21
unfolding length_of
length_up k e = rw e

pub length-close : (k : ℕ) → k ≡ 3 → length_of k ≡ 9
unfolding length_of
length-close k e = rw e

pub length_none : (k : ℕ) → (k ≡ 1 → ⊥) → (k ≡ 2 → ⊥) → (k ≡ 3 → ⊥) → length_of k ≡ 0
unfolding length_of
length_none k a b c = rw (ne_eqb k 1 a, ne_eqb k 2 b, ne_eqb k 3 c)

-- a kind that has a length is one of the three
pub data OneOf (k : ℕ) : Type 0 where
  debit : k ≡ 1 → length_of k ≡ 21 → OneOf k
  up : k ≡ 2 → length_of k ≡ 21 → OneOf k
  close : k ≡ 3 → length_of k ≡ 9 → OneOf k

pub one_of : (k : ℕ) → 0 < length_of k → OneOf k
one_of k h =
    ⊎_elim (λ a. debit a.1 (length-debit k a.1))
    (λ a. ⊎_elim (λ b. up b.1 (length_up k b.1))
    (λ b. ⊎_elim (λ c. close c.1 (length-close k c.1))
    (λ c. absurd (omega (arith, length_none k a.1 b.1 c.1))) (eqb-cases k 3)) (eqb-cases k 2)) (eqb-cases k 1)

pub length-least : (k : ℕ) → 0 < length_of k → 9 ≤ length_of k
length-least k h = go (one_of k h)
  where
    go : OneOf k → 9 ≤ length_of k
    go (debit a b) = omega arith
    go (up a b) = omega arith
    go (close a b) = omega arith

pub length_most : (k : ℕ) → length_of k ≤ 21
length_most k = ⊎_elim (λ a. omega (arith, a.1)) (λ a. go (one_of k (omega (arith, a.1)))) (eqb-cases (length_of k) 0)
  where
    go : OneOf k → length_of k ≤ 21
    go (debit a b) = omega arith
    go (up a b) = omega arith
    go (close a b) = omega arith

-- a debit's and a top-up's
pub length-long : (k : ℕ) → 0 < length_of k → (k ≡ 3 → ⊥) → length_of k ≡ 21
length-long k h n = go (one_of k h)
  where
    go : OneOf k → length_of k ≡ 21
    go (debit a b) = b
    go (up a b) = b
    go (close a b) = absurd (n a)

-- one that is neither a close's nor a debit's
pub kind-up : (k : ℕ) → 0 < length_of k → (k ≡ 3 → ⊥) → (k ≡ 1 → ⊥) → k ≡ 2
kind-up k h n m = go (one_of k h)
  where
    go : OneOf k → k ≡ 2
    go (debit a b) = absurd (m a)
    go (up a b) = a
    go (close a b) = absurd (n a)

-- ---- kinds

pub byte-one : (k l : Kind) → byte_of k ≡ byte_of l → k ≡ l
byte-one DebitKind DebitKind e = refl
byte-one DebitKind TopUpKind e = absurd (omega arith)
byte-one DebitKind CloseKind e = absurd (omega arith)
byte-one TopUpKind DebitKind e = absurd (omega arith)
byte-one TopUpKind TopUpKind e = refl
byte-one TopUpKind CloseKind e = absurd (omega arith)
byte-one CloseKind DebitKind e = absurd (omega arith)
byte-one CloseKind TopUpKind e = absurd (omega arith)
byte-one CloseKind CloseKind e = refl

-- a kind has a length
pub kind-some : (k : Kind) → 0 < length_of (byte_of k)
kind-some DebitKind = omega (arith, length-debit 1 refl)
kind-some TopUpKind = omega (arith, length_up 2 refl)
kind-some CloseKind = omega (arith, length-close 3 refl)

module _ (b : ℕ) where
  pub kind_debit : b ≡ 1 → Ok DebitKind ≡ kind_in b
  unfolding kind_in
  kind_debit e = rw e refl

  pub kind_up : b ≡ 2 → Ok TopUpKind ≡ kind_in b
  unfolding kind_in
  kind_up e = rw e refl

  pub kind_close : b ≡ 3 → Ok CloseKind ≡ kind_in b
  unfolding kind_in
  kind_close e = rw e refl

  pub kind_none : (b ≡ 1 → ⊥) → (b ≡ 2 → ⊥) → (b ≡ 3 → ⊥) → Err (record {}) ≡ kind_in b
  unfolding kind_in
  kind_none n m o = rw (ne_eqb b 1 n, ne_eqb b 2 m, ne_eqb b 3 o) refl

-- what a byte's kind tells of the byte
kind-tells : (b : ℕ) (x : Result Kind NoKind) → x ≡ kind_in b → MatchResult x (λ k. byte_of k ≡ b) (λ e. length_of b ≡ 0)
kind-tells b x e =
    ⊎_elim (λ u. rw (e ∙ sym (kind_debit b u.1)) (sym u.1))
    (λ u. ⊎_elim (λ v. rw (e ∙ sym (kind_up b v.1)) (sym v.1))
    (λ v. ⊎_elim (λ w. rw (e ∙ sym (kind_close b w.1)) (sym w.1))
    (λ w. rw (e ∙ sym (kind_none b u.1 v.1 w.1)) (length_none b u.1 v.1 w.1)) (eqb-cases b 3)) (eqb-cases b 2)) (eqb-cases b 1)

pub kind-is : (b : ℕ) (k : Kind) → Ok k ≡ kind_in b → byte_of k ≡ b
kind-is b k e = kind-tells b (Ok k) e

pub not_kind : (b : ℕ) (n : NoKind) → Err n ≡ kind_in b → length_of b ≡ 0
not_kind b n e = kind-tells b (Err n) e

-- ---- bodies

module _ (k : ℕ) (d : List ℕ) (at : ℕ) where
  pub body-debit : k ≡ 1 → body_at k d at ≡ Debit (number_at 8 d (at + 1)) (number_at 8 d (at + 9)) (number_at 4 d (at + 17))
  unfolding body_at
  body-debit e = rw e

  pub body_up : k ≡ 2 → body_at k d at ≡ TopUp (number_at 8 d (at + 1)) (number_at 8 d (at + 9)) (number_at 4 d (at + 17))
  unfolding body_at
  body_up e = rw e

  pub body-close : k ≡ 3 → body_at k d at ≡ Close (number_at 8 d (at + 1))
  unfolding body_at
  body-close e = rw e

  pub body-kind : 0 < length_of k → kind_of (body_at k d at) ≡ k
  body-kind h = go (one_of k h)
    where
      go : OneOf k → kind_of (body_at k d at) ≡ k
      go (debit a b) = ap kind_of (body-debit a) ∙ sym a
      go (up a b) = ap kind_of (body_up a) ∙ sym a
      go (close a b) = ap kind_of (body-close a) ∙ sym a

  pub body-card : 0 < length_of k → card_of (body_at k d at) ≡ number_at 8 d (at + 1)
  body-card h = go (one_of k h)
    where
      go : OneOf k → card_of (body_at k d at) ≡ number_at 8 d (at + 1)
      go (debit a b) = ap card_of (body-debit a)
      go (up a b) = ap card_of (body_up a)
      go (close a b) = ap card_of (body-close a)

  module _ (h : length_of k ≡ 21) where
    pub body_retry : retry_of (body_at k d at) ≡ number_at 8 d (at + 9)
    body_retry = go (one_of k (omega arith))
      where
        go : OneOf k → retry_of (body_at k d at) ≡ number_at 8 d (at + 9)
        go (debit a b) = ap retry_of (body-debit a)
        go (up a b) = ap retry_of (body_up a)
        go (close a b) = absurd (omega arith)

    pub body-amount : amount_of (body_at k d at) ≡ number_at 4 d (at + 17)
    body-amount = go (one_of k (omega arith))
      where
        go : OneOf k → amount_of (body_at k d at) ≡ number_at 4 d (at + 17)
        go (debit a b) = ap amount_of (body-debit a)
        go (up a b) = ap amount_of (body_up a)
        go (close a b) = absurd (omega arith)

-- the length of a record's kind
pub kind-length : (r : Record) → 9 ≤ length_of (kind_of r)
kind-length (Debit c n a) = omega (arith, length-debit 1 refl)
kind-length (TopUp c n a) = omega (arith, length_up 2 refl)
kind-length (Close c) = omega (arith, length-close 3 refl)

-- ---- what stands at a place

module _ (d : List ℕ) (at : ℕ) where
  pub found-end : length d ≤ at → found_in d at ≡ Ok End
  unfolding found_in
  found-end h = rw (le-leb (length d) at h)

  module _ (h : at < length d) where
    pub found_unknown : length_of (kind_at d at) ≡ 0 → found_in d at ≡ Err (UnknownKind at)
    unfolding found_in
    found_unknown e = rw (lt-leb (length d) at h, eq-eqb (length_of (kind_at d at)) 0 e)

    module _ (some : length_of (kind_at d at) ≡ 0 → ⊥) where
      pub found_incomplete : length d < at + length_of (kind_at d at) → found_in d at ≡ Ok Incomplete
      unfolding found_in
      found_incomplete l = rw (lt-leb (length d) at h, ne_eqb (length_of (kind_at d at)) 0 some, lt-ltb (length d) (at + length_of (kind_at d at)) l)

      pub found-whole : at + length_of (kind_at d at) ≤ length d → found_in d at ≡ Ok (Whole (body_at (kind_at d at) d at) (at + length_of (kind_at d at)))
      unfolding found_in
      found-whole l = rw (lt-leb (length d) at h, ne_eqb (length_of (kind_at d at)) 0 some, le-ltb (length d) (at + length_of (kind_at d at)) l)

-- what a record that was found tells
pub record Tells (d : List ℕ) (at : ℕ) (r : Record) (next : ℕ) : Type 0 where
  pub is : r ≡ body_at (kind_at d at) d at
  pub past : next ≡ at + length_of (kind_at d at)
  pub some : 0 < length_of (kind_at d at)
  pub inside : next ≤ length d

pub tells : (d : List ℕ) (at : ℕ) (r : Record) (next : ℕ) → found_in d at ≡ Ok (Whole r next) → Tells d at r next
unfolding found_in
tells d at r next e = go (leb (length d) at) refl (eqb (length_of (kind_at d at)) 0) refl (ltb (length d) (at + length_of (kind_at d at))) refl e
  where
    go : (a : Bool) → leb (length d) at ≡ a → (b : Bool) → eqb (length_of (kind_at d at)) 0 ≡ b → (t : Bool) → ltb (length d) (at + length_of (kind_at d at)) ≡ t
        → cond a (Ok End) (cond b (Err (UnknownKind at)) (cond t (Ok Incomplete) (Ok (Whole (body_at (kind_at d at) d at) (at + length_of (kind_at d at)))))) ≡ Ok (Whole r next) → Tells d at r next
    go true p b q t u e = absurd (let z : ◌≡◌ {A = ℕ} 0 1 = cc in omega arith)
    go false p true q t u e = absurd (let z : ◌≡◌ {A = ℕ} 0 1 = cc in omega arith)
    go false p false q true u e = absurd (let z : ◌≡◌ {A = ℕ} 0 1 = cc in omega arith)
    go false p false q false u e =
        let past : at + length_of (kind_at d at) ≡ next = cc in
        let is : body_at (kind_at d at) d at ≡ r = cc in
        let some : length_of (kind_at d at) ≡ 0 → ⊥ = eqb-false (length_of (kind_at d at)) 0 q in
        let fits : at + length_of (kind_at d at) ≤ length d = ltb-false (length d) (at + length_of (kind_at d at)) u in
        record { is = sym is; past = sym past; some = positive (length_of (kind_at d at)) some; inside = omega arith }
      where
        positive : (n : ℕ) → (n ≡ 0 → ⊥) → 0 < n
        positive n h = omega arith

pub found-moves : (d : List ℕ) (at : ℕ) (r : Record) (next : ℕ) → found_in d at ≡ Ok (Whole r next) → at < next
found-moves d at r next e = let t = tells d at r next e in omega (arith, t.past, t.some)

-- its fields, by the bytes at the place
module _ (d : List ℕ) (at : ℕ) (r : Record) (next : ℕ) (e : found_in d at ≡ Ok (Whole r next)) where
  pub found-kind : kind_of r ≡ kind_at d at
  found-kind = let t = tells d at r next e in ap kind_of t.is ∙ body-kind (kind_at d at) d at t.some

  pub found-card : card_of r ≡ number_at 8 d (at + 1)
  found-card = let t = tells d at r next e in ap card_of t.is ∙ body-card (kind_at d at) d at t.some

  pub found_retry : length_of (kind_at d at) ≡ 21 → retry_of r ≡ number_at 8 d (at + 9)
  found_retry l = ap retry_of (tells d at r next e).is ∙ body_retry (kind_at d at) d at l

  pub found-amount : length_of (kind_at d at) ≡ 21 → amount_of r ≡ number_at 4 d (at + 17)
  found-amount l = ap amount_of (tells d at r next e).is ∙ body-amount (kind_at d at) d at l

-- ---- a single record

pub record_short : (d : List ℕ) (at : ℕ) → length d ≤ max_journal → record_at d at ≡ found_in d at
unfolding record_at
record_short d at h = rw (le-ltb max_journal (length d) h)

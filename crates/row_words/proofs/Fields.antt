-- The words of a row's fields, read and written: each exit of the functions that do it is one of these laws.
-- What is read is the definition's once the number of words, the kind and the two times are known, in this order; what is written is put together from the words of the value and of
-- each time, case by case.
use Prim.Native.Nat.{ℕ, ◌+◌}
use mathlib.Core.Bool.{true, false}
use mathlib.Core.Path.{◌≡◌, refl, ap, sym, ◌∙◌, subst}
use mathlib.Core.List.{List, [], ◌∷◌, ◌++◌}
use lib.IntN.{ℤ}
use native.Mathlib.Omega.{arith}
use lib.ListN.{length, set, drop, length-append, length-drop}
use Rattle.layout.specs.Res.{ok, refuse}
use Rattle.layout.specs.Fixed.{unbits}
use Rattle.layout.specs.Row.{Kind as KindL, Time as TimeL, Absent as absent, At as at-time}
use Rattle.layout.specs.RowRead.{RowRead, Held, holds, gone, merges}
use Rattle.basics.specs.Says.{says_kind, says_time, says_held}
use Rattle.basics.specs.declared.ValueDeletable.{ValueDeletable}
use Rattle.basics.specs.declared.ValueDeletable.TheVariants.{Value, Tombstone, Merge}
use Rattle.row_decode_v2.specs.Says.{row_from}
use Rattle.row_decode_v2.specs.declared.Row.{Row}
use Rattle.row_flags.specs.declared.RowFields.{RowFields}
use Rattle.row_words.specs.Words.{bad_words, truth_in, word_at, kind_in, time_in, fields_in, held_words, time_words, single_words, row_words_of, fields_count, single_count, row_count}
use Rattle.row_words.specs.Says.{says_fields, held_from, time_words_of}
use Rattle.std.specs.Prelude.{Option, Some, None}
use Rattle.row_words.proofs.Laws.{counted-not, counted-so}
use Rattle.row_words.proofs.Stores.{stored, all-stored, stored-behind}

-- ---- a time

module _ (has w : ℕ) where
  pub time_bad : truth_in has ≡ refuse bad_words → refuse bad_words ≡ time_in has w
  unfolding time_in
  time_bad e = rw e refl

  pub time-at : {z : ℤ} → truth_in has ≡ ok true → z ≡ unbits w → ok (at-time z) ≡ time_in has w
  unfolding time_in
  time-at e q = rw (e, q) refl

  pub time_absent : truth_in has ≡ ok false → ok absent ≡ time_in has w
  unfolding time_in
  time_absent e = rw e refl

-- ---- fields

pub fields-short : (ws : List ℕ) → (length ws ≡ fields_count → ⊥) → (v : List ℕ) → refuse bad_words ≡ fields_in ws v
unfolding fields_in
fields-short ws h v = sym (counted-not ws fields_count _ h)

module _ (ws : List ℕ) (h : length ws ≡ fields_count) where
  pub fields-no-kind : kind_in (word_at ws 0) ≡ refuse bad_words → (v : List ℕ) → refuse bad_words ≡ fields_in ws v
  unfolding fields_in
  fields-no-kind k v = sym (counted-so ws fields_count _ h ∙ rw k refl)

  pub fields-no-expire : {a : KindL} → kind_in (word_at ws 0) ≡ ok a → time_in (word_at ws 2) (word_at ws 3) ≡ refuse bad_words → (v : List ℕ) → refuse bad_words ≡ fields_in ws v
  unfolding fields_in
  fields-no-expire k e v = sym (counted-so ws fields_count _ h ∙ rw (k, e) refl)

  pub fields-no-create : {a : KindL} {b : TimeL} → kind_in (word_at ws 0) ≡ ok a → time_in (word_at ws 2) (word_at ws 3) ≡ ok b → time_in (word_at ws 4) (word_at ws 5) ≡ refuse bad_words
      → (v : List ℕ) → refuse bad_words ≡ fields_in ws v
  unfolding fields_in
  fields-no-create k e c v = sym (counted-so ws fields_count _ h ∙ rw (k, e, c) refl)

  pub fields-loaded : (f : RowFields) → kind_in (word_at ws 0) ≡ ok (says_kind f.kind) → time_in (word_at ws 2) (word_at ws 3) ≡ ok (says_time f.expire)
      → time_in (word_at ws 4) (word_at ws 5) ≡ ok (says_time f.create) → f.seq ≡ word_at ws 1 → (v : List ℕ) → says_fields v (Some f) ≡ fields_in ws v
  unfolding fields_in
  fields-loaded f k e c s v = sym (counted-so ws fields_count _ h ∙ rw (k, e, c, s) refl)

-- ---- a row

held-words : (h : ValueDeletable) (rest : List ℕ) → (held_from h).kind ∷ (held_from h).start ∷ (held_from h).len ∷ rest ≡ held_words (says_held h) rest
held-words (Value start n) rest = refl
held-words Tombstone rest = refl
held-words (Merge start n) rest = refl

time-words : (t : Option ℤ) (rest : List ℕ) → (time_words_of t).has ∷ (time_words_of t).bits ∷ rest ≡ time_words (says_time t) rest
time-words None rest = refl
time-words (Some z) rest = refl

pub row_words : (r : Row)
    → r.start ∷ r.next ∷ r.shared ∷ r.suffix_at ∷ r.suffix_len ∷ (held_from r.held).kind ∷ (held_from r.held).start ∷ (held_from r.held).len ∷ r.seq
    ∷ (time_words_of r.expire).has ∷ (time_words_of r.expire).bits ∷ (time_words_of r.create).has ∷ (time_words_of r.create).bits ∷ []
    ≡ single_words (row_from r)
row_words r =
    ap (λ (x : List ℕ). r.start ∷ r.next ∷ r.shared ∷ r.suffix_at ∷ r.suffix_len ∷ x)
    (ap (λ (x : List ℕ). (held_from r.held).kind ∷ (held_from r.held).start ∷ (held_from r.held).len ∷ r.seq ∷ x)
    (ap (λ (x : List ℕ). (time_words_of r.expire).has ∷ (time_words_of r.expire).bits ∷ x) (time-words r.create []) ∙ time-words r.expire (time_words (says_time r.create) []))
    ∙ held-words r.held (r.seq ∷ time_words (says_time r.expire) (time_words (says_time r.create) [])))

-- a row's words, all stored
pub row-stored : (ws : List ℕ) (r : Row) → length ws ≡ single_count
    → set (set (set (set (set (set (set (set (set (set (set (set (set ws 0 r.start) 1 r.next) 2 r.shared) 3 r.suffix_at) 4 r.suffix_len) 5 (held_from r.held).kind) 6 (held_from r.held).start) 7 (held_from r.held).len) 8 r.seq) 9 (time_words_of r.expire).has) 10 (time_words_of r.expire).bits) 11 (time_words_of r.create).has) 12 (time_words_of r.create).bits
    ≡ single_words (row_from r)
row-stored ws r h =
    all-stored (_ ∷ _ ∷ _ ∷ _ ∷ _ ∷ _ ∷ _ ∷ _ ∷ _ ∷ _ ∷ _ ∷ _ ∷ _ ∷ []) ws h
    ∙ row_words r

-- ---- with the numbers that name it

held-count : (h : Held) (rest : List ℕ) → length (held_words h rest) ≡ 3 + length rest
held-count (holds at n) rest = omega arith
held-count gone rest = omega arith
held-count (merges at n) rest = omega arith

time-count : (t : TimeL) (rest : List ℕ) → length (time_words t rest) ≡ 2 + length rest
time-count absent rest = omega arith
time-count (at-time z) rest = omega arith

single-count : (r : RowRead) → length (single_words r) ≡ single_count
single-count r =
    omega (arith, held-count r.held (r.seq ∷ time_words r.expire (time_words r.create [])), time-count r.expire (time_words r.create []), time-count r.create [])

-- for callers that put rows side by side
pub row_count_lem : (region number : ℕ) (r : RowRead) → length (row_words_of region number r) ≡ row_count
row_count_lem region number r = length-append (single_words r) (region ∷ number ∷ []) ∙ rw (single-count r)

-- the two numbers, stored behind a row's own words
pub numbers-stored : (ws : List ℕ) (region number : ℕ) (r : RowRead) {part : List ℕ} → length ws ≡ row_count → part ≡ single_words r
    → set (set (part ++ drop single_count ws) 13 region) 14 number ≡ row_words_of region number r
numbers-stored ws region number r h e =
    rw e
    (subst (λ (n : ℕ). stored n (single_words r ++ drop single_count ws) (region ∷ number ∷ []) ≡ row_words_of region number r) (single-count r)
    (stored-behind (single_words r) (drop single_count ws) (region ∷ number ∷ []) (length-drop single_count ws ∙ omega (arith, h))))

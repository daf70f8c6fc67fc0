-- What each case of an answer says: the words as the cases and structs of the crates below. No two cases say the same.
use Rattle.std.specs.Prelude.{ℕ, ℤ, Bool, List, ◌≡◌, refl, Option, Some, None}
use Rattle.std.proofs.Common.{ap, sym, ◌∙◌}
use Rattle.layout.specs.Res.{Res, ok, refuse}
use Rattle.layout.specs.Fixed.{bits}
use Rattle.layout.proofs.Laws.Res.{ok-inj}
use Rattle.layout.specs.Row.{Fields}
use Rattle.basics.specs.Answers.{apart}
use Rattle.basics.specs.Says.{says_order, says_kind-one, says_time-one, says_order-one}
use Rattle.layout.specs.Cursor.{Direction}
use Rattle.basics.specs.declared.IterationOrder.{IterationOrder}
use Rattle.basics.specs.declared.ValueDeletable.{ValueDeletable}
use Rattle.basics.specs.declared.ValueDeletable.TheVariants.{Value, Tombstone, Merge}
use Rattle.row_flags.specs.Says.{fields_from}
use Rattle.row_flags.specs.declared.RowFields.{RowFields}
use Rattle.row_words.specs.declared.HeldWords.{HeldWords}
use Rattle.row_words.specs.declared.TimeWords.{TimeWords}
use Rattle.row_words.specs.Words.{bad_words}

-- what is in words, by what it says; other words are none
abbrev pub says_word : {T A : Type 0} → (T → A) → Option T → Res A
says_word f (Some v) = ok (f v)
says_word f None = refuse bad_words

abbrev pub says_truth : Option Bool → Res Bool
says_truth = says_word (λ b. b)

abbrev pub says_ordered : Option IterationOrder → Res Direction
says_ordered = says_word says_order

abbrev pub says_fields : List ℕ → Option RowFields → Res Fields
says_fields v = says_word (λ f. fields_from f v)

abbrev pub held_from : ValueDeletable → HeldWords
held_from (Value start n) = record { kind = 0; start = start; len = n }
held_from Tombstone = record { kind = 1; start = 0; len = 0 }
held_from (Merge start n) = record { kind = 2; start = start; len = n }

abbrev pub time_words_of : Option ℤ → TimeWords
time_words_of None = record { has = 0; bits = 0 }
time_words_of (Some z) = record { has = 1; bits = bits z }

-- ---- one to one

pub says_word-one : {T A : Type 0} (f : T → A) → ((a b : T) → f a ≡ f b → a ≡ b) → (x y : Option T) → says_word f x ≡ says_word f y → x ≡ y
says_word-one f one (Some a) (Some b) e = ap Some (one a b (ok-inj e))
says_word-one f one (Some a) None e = absurd (apart e)
says_word-one f one None (Some b) e = absurd (apart (sym e))
says_word-one f one None None e = refl

pub says_truth-one : (a b : Option Bool) → says_truth a ≡ says_truth b → a ≡ b
says_truth-one = says_word-one (λ b. b) (λ a b e. e)

pub says_ordered-one : (a b : Option IterationOrder) → says_ordered a ≡ says_ordered b → a ≡ b
says_ordered-one = says_word-one says_order says_order-one

pub fields_from-one : (v : List ℕ) (a b : RowFields) → fields_from a v ≡ fields_from b v → a ≡ b
fields_from-one v a b e =
    let k = says_kind-one a.kind b.kind (ap (λ (x : Fields). x.kind) e) in
    let t = says_time-one a.expire b.expire (ap (λ (x : Fields). x.expire) e) in
    let c = says_time-one a.create b.create (ap (λ (x : Fields). x.create) e) in
    ap (λ (x : Fields). record { kind = a.kind; seq = x.seq; expire = a.expire; create = a.create }) e ∙ rw (k, t, c)

pub says_fields-one : (v : List ℕ) (a b : Option RowFields) → says_fields v a ≡ says_fields v b → a ≡ b
says_fields-one v = says_word-one (λ f. fields_from f v) (fields_from-one v)

-- What each case of the types stands for in the definitions. No two cases stand for the same.
use Rattle.std.specs.Prelude.{◌≡◌, refl, ℤ, Option, Some, None}
use Rattle.std.proofs.Common.{ap, sym, ◌∙◌}
use Rattle.layout.specs.Row.{Kind as KindL, value, tombstone, merge, Time as TimeL, Absent as absent, At as at-time}
use Rattle.layout.specs.RowRead.{Held, holds, gone, merges}
use Rattle.layout.specs.Cursor.{Direction, ascending, descending}
use Rattle.basics.specs.declared.Kind.{Kind}
use Rattle.basics.specs.declared.Kind.TheVariants.{Value as ValueKind, Tombstone as TombstoneKind, Merge as MergeKind}
use Rattle.basics.specs.declared.ValueDeletable.{ValueDeletable}
use Rattle.basics.specs.declared.ValueDeletable.TheVariants.{Value, Tombstone, Merge}
use Rattle.basics.specs.declared.IterationOrder.{IterationOrder}
use Rattle.basics.specs.declared.IterationOrder.TheVariants.{Ascending, Descending}

abbrev pub says_kind : Kind → KindL
says_kind ValueKind = value
says_kind TombstoneKind = tombstone
says_kind MergeKind = merge

abbrev pub says_time : Option ℤ → TimeL
says_time None = absent
says_time (Some t) = at-time t

abbrev pub says_held : ValueDeletable → Held
says_held (Value start n) = holds start n
says_held Tombstone = gone
says_held (Merge start n) = merges start n

abbrev pub says_order : IterationOrder → Direction
says_order Ascending = ascending
says_order Descending = descending

-- ---- one to one: what a case stands for, read back

abbrev kind_said : KindL → Kind
kind_said value = ValueKind
kind_said tombstone = TombstoneKind
kind_said merge = MergeKind

abbrev time_said : TimeL → Option ℤ
time_said absent = None
time_said (at-time t) = Some t

abbrev held_said : Held → ValueDeletable
held_said (holds start n) = Value start n
held_said gone = Tombstone
held_said (merges start n) = Merge start n

abbrev order_said : Direction → IterationOrder
order_said ascending = Ascending
order_said descending = Descending

kind-back : (a : Kind) → kind_said (says_kind a) ≡ a
kind-back ValueKind = refl
kind-back TombstoneKind = refl
kind-back MergeKind = refl

time-back : (a : Option ℤ) → time_said (says_time a) ≡ a
time-back None = refl
time-back (Some t) = refl

held_back : (a : ValueDeletable) → held_said (says_held a) ≡ a
held_back (Value start n) = refl
held_back Tombstone = refl
held_back (Merge start n) = refl

order-back : (a : IterationOrder) → order_said (says_order a) ≡ a
order-back Ascending = refl
order-back Descending = refl

-- what is read back is one to one
back_one : {A B : Type 0} (says : A → B) (said : B → A) → ((a : A) → said (says a) ≡ a) → (a b : A) → says a ≡ says b → a ≡ b
back_one says said back a b e = sym (back a) ∙ ap said e ∙ back b

pub says_kind-one : (a b : Kind) → says_kind a ≡ says_kind b → a ≡ b
says_kind-one = back_one says_kind kind_said kind-back

pub says_time-one : (a b : Option ℤ) → says_time a ≡ says_time b → a ≡ b
says_time-one = back_one says_time time_said time-back

pub says_held-one : (a b : ValueDeletable) → says_held a ≡ says_held b → a ≡ b
says_held-one = back_one says_held held_said held_back

pub says_order-one : (a b : IterationOrder) → says_order a ≡ says_order b → a ≡ b
says_order-one = back_one says_order order_said order-back

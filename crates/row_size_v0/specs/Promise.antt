-- What the public function promises: an equation to the definitions of `layout_v1`, that settles the number answered.
use Rattle.std.specs.Prelude.{ℕ, ℤ, ◌≡◌, Option, Result}
use Rattle.layout.specs.Row.{present}
use Rattle.layout_v1.specs.Row.{size_alone}
use Rattle.basics.specs.Answers.{says_same}
use Rattle.basics.specs.Says.{says_kind, says_time}
use Rattle.basics.specs.declared.Kind.{Kind}
use Rattle.basics.specs.declared.Refusal.{Refusal}

abbrev pub Sizes : ℕ → ℕ → Kind → ℕ → Option ℤ → Option ℤ → Result ℕ Refusal → Type 0
Sizes shared suffix_len kind value_len expire create r =
    says_same r ≡ size_alone shared suffix_len (says_kind kind) value_len (present (says_time expire)) (present (says_time create))

-- The promise admits one outcome: two results that both keep it are equal.
use Rattle.std.specs.Prelude.{ℕ, ℤ, ◌≡◌, Option, Result}
use Rattle.std.proofs.Common.{sym, ◌∙◌}
use Rattle.basics.specs.Answers.{says_same-one}
use Rattle.basics.specs.declared.Kind.{Kind}
use Rattle.basics.specs.declared.Refusal.{Refusal}
use Rattle.row_size_v0.specs.Promise.{Sizes}

pub encoded_size-settled : (shared suffix_len : ℕ) (kind : Kind) (value_len : ℕ) (expire create : Option ℤ) (r q : Result ℕ Refusal)
    → Sizes shared suffix_len kind value_len expire create r → Sizes shared suffix_len kind value_len expire create q → r ≡ q
encoded_size-settled shared suffix_len kind value_len expire create r q a b = says_same-one r q (a ∙ sym b)

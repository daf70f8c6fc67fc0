-- Each promise admits one outcome: two results, with the buffers that they leave, that both keep it are equal.
use Rattle.std.specs.Prelude.{ℕ, ◌≡◌, ℤ, List, Option, Result}
use Rattle.std.proofs.Common.{sym, ◌∙◌}
use Rattle.basics.specs.Answers.{says_same-one}
use Rattle.basics.specs.declared.Kind.{Kind}
use Rattle.basics.specs.declared.Refusal.{Refusal}
use Rattle.row_size_v2.specs.Promise.{TestsKey, Sizes, Restores}

pub key-len-settled : (shared suffix_len : ℕ) (r q : Result ℕ Refusal) → TestsKey shared suffix_len r → TestsKey shared suffix_len q → r ≡ q
key-len-settled shared suffix_len r q a b = says_same-one r q (a ∙ sym b)

pub encoded_size-settled : (shared suffix_len : ℕ) (kind : Kind) (value_len : ℕ) (expire create : Option ℤ) (r q : Result ℕ Refusal)
    → Sizes shared suffix_len kind value_len expire create r → Sizes shared suffix_len kind value_len expire create q → r ≡ q
encoded_size-settled shared suffix_len kind value_len expire create r q a b = says_same-one r q (a ∙ sym b)

pub restore_full-key-settled : (prev : List ℕ) (shared : ℕ) (suffix out : List ℕ) (r q : Result ℕ Refusal) (ys zs : List ℕ)
    → Restores prev shared suffix out r ys → Restores prev shared suffix out q zs → (r ≡ q) × (ys ≡ zs)
restore_full-key-settled prev shared suffix out r q ys zs a b = (says_same-one r q (a.answer ∙ sym b.answer), a.bytes ∙ sym b.bytes)

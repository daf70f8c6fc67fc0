-- Each promise admits one outcome: two results that both keep it are equal.
use Rattle.std.specs.Prelude.{ℕ, ◌≡◌, List, ℤ, Result}
use Rattle.std.proofs.Common.{sym, ◌∙◌}
use Rattle.basics.specs.Answers.{says_num-one}
use Rattle.basics.specs.declared.Read.{Read}
use Rattle.basics.specs.declared.Refusal.{Refusal}
use Rattle.buf.specs.Promise.{ReadsWord, ReadsSigned, ReadsEight, ReadsNarrow, ReadsBytes}
use Rattle.buf.specs.Says.{says_signed-one}

module _ (s : List ℕ) (at : ℕ) where
  pub get-u64-settled : (r q : Result (Read ℕ) Refusal) → ReadsWord s at r → ReadsWord s at q → r ≡ q
  get-u64-settled r q a b = says_num-one r q (a ∙ sym b)

  pub get-i64-settled : (r q : Result (Read ℤ) Refusal) → ReadsSigned s at r → ReadsSigned s at q → r ≡ q
  get-i64-settled r q a b = says_signed-one r q (a ∙ sym b)

  pub narrow-settled : (n : ℕ) (r q : Result (Read ℕ) Refusal) → ReadsNarrow n s at r → ReadsNarrow n s at q → r ≡ q
  narrow-settled n r q a b = says_num-one r q (a.0 ∙ sym b.0)

  pub bytes-settled : (n r q : ℕ) → ReadsBytes n s at r → ReadsBytes n s at q → r ≡ q
  bytes-settled n r q a b = a.0 ∙ sym b.0

  pub eight-settled : (r q : ℕ) → ReadsEight s at r → ReadsEight s at q → r ≡ q
  eight-settled r q a b = a ∙ sym b

-- Each promise admits one outcome: two results that both keep it are equal.
use Rattle.std.specs.Prelude.{ℕ, ◌≡◌, List, Result}
use Rattle.std.proofs.Common.{sym, ◌∙◌}
use Rattle.basics.specs.declared.Refusal.{Refusal}
use Rattle.row_decode_v2.specs.Says.{says_row-one, says_key-one}
use Rattle.row_decode_v2.specs.declared.Row.{Row}
use Rattle.row_decode_v2.specs.declared.KeyPlace.{KeyPlace}
use Rattle.row_decode_v0.specs.Promise.{Decodes, DecodesAt, DecodesKey}

pub decode-settled : (s : List ℕ) (first_len : ℕ) (r q : Result Row Refusal) → Decodes s first_len r → Decodes s first_len q → r ≡ q
decode-settled s first_len r q a b = says_row-one r q (a ∙ sym b)

module _ (s : List ℕ) (at end most : ℕ) where
  pub decode-at-settled : (r q : Result Row Refusal) → DecodesAt s at end most r → DecodesAt s at end most q → r ≡ q
  decode-at-settled r q a b = says_row-one r q (a ∙ sym b)

  pub decode-key-only-settled : (r q : Result KeyPlace Refusal) → DecodesKey s at end most r → DecodesKey s at end most q → r ≡ q
  decode-key-only-settled r q a b = says_key-one r q (a ∙ sym b)

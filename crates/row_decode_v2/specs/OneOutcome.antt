-- Each promise admits one outcome: two results that both keep it are equal.
use Rattle.std.specs.Prelude.{ℕ, ◌≡◌, Bool, List, Result}
use Rattle.std.proofs.Common.{sym, ◌∙◌}
use Rattle.basics.specs.Says.{says_held-one}
use Rattle.basics.specs.declared.Kind.{Kind}
use Rattle.basics.specs.declared.Refusal.{Refusal}
use Rattle.basics.specs.declared.ValueDeletable.{ValueDeletable}
use Rattle.row_decode_v2.specs.declared.Row.{Row}
use Rattle.row_decode_v2.specs.declared.KeyPlace.{KeyPlace}
use Rattle.row_decode_v2.specs.Promise.{Decodes, DecodesAt, DecodesKey, HeldAs, MayShare}
use Rattle.row_decode_v2.specs.Says.{says_row-one, says_key-one}

pub decode-settled : (s : List ℕ) (prev_len : ℕ) (r q : Result Row Refusal) → Decodes s prev_len r → Decodes s prev_len q → r ≡ q
decode-settled s prev_len r q a b = says_row-one r q (a ∙ sym b)

pub may_share-settled : (restart : Bool) (prev_len r q : ℕ) → MayShare restart prev_len r → MayShare restart prev_len q → r ≡ q
may_share-settled restart prev_len r q a b = a ∙ sym b

pub held_as_settled : (k : Kind) (at n : ℕ) (r q : ValueDeletable) → HeldAs k at n r → HeldAs k at n q → r ≡ q
held_as_settled k at n r q a b = says_held-one r q (a ∙ sym b)

module _ (s : List ℕ) (at end prev_len : ℕ) (restart : Bool) where
  pub decode-at-settled : (r q : Result Row Refusal) → DecodesAt s at end prev_len restart r → DecodesAt s at end prev_len restart q → r ≡ q
  decode-at-settled r q a b = says_row-one r q (a ∙ sym b)

  pub decode-key-only-settled : (r q : Result KeyPlace Refusal) → DecodesKey s at end prev_len restart r → DecodesKey s at end prev_len restart q → r ≡ q
  decode-key-only-settled r q a b = says_key-one r q (a ∙ sym b)

-- Each promise admits one outcome: two results that both keep it are equal.
use Rattle.std.specs.Prelude.{ℕ, ◌≡◌, refl, List, Option, Some, None}
use Rattle.std.proofs.Common.{ap, sym, ◌∙◌}
use Rattle.layout.specs.Plain.{Plain}
use Rattle.layout.proofs.Laws.Plain.{some-one, none-apart}
use Rattle.row_plain_v2.specs.declared.PlainRow.{PlainRow}
use Rattle.row_plain_v2.specs.Promise.{says_plain, PlainAt, PlainKeyAt}

-- a plain row says its four numbers
says_plain-one : (r q : Option PlainRow) → says_plain r ≡ says_plain q → r ≡ q
says_plain-one None None e = refl
says_plain-one None (Some q) e = absurd (none-apart e)
says_plain-one (Some r) None e = absurd (none-apart (sym e))
says_plain-one (Some r) (Some q) e = ap (λ (x : Plain). Some (record { next = x.next; shared = x.shared; unshared = x.unshared; value_len = x.value_len })) (some-one e)

pub plain-at-settled : (s : List ℕ) (at end most : ℕ) (r q : Option PlainRow) → PlainAt s at end most r → PlainAt s at end most q → r ≡ q
plain-at-settled s at end most r q a b = says_plain-one r q (a ∙ sym b)

pub plain-key-at-settled : (s : List ℕ) (at end : ℕ) (r q : Option ℕ) → PlainKeyAt s at end r → PlainKeyAt s at end q → r ≡ q
plain-key-at-settled s at end r q a b = a ∙ sym b

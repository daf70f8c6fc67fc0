-- Each promise admits one outcome: two results that both keep it are equal. No two refusals have one number, but for 31, whose position is told beside it.
use Rattle.std.specs.Prelude.{ℕ, ◌≡◌, List, Result}
use Rattle.std.proofs.Common.{sym, ◌∙◌}
use Rattle.journal.specs.declared.Refusal.{Refusal}
use Rattle.journal.specs.declared.Kind.{Kind}
use Rattle.journal.specs.declared.NoKind.{NoKind}
use Rattle.journal.specs.declared.Record.{Record}
use Rattle.journal.specs.declared.Found.{Found}
use Rattle.journal.specs.Promise.{Numbered, Decodes, StandsFor, Measures, HasKind, Finds}
use Rattle.journal.specs.Laws.Found.{byte-one}

pub number-settled : (r : Refusal) (m n : ℕ) → Numbered r m → Numbered r n → m ≡ n
number-settled r m n p q = p ∙ sym q

pub kind-settled : (byte : ℕ) (r q : Result Kind NoKind) → Decodes byte r → Decodes byte q → r ≡ q
kind-settled byte r q a b = a ∙ sym b

pub byte-settled : (kind : Kind) (m n : ℕ) → StandsFor kind m → StandsFor kind n → m ≡ n
byte-settled kind m n p q = p ∙ sym q

pub length-settled : (kind m n : ℕ) → Measures kind m → Measures kind n → m ≡ n
length-settled kind m n p q = p ∙ sym q

pub record_kind-settled : (record' : Record) (r q : Kind) → HasKind record' r → HasKind record' q → r ≡ q
record_kind-settled record' r q a b = byte-one r q (a ∙ sym b)

pub record_at-settled : (d : List ℕ) (at : ℕ) (r q : Result Found Refusal) → Finds d at r → Finds d at q → r ≡ q
record_at-settled d at r q a b = a ∙ sym b

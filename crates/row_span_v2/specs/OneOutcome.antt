-- Each promise admits one outcome: two results that both keep it are equal.
use Rattle.std.specs.Prelude.{ℕ, ◌≡◌, List, Result}
use Rattle.std.proofs.Common.{ap, sym, ◌∙◌}
use Rattle.layout.specs.Plain.{RowSpan as Span}
use Rattle.basics.specs.Answers.{says-one}
use Rattle.basics.specs.declared.Refusal.{Refusal}
use Rattle.row_decode_v2.specs.Says.{says_row-one}
use Rattle.row_decode_v2.specs.declared.Row.{Row}
use Rattle.row_span_v2.specs.declared.RowSpan.{RowSpan}
use Rattle.row_span_v2.specs.declared.NumberedSpan.{NumberedSpan}
use Rattle.row_span_v2.specs.Promise.{span_from, SpansIn, Numbered, numbered_from, NumbersIn, ReadsIn}

-- a span says its four numbers
span_from-one : (r q : RowSpan) → span_from r ≡ span_from q → r ≡ q
span_from-one r q e = ap (λ (x : Span). record { next = x.next; shared = x.shared; suffix_at = x.suffix_at; suffix_len = x.suffix_len }) e

-- a numbered one these, and its sequence number
numbered-one : (r q : NumberedSpan) → numbered_from r ≡ numbered_from q → r ≡ q
numbered-one r q e = ap (λ (x : Numbered). record { next = x.span.next; shared = x.span.shared; suffix_at = x.span.suffix_at; suffix_len = x.span.suffix_len; seq = x.seq }) e

module _ (s : List ℕ) (at start end prev_len : ℕ) where
  pub span_in_settled : (r q : Result RowSpan Refusal) → SpansIn s at start end prev_len r → SpansIn s at start end prev_len q → r ≡ q
  span_in_settled r q a b = says-one span_from span_from-one r q (a ∙ sym b)

  pub numbered_in_settled : (r q : Result NumberedSpan Refusal) → NumbersIn s at start end prev_len r → NumbersIn s at start end prev_len q → r ≡ q
  numbered_in_settled r q a b = says-one numbered_from numbered-one r q (a ∙ sym b)

  pub row_in_settled : (r q : Result Row Refusal) → ReadsIn s at start end prev_len r → ReadsIn s at start end prev_len q → r ≡ q
  row_in_settled r q a b = says_row-one r q (a ∙ sym b)

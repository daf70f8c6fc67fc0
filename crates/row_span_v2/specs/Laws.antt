-- What a span tells its caller: the row that was read, with these numbers.
use Rattle.std.specs.Prelude.{ℕ, ◌≡◌}
use Rattle.std.proofs.Common.{ap, sym, ◌∙◌, arith}
use Rattle.layout.specs.Res.{Res, ok, refuse, bind}
use Rattle.layout.specs.Plain.{RowSpan, spans}
use Rattle.layout.specs.RowRead.{RowRead}
use Rattle.layout.proofs.Laws.Res.{ok-inj, refuse-inj}
use Rattle.layout.proofs.Laws.Plain.{span-row}
use Rattle.row_span_v2.specs.Promise.{Numbered, numbered_of}

-- a row with the numbers of a span, and with this sequence number
abbrev pub numbered : RowRead → RowSpan → ℕ → RowRead
numbered r p n =
    record {
      start = r.start;
      next = p.next;
      shared = p.shared;
      suffix_at = p.suffix_at;
      suffix_len = p.suffix_len;
      held = r.held;
      seq = n;
      expire = r.expire;
      create = r.create;
    }

-- and with its own
abbrev pub spanned : RowRead → RowSpan → RowRead
spanned r p = numbered r p r.seq

pub span-known : (x : Res RowRead) (p : RowSpan) → ok p ≡ spans x → (r : RowRead) × (x ≡ ok (spanned r p))
span-known x p e = span-row x p e λ r q is. (r, q ∙ ap (λ (x : RowSpan). ok (spanned r x)) is)

pub numbered-known : (x : Res RowRead) (p : Numbered) → ok p ≡ bind x (λ r. ok (numbered_of r)) → (r : RowRead) × (x ≡ ok (numbered r p.span p.seq))
numbered-known (ok r) p e = (r, ap (λ (x : Numbered). ok (numbered r x.span x.seq)) (sym (ok-inj e)))
numbered-known (refuse n) p e = absurd (let z : ◌≡◌ {A = ℕ} 0 1 = cc in omega arith)

pub numbered-no : (x : Res RowRead) {n : ℕ} → refuse n ≡ bind x (λ r. ok (numbered_of r)) → x ≡ refuse n
numbered-no (ok r) e = absurd (let z : ◌≡◌ {A = ℕ} 0 1 = cc in omega arith)
numbered-no (refuse m) e = ap refuse (refuse-inj (sym e))

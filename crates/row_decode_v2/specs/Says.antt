-- What each case of a read's answer says: places and values, or the number of the refusal. No two cases say the same.
use Rattle.std.specs.Prelude.{◌≡◌, ℤ, Result, Option}
use Rattle.std.proofs.Common.{ap, ◌∙◌}
use Rattle.layout.specs.Res.{Res}
use Rattle.layout.specs.RowRead.{RowRead as RowReadL, KeyRead as KeyReadL}
use Rattle.basics.specs.Answers.{says, says-one}
use Rattle.basics.specs.Says.{says_time, says_held, says_held-one, says_time-one}
use Rattle.basics.specs.declared.Refusal.{Refusal}
use Rattle.basics.specs.declared.ValueDeletable.{ValueDeletable}
use Rattle.row_decode_v2.specs.declared.Row.{Row}
use Rattle.row_decode_v2.specs.declared.KeyPlace.{KeyPlace}

abbrev pub row_from : Row → RowReadL
row_from r =
    record {
      start = r.start;
      next = r.next;
      shared = r.shared;
      suffix_at = r.suffix_at;
      suffix_len = r.suffix_len;
      held = says_held r.held;
      seq = r.seq;
      expire = says_time r.expire;
      create = says_time r.create;
    }

abbrev pub says_row : Result Row Refusal → Res RowReadL
says_row = says row_from

abbrev pub key_from : KeyPlace → KeyReadL
key_from k = record { shared = k.shared; suffix_at = k.suffix_at; suffix_len = k.suffix_len }

abbrev pub says_key : Result KeyPlace Refusal → Res KeyReadL
says_key = says key_from

-- ---- one to one

-- the row with the numbers of x, and with what the definitions know by another type
abbrev row_said : RowReadL → ValueDeletable → Option ℤ → Option ℤ → Row
row_said x held expire create =
    record {
      start = x.start;
      next = x.next;
      shared = x.shared;
      suffix_at = x.suffix_at;
      suffix_len = x.suffix_len;
      held = held;
      seq = x.seq;
      expire = expire;
      create = create;
    }

pub row_from-one : (a b : Row) → row_from a ≡ row_from b → a ≡ b
row_from-one a b e =
    let h = says_held-one a.held b.held (ap (λ (x : RowReadL). x.held) e) in
    let t = says_time-one a.expire b.expire (ap (λ (x : RowReadL). x.expire) e) in
    let c = says_time-one a.create b.create (ap (λ (x : RowReadL). x.create) e) in
    ap (λ (x : RowReadL). row_said x a.held a.expire a.create) e ∙ rw (h, t, c)

pub says_row-one : (a b : Result Row Refusal) → says_row a ≡ says_row b → a ≡ b
says_row-one = says-one row_from row_from-one

key_from-one : (a b : KeyPlace) → key_from a ≡ key_from b → a ≡ b
key_from-one a b e = ap (λ (k : KeyReadL). record { shared = k.shared; suffix_at = k.suffix_at; suffix_len = k.suffix_len }) e

pub says_key-one : (a b : Result KeyPlace Refusal) → says_key a ≡ says_key b → a ≡ b
says_key-one = says-one key_from key_from-one

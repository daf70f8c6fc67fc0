-- What each case of an answer stands for in the definitions: values, or the number of the refusal. No two cases say the same.
use Rattle.std.specs.Prelude.{◌≡◌, Result}
use Rattle.std.proofs.Common.{ap, ◌∙◌}
use Rattle.layout.specs.Res.{Res}
use Rattle.layout.specs.RowRead.{Flags, Times as TimesL}
use Rattle.basics.specs.Answers.{says, says-one}
use Rattle.basics.specs.Says.{says_kind, says_time, says_kind-one, says_time-one}
use Rattle.basics.specs.declared.Refusal.{Refusal}
use Rattle.row_flags_decode.specs.declared.RowFlags.{RowFlags}
use Rattle.row_flags_decode.specs.declared.Times.{Times}

abbrev pub flags_from : RowFlags → Flags
flags_from f = record { kind = says_kind f.kind; expire = f.expire; create = f.create }

abbrev pub says_flags : Result RowFlags Refusal → Res Flags
says_flags = says flags_from

abbrev pub times_from : Times → TimesL
times_from t = record { expire = says_time t.expire; create = says_time t.create; next = t.next }

abbrev pub says_times : Result Times Refusal → Res TimesL
says_times = says times_from

-- ---- one to one

flags_from-one : (a b : RowFlags) → flags_from a ≡ flags_from b → a ≡ b
flags_from-one a b e =
    let k = says_kind-one a.kind b.kind (ap (λ (x : Flags). x.kind) e) in
    ap (λ (x : Flags). record { kind = a.kind; expire = x.expire; create = x.create }) e ∙ rw k

pub says_flags-one : (a b : Result RowFlags Refusal) → says_flags a ≡ says_flags b → a ≡ b
says_flags-one = says-one flags_from flags_from-one

times_from-one : (a b : Times) → times_from a ≡ times_from b → a ≡ b
times_from-one a b e =
    let t = says_time-one a.expire b.expire (ap (λ (x : TimesL). x.expire) e) in
    let c = says_time-one a.create b.create (ap (λ (x : TimesL). x.create) e) in
    ap (λ (x : TimesL). record { expire = a.expire; create = a.create; next = x.next }) e ∙ rw (t, c)

pub says_times-one : (a b : Result Times Refusal) → says_times a ≡ says_times b → a ≡ b
says_times-one = says-one times_from times_from-one

-- What the answers of the parts of a read say.
use Rattle.std.specs.Prelude.{ℕ, ◌+◌, List, Result}
use Rattle.layout.specs.Res.{Res, ok, bind}
use Rattle.layout.specs.Row.{Kind}
use Rattle.layout.specs.RowRead.{held_as}
use Rattle.layout_v1.specs.RowRead.{Head as HeadL, head_is, Body as BodyL, body_is, HeldAt as HeldL, held_is, value_at}
use Rattle.basics.specs.Answers.{says}
use Rattle.basics.specs.Says.{says_held}
use Rattle.basics.specs.declared.Read.{Read}
use Rattle.basics.specs.declared.Refusal.{Refusal}
use Rattle.basics.specs.declared.ValueDeletable.{ValueDeletable}
use Rattle.row_flags_decode.specs.Says.{flags_from}
use Rattle.row_decode_v0.specs.declared.Head.{Head}
use Rattle.row_decode_v0.specs.declared.Body.{Body}

-- ---- the key's lengths

abbrev pub head_from : Head → HeadL
head_from h = head_is h.shared h.unshared h.suffix_at

abbrev pub says_head : Result Head Refusal → Res HeadL
says_head = says head_from

-- ---- seq and flags

abbrev pub body_from : Body → BodyL
body_from b = body_is b.seq (flags_from b.flags) b.next

abbrev pub says_body : Result Body Refusal → Res BodyL
says_body = says body_from

-- ---- what the row holds

abbrev pub held_from : Read ValueDeletable → HeldL
held_from v = held_is (says_held v.value) v.next

abbrev pub says_held_at : Result (Read ValueDeletable) Refusal → Res HeldL
says_held_at = says held_from

-- the value's length and the value, as every kind but a tombstone has them
unfoldable pub kept_at : Kind → List ℕ → ℕ → Res HeldL
kept_at k d at = bind (value_at d at) λ v. ok (held_is (held_as k v.at v.len) (v.at + v.len))

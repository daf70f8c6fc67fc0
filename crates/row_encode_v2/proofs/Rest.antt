-- A row that is encoded into the free rest of a buffer, whatever the format: bytes that are laid at the start of a lent rest, which has room for them, are a write of the whole.
use Prim.Native.Nat.{ℕ, ◌+◌, ◌-◌, ◌≤◌}
use mathlib.Core.Path.{◌≡◌, sym}
use mathlib.Core.List.{List}
use native.Mathlib.Omega.{arith}
use lib.ListN.{length}
use borrow.Rule.Slice.PartMut.{mid_of, put_mid}
use Rattle.layout.specs.Res.{Res, ok}
use Rattle.layout.proofs.Laws.Res.{ok-inj}
use Rattle.layout.specs.Laws.Splice.{Wrote}
use Rattle.layout.proofs.Laws.Splice.{wrote-rest}
use Rattle.std.specs.Prelude.{Result, Ok, Err}
use Rattle.basics.specs.Answers.{apart, says_same}
use Rattle.basics.specs.declared.Refusal.{Refusal}
use Rattle.row_size_v2.specs.Promise.{Lays}

module _ (bytes : List ℕ) (used : ℕ) {w : List ℕ} {want : Res (List ℕ)} (is : want ≡ ok w) (room : used + length w ≤ length bytes) {e : Result ℕ Refusal} {part : List ℕ}
    (q : Lays want (mid_of used (length bytes - used) bytes) (says_same e) part) where
  pub laid-rest : {n : ℕ} → e ≡ Ok n → Wrote bytes used w (put_mid used (length bytes - used) bytes part) (used + n)
  laid-rest {n} t =
      let m : n ≡ length w = ok-inj (rw (is, t) at q.answer) in
      wrote-rest bytes used (used + n) w part room (omega arith) (rw is at q.bytes)

  pub laid-not : {x : Refusal} → e ≡ Err x → ⊥
  laid-not t = apart (sym (rw (is, t) at q.answer))

-- `decode_flags` keeps to the definition by bits: it computes at each single value, and a byte that is none of them is 16 or more.
-- The prover's arm of the range knows only that the byte is no single value, so 16 is climbed to one by one.
use Prim.Native.Nat.{ℕ, ◌+◌, ◌≤◌}
use mathlib.Core.Bool.{Bool, true, false}
use mathlib.Core.Logic.{⊎_elim, inl, inr}
use mathlib.Core.Path.{◌≡◌, sym, ap, ◌∙◌}
use native.Mathlib.Omega.{arith}
use Rattle.layout.specs.Res.{Res, ok, refuse}
use Rattle.layout.specs.Row.{Kind, value, tombstone, merge, flags_of}
use Rattle.layout.specs.RowRead.{Flags, flags_is, flags_at}
use Rattle.layout.proofs.Laws.Row.{flags_at-law}
use Rattle.layout.proofs.Laws.RowExits.{flags_at-both, flags_at_unknown}
use Rattle.row_flags_decode.proofs.decode_flags.Goals as goal

good : (k : Kind) (e c : Bool) {x : Res Flags} {f : ℕ} → x ≡ ok (flags_is k e c) → f ≡ flags_of k e c → x ≡ flags_at f
good k e c p q = p ∙ sym (ap flags_at q ∙ flags_at-law k e c)

both : {f n : ℕ} → f ≡ n → flags_at n ≡ refuse 12 → refuse 12 ≡ flags_at f
both e b = sym (ap flags_at e ∙ b)

up : (k f : ℕ) → k ≤ f → (f ≡ k → ⊥) → k + 1 ≤ f
up k f h ne = omega arith

pub returns-in-0 : goal.returns-in-0
returns-in-0 c = good value false false c.good_flags.ensures c.in-0.is

pub returns-in-1 : goal.returns-in-1
returns-in-1 c = good tombstone false false c.good_flags-in-1.ensures c.in-1.is

pub returns-in-2 : goal.returns-in-2
returns-in-2 c = good value true false c.good_flags-in-2.ensures c.in-2.is

pub returns-in-3 : goal.returns-in-3
returns-in-3 c = good tombstone true false c.good_flags-in-3.ensures c.in-3.is

pub returns-in-4 : goal.returns-in-4
returns-in-4 c = good value false true c.good_flags-in-4.ensures c.in-4.is

pub returns-in-5 : goal.returns-in-5
returns-in-5 c = good tombstone false true c.good_flags-in-5.ensures c.in-5.is

pub returns-in-6 : goal.returns-in-6
returns-in-6 c = good value true true c.good_flags-in-6.ensures c.in-6.is

pub returns-in-7 : goal.returns-in-7
returns-in-7 c = good tombstone true true c.good_flags-in-7.ensures c.in-7.is

pub returns-in-8 : goal.returns-in-8
returns-in-8 c = good merge false false c.good_flags-in-8.ensures c.in-8.is

pub returns-in-10 : goal.returns-in-10
returns-in-10 c = good merge true false c.good_flags-in-10.ensures c.in-10.is

pub returns-in-12 : goal.returns-in-12
returns-in-12 c = good merge false true c.good_flags-in-12.ensures c.in-12.is

pub returns-in-14 : goal.returns-in-14
returns-in-14 c = good merge true true c.good_flags-in-14.ensures c.in-14.is

pub returns-in-9 : goal.returns-in-9
returns-in-9 c =
    let b = flags_at-both in
    ⊎_elim (λ e. both e b.0) (⊎_elim (λ e. both e b.1) (⊎_elim (λ e. both e b.2) (λ e. both e b.3))) c.in-9.is

pub returns-in-16-to-255 : goal.returns-in-16-to-255
returns-in-16-to-255 c =
    let f = c.args.flags in
    let r = c.in-16-to-255.in-16-to-255-own.rest in
    let h0 : 0 ≤ f = omega arith in
    let h1 = up 0 f h0 r.0.0.0.0.0.0.0.0.0.0.0.0.1 in
    let h2 = up 1 f h1 r.0.0.0.0.0.0.0.0.0.0.0.1 in
    let h3 = up 2 f h2 r.0.0.0.0.0.0.0.0.0.0.1 in
    let h4 = up 3 f h3 r.0.0.0.0.0.0.0.0.0.1 in
    let h5 = up 4 f h4 r.0.0.0.0.0.0.0.0.1 in
    let h6 = up 5 f h5 r.0.0.0.0.0.0.0.1 in
    let h7 = up 6 f h6 r.0.0.0.0.0.0.1 in
    let h8 = up 7 f h7 r.0.0.0.0.0.1 in
    let h9 = up 8 f h8 r.0.0.0.0.1 in
    let h10 = up 9 f h9 (λ e. r.1 (inl e)) in
    let h11 = up 10 f h10 r.0.0.0.1 in
    let h12 = up 11 f h11 (λ e. r.1 (inr (inl e))) in
    let h13 = up 12 f h12 r.0.0.1 in
    let h14 = up 13 f h13 (λ e. r.1 (inr (inr (inl e)))) in
    let h15 = up 14 f h14 r.0.1 in
    let h16 = up 15 f h15 (λ e. r.1 (inr (inr (inr e)))) in
    sym (flags_at_unknown f h16)

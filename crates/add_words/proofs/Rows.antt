-- A row added over words: what each case of the answer leaves, from what `add_in_place` promised.
use Prim.Native.Nat.{ℕ}
use mathlib.Core.Path.{◌≡◌, refl, ap, sym, ◌∙◌}
use mathlib.Core.List.{List, []}
use lib.ListN.{length}
use borrow.Author.Tests.{eq-eqb}
use Rattle.std.specs.Prelude.{Result, Ok, Err}
use Rattle.layout.specs.Res.{Res, ok, refuse, bind}
use Rattle.layout.specs.Builder.{Builder}
use Rattle.layout.specs.Limits.{max_key}
use Rattle.layout.proofs.Laws.Res.{ok-inj}
use Rattle.basics.specs.Answers.{apart, yes, says_same}
use Rattle.basics.specs.Number.{number}
use Rattle.basics.specs.declared.Refusal.{Refusal}
use Rattle.row_flags.specs.Says.{fields_from}
use Rattle.row_flags.specs.declared.RowFields.{RowFields}
use Rattle.build_in_place_v2.specs.Promise.{AddsInPlace, last_after}
use Rattle.state_v2.specs.Says.{state_from, view_from}
use Rattle.state_v2.specs.declared.State.{State}
use Rattle.row_words.specs.Words.{code_of, builder_from, builder_words, fields_in, builder_count}
use Rattle.builder_words.specs.Says.{state_in}
use Rattle.builder_words.specs.Exports.{AddsFlat}
use Rattle.builder_words.proofs.Adds.{added, unadded, add_wanted, adds-asked}
use Rattle.add_words.specs.Says.{PutsGrown}

grown : (want : Res Builder) (t : State) → (bind want λ v. ok (state_from v)) ≡ ok t → {C : Type 0} → ((w : Builder) → want ≡ ok w → state_from w ≡ t → C) → C
grown (ok w) t e k = k w refl (ok-inj e)
grown (refuse n) t e k = absurd (apart (sym e))

ungrown : (want : Res Builder) (k : ℕ) → (bind want λ v. ok (state_from v)) ≡ refuse k → want ≡ refuse k
ungrown (ok w) k e = absurd (apart e)
ungrown (refuse n) k e = ap refuse (ap code_of e)

module _ (ws last bytes places key value fs : List ℕ) (f : RowFields) (h : length ws ≡ builder_count) (k : length last ≡ max_key) (is : fields_in fs value ≡ ok (fields_from f value)) where
  abbrev wanted : Res Builder
  wanted = add_wanted ws last bytes places key value f

  module _ (r : Result State Refusal) (last' bytes' places' : List ℕ) (p : AddsInPlace (state_in ws) last bytes places key value f r last' bytes' places') where
    adds-grown : {t : State} {ws' : List ℕ} → r ≡ Ok t → ws' ≡ builder_words (view_from t []) → AddsFlat ws last bytes places key value fs 0 ws' last' bytes' places'
    adds-grown {t} e s =
        let q = rw (eq-eqb (length last) max_key k) at p in
        grown wanted t (yes says_same q.answer e) λ w z same.
        adds-asked ws last bytes places key value fs f h k is
        (added wanted (builder_from ws last) key (fields_from f value) ws last bytes places bytes' places' q.bytes_after q.places-after w z
        (s ∙ ap (λ (x : State). builder_words (view_from x [])) (sym same))
        (q.last-after ∙ ap (λ (x : Res Builder). last_after x key last) z))

    adds-refused : {x : Refusal} {code : ℕ} → r ≡ Err x → code ≡ number x → AddsFlat ws last bytes places key value fs code ws last' bytes' places'
    adds-refused {x} e c =
        let q = rw (eq-eqb (length last) max_key k) at p in
        let z = ungrown wanted (number x) (yes says_same q.answer e) in
        adds-asked ws last bytes places key value fs f h k is
        (unadded wanted (builder_from ws last) key (fields_from f value) ws last bytes places bytes' places' q.bytes_after q.places-after (number x) z c
        (q.last-after ∙ ap (λ (x : Res Builder). last_after x key last) z))

  -- whatever was answered, and what `put_grown` left of it
  pub adds-put : (r : Result State Refusal) (last' bytes' places' : List ℕ) → AddsInPlace (state_in ws) last bytes places key value f r last' bytes' places' → {code : ℕ} {ws' : List ℕ}
      → PutsGrown r ws code ws' → AddsFlat ws last bytes places key value fs code ws' last' bytes' places'
  adds-put (Ok t) last' bytes' places' p g = rw g.answer (adds-grown (Ok t) last' bytes' places' p refl g.state)
  adds-put (Err x) last' bytes' places' p g = rw g.state (adds-refused (Err x) last' bytes' places' p refl g.answer)

-- The plain step over words, by what was met: one law for each exit of the code. And for callers: a step that
-- was made is the one that the words stand for.
use Prim.Native.Nat.{ℕ, ◌+◌}
use mathlib.Core.Path.{◌≡◌, refl, ap, sym, ◌∙◌, subst}
use mathlib.Core.Bool.{Bool, true, false, cond, not, ◌||◌}
use mathlib.Core.List.{List, []}
use mathlib.Core.Logic.{⊎_elim}
use native.Mathlib.Omega.{arith}
use lib.Dec.{eqb}
use lib.ListN.{length}
use borrow.Author.Tests.{eq-eqb, eqb-true}
use Rattle.layout.specs.Res.{Res, ok, refuse, bind}
use Rattle.layout.specs.Limits.{max_key}
use Rattle.layout.specs.Key.{Key}
use Rattle.layout.specs.RowRead.{RowRead}
use Rattle.layout.specs.Cursor.{ascending, Cursor, found, Step, next}
use Rattle.layout.proofs.Laws.Res.{cond-ok}
use Rattle.layout.proofs.Laws.Plain.{or-false, some-one}
use Rattle.basics.specs.declared.IterationOrder.TheVariants.{Ascending}
use Rattle.std.specs.Prelude.{Some, None}
use Rattle.basics.specs.declared.ValueDeletable.TheVariants.{Value}
use Rattle.row_decode_v2.specs.declared.Row.{Row}
use Rattle.row_decode_v2.specs.Says.{row_from}
use Rattle.place_v2.specs.declared.Place.{Place}
use Rattle.place_v2.specs.Says.{view_in}
use Rattle.step_plain_v2.specs.declared.Stepped.{Stepped}
use Rattle.step_plain_v2.specs.Ahead.{plain_step_of, stepped_to, row_made}
use Rattle.step_plain_v2.specs.Promise.{Goes, StepsPlain}
use Rattle.step_plain_v2.proofs.Laws.{not-told, told, plain_step-tells}
use Rattle.row_words.specs.Words.{counted, word_at, cursor_in, cursor_words, row_words_of, cursor_count, row_count}
use Rattle.row_words.specs.Promise.{PutsRow}
use Rattle.block_words.specs.Promise.{PutsCursor}
use Rattle.block_words.specs.Exports.{StepsAs, StepsFlat}
use Rattle.words_plain.specs.Promise.{plain_flat, Made, StepsFlatPlain}

was : (t : Bool) → not t ≡ false → t ≡ true
was true e = refl
was false e = cc

-- two tests for a number that were both passed
both : (a m b n : ℕ) → (not (eqb a m) || not (eqb b n)) ≡ false → (a ≡ m) × (b ≡ n)
both a m b n e =
    let w = or-false {a = not (eqb a m)} {b = not (eqb b n)} e in
    (eqb-true a m (was (eqb a m) w.0), eqb-true b n (was (eqb b n) w.1))

-- nothing is made, and nothing is written
unmade : (want : Res Step) (ws key out row : List ℕ) {key' out' : List ℕ} → want ≡ refuse 0 → key' ≡ key → out' ≡ out → Made want ws key out row false ws key' out' row
unmade want ws key out row e k o = rw e (record { answer = refl; after = record { answer = refl; state = refl; key-bytes = k; lent = o; row_words = refl } })

-- the place and the row that the code makes of a step
abbrev place_to : Stepped → Place
place_to x = record { order = Ascending; region = x.region; at = x.next; number = x.number; key_len = x.key_len; done = false }

abbrev row_to : ℕ → Stepped → Row
row_to at x =
    record {
      start = at;
      next = x.next;
      shared = x.shared;
      suffix_at = at + 3;
      suffix_len = x.unshared;
      held = Value (at + 3 + x.unshared) x.value_len;
      seq = x.seq;
      expire = None;
      create = None;
    }

-- the words of that place are those of the cursor
words-to : (c : Cursor) (x : Stepped) (region number : ℕ) (r : RowRead) (k : Key) → Some x ≡ stepped_to c (found region number r k) → c.order ≡ ascending → c.done ≡ false
    → cursor_words (view_in (place_to x) []) ≡ cursor_words c
words-to c x region number r k e h m = ap (λ (y : Stepped). cursor_words (view_in (place_to y) [])) (some-one e) ∙ rw (h, m)

module _ (b ws key out row : List ℕ) where
  few : (not (eqb (length ws) cursor_count) || not (eqb (length row) row_count)) ≡ true → plain_flat b ws key (length out) row ≡ refuse 0
  unfolding plain_flat
  few e = rw e

  pub flat-odd : (not (eqb (length ws) cursor_count) || not (eqb (length row) row_count)) ≡ true → Made (plain_flat b ws key (length out) row) ws key out row false ws key out row
  flat-odd e = unmade (plain_flat b ws key (length out) row) ws key out row (few e) refl refl

  module _ (t : (not (eqb (length ws) cursor_count) || not (eqb (length row) row_count)) ≡ false) where
    -- as many words as there must be
    pub flat-words : (length ws ≡ cursor_count) × (length row ≡ row_count)
    flat-words = both (length ws) cursor_count (length row) row_count t

    odd : (not (eqb (word_at ws 0) 0) || not (eqb (word_at ws 4) 0)) ≡ true → plain_flat b ws key (length out) row ≡ refuse 0
    unfolding plain_flat
    odd e = rw (t, e)

    pub flat-other : (not (eqb (word_at ws 0) 0) || not (eqb (word_at ws 4) 0)) ≡ true → Made (plain_flat b ws key (length out) row) ws key out row false ws key out row
    flat-other e = unmade (plain_flat b ws key (length out) row) ws key out row (odd e) refl refl

    module _ (u : (not (eqb (word_at ws 0) 0) || not (eqb (word_at ws 4) 0)) ≡ false) {region at number key_len : ℕ} (eg : region ≡ word_at ws 1) (ea : at ≡ word_at ws 2) (ek : key_len ≡ word_at ws 3) (en : number ≡ word_at ws 5) where
      is : plain_flat b ws key (length out) row ≡ plain_step_of region at number key_len key b (length out)
      unfolding plain_flat
      is = rw (t, u, eg, ea, ek, en)

      pub flat-not : {key' out' : List ℕ} → StepsPlain region at number key_len key b out None key' out' → Made (plain_flat b ws key (length out) row) ws key out row false ws key' out' row
      flat-not {key'} {out'} g =
          let n = not-told region at number key_len key b out g in
          let h = subst (λ (w : Res Step). Goes w key out None key' out') n g in
          unmade (plain_flat b ws key (length out) row) ws key out row (is ∙ n) h.key-bytes h.lent

      module _ (x : Stepped) {key' out' : List ℕ} (g : StepsPlain region at number key_len key b out (Some x) key' out') where
        -- its places are numbers of the block
        pub flat-ends : at + 12 + x.unshared + x.value_len ≡ x.next
        flat-ends = (told region at number key_len key b out x g).ends

        pub flat-made : {r q : Bool} {ws' row' : List ℕ} → PutsCursor (place_to x) ws r ws' → PutsRow region number (row_to at x) row q row' → Made (plain_flat b ws key (length out) row) ws key out row true ws' key' out' row'
        flat-made p q =
            let m = told region at number key_len key b out x g in
            let h = subst (λ (w : Res Step). Goes w key out (Some x) key' out') m.is g in
            let c = flat-words in
            made (plain_flat b ws key (length out) row) (is ∙ m.is)
            (record {
              answer = refl;
              state = p.state ∙ ap (λ (y : Bool). cond y (cursor_words (view_in (place_to x) [])) ws) (eq-eqb (length ws) cursor_count c.0) ∙ words-to m.cursor x region number (row_made at x) m.key m.to m.heads m.unmarked;
              key-bytes = h.key-bytes;
              lent = h.lent;
              row_words = q.state ∙ ap (λ (y : Bool). cond y (row_words_of region number (row_from (row_to at x))) row) (eq-eqb (length row) row_count c.1);
            })
          where
            made : (want : Res Step) {s : Step} {ws' key' out' row' : List ℕ} → want ≡ ok s → StepsAs (ok s) ws key out row 0 ws' key' out' row' → Made want ws key out row true ws' key' out' row'
            made want e a = rw e (record { answer = refl; after = a })

-- ---- for callers

module _ (b ws key out row : List ℕ) where
  -- a step that is made is that of the cursor in the words
  flat-next : (s : Step) → plain_flat b ws key (length out) row ≡ ok s → counted row row_count (counted key max_key (bind (cursor_in ws key) λ c. next c b (length out))) ≡ ok s
  unfolding plain_flat cursor_in
  flat-next s e =
      ⊎_elim (λ x. absurd (let z : ◌≡◌ {A = ℕ} 0 1 = cc in omega arith))
      (λ x.
      ⊎_elim (λ y. absurd (let z : ◌≡◌ {A = ℕ} 0 1 = cc in omega arith))
      (λ y.
      let n = both (length ws) cursor_count (length row) row_count x.0 in
      let w = both (word_at ws 0) 0 (word_at ws 4) 0 y.0 in
      let p = plain_step-tells (word_at ws 1) (word_at ws 2) (word_at ws 5) (word_at ws 3) key b (length out) s y.1 in
      rw (eq-eqb (length row) row_count n.1, eq-eqb (length key) max_key p.0, eq-eqb (length ws) cursor_count n.0, eq-eqb (word_at ws 0) 0 w.0, eq-eqb (word_at ws 4) 0 w.1) p.1)
      (cond-ok (not (eqb (word_at ws 0) 0) || not (eqb (word_at ws 4) 0)) (refuse 0) (plain_step_of (word_at ws 1) (word_at ws 2) (word_at ws 5) (word_at ws 3) key b (length out)) s x.1))
      (cond-ok (not (eqb (length ws) cursor_count) || not (eqb (length row) row_count)) (refuse 0) _ s e)

  module _ {r : Bool} {ws' key' out' row' : List ℕ} (m : StepsFlatPlain b ws key out row r ws' key' out' row') where
    -- the promise of a step, where it was made
    pub steps-made : r ≡ true → StepsFlat b ws key out row 0 ws' key' out' row'
    steps-made e = go (plain_flat b ws key (length out) row) refl m
      where
        go : (x : Res Step) → plain_flat b ws key (length out) row ≡ x → Made x ws key out row r ws' key' out' row' → StepsFlat b ws key out row 0 ws' key' out' row'
        go (ok s) p n = subst (λ (w : Res Step). StepsAs w ws key out row 0 ws' key' out' row') (sym (flat-next s p)) n.after
        go (refuse i) p n = absurd (let q : true ≡ false = sym e ∙ n.answer in let z : ◌≡◌ {A = ℕ} 0 1 = cc in omega arith)

    -- else all is as it came
    pub steps-unmade : r ≡ false → (ws' ≡ ws) × (key' ≡ key) × (out' ≡ out) × (row' ≡ row)
    steps-unmade e = go (plain_flat b ws key (length out) row) m
      where
        go : (x : Res Step) → Made x ws key out row r ws' key' out' row' → (ws' ≡ ws) × (key' ≡ key) × (out' ≡ out) × (row' ≡ row)
        go (ok s) n = absurd (let q : true ≡ false = sym n.answer ∙ e in let z : ◌≡◌ {A = ℕ} 0 1 = cc in omega arith)
        go (refuse i) n = (n.after.state, n.after.key-bytes, n.after.lent, n.after.row_words)

-- so what the step of any row leaves is left from what came
pub steps-after : (b : List ℕ) {ws key out row vs ks os rs : List ℕ} {code : ℕ} {ws' key' out' row' : List ℕ} → (vs ≡ ws) × (ks ≡ key) × (os ≡ out) × (rs ≡ row)
    → StepsFlat b vs ks os rs code ws' key' out' row' → StepsFlat b ws key out row code ws' key' out' row'
steps-after b {ws} {key} {out} {row} {vs} {ks} {os} {rs} {code} {ws'} {key'} {out'} {row'} e s =
    subst (λ (x : List ℕ). StepsFlat b x key out row code ws' key' out' row') e.0
    (subst (λ (x : List ℕ). StepsFlat b vs x out row code ws' key' out' row') e.1
    (subst (λ (x : List ℕ). StepsFlat b vs ks x row code ws' key' out' row') e.2
    (subst (λ (x : List ℕ). StepsFlat b vs ks os x code ws' key' out' row') e.3 s)))

-- What each exit of the two functions by value leaves, from what the method below promised.
-- The method gives back a whole builder or cursor; its words and key bytes, put back, are what the function in place leaves, so both end in the laws of `Adds` and `Steps`.
use Prim.Native.Nat.{ℕ}
use mathlib.Core.Path.{◌≡◌, refl, ap, sym, ◌∙◌}
use mathlib.Core.List.{List}
use lib.ListN.{length, take}
use Rattle.std.specs.Prelude.{Ok, Err, Some, None}
use Rattle.layout.specs.Res.{Res, ok, refuse, whether}
use Rattle.layout.specs.Builder.{Builder}
use Rattle.layout.specs.Cursor.{next}
use Rattle.layout.specs.Limits.{max_key}
use Rattle.layout.proofs.Laws.Res.{whether-refused}
use Rattle.basics.specs.Answers.{apart, yes}
use Rattle.basics.specs.Number.{number}
use Rattle.basics.specs.declared.Refusal.{Refusal}
use Rattle.row_flags.specs.Says.{fields_from}
use Rattle.row_decode_v2.specs.Says.{row_from}
use Rattle.block_iterator_v2.specs.declared.Found.{Found}
use Rattle.row_flags.specs.declared.RowFields.{RowFields}
use Rattle.block_v2.specs.Promise.{Adds, builder_after}
use Rattle.block_v2.specs.Says.{builder_from as builder_over, view_of as view_of_builder}
use Rattle.basics.specs.Answers.{says_verdict}
use Rattle.block_v2.specs.declared.Added.{Added}
use Rattle.block_v2.specs.declared.BlockBuilderV2.{BlockBuilderV2}
use Rattle.place_v2.specs.Says.{view_in}
use Rattle.place_v2.specs.declared.Place.{Place}
use Rattle.block_iterator_v2.specs.Promise.{StepsNext}
use Rattle.block_iterator_v2.specs.Says.{view_of, says_next}
use Rattle.block_iterator_v2.specs.declared.Next.{Next}
use Rattle.row_words.specs.Words.{done_code, builder_from, builder_words, cursor_in, cursor_words, fields_in, row_words_of, builder_count, row_count}
use Rattle.builder_words.specs.Says.{state_in}
use Rattle.by_value_words.specs.Promise.{iterator_over}
use Rattle.builder_words.specs.Exports.{AddsFlat}
use Rattle.block_words.specs.Exports.{StepsFlat}
use Rattle.builder_words.proofs.Adds.{added, unadded, add_wanted, adds-asked}
use Rattle.block_words.proofs.Steps.{stepped, ended, refused, told-refused, steps-asked}

-- ---- adding a row

some : {A : Type 0} (want : Res A) → whether want ≡ ok tt → {C : Type 0} → ((w : A) → want ≡ ok w → C) → C
some (ok w) e k = k w refl
some (refuse n) e k = absurd (apart (sym e))

module _ (ws last bytes places key value fs : List ℕ) (f : RowFields) (h : length ws ≡ builder_count) (k : length last ≡ max_key) (is : fields_in fs value ≡ ok (fields_from f value)) where
  abbrev wanted : Res Builder
  wanted = add_wanted ws last bytes places key value f

  module _ (r : Added) (bytes' places' : List ℕ) (p : Adds (builder_over (state_in ws) last) bytes places key value f r bytes' places') where
    pub adds-good : {ws' last' : List ℕ} → r.answer ≡ Ok tt → ws' ≡ builder_words (view_of_builder r.builder) → last' ≡ r.builder.last_key
        → AddsFlat ws last bytes places key value fs 0 ws' last' bytes' places'
    adds-good e s l =
        some wanted (yes says_verdict p.answer e) λ w z.
        let whole = p.whole ∙ ap (λ (x : Res Builder). builder_after x key (builder_over (state_in ws) last)) z in
        adds-asked ws last bytes places key value fs f h k is
        (added wanted (builder_from ws last) key (fields_from f value) ws last bytes places bytes' places' p.bytes_after p.places-after w z
        (s ∙ ap (λ (x : BlockBuilderV2). builder_words (view_of_builder x)) whole)
        (l ∙ ap (λ (x : BlockBuilderV2). x.last_key) whole))

    pub adds-turned-down : {x : Refusal} {code : ℕ} → r.answer ≡ Err x → code ≡ number x → AddsFlat ws last bytes places key value fs code ws last bytes' places'
    adds-turned-down {x} e c =
        let z = whether-refused wanted (number x) (yes says_verdict p.answer e) in
        adds-asked ws last bytes places key value fs f h k is
        (unadded wanted (builder_from ws last) key (fields_from f value) ws last bytes places bytes' places' p.bytes_after p.places-after (number x) z c refl)

-- ---- a step

module _ (b ws key out row : List ℕ) (p : Place) (h : length row ≡ row_count) (k : length key ≡ max_key) (is : cursor_in ws key ≡ ok (view_in p key)) where
  module _ (r : Next) (out' : List ℕ) (s : StepsNext (iterator_over p key) b out r out') where
    pub next-found : {f : Found} {ws' key' row' : List ℕ} → r.answer ≡ Ok (Some f) → ws' ≡ cursor_words (view_of r.iterator) → key' ≡ r.iterator.key
        → row' ≡ row_words_of f.region f.number (row_from f.row) → StepsFlat b ws key out row 0 ws' key' out' row'
    next-found {f} {ws'} {key'} e w q z =
        steps-asked b ws key out row p h k is
        (stepped (view_of r.iterator) ws key out row ws' key' out' w (ap (take r.iterator.place.key_len) q) (view_in p key) (next (view_in p key) b (length out)) f.region f.number (row_from f.row)
        (yes says_next s.answer e) s.view s.lent z)

    pub next-done : {ws' key' : List ℕ} → r.answer ≡ Ok None → ws' ≡ cursor_words (view_of r.iterator) → key' ≡ r.iterator.key
        → StepsFlat b ws key out row done_code ws' key' out' row
    next-done {ws'} {key'} e w q =
        steps-asked b ws key out row p h k is
        (ended (view_of r.iterator) ws key out row ws' key' out' w (ap (take r.iterator.place.key_len) q) (view_in p key) (next (view_in p key) b (length out))
        (yes says_next s.answer e) s.view s.lent)

    pub next-refused : {x : Refusal} {code : ℕ} → r.answer ≡ Err x → code ≡ number x → StepsFlat b ws key out row code ws key out' row
    next-refused {x} {code} e q =
        let said = yes says_next s.answer e in
        let z = told-refused (next (view_in p key) b (length out)) (number x) said in
        steps-asked b ws key out row p h k is
        (refused ws key out row out' key (next (view_in p key) b (length out)) (number x) code said q z s.lent refl)

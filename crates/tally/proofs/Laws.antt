-- One row counted, how a block is opened, and the loop over its rows: the rows still to come, counted from here on, make the whole.
-- An accepted block's walk gives every row (`walk_steps`), so while there are rows to come each step finds the next one. A refused block has none to come.
use Prim.Native.Nat.{ℕ, ◌+◌, ◌-◌, ◌<◌}
use mathlib.Core.Path.{◌≡◌, refl, ap, ap₂, sym, ◌∙◌}
use mathlib.Core.List.{List, [], ◌∷◌}
use native.Mathlib.Omega.{arith}
use lib.ListN.{length, replicate}
use Rattle.std.specs.Prelude.{Result, Ok, Err}
use Rattle.layout.specs.Res.{Res, ok, refuse}
use Rattle.layout.specs.Limits.{max_key}
use Rattle.layout.specs.RowRead.{RowRead}
use Rattle.layout.specs.Trailer.{Trailer}
use Rattle.layout.specs.Check.{check}
use Rattle.layout.specs.Cursor.{ascending, Cursor, opened_up, cursor_or, open_block, Keyed, found, step_is, next}
use Rattle.demands.specs.Runs.{Walks, stands, gives}
use Rattle.demands.specs.Rows.{Rows, BothWays}
use Rattle.demands.specs.Proof2.{rows-room}
use Rattle.demands.specs.Demand2.{has-rows, walk_steps}
use Rattle.layout.proofs.Laws.Res.{ok-inj}
use Rattle.basics.specs.Answers.{apart, yes, says_same, says_verdict}
use Rattle.basics.specs.Says.{says_held}
use Rattle.basics.specs.declared.IterationOrder.TheVariants.{Ascending}
use Rattle.basics.specs.declared.Refusal.{Refusal}
use Rattle.basics.specs.declared.ValueDeletable.{ValueDeletable}
use Rattle.basics.specs.declared.ValueDeletable.TheVariants.{Value, Tombstone, Merge}
use Rattle.row_decode_v2.specs.Says.{row_from}
use Rattle.block_check_v2.specs.Promise.{Checks}
use Rattle.step_in_place_v2.specs.Lent.{lent-whole}
use Rattle.step_in_place_v2.specs.Promise.{Moves}
use Rattle.step_in_place_v2.specs.Says.{told-row, told-apart, says_moved, place_after}
use Rattle.place_v2.specs.Says.{view_in}
use Rattle.step_in_place_v2.specs.declared.Moved.{Moved}
use Rattle.step_in_place_v2.specs.declared.Moved.TheVariants.{Found, Done}
use Rattle.place_v2.specs.declared.Place.{Place}
use Rattle.block_iterator_v2.specs.Promise.{Opens}
use Rattle.block_iterator_v2.specs.Says.{view_of}
use Rattle.block_iterator_v2.specs.declared.Opened.{Opened}
use Rattle.tally.specs.declared.Tally.{Tally}
use Rattle.tally.specs.Tally.{tally_is, added, counted, counted_rows, tally_block}
use Rattle.tally.specs.declared.Opening.{Opening}
use Rattle.tally.specs.declared.Passed.{Passed}
use Rattle.tally.specs.Says.{Told, told, after_block}
use Rattle.tally.specs.Parts.{rows_of, OpensRows, passed_of, PassesRow}
use Rattle.tally.specs.Promise.{CountsRow}
use Rattle.tally.specs.Laws.{rows-tally}

-- ---- one row

module _ (t : Tally) {held : ValueDeletable} {rows : ℕ} (more : rows ≡ added t.rows 1) where
  pub value-counted : {start n bytes : ℕ} → held ≡ Value start n → bytes ≡ added t.value_bytes n → tally_is rows t.tombstones t.merges bytes ≡ counted t (says_held held)
  value-counted is b = rw (is, more, b)

  pub tombstone_counted : {tombstones : ℕ} → held ≡ Tombstone → tombstones ≡ added t.tombstones 1
      → tally_is rows tombstones t.merges t.value_bytes ≡ counted t (says_held held)
  tombstone_counted is n = rw (is, more, n)

  pub merge-counted : {start n merged bytes : ℕ} → held ≡ Merge start n → merged ≡ added t.merges 1 → bytes ≡ added t.value_bytes n
      → tally_is rows t.tombstones merged bytes ≡ counted t (says_held held)
  merge-counted is m b = rw (is, more, m, b)

-- ---- a block is opened

-- the walk from the opening of an accepted block gives its rows
module _ (b : List ℕ) (n : ℕ) (tr : Trailer) (rows : List Keyed) (q : Rows b n tr rows) where
  rows-walk : BothWays b tr max_key rows
  rows-walk = walk_steps b n tr rows q max_key (rows-room b n tr rows q)

module _ (b : List ℕ) (a : Result ℕ Refusal) (checks : Checks b a) where
  -- the cursor that an accepted block opens with, and its zeros
  opens-so : {n : ℕ} (o : Opened) {p : Place} → check b ≡ ok n → Opens b Ascending o → p ≡ o.iterator.place → open_block b ascending ≡ ok (view_in p (replicate max_key 0))
  opens-so {n} o e opens q =
      let h = has-rows b n e in
      let w = rows-walk b n h.0 h.1 h.2 in
      let view : view_of o.iterator ≡ cursor_or ascending (open_block b ascending) = opens.view in
      w.opens_up ∙ ap ok (sym (ap (cursor_or ascending) w.opens_up) ∙ sym view ∙ sym (ap₂ view_in q (sym opens.bytes)))

  module _ (o : Opened) {p : Place} (opens : Opens b Ascending o) (q : p ≡ o.iterator.place) where
    pub opened-good : {n : ℕ} → a ≡ Ok n → OpensRows b (record { start = p; rows = n; answer = Ok tt })
    opened-good e =
        let h = yes says_same checks e in
        record { verdict = rw h; many = rw h; opens = λ g. opens-so o g opens q }

    pub opened-refused : {x : Refusal} → a ≡ Err x → OpensRows b (record { start = p; rows = 0; answer = Err x })
    opened-refused e =
        let h = yes says_same checks e in
        record { verdict = rw h; many = rw h; opens = λ g. opens-so o g opens q }

-- ---- the loop

-- the rows to come from the cursor c on, `left` of them, and what they make of the tally beside the verdict v
pub record Folding (want : Told) (v : Res (Unit {0})) (b : List ℕ) (left : ℕ) (c : Cursor) (t : Tally) : Type 0 where
  pub rows : List Keyed
  pub last : Cursor
  pub walks : Walks b max_key c rows last
  pub all : length rows ≡ left
  pub makes : told (counted_rows t rows) v ≡ want

pub fold_start : (t : Tally) (b : List ℕ) (r : Opening) → OpensRows b r → {left : ℕ} → left ≡ r.rows
    → Folding (after_block t (tally_block t b)) (says_verdict r.answer) b left (view_in r.start (replicate max_key 0)) t
fold_start t b r o {left} e = go (check b) refl
  where
    go : (x : Res ℕ) → check b ≡ x → Folding (after_block t (tally_block t b)) (says_verdict r.answer) b left (view_in r.start (replicate max_key 0)) t
    go (ok n) h =
        let a = has-rows b n h in
        let q : Rows b n a.0 a.1 = a.2 in
        let w : BothWays b a.0 max_key a.1 = rows-walk b n a.0 a.1 q in
        let same : opened_up ≡ view_in r.start (replicate max_key 0) = ok-inj (sym w.opens_up ∙ o.opens h) in
        let many : r.rows ≡ n = o.many ∙ ap rows_of h in
        rw (o.verdict, h, ← same, rows-tally t b n a.0 a.1 q h)
        (record { rows = a.1; last = w.forwards.last; walks = w.forwards.walks; all = omega (arith, q.many, many, e); makes = refl })
    go (refuse n) h =
        let many : left ≡ 0 = e ∙ o.many ∙ ap rows_of h in
        rw (o.verdict, h, many)
        (record { rows = []; last = view_in r.start (replicate max_key 0); walks = stands _; all = refl; makes = unfold tally_block counted_rows in rw h })

module _ {want : Told} {v : Res (Unit {0})} (b : List ℕ) (left : ℕ) (c : Cursor) (t : Tally) (s : Folding want v b left c t) where
  pub fold-whole : left ≡ 0 → told t v ≡ want
  unfolding counted_rows
  fold-whole h = go s.rows (s.all ∙ h) s.makes
    where
      go : (rows : List Keyed) → length rows ≡ 0 → told (counted_rows t rows) v ≡ want → told t v ≡ want
      go [] z e = e
      go (k ∷ ks) z e = absurd (omega arith)

  -- with rows to go, the next one is given, and the rest is folded from past it
  record Turns : Type 0 where
    pub r : RowRead
    pub key : List ℕ
    pub region : ℕ
    pub number : ℕ
    pub moved : Cursor
    pub is : next c b max_key ≡ ok (step_is moved (found region number r key))
    pub then : Folding want v b (left - 1) moved (counted t r.held)

  fold-turns : 0 < left → Turns
  unfolding counted_rows
  fold-turns h = go s.last c s.rows s.walks refl s.all s.makes
    where
      go : (last d : Cursor) (rows : List Keyed) → Walks b max_key d rows last → d ≡ c → length rows ≡ left → told (counted_rows t rows) v ≡ want → Turns
      go last d rows (stands e) same z m = absurd (omega arith)
      go last d rows (gives e e' e'' k ks tr region number read named p w) same z m =
          record { r = k.row; key = k.key; region = region; number = number; moved = e'; is = rw (← same) p; then = record { rows = ks; last = e''; walks = w; all = omega arith; makes = m } }

-- a step in place, over as many key bytes as the longest key has, with rows to go: it finds the next row, and hands on what that holds
module _ {want : Told} {v : Res (Unit {0})} (b : List ℕ) (left : ℕ) (p : Place) (key out : List ℕ) (t : Tally) (s : Folding want v b left (view_in p key) t) (h : 0 < left)
    (k : length key ≡ max_key) (l : length out ≡ max_key) (x : Passed) (key' out' : List ℕ) (m : PassesRow p key b out x key' out') where
  turn : Turns b left (view_in p key) t s
  turn = fold-turns b left (view_in p key) t s h

  whole : Moves (ok (step_is turn.moved (found turn.region turn.number turn.r turn.key))) p key out m.moved key' out'
  whole = rw (lent-whole p key b (length out) k (ap (next (view_in p key) b) l ∙ turn.is)) at m.steps

  pub fold-passed : (t' : Tally) → CountsRow t x.held t' → {n : ℕ} → n + 1 ≡ left → Folding want v b n (view_in x.place key') t'
  fold-passed t' counts {n} one =
      let fewer : left - 1 ≡ n = omega (arith, one) in
      rw (← fewer) (go m.moved refl)
    where
      go : (y : Result Moved Refusal) → m.moved ≡ y → Folding want v b (left - 1) (view_in x.place key') t'
      go (Ok (Found q g n row)) e =
          let same : turn.r ≡ row_from row = (told-row (ok-inj (yes says_moved whole.answer e))).2 in
          let at : view_in q key' ≡ turn.moved = sym (ap (λ (z : Result Moved Refusal). view_in (place_after z p) key') e) ∙ whole.view in
          let on : x ≡ passed_of p (Ok (Found q g n row)) = m.hands_on ∙ ap (passed_of p) e in
          rw (counts, on, at, ← ap (λ (z : RowRead). z.held) same) turn.then
      go (Ok (Done q)) e = absurd (told-apart (ok-inj (yes says_moved whole.answer e)))
      go (Err r) e = absurd (apart (yes says_moved whole.answer e))

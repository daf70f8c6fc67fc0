-- A plain row given: its key, put together where it is carried and at the start of the lent rest, and what a run over the plain rows of a region has given with it.
-- Wide copies lay down more than the row's own bytes, where these tell nothing or are written over.
use Prim.Native.Nat.{ℕ, ◌+◌, ◌-◌, ◌*◌, ◌<◌, ◌≤◌}
use mathlib.Core.Path.{◌≡◌, ap, sym, ◌∙◌}
use mathlib.Core.Bool.{false, ◌||◌}
use mathlib.Core.List.{List, ◌++◌, append_assoc}
use native.Mathlib.Omega.{arith}
use lib.Dec.{ltb, eqb}
use lib.ListN.{length, take, drop, length-append, length-drop}
use lib.Seq.{take-add, take-take, take-append-le, drop-drop, length-take-le}
use borrow.Author.Tests.{ltb-false}
use borrow.Rule.Slice.PartMut.{mid_of, put_mid, mid_len}
use Rattle.layout.specs.Res.{ok}
use Rattle.layout.specs.Limits.{max_key}
use Rattle.layout.specs.Place.{splice}
use Rattle.layout.specs.Plain.{plain_at}
use Rattle.layout.specs.RowRead.{may_share, RowRead}
use Rattle.layout.specs.Trailer.{Region}
use Rattle.layout.specs.Cursor.{Cursor, step_is, past_row, next}
use Rattle.layout.specs.Laws.Splice.{Wrote}
use Rattle.layout.proofs.Laws.Splice.{take-splice, drop-splice, drop-past-splice, take-past-splice, length-splice, splice-splice, wrote-rest, wrote-length}
use Rattle.layout.proofs.Laws.Plain.{or-false}
use Rattle.buf_mut.specs.Promise.{Puts}
use Rattle.std.specs.Prelude.{Some, Result}
use Rattle.basics.specs.declared.Refusal.{Refusal}
use Rattle.buf_mut.proofs.Laws.{copied, copied-part}
use Rattle.row_plain_v2.specs.Promise.{plain_from}
use Rattle.row_plain_v2.specs.declared.PlainRow.{PlainRow}
use Rattle.place_v2.specs.Says.{view_in}
use Rattle.place_v2.specs.declared.Place.{Place}
use Rattle.row_words.specs.Words.{row_words_of, row_count}
use Rattle.region_rows_v2.specs.Bounds.{Inside}
use Rattle.region_rows_v2.specs.Region.{PlainFits, moved_to, row_here, key_here, here-step, here-parts, here-long, here-over, here-stays, here-inside}
use Rattle.block_rows_v2.specs.Chain.{Gone, gone-more}
use Rattle.block_rows_v2.specs.Rows.{Given, given_is, found_of}
use Rattle.block_rows_v2.specs.declared.Ran.{Ran}
use Rattle.block_rows_v2.specs.Says.{key_at, Carried, ran_to_of, RunsOn}

-- ---- wide copies

-- eight bytes and the eight after them
pub sixteen : (buf : List ℕ) (at : ℕ) (src : List ℕ) (from : ℕ) {one two : List ℕ} → at + 16 ≤ length buf → from + 16 ≤ length src → one ≡ splice buf at (take 8 (drop from src))
    → two ≡ splice one (at + 8) (take 8 (drop (from + 8) src)) → two ≡ splice buf at (take 16 (drop from src))
sixteen buf at src from h k a b =
    let long : length (take 8 (drop from src)) ≡ 8 = length-take-le 8 (drop from src) (rw length-drop (omega arith)) in
    let parts : take 16 (drop from src) ≡ take 8 (drop from src) ++ take 8 (drop (from + 8) src) = take-add 8 8 (drop from src) ∙ ap (λ (l : List ℕ). take 8 (drop from src) ++ take 8 l) (drop-drop 8 from src) in
    b
    ∙ ap (λ (l : List ℕ). splice l (at + 8) (take 8 (drop (from + 8) src))) a
    ∙ (rw long at (splice-splice buf at (take 8 (drop from src)) (omega arith) (take 8 (drop (from + 8) src))))
    ∙ ap (splice buf at) (sym parts)

-- a suffix of n bytes, of which sixteen were laid down
wide_key : (key : List ℕ) (s n : ℕ) (v : List ℕ) → length v ≡ 16 → n ≤ 16 → s + 16 ≤ length key → take (s + n) (splice key s v) ≡ take s key ++ take n v
wide_key key s n v h k f =
    let fits : s + length v ≤ length key = omega arith in
    take-add s n (splice key s v)
    ∙ rw (take-splice key s v fits, drop-splice key s v fits, take-append-le n v (drop (s + length v) key) (omega arith))

-- sixteen bytes, of which the first s stay under what follows them
wide-out : (out : List ℕ) (s : ℕ) (u w : List ℕ) → length u ≡ 16 → s ≤ 16 → 16 ≤ s + length w → s + length w ≤ length out
    → splice (splice out 0 u) s w ≡ splice out 0 (take s u ++ w)
unfolding splice
wide-out out s u w h k m f =
    let short : length (take s u) ≡ s = length-take-le s u (omega arith) in
    let all : length (take s u ++ w) ≡ s + length w = length-append (take s u) w ∙ ap (λ (i : ℕ). i + length w) short in
    let past : drop (s + length w) (splice out 0 u) ≡ drop (s + length w) out =
    let cut : s + length w ≡ 0 + length u + (s + length w - 16) = omega arith in
    rw cut
    (sym (drop-drop (s + length w - 16) (0 + length u) (splice out 0 u)) ∙ ap (drop (s + length w - 16)) (drop-past-splice out 0 u (omega arith)) ∙ drop-drop (s + length w - 16) (0 + length u) out) in
    let first : take s (splice out 0 u) ≡ take s u = take-append-le s u (drop (0 + length u) out) (omega arith) in
    let end : 0 + length (take s u ++ w) ≡ s + length w = omega (arith, all) in
    ap (λ (l : List ℕ). l ++ (w ++ drop (s + length w) (splice out 0 u))) first
    ∙ ap (λ (l : List ℕ). take s u ++ (w ++ l)) past
    ∙ rw end (sym (append_assoc (take s u) w (drop (s + length w) out)))

module _ (key out d : List ℕ) (at : ℕ) (r : PlainRow) (whole : length key ≡ max_key) (f : PlainFits (length d) at r) where
  abbrev suffix : List ℕ
  suffix = take r.unshared (drop (at + 3) d)

  suffix-long : length suffix ≡ r.unshared
  suffix-long = length-take-le r.unshared (drop (at + 3) d) (rw length-drop (omega (arith, f.ends, f.inside)))

  -- the suffix over the carried key, and then all of it
  pub carried-plainly : {key' out' : List ℕ} {p o : Result ℕ Refusal} → r.shared + r.unshared ≤ length out → Puts (take (at + 3 + r.unshared - (at + 3)) (drop (at + 3) d)) key r.shared p key'
      → Puts (take (r.shared + r.unshared) key') out 0 o out' → Carried key out d at r key' out'
  carried-plainly {key'} room put-key put-out =
      let fits : r.shared + r.unshared ≤ length key = omega (arith, f.shared-small, f.unshared-small) in
      let q : key' ≡ splice key r.shared suffix = copied-part d (at + 3) r.unshared fits (omega (arith, f.ends, f.inside)) put-key in
      let same : length key' ≡ length key = ap length q ∙ length-splice key r.shared suffix (omega (arith, suffix-long)) in
      let o = copied (omega (arith, length-take-le (r.shared + r.unshared) key' (omega arith))) put-out in
      let k : take (r.shared + r.unshared) key' ≡ key_at key d at r =
      ap (take (r.shared + r.unshared)) q
      ∙ ap (λ (n : ℕ). take (r.shared + n) (splice key r.shared suffix)) (sym suffix-long)
      ∙ take-past-splice key r.shared suffix (omega (arith, suffix-long, f.shared-small, f.unshared-small)) in
      record { carried = k; given = o ∙ ap (splice out 0) k; long = same }

  -- sixteen bytes of the carried key and the suffix over them; sixteen bytes from where the suffix stands
  pub carried-wide : {key' out₁ out' : List ℕ} → 16 ≤ r.shared + r.unshared → r.shared ≤ 16 → r.unshared ≤ 16 → 16 ≤ length d - (at + 3) → r.shared + r.unshared ≤ length out
      → out₁ ≡ splice out 0 (take 16 (drop 0 key)) → {p : Result ℕ Refusal} → Puts (take (at + 3 + r.unshared - (at + 3)) (drop (at + 3) d)) out₁ r.shared p out' → key' ≡ splice key r.shared (take 16 (drop (at + 3) d))
      → Carried key out d at r key' out'
  carried-wide {key'} {out₁} {out'} h k n l room o₁ put q =
      let first : length (take 16 key) ≡ 16 = length-take-le 16 key (omega arith) in
      let same : length out₁ ≡ length out = ap length o₁ ∙ length-splice out 0 (take 16 key) (omega arith) in
      let o : out' ≡ splice out₁ r.shared suffix = copied-part d (at + 3) r.unshared (omega arith) (omega (arith, f.ends, f.inside)) put in
      let v : length (take 16 (drop (at + 3) d)) ≡ 16 = length-take-le 16 (drop (at + 3) d) (rw length-drop (omega arith)) in
      let u : length (take 16 key) ≡ 16 = length-take-le 16 key (omega arith) in
      record {
        carried =
            ap (take (r.shared + r.unshared)) q
            ∙ wide_key key r.shared r.unshared (take 16 (drop (at + 3) d)) v n (omega arith)
            ∙ ap (λ (w : List ℕ). take r.shared key ++ w) (take-take r.unshared 16 (drop (at + 3) d) n);
        given =
            o
            ∙ ap (λ (l : List ℕ). splice l r.shared suffix) o₁
            ∙ wide-out out r.shared (take 16 key) suffix u k (omega (arith, suffix-long)) (omega (arith, suffix-long))
            ∙ ap (λ (w : List ℕ). splice out 0 (w ++ suffix)) (take-take r.shared 16 key k);
        long = ap length q ∙ length-splice key r.shared (take 16 (drop (at + 3) d)) (omega (arith, v));
      }

-- the tests that lead there
pub wide-tests : (whole s n l : ℕ) → (ltb whole 16 || ltb 16 s || ltb 16 n || ltb l 16) ≡ false → (16 ≤ whole) × (s ≤ 16) × (n ≤ 16) × (16 ≤ l)
wide-tests whole s n l e =
    let t₁ = or-false {a = ltb whole 16 || ltb 16 s || ltb 16 n} {b = ltb l 16} e in
    let t₂ = or-false {a = ltb whole 16 || ltb 16 s} {b = ltb 16 n} t₁.0 in
    let t₃ = or-false {a = ltb whole 16} {b = ltb 16 s} t₂.0 in
    (ltb-false whole 16 t₃.0, ltb-false 16 s t₃.1, ltb-false 16 n t₂.1, ltb-false l 16 t₁.1)

-- ---- a turn of the run

module _ (b : List ℕ) (size : ℕ) (g : Region) (p : Place) (key : List ℕ) (i : Inside b size g (view_in p key)) (whole : length key ≡ max_key) {most : ℕ} (r : PlainRow) (m : most ≡ may_share (eqb p.at g.start) p.key_len) (e : Some (plain_from r) ≡ plain_at (take size b) p.at g.end most) where
  abbrev here-row : RowRead
  here-row = row_here b size g p key i (plain_from r) m e

  abbrev here-key : List ℕ
  here-key = key_here b size g p key i (plain_from r) m e

  abbrev here-given : Given
  here-given = given_is p.region p.number here-row here-key

  parts : key_at key (take size b) p.at r ≡ here-key
  parts = here-parts b size g p key i (plain_from r) m e whole

  module _ (keys : List ℕ) (used n : ℕ) {rows : List ℕ} (inside : used ≤ length keys) (room : r.shared + r.unshared ≤ length keys - used) {key' out' rows' : List ℕ} (q : Carried key (mid_of used (length keys - used) keys) (take size b) p.at r key' out') {x : RowRead} (is : x ≡ here-row) (w : Wrote rows (n * row_count) (row_words_of p.region p.number x) rows' ((n + 1) * row_count)) where
    carried : take (r.shared + r.unshared) key' ≡ here-key
    carried = q.carried ∙ parts

    pub given-key : Wrote keys used here-key (put_mid used (length keys - used) keys out') (used + (r.shared + r.unshared))
    given-key =
        let long : length here-key ≡ r.shared + r.unshared = here-long b size g p key i (plain_from r) m e whole in
        wrote-rest keys used (used + (r.shared + r.unshared)) here-key out' (omega (arith, long)) (omega (arith, long)) (q.given ∙ ap (splice (mid_of used (length keys - used) keys) 0) parts)

    given : (keys₀ rows₀ : List ℕ) (c₀ d : Cursor) → d ≡ past_row (view_in p key) g here-row here-key → Gone b keys₀ rows₀ c₀ (view_in p key) keys rows used n
        → Gone b keys₀ rows₀ c₀ d (put_mid used (length keys - used) keys out') rows' (used + (r.shared + r.unshared)) (n + 1)
    given keys₀ rows₀ c₀ d v k =
        let rest : length (mid_of used (length keys - used) keys) ≡ length keys - used = mid_len used (length keys) keys (omega arith) in
        let step : next (view_in p key) b (length (mid_of used (length keys - used) keys)) ≡ ok (step_is d (found_of here-given)) =
        here-step b size g p key i (plain_from r) m e (length (mid_of used (length keys - used) keys)) (omega (arith, rest)) ∙ ap (λ (c : Cursor). ok (step_is c (found_of here-given))) (sym v) in
        gone-more k (length (mid_of used (length keys - used) keys)) d here-given (rest ∙ ap (λ (l : ℕ). l - used) (wrote-length k.keys-are)) step
        given-key (rw is at w)

    pub given-over : (keys₀ rows₀ : List ℕ) (c₀ : Cursor) → g.reach < r.next → Gone b keys₀ rows₀ c₀ (view_in p key) keys rows used n
        → Gone b keys₀ rows₀ c₀ (view_in (moved_to p (p.region + 1) r.next 0 0) key') (put_mid used (length keys - used) keys out') rows' (used + (r.shared + r.unshared)) (n + 1)
    given-over keys₀ rows₀ c₀ k = given keys₀ rows₀ c₀ _ (here-over b size g p key i (plain_from r) m e whole key' carried k)

    module _ (k : r.next ≤ g.reach) where
      pub given_stays : (keys₀ rows₀ : List ℕ) (c₀ : Cursor) → Gone b keys₀ rows₀ c₀ (view_in p key) keys rows used n
          → Gone b keys₀ rows₀ c₀ (view_in (moved_to p p.region r.next (p.number + 1) (r.shared + r.unshared)) key') (put_mid used (length keys - used) keys out') rows' (used + (r.shared + r.unshared)) (n + 1)
      given_stays keys₀ rows₀ c₀ = given keys₀ rows₀ c₀ _ (here-stays b size g p key i (plain_from r) m e whole key' carried k)

      pub given_inside : Inside b size g (view_in (moved_to p p.region r.next (p.number + 1) (r.shared + r.unshared)) key')
      given_inside = here-inside b size g p key i (plain_from r) m e whole key' carried k

-- ---- the exits of a run

pub runs_to : (b : List ℕ) (most : ℕ) (came : Ran) (key keys rows : List ℕ) {r : Ran} (p : Place) (used n : ℕ) (key' keys' rows' : List ℕ) → r ≡ ran_to_of p used n → came.count ≤ n → n ≤ most
    → ((ks rs : List ℕ) (c₀ : Cursor) → Gone b ks rs c₀ (view_in came.place key) keys rows came.used came.count → Gone b ks rs c₀ (view_in p key') keys' rows' used n)
    → length key' ≡ length key → (n ≡ came.count → key' ≡ key) → RunsOn b most came key keys rows r key' keys' rows'
runs_to b most came key keys rows p used n key' keys' rows' e m f o l k =
    rw e (record { more = m; few = f; on = o; long = l; kept = k; still = λ t. let z : ◌≡◌ {A = ℕ} 0 1 = cc in absurd (omega arith); ends = λ t room. let z : ◌≡◌ {A = ℕ} 0 1 = cc in absurd (omega arith) })

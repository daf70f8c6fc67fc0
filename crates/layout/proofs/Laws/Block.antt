-- A block as it is laid, and how it grows by one row: the rows' bytes and the offsets, one row more at the end; the count of restarts is rows divided by
-- interval, rounded up; offsets that are allowed are at most 5,042.
use Rattle.std.specs.Prelude.{ℕ, suc, ◌+◌, ◌-◌, ◌*◌, ◌/◌, ◌%◌, ◌<◌, ◌≤◌, ◌≡◌, refl, Bool, true, false, cond, length, drop}
use Rattle.std.proofs.Common.{zero-le, ap, ◌∙◌, ⊎_elim, arith, add-zero, add-suc, suc-add, add_assoc, div-add-mod', mod-lt, pos_of_ne-zero, add-one, length-append, length-drop, take-append-drop}
use mathlib.Core.List.{List, [], ◌∷◌, ◌++◌, append_assoc, append-nil}
use Rattle.std.proofs.Math.Nat.{zero-add, div-eq_of_lt, zero-mod}
use Rattle.std.proofs.Math.Arith.{digits_div}
use Rattle.layout.specs.Limits.{max_key, max_offset, max_restarts}
use Rattle.layout.specs.Key.{Key, common}
use Rattle.layout.specs.Row.{Fields, Row, if_so}
use Rattle.layout.specs.Block.{is_restart, share_of, laid_row, rows_from, offsets_from, block_rows, offsets}
use Rattle.layout.specs.Builder.{restarts_of}
use Rattle.layout.proofs.Laws.Res.{bool_cases, eqb-cases}
use Rattle.layout.proofs.Laws.Key.{common-left, common-right, common-take}
use Rattle.layout.specs.Laws.Row.{KeyOk}
use Rattle.layout.proofs.Laws.Row.{row_bytes-least}
use Rattle.layout.specs.Laws.Block.{AllFit, AllOk, Shares, last_key_of}

-- ---- what a row shares

pub shares-is : (restart : Bool) (before key : Key) → Shares restart before key
unfolding share_of
shares-is true before key = record { may = zero-le; own = zero-le; whole = omega arith; makes = refl }
shares-is false before key =
    let own : common before key ≤ length key = common-right before key in
    record {
      may = common-left before key;
      own = own;
      whole = rw (length-drop (common before key) key) (omega arith);
      makes = rw (common-take before key) (take-append-drop (common before key) key);
    }

-- a key that is allowed makes an allowed share and suffix
pub shares-ok : (restart : Bool) (before key : Key) → 1 ≤ length key → length key ≤ max_key
    → KeyOk (share_of restart before key) (length (drop (share_of restart before key) key))
shares-ok restart before key h k =
    let s = (shares-is restart before key).whole in
    record { some = omega arith; fits = omega arith }

-- rows take at least 12 bytes, restarts 13
pub laid_row-least : (restart : Bool) (before key : Key) (f : Fields) → 12 ≤ length (laid_row restart before key f)
unfolding laid_row
laid_row-least restart before key f = omega (arith, row_bytes-least (share_of restart before key) (drop (share_of restart before key) key) f)

pub laid_restart_least : (before key : Key) (f : Fields) → 12 + length key ≤ length (laid_row true before key f)
unfolding laid_row share_of
laid_restart_least before key f = row_bytes-least 0 key f

-- ---- one row more

rows_from-snoc : (n i : ℕ) (before : Key) (rs : List Row) (r : Row)
    → rows_from n i before (rs ++ (r ∷ [])) ≡ rows_from n i before rs ++ laid_row (is_restart n (i + length rs)) (last_key_of before rs) r.key r.fields
unfolding rows_from last_key_of
rows_from-snoc n i before [] r = rw (add-zero i) (append-nil _)
rows_from-snoc n i before (x ∷ xs) r = rw (rows_from-snoc n (suc i) x.key xs r, suc-add i (length xs), add-suc i (length xs)) (simp append_assoc)

abbrev pub only_if : Bool → ℕ → List ℕ
only_if true o = o ∷ []
only_if false o = []

offsets_from-snoc : (n i at : ℕ) (before : Key) (rs : List Row) (r : Row)
    → offsets_from n i at before (rs ++ (r ∷ [])) ≡ offsets_from n i at before rs ++ only_if (is_restart n (i + length rs)) (at + length (rows_from n i before rs))
unfolding rows_from offsets_from
offsets_from-snoc n i at before [] r = rw (add-zero i, add-zero at) (⊎_elim (λ t. rw t) (λ t. rw t) (bool_cases (is_restart n i)))
offsets_from-snoc n i at before (x ∷ xs) r =
    rw (
      offsets_from-snoc n (suc i) (at + length (laid_row (is_restart n i) before x.key x.fields)) x.key xs r,
      suc-add i (length xs),
      add-suc i (length xs),
      length-append (laid_row (is_restart n i) before x.key x.fields) (rows_from n (suc i) x.key xs),
      add_assoc at (length (laid_row (is_restart n i) before x.key x.fields)) (length (rows_from n (suc i) x.key xs)),
    )
    (⊎_elim (λ t. rw t) (λ t. rw t) (bool_cases (is_restart n i)))

module _ (n : ℕ) (rs : List Row) (r : Row) where
  pub block_rows-snoc : block_rows n (rs ++ (r ∷ [])) ≡ block_rows n rs ++ laid_row (is_restart n (length rs)) (last_key_of [] rs) r.key r.fields
  unfolding block_rows
  block_rows-snoc = rw (rows_from-snoc n 0 [] rs r, zero-add (length rs))

  pub offsets-snoc : offsets n (rs ++ (r ∷ [])) ≡ offsets n rs ++ only_if (is_restart n (length rs)) (length (block_rows n rs))
  unfolding offsets block_rows
  offsets-snoc = rw (offsets_from-snoc n 0 0 [] rs r, zero-add (length rs), zero-add (length (rows_from n 0 [] rs)))

pub last_key-snoc : (before : Key) (rs : List Row) (r : Row) → last_key_of before (rs ++ (r ∷ [])) ≡ r.key
unfolding last_key_of
last_key-snoc before [] r = refl
last_key-snoc before (x ∷ xs) r = last_key-snoc x.key xs r

-- ---- how many restarts there are

-- one more where i is a multiple of n: by i = q n + r
pub restarts_of-step : (n i : ℕ) → 1 ≤ n → if_so (is_restart n i) 1 + restarts_of i n ≡ restarts_of (i + 1) n
unfolding is_restart
restarts_of-step n i h = ⊎_elim (λ t. rw t.0 (even t.1)) (λ t. rw t.0 (odd t.1)) (eqb-cases (i % n) 0)
  where
    q : ℕ
    q = i / n

    split : q * n + i % n ≡ i
    split = div-add-mod' i n

    even : i % n ≡ 0 → 1 + (i + (n - 1)) / n ≡ (i + 1 + (n - 1)) / n
    even e =
        let a : (i + (n - 1)) / n ≡ q = ap (λ (x : ℕ). x / n) (omega (arith, split)) ∙ digits_div q {m = n} {r = n - 1} (omega arith) in
        let b : (i + 1 + (n - 1)) / n ≡ suc q = ap (λ (x : ℕ). x / n) (omega (arith, split)) ∙ digits_div (suc q) {m = n} {r = 0} h in
        omega arith

    odd : (i % n ≡ 0 → ⊥) → 0 + (i + (n - 1)) / n ≡ (i + 1 + (n - 1)) / n
    odd f =
        let k : i % n < n = mod-lt i h in
        let p : 1 ≤ i % n = pos_of_ne-zero f in
        let a : (i + (n - 1)) / n ≡ suc q = ap (λ (x : ℕ). x / n) (omega (arith, split)) ∙ digits_div (suc q) {m = n} {r = i % n - 1} (omega arith) in
        let b : (i + 1 + (n - 1)) / n ≡ suc q = ap (λ (x : ℕ). x / n) (omega (arith, split)) ∙ digits_div (suc q) {m = n} {r = i % n} k in
        omega arith

offsets-count-from : (n i at : ℕ) (before : Key) (rs : List Row) → 1 ≤ n → length (offsets_from n i at before rs) + restarts_of i n ≡ restarts_of (i + length rs) n
unfolding offsets_from
offsets-count-from n i at before [] h = rw (add-zero i, zero-add)
offsets-count-from n i at before (r ∷ rs) h =
    let more : List ℕ = offsets_from n (suc i) (at + length (laid_row (is_restart n i) before r.key r.fields)) r.key rs in
    let ih = offsets-count-from n (suc i) (at + length (laid_row (is_restart n i) before r.key r.fields)) r.key rs h in
    let c = restarts_of-step n i h in
    let e : suc i + length rs ≡ i + suc (length rs) = omega arith in
    let l = len (is_restart n i) more in
    rw (← e) (omega (arith, ih, c, l, ap (λ (x : ℕ). restarts_of x n) (add-one i)))
  where
    len : (b : Bool) (more : List ℕ) → length (cond b (at ∷ more) more) ≡ if_so b 1 + length more
    len true more = omega arith
    len false more = omega arith

pub offsets-count : (n : ℕ) (rs : List Row) → 1 ≤ n → length (offsets n rs) ≡ restarts_of (length rs) n
unfolding offsets
offsets-count n rs h =
    omega (arith, offsets-count-from n 0 0 [] rs h, ap (λ (x : ℕ). restarts_of x n) (zero-add (length rs)), ap (λ (x : ℕ). x / n) (zero-add (n - 1)), div-eq_of_lt {n = n - 1} {m = n} (omega arith))

pub first-restart : (n : ℕ) → is_restart n 0 ≡ true
unfolding is_restart
first-restart n = rw (zero-mod n)

-- the rows' bytes are at least 12 each
rows_from-least : (n i : ℕ) (before : Key) (rs : List Row) → 12 * length rs ≤ length (rows_from n i before rs)
unfolding rows_from
rows_from-least n i before [] = zero-le
rows_from-least n i before (r ∷ rs) =
    omega (arith, rows_from-least n (suc i) r.key rs, laid_row-least (is_restart n i) before r.key r.fields, length-append (laid_row (is_restart n i) before r.key r.fields) (rows_from n (suc i) r.key rs))

pub block_rows-least : (n : ℕ) (rs : List Row) → 12 * length rs ≤ length (block_rows n rs)
unfolding block_rows
block_rows-least n rs = rows_from-least n 0 [] rs

-- offsets that are allowed are few: each restart takes at least 13 bytes
offsets-few-from : (n i at : ℕ) (before : Key) (rs : List Row) → AllOk rs → AllFit (offsets_from n i at before rs) → 13 * length (offsets_from n i at before rs) ≤ max_offset + 13 - at
unfolding offsets_from
offsets-few-from n i at before [] a f = zero-le
offsets-few-from n i at before (r ∷ rs) a f =
    go (is_restart n i) refl (offsets_from n (suc i) (at + length (laid_row (is_restart n i) before r.key r.fields)) r.key rs)
    (offsets-few-from n (suc i) (at + length (laid_row (is_restart n i) before r.key r.fields)) r.key rs a.1) f
  where
    go : (t : Bool) → is_restart n i ≡ t → (more : List ℕ) → (AllFit more → 13 * length more ≤ max_offset + 13 - (at + length (laid_row (is_restart n i) before r.key r.fields)))
        → AllFit (cond t (at ∷ more) more) → 13 * length (cond t (at ∷ more) more) ≤ max_offset + 13 - at
    go true e more ih f =
        let k : 12 + length r.key ≤ length (laid_row (is_restart n i) before r.key r.fields) = rw e (laid_restart_least before r.key r.fields) in
        let s = a.0.key-some in
        omega (arith, ih f.1, f.0)
    go false e more ih f = omega (arith, ih f)

pub offsets-few : (n : ℕ) (rs : List Row) → AllOk rs → AllFit (offsets n rs) → length (offsets n rs) ≤ max_restarts
unfolding offsets
offsets-few n rs a f = omega (arith, offsets-few-from n 0 0 [] rs a f)

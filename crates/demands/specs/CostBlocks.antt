-- For each count from 1 to 5,042 a block with so many restarts that the check accepts: rows of 13 bytes with the key "a", the newest first, each of them a restart.
use Rattle.std.specs.Prelude.{ℕ, zero, suc, ◌+◌, ◌*◌, ◌/◌, ◌%◌, ◌^◌, ◌<◌, ◌≤◌, ◌≡◌, refl, true, length, get_or}
use Rattle.std.proofs.Common.{ap, ◌∙◌, arith, lt-ltb, eq-eqb}
use mathlib.Core.List.{List, [], ◌∷◌, ◌++◌}
use Rattle.layout.specs.Res.{ok}
use Rattle.layout.specs.Limits.{max_restarts}
use Rattle.layout.specs.Varint.{varint, varint_in}
use Rattle.layout.specs.Fixed.{big}
use Rattle.layout.specs.Key.{Key, below, rank_is, may_follow, Rising}
use Rattle.layout.specs.Row.{Row, time_bytes, row_bytes}
use Rattle.layout.specs.Block.{is_restart, share_of, laid_row, rows_from, offsets_from, block_rows, offsets, offset_bytes, trailer, block_bytes}
use Rattle.layout.specs.Check.{check}
use Rattle.layout.specs.Cases.{row_with}
use Rattle.layout.specs.Laws.Block.{AllOk, AllFit}
use Rattle.layout.proofs.Laws.Block.{offsets-count}
use Rattle.demands.specs.Rows.{offered_ranks}
use Rattle.demands.specs.Proof2.{laid-accepted}
use Rattle.demands.specs.Laws.Laid.{LaidBlock, laid-block}

unfoldable pub debits : ℕ → List Row
debits zero = []
debits (suc n) = row_with (97 ∷ []) [] n ∷ debits n

-- ---- laid

many : (n : ℕ) → length (debits n) ≡ n
unfolding debits
many zero = refl
many (suc n) = ap suc (many n)

all-ok : (n : ℕ) → n ≤ max_restarts → AllOk (debits n)
unfolding debits
all-ok zero h = tt
all-ok (suc n) h =
    (record { key-some = omega arith; key_fits = omega arith; fields-ok = record { value-fits = omega arith; seq-fits = omega arith; expire-fits = tt; create-fits = tt } }, all-ok n (omega arith))

each-restart : (i : ℕ) → is_restart 1 i ≡ true
unfolding is_restart
each-restart i = eq-eqb (i % 1) 0 (omega arith)

row-long : (before : Key) (q : ℕ) → length (laid_row true before (97 ∷ []) (row_with (97 ∷ []) [] q).fields) ≡ 13
unfolding laid_row share_of row_bytes time_bytes big varint varint_in
row-long before q = refl

all_fit : (n i at : ℕ) (before : Key) → at + 13 * n ≤ 65548 → AllFit (offsets_from 1 i at before (debits n))
unfolding offsets_from debits
all_fit zero i at before h = tt
all_fit (suc n) i at before h = rw (each-restart i, row-long before n) (omega arith, all_fit n (suc i) (at + 13) (97 ∷ []) (omega arith))

pub laid : (n : ℕ) → suc n ≤ max_restarts → LaidBlock (block_bytes 1 (debits (suc n))) 1 (debits (suc n))
unfolding debits
laid n h = laid-block 1 (row_with (97 ∷ []) [] n) (debits n) (all-ok (suc n) h) (unfold offsets in all_fit (suc n) 0 0 [] (omega arith))

pub count-is : (n : ℕ) (h : suc n ≤ max_restarts) → (laid n h).t.count ≡ suc n
count-is n h = (laid n h).count ∙ offsets-count 1 (debits (suc n)) (omega arith) ∙ omega (arith, many (suc n))

-- ---- in order

newer : (n : ℕ) → may_follow (rank_is (97 ∷ []) (suc n)) (rank_is (97 ∷ []) n) ≡ true
unfolding may_follow below
newer n = cc (lt-ltb n (suc n) (omega arith))

in_order : (n : ℕ) → Rising (rank_is (97 ∷ []) n) (offered_ranks (debits n))
unfolding debits
in_order zero = tt
in_order (suc n) = (newer n, in_order n)

pub accepted : (n : ℕ) → suc n ≤ max_restarts → check (block_bytes 1 (debits (suc n))) ≡ ok (suc n)
unfolding debits may_follow below
accepted n h = laid-accepted (block_bytes 1 (debits (suc n))) 1 (debits (suc n)) (laid n h) (refl, in_order n) ∙ ap (λ (m : ℕ). ok (suc m)) (many n)

-- ---- of bytes

abbrev Bytes : List ℕ → Type 0
Bytes xs = (i : ℕ) → get_or xs i 0 < 256

bytes-none : Bytes []
bytes-none i = omega arith

bytes-cons : (x : ℕ) (xs : List ℕ) → x < 256 → Bytes xs → Bytes (x ∷ xs)
bytes-cons x xs h b zero = h
bytes-cons x xs h b (suc i) = b i

bytes-append : (xs ys : List ℕ) → Bytes xs → Bytes ys → Bytes (xs ++ ys)
bytes-append [] ys a b = b
bytes-append (x ∷ xs) ys a b = bytes-cons x (xs ++ ys) (a 0) (bytes-append xs ys (λ i. a (suc i)) b)

bytes-big : (n v : ℕ) → Bytes (big n v)
unfolding big
bytes-big zero v = bytes-none
bytes-big (suc n) v = bytes-cons (v / 256 ^ n % 256) (big n v) (omega arith) (bytes-big n v)

bytes-row : (before : Key) (q : ℕ) → Bytes (laid_row true before (97 ∷ []) (row_with (97 ∷ []) [] q).fields)
unfolding laid_row share_of row_bytes time_bytes varint varint_in
bytes-row before q =
    let w : List ℕ = big 8 q ++ (0 ∷ []) in
    bytes-cons 0 (1 ∷ (0 ∷ (97 ∷ w))) (omega arith)
    (bytes-cons 1 (0 ∷ (97 ∷ w)) (omega arith)
    (bytes-cons 0 (97 ∷ w) (omega arith) (bytes-cons 97 w (omega arith) (bytes-append (big 8 q) (0 ∷ []) (bytes-big 8 q) (bytes-cons 0 [] (omega arith) bytes-none)))))

bytes-rows : (n i : ℕ) (before : Key) → Bytes (rows_from 1 i before (debits n))
unfolding rows_from debits
bytes-rows zero i before = bytes-none
bytes-rows (suc n) i before = rw (each-restart i) (bytes-append (laid_row true before (97 ∷ []) (row_with (97 ∷ []) [] n).fields) (rows_from 1 (suc i) (97 ∷ []) (debits n)) (bytes-row before n) (bytes-rows n (suc i) (97 ∷ [])))

bytes-offsets : (os : List ℕ) → Bytes (offset_bytes os)
unfolding offset_bytes
bytes-offsets [] = bytes-none
bytes-offsets (o ∷ os) = bytes-append (big 2 o) (offset_bytes os) (bytes-big 2 o) (bytes-offsets os)

pub bytes : (n : ℕ) → Bytes (block_bytes 1 (debits n))
unfolding block_bytes block_rows trailer
bytes n = bytes-append (rows_from 1 0 [] (debits n)) _ (bytes-rows n 0 []) (bytes-append (offset_bytes (offsets 1 (debits n))) _ (bytes-offsets (offsets 1 (debits n))) (bytes-big 2 (length (offsets 1 (debits n)))))

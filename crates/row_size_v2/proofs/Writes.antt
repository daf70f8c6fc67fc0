-- What the proofs cite: the promise of a function that writes at the start of a buffer; and the exits of the tests of a key's length and of a row's size.
use Prim.Native.Nat.{ℕ, ◌+◌, ◌≤◌, ◌<◌}
use mathlib.Core.Path.{◌≡◌, refl, sym, ap, ◌∙◌}
use mathlib.Core.Bool.{Bool}
use mathlib.Core.List.{List}
use native.Mathlib.Nat.{zero-add}
use native.Mathlib.Omega.{arith}
use Rattle.std.specs.Prelude.{Result, IsErrAnd}
use Rattle.std.proofs.lemmas.Result.{err_from_is_err_and}
use Rattle.layout.specs.Res.{Res, ok, refuse, bind}
use Rattle.layout.specs.Limits.{max_key, max_value}
use Rattle.layout.specs.Row.{Kind, kept_length, if_so, key_length_tests, length_tests, size_alone}
use Rattle.layout.specs.Varint.{varint_length}
use Rattle.layout.proofs.Laws.RowExits.{key-empty, key-long, key_fits, lengths-key, lengths-value, lengths-fit, size-no, size_is}
use Rattle.layout.proofs.Laws.RowWrite.{row_size-sum}
use Rattle.layout.specs.Laws.Splice.{Wrote}
use Rattle.layout.proofs.Laws.Tells.{key_length_tests-tells}
use Rattle.basics.specs.Answers.{says_same}
use Rattle.basics.specs.Number.{number}
use Rattle.basics.specs.declared.Refusal.{Refusal}
use Rattle.row_size_v2.specs.Promise.{key_length, Lays}

-- ---- promises

pub lays-not : {want : Res (List ℕ)} {n : ℕ} (buf : List ℕ) → want ≡ refuse n → Lays want buf (refuse n) buf
lays-not buf e = rw e (record { answer = refl; bytes = refl })

-- a refusal that is handed on
pub lays-handed : {want : Res (List ℕ)} (x : Result ℕ Refusal) (r : Refusal) (buf : List ℕ) → IsErrAnd x (λ q. q ≡ r) → want ≡ refuse (number r) → Lays want buf (says_same x) buf
lays-handed x r buf e w =
    let p = err_from_is_err_and x e in
    rw (p.1, p.2) (lays-not buf w)

pub lays-wrote : {want : Res (List ℕ)} {w buf' : List ℕ} {n : ℕ} (buf : List ℕ) → want ≡ ok w → Wrote buf 0 w buf' n → Lays want buf (ok n) buf'
lays-wrote buf e p = rw e (record { answer = ap ok (p.next ∙ zero-add _); bytes = p.is })

-- ---- the tests of a key's length

module _ (n : ℕ) where
  pub no_key_lem : n ≡ 0 → refuse 1 ≡ key_length n
  no_key_lem h = rw (← key-empty n h)

  pub long-key : max_key < n → refuse 2 ≡ key_length n
  long-key h = rw (← key-long n h)

  pub some_key : (n ≡ 0 → ⊥) → n ≤ max_key → ok n ≡ key_length n
  some_key h k = rw (← key_fits n h k)

  pub key-refused : {k : ℕ} → key_length n ≡ refuse k → key_length_tests n ≡ refuse k
  key-refused {k} e = go (key_length_tests n) e
    where
      go : (x : Res (Unit {0})) → bind x (λ _. ok n) ≡ refuse k → x ≡ refuse k
      go (ok u) q = absurd (let z : ◌≡◌ {A = ℕ} 0 1 = cc in omega arith)
      go (refuse m) q = cc

  pub key-tested : {m : ℕ} → key_length n ≡ ok m → (key_length_tests n ≡ ok tt) × (m ≡ n) × (n ≤ max_key)
  key-tested {m} e = go (key_length_tests n) refl e
    where
      go : (x : Res (Unit {0})) → key_length_tests n ≡ x → bind x (λ _. ok n) ≡ ok m → (key_length_tests n ≡ ok tt) × (m ≡ n) × (n ≤ max_key)
      go (ok u) t q = (t, cc, (key_length_tests-tells n u t).1)
      go (refuse k) t q = absurd (let z : ◌≡◌ {A = ℕ} 0 1 = cc in omega arith)

-- ---- the tests of both lengths, by the key's

module _ (n v : ℕ) where
  pub tests_unkeyed : {k : ℕ} → key_length n ≡ refuse k → length_tests n v ≡ refuse k
  tests_unkeyed q = sym (lengths-key _ _ (key-refused _ q))

  module _ {m : ℕ} (q : key_length n ≡ ok m) where
    pub tests-over : max_value < v → length_tests n v ≡ refuse 3
    tests-over h = sym (lengths-value _ _ (key-tested _ q).0 h)

    pub tests-pass : v ≤ max_value → length_tests n v ≡ ok tt
    tests-pass h = sym (lengths-fit _ _ (key-tested _ q).0 h)

-- ---- the exits of a row's size, by its key's length

module _ (shared suffix_len : ℕ) (k : Kind) (offered : ℕ) (e c : Bool) where
  pub size_unkeyed : {n : ℕ} → key_length (shared + suffix_len) ≡ refuse n → refuse n ≡ size_alone shared suffix_len k offered e c
  size_unkeyed q = size-no _ _ _ _ _ _ (tests_unkeyed _ _ q)

  module _ {n v : ℕ} (q : key_length (shared + suffix_len) ≡ ok n) (is : v ≡ kept_length k offered) where
    pub size-over : max_value < v → refuse 3 ≡ size_alone shared suffix_len k offered e c
    size-over h = size-no _ _ _ _ _ _ (tests-over _ _ q (omega arith))

    pub size-sum : {x y z t u : ℕ} → v ≤ max_value → x ≡ varint_length shared → y ≡ varint_length suffix_len → z ≡ varint_length v → t ≡ if_so e 8 → u ≡ if_so c 8
        → ok (x + y + z + suffix_len + v + 9 + (t + u)) ≡ size_alone shared suffix_len k offered e c
    size-sum {x} {y} {z} {t} {u} h ex ey ez et eu =
        let len : varint_length v ≡ varint_length (kept_length k offered) = ap varint_length is in
        ap ok (omega (arith, row_size-sum shared suffix_len (kept_length k offered) e c)) ∙ size_is _ _ _ _ _ _ (tests-pass _ _ q (omega arith))

-- Where in the data the first bytes of a key stand: in one place, or in two. What a row's suffix and what is known of the key before tell of the row's own key.
use Rattle.std.specs.Prelude.{ℕ, ◌+◌, ◌-◌, ◌<◌, ◌≤◌, min, ◌≡◌, refl, cond, List, ◌++◌, eqb, ltb, leb, length, take, drop}
use Rattle.std.proofs.Common.{ap, sym, ◌∙◌, append-nil, ⊎_elim, arith, length-drop, length-append, take-take, take_all, length-take-le, lt-ltb, le-ltb, le-leb, eq-eqb, ne_eqb}
use Rattle.std.proofs.lemmas.List.{take-append-le}
use Rattle.std.proofs.Math.Seq.{take-append-add}
use Rattle.std.proofs.lemmas.Bool.{lt-leb}
use Rattle.layout.specs.Key.{Key}
use Rattle.layout.proofs.Laws.Res.{ltb-cases, eqb-cases}
use Rattle.block_regions_v2.specs.declared.Known.{Known}

abbrev pub known_is : ℕ → ℕ → ℕ → ℕ → Known
known_is first split second len = record { first = first; split = split; second = second; len = len }

-- of a row that shares nothing all of its key; of one that shares no more than the first part both; else no more than was known
abbrev pub known_after : Known → ℕ → ℕ → ℕ → Known
known_after k place shared len =
    cond (eqb shared 0) (known_is place len place len)
    (cond (leb shared k.split) (known_is k.first shared place len)
    (cond (ltb shared k.len) (known_is k.first k.split k.second shared)
    k))

pub record Knows (d : List ℕ) (key : Key) (k : Known) : Type 0 where
  pub inner : k.split ≤ k.len
  pub within : k.len ≤ length key
  pub one : k.first + k.split ≤ length d
  pub two : k.second + (k.len - k.split) ≤ length d
  pub is : take k.len key ≡ take k.split (drop k.first d) ++ take (k.len - k.split) (drop k.second d)

-- nothing, of any key
pub knows-none : (d : List ℕ) (key : Key) → Knows d key (known_is 0 0 0 0)
knows-none d key = record { inner = omega arith; within = omega arith; one = omega arith; two = omega arith; is = refl }

pub part_length : (d : List ℕ) (a n : ℕ) → a + n ≤ length d → length (take n (drop a d)) ≡ n
part_length d a n h = length-take-le n (drop a d) (rw (length-drop a d) (omega arith))

-- the first n bytes of what is known, by its parts
module _ (d : List ℕ) (key : Key) (k : Known) (w : Knows d key k) (n : ℕ) (h : n ≤ k.len) where
  abbrev one-part : List ℕ
  one-part = take k.split (drop k.first d)

  abbrev two-part : List ℕ
  two-part = take (k.len - k.split) (drop k.second d)

  cut : take n key ≡ take n (one-part ++ two-part)
  cut = sym (take-take n k.len key h) ∙ ap (take n) w.is

  one-long : length one-part ≡ k.split
  one-long = part_length d k.first k.split w.one

  pub known-one : n ≤ k.split → take n key ≡ take n (drop k.first d)
  known-one u = cut ∙ take-append-le n one-part two-part (rw one-long u) ∙ take-take n k.split (drop k.first d) u

  pub known_two : k.split ≤ n → take n key ≡ one-part ++ take (n - k.split) (drop k.second d)
  known_two u =
      let m : n ≡ length one-part + (n - k.split) = rw one-long (omega arith) in
      cut ∙ ap (λ (i : ℕ). take i (one-part ++ two-part)) m ∙ take-append-add one-part two-part (n - k.split)
      ∙ ap (λ (l : List ℕ). one-part ++ l) (take-take (n - k.split) (k.len - k.split) (drop k.second d) (omega arith))

  -- in two parts, one of which may be empty
  pub known-parts : take n key ≡ take (min n k.split) (drop k.first d) ++ take (n - min n k.split) (drop k.second d)
  known-parts =
      ⊎_elim
      (λ t.
      let m : min n k.split ≡ k.split = omega (arith, t.1) in
      rw m (known_two (omega (arith, t.1))))
      (λ t.
      let m : min n k.split ≡ n = omega (arith, t.1) in
      let z : n - n ≡ 0 = omega arith in
      rw (m, z) (known-one t.1 ∙ sym (append-nil (take n (drop k.first d)))))
      (ltb-cases k.split n)

-- ---- past a row

module _ (d : List ℕ) (key : Key) (k : Known) (w : Knows d key k) (at s n : ℕ) (fits : s ≤ length key) (inside : at + n ≤ length d) where
  abbrev row-key : Key
  row-key = take s key ++ take n (drop at d)

  row-length : length row-key ≡ s + n
  row-length = length-append (take s key) (take n (drop at d)) ∙ rw (length-take-le s key fits, part_length d at n inside)

  all-taken : {m : ℕ} → s + n ≤ m → take m row-key ≡ row-key
  all-taken {m} h = take_all m row-key (rw row-length h)

  after_none : s ≡ 0 → Knows d row-key (known_is at (s + n) at (s + n))
  after_none z =
      let m : s + n ≡ n = omega arith in
      let o : s + n - (s + n) ≡ 0 = omega arith in
      record {
        inner = omega arith;
        within = rw row-length (omega arith);
        one = omega arith;
        two = omega arith;
        is = all-taken {m = s + n} (omega arith) ∙ rw (o, m, z) (sym (append-nil (take n (drop at d))));
      }

  after_first : s ≤ k.split → Knows d row-key (known_is k.first s at (s + n))
  after_first h =
      let o : s + n - s ≡ n = omega arith in
      let one = w.one in
      record {
        inner = omega arith;
        within = rw row-length (omega arith);
        one = omega arith;
        two = omega arith;
        is = all-taken {m = s + n} (omega arith) ∙ rw (o, known-one d key k w s (omega (arith, w.inner)) h);
      }

  -- the first m bytes are the key's before, where it shares as many
  same_first : (m : ℕ) → m ≤ s → take m row-key ≡ take m key
  same_first m h = take-append-le m (take s key) (take n (drop at d)) (rw (length-take-le s key fits) h) ∙ take-take m s key h

  after-second : k.split < s → s < k.len → Knows d row-key (known_is k.first k.split k.second s)
  after-second h u =
      let two = w.two in
      record {
        inner = omega arith;
        within = rw row-length (omega arith);
        one = w.one;
        two = omega arith;
        is = same_first s (omega arith) ∙ known_two d key k w s (omega arith) (omega arith);
      }

  after_more : k.len ≤ s → Knows d row-key k
  after_more h = record { inner = w.inner; within = rw row-length (omega arith); one = w.one; two = w.two; is = same_first k.len h ∙ w.is }

  pub knows_after : Knows d row-key (known_after k at s (s + n))
  knows_after =
      ⊎_elim
      (λ t. rw t.0 (after_none t.1))
      (λ t.
      rw t.0
      (⊎_elim
      (λ u.
      rw (lt-leb s k.split u.1)
      (⊎_elim (λ v. rw v.0 (after-second u.1 v.1)) (λ v. rw v.0 (after_more v.1)) (ltb-cases s k.len)))
      (λ u. rw (le-leb s k.split u.1) (after_first u.1))
      (ltb-cases k.split s)))
      (eqb-cases s 0)

-- ---- each way through the code

module _ (k : Known) (place s len : ℕ) where
  pub after-is-none : s ≡ 0 → known_is place len place len ≡ known_after k place s len
  after-is-none h = rw (eq-eqb s 0 h)

  module _ (h : s ≡ 0 → ⊥) where
    pub after-is-first : s ≤ k.split → known_is k.first s place len ≡ known_after k place s len
    after-is-first u = rw (ne_eqb s 0 h, le-leb s k.split u)

    module _ (u : k.split < s) where
      pub after-is-second : s < k.len → known_is k.first k.split k.second s ≡ known_after k place s len
      after-is-second v = rw (ne_eqb s 0 h, lt-leb s k.split u, lt-ltb s k.len v)

      pub after-is-same : k.len ≤ s → k ≡ known_after k place s len
      after-is-same v = rw (ne_eqb s 0 h, lt-leb s k.split u, le-ltb s k.len v)

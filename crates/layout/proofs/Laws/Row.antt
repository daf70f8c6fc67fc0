-- Laid rows: their bytes are as many as their size says, at least 12, at a restart 13; where they stand they are read, with their places, and at
-- these places stands what was laid; no row's bytes begin a different row's.
use Rattle.std.specs.Prelude.{ℕ, ◌+◌, ◌^◌, ◌<◌, ◌≤◌, ◌≡◌, Bool, true, false, List, [], ◌∷◌, ◌++◌, take, drop}
use Rattle.std.proofs.Math.Path.{refl}
use Rattle.std.proofs.Common.{ap, sym, ◌∙◌, append_assoc, arith, length-append, take_at}
use Rattle.std.proofs.Math.ListN.{length}
use borrow.Author.Tests.{le-ltb, ne_eqb}
use Rattle.layout.specs.Res.{ok}
use Rattle.layout.specs.Limits.{max_key, max_value}
use Rattle.layout.specs.Varint.{varint}
use Rattle.layout.specs.Fixed.{big, bits}
use Rattle.layout.specs.Key.{Key}
use Rattle.layout.specs.Row.{Kind, value, tombstone, merge, Time, Absent, At, Fields, kept, kept_length, value_of, if_so, present, flags_of, time_bytes, row_bytes, row_size, key_length_tests, TimeOk, plain, SameRow}
use Rattle.layout.specs.RowRead.{Lengths, lengths_is, lengths_at, value_at, seq_at, may_share, head_tests, head_at, Flags, flags_is, flags_at, held_as, body_is, body_tests, body_at, time_is, time_at, times_is, times_at, row_is, row_at, read_row, key_of, kind_of, held_bytes, fields_of}
use Rattle.layout.proofs.Laws.Res.{ok-inj}
use Rattle.layout.proofs.Laws.Varint.{length-varint, varint-few}
use Rattle.layout.proofs.Laws.Fixed.{length-big, bits_fit, unbits-bits}
use Rattle.layout.proofs.Laws.Place.{past, within, byte_at, varint_at-law, fixed_at-law}
use Rattle.layout.specs.Laws.OneRow.{StandsRead}
use Rattle.layout.proofs.Laws.OneRow.{one-row}
use Rattle.layout.specs.Laws.Row.{FieldsOk, KeyOk, body_of, body_start, lengths_of, places_of}

-- ---- what may be laid

-- ---- lengths

pub length-time_bytes : (t : Time) → length (time_bytes t) ≡ if_so (present t) 8
unfolding time_bytes
length-time_bytes Absent = refl
length-time_bytes (At t) = length-big 8 (bits t)

-- the sum that a row's bytes come to
pub length-row_bytes : (shared : ℕ) (suffix : List ℕ) (f : Fields)
    → length (row_bytes shared suffix f)
    ≡ length (varint shared) + length (varint (length suffix)) + length (varint (length (value_of f))) + length suffix + length (value_of f) + 9
    + if_so (present f.expire) 8 + if_so (present f.create) 8
unfolding row_bytes
length-row_bytes shared suffix f = simp (length-append, length-big, length-time_bytes) (omega arith)

-- it is the size that lengths alone give
pub row_bytes-size : (shared : ℕ) (suffix : List ℕ) (f : Fields) → shared < 2 ^ 32 → length suffix < 2 ^ 32 → length (value_of f) < 2 ^ 32
    → length (row_bytes shared suffix f) ≡ row_size shared (length suffix) (length (value_of f)) (present f.expire) (present f.create)
unfolding row_size
row_bytes-size shared suffix f a b c =
    length-row_bytes shared suffix f ∙ rw (length-varint shared a, length-varint (length suffix) b, length-varint (length (value_of f)) c)

pub length-kept : (k : Kind) (v : List ℕ) → length (kept k v) ≡ kept_length k (length v)
length-kept value v = refl
length-kept tombstone v = refl
length-kept merge v = refl

-- rows take at least 12 bytes, restarts 13
pub row_bytes-least : (shared : ℕ) (suffix : List ℕ) (f : Fields) → 12 + length suffix ≤ length (row_bytes shared suffix f)
row_bytes-least shared suffix f =
    rw (length-row_bytes shared suffix f) (omega (arith, varint-few shared, varint-few (length suffix), varint-few (length (value_of f))))

-- ---- a row's bytes before more bytes

abbrev pub after_value : Fields → List ℕ → List ℕ
after_value f post = big 8 f.seq ++ (flags_of f.kind (present f.expire) (present f.create) ∷ (time_bytes f.expire ++ (time_bytes f.create ++ post)))

pub row_bytes-then : (shared : ℕ) (suffix : List ℕ) (f : Fields) (post : List ℕ)
    → row_bytes shared suffix f ++ post ≡ varint shared ++ (varint (length suffix) ++ (varint (length (value_of f)) ++ (suffix ++ (value_of f ++ after_value f post))))
unfolding row_bytes
row_bytes-then shared suffix f post = simp append_assoc

-- ---- the places of a row that starts at `at`

-- ---- each part is read where it stands

lengths_at-law : (d : List ℕ) (at a b c : ℕ) (rest : List ℕ) → a < 2 ^ 32 → b < 2 ^ 32 → c < 2 ^ 32 → drop at d ≡ varint a ++ (varint b ++ (varint c ++ rest))
    → lengths_at d at ≡ ok (lengths_is a b c (at + length (varint a) + length (varint b) + length (varint c)))
unfolding lengths_at
lengths_at-law d at a b c rest ha hb hc e =
    let e₁ = past d at (varint a) (varint b ++ (varint c ++ rest)) e in
    let e₂ = past d (at + length (varint a)) (varint b) (varint c ++ rest) e₁ in
    rw (
      varint_at-law d at a (varint b ++ (varint c ++ rest)) ha e,
      varint_at-law d (at + length (varint a)) b (varint c ++ rest) hb e₁,
      varint_at-law d (at + length (varint a) + length (varint b)) c rest hc e₂,
    )

pub flags_at-law : (k : Kind) (e c : Bool) → flags_at (flags_of k e c) ≡ ok (flags_is k e c)
unfolding flags_at
flags_at-law value true true = refl
flags_at-law value true false = refl
flags_at-law value false true = refl
flags_at-law value false false = refl
flags_at-law tombstone true true = refl
flags_at-law tombstone true false = refl
flags_at-law tombstone false true = refl
flags_at-law tombstone false false = refl
flags_at-law merge true true = refl
flags_at-law merge true false = refl
flags_at-law merge false true = refl
flags_at-law merge false false = refl

time_at-law : (t : Time) (d : List ℕ) (at : ℕ) (post : List ℕ) → TimeOk t → drop at d ≡ time_bytes t ++ post
    → time_at (present t) d at ≡ ok (time_is t (at + if_so (present t) 8))
unfolding time_at time_bytes
time_at-law Absent d at post h e = ap (λ (n : ℕ). ok (time_is Absent n)) (omega arith)
time_at-law (At t) d at post h e = rw (fixed_at-law 8 d at (bits t) post (omega arith) (bits_fit t h) e, unbits-bits t h)

pub times_at-law : (d : List ℕ) (at : ℕ) (k : Kind) (e c : Time) (post : List ℕ) → TimeOk e → TimeOk c → drop at d ≡ time_bytes e ++ (time_bytes c ++ post)
    → times_at d at (flags_is k (present e) (present c)) ≡ ok (times_is e c (at + if_so (present e) 8 + if_so (present c) 8))
unfolding times_at
times_at-law d at k e c post he hc p =
    let q : drop (at + if_so (present e) 8) d ≡ time_bytes c ++ post = rw (length-time_bytes e) at (past d at (time_bytes e) (time_bytes c ++ post) p) in
    rw (time_at-law e d at (time_bytes c ++ post) he p, time_at-law c d (at + if_so (present e) 8) post hc q)

body_at-parts : (d : List ℕ) (l : Lengths) (suffix v : List ℕ) (q fl : ℕ) (more : List ℕ) (f : Flags) → length suffix ≡ l.unshared → length v ≡ l.value_len → l.value_len ≤ max_value
    → q < 2 ^ 64 → flags_at fl ≡ ok f → drop l.body d ≡ suffix ++ (v ++ (big 8 q ++ (fl ∷ more)))
    → (body_at d l ≡ ok (body_is (held_as f.kind (value_at l) l.value_len) q f (seq_at l + 9))) × (drop (seq_at l + 9) d ≡ more)
unfolding body_at body_tests
body_at-parts d l suffix v q fl more f hs hv k kq hf e =
    let e₁ : drop (value_at l) d ≡ v ++ (big 8 q ++ (fl ∷ more)) = rw hs at (past d l.body suffix (v ++ (big 8 q ++ (fl ∷ more))) e) in
    let e₂ : drop (seq_at l) d ≡ big 8 q ++ (fl ∷ more) = rw hv at (past d (value_at l) v (big 8 q ++ (fl ∷ more)) e₁) in
    let e₃ : drop (seq_at l + 8) d ≡ fl ∷ more = rw (length-big 8 q) at (past d (seq_at l) (big 8 q) (fl ∷ more) e₂) in
    let e₄ : drop (seq_at l + 8 + 1) d ≡ more = past d (seq_at l + 8) (fl ∷ []) more e₃ in
    let nine : seq_at l + 9 ≡ seq_at l + 8 + 1 = omega arith in (
      rw (
        le-ltb max_value l.value_len k,
        le-ltb (length d) (seq_at l + 9) (omega (arith, within d (seq_at l + 8) (fl ∷ []) more e₃ (omega arith))),
        fixed_at-law 8 d (seq_at l) q (fl ∷ more) (omega arith) (omega arith) e₂,
        byte_at d (seq_at l + 8) fl more e₃,
        hf,
      ),
      ap (λ (n : ℕ). drop n d) nine ∙ e₄,
    )

-- ---- a laid row, where it stands: at `at` of d, before any bytes

module _ (d : List ℕ) (at shared : ℕ) (suffix : List ℕ) (f : Fields) (post : List ℕ) (here : drop at d ≡ row_bytes shared suffix f ++ post) where
  body-here : drop (body_start at shared suffix f) d ≡ suffix ++ (value_of f ++ after_value f post)
  body-here =
      let a : List ℕ = varint shared in
      let b : List ℕ = varint (length suffix) in
      let c : List ℕ = varint (length (value_of f)) in
      let body : List ℕ = suffix ++ (value_of f ++ after_value f post) in
      past d (at + length a + length b) c body (past d (at + length a) b (c ++ body) (past d at a (b ++ (c ++ body)) (here ∙ row_bytes-then shared suffix f post)))

  module _ (prev_len : ℕ) (restart : Bool) (shares : shared ≤ may_share restart prev_len) (k : KeyOk shared (length suffix)) (h : FieldsOk f) where
    head_at-law : head_at d at prev_len restart ≡ ok (lengths_of at shared suffix f)
    unfolding head_at head_tests key_length_tests
    head_at-law =
        rw (
          lengths_at-law d at shared (length suffix) (length (value_of f)) (suffix ++ (value_of f ++ after_value f post)) (omega (arith, k.fits)) (omega (arith, k.fits)) (omega (arith, h.value-fits))
              (here ∙ row_bytes-then shared suffix f post),
          le-ltb (may_share restart prev_len) shared shares,
          ne_eqb (shared + length suffix) 0 (omega (arith, k.some)),
          le-ltb max_key (shared + length suffix) k.fits,
        )

    pub row_at-law : row_at d at prev_len restart ≡ ok (places_of at shared suffix f)
    unfolding row_at
    row_at-law =
        let l : Lengths = lengths_of at shared suffix f in
        let b = body_at-parts d (lengths_of at shared suffix f) suffix (value_of f) f.seq _ _ _ refl refl h.value-fits h.seq-fits
        (flags_at-law f.kind (present f.expire) (present f.create)) body-here in
        rw (
          head_at-law,
          b.0,
          times_at-law d (seq_at (lengths_of at shared suffix f) + 9) f.kind f.expire f.create post h.expire-fits h.create-fits b.1,
          length-row_bytes shared suffix f,
        )
        (ap (λ (n : ℕ). ok (row_is at (lengths_of at shared suffix f) (body_of at shared suffix f) (times_is f.expire f.create n))) (omega arith))

    -- the row that was laid is read, with its places
    pub read_row-law : (end : ℕ) → at + length (row_bytes shared suffix f) ≤ end → read_row d at end prev_len restart ≡ ok (places_of at shared suffix f)
    unfolding read_row
    read_row-law end w = rw (row_at-law, le-ltb end (at + length (row_bytes shared suffix f)) w)

  -- and at these places stand its fields, and its suffix
  pub places_of-fields : fields_of d (places_of at shared suffix f) ≡ plain f
  places_of-fields =
      let q : drop (value_at (lengths_of at shared suffix f)) d ≡ value_of f ++ after_value f post = past d (body_start at shared suffix f) suffix (value_of f ++ after_value f post) body-here in
      rw (
        kind_of-held_as f.kind (value_at (lengths_of at shared suffix f)) (length (value_of f)),
        held_bytes-held_as d f.kind (value_at (lengths_of at shared suffix f)) (length (value_of f)),
        q,
        take_at (value_of f) (after_value f post) (length (value_of f)) refl,
        kept-kept f.kind f.val,
      )
    where
      kind_of-held_as : (k : Kind) (at n : ℕ) → kind_of (held_as k at n) ≡ k
      kind_of-held_as value at n = refl
      kind_of-held_as tombstone at n = refl
      kind_of-held_as merge at n = refl

      held_bytes-held_as : (d : List ℕ) (k : Kind) (at n : ℕ) → held_bytes d (held_as k at n) ≡ kept k (take n (drop at d))
      held_bytes-held_as d value at n = refl
      held_bytes-held_as d tombstone at n = refl
      held_bytes-held_as d merge at n = refl

      kept-kept : (k : Kind) (v : List ℕ) → kept k (kept k v) ≡ kept k v
      kept-kept value v = refl
      kept-kept tombstone v = refl
      kept-kept merge v = refl

  pub places_of-key : (prev : Key) → key_of d prev (places_of at shared suffix f) ≡ take shared prev ++ suffix
  places_of-key prev = rw (body-here, take_at suffix (value_of f ++ after_value f post) (length suffix) refl)

-- ---- two rows after one previous key, of which one's bytes begin the other's (t₂ empty), or both begin one list, are one

-- a row's bytes at the start of a list, as they are read there
stands_read : (d : List ℕ) (shared : ℕ) (suffix : List ℕ) (f : Fields) (t : List ℕ) → d ≡ row_bytes shared suffix f ++ t
    → StandsRead d (row_bytes shared suffix f) t (places_of 0 shared suffix f) shared suffix f
stands_read d shared suffix f t e =
    record { is = e; ends = omega arith; shares = refl; key = places_of-key d 0 shared suffix f t e []; fields = places_of-fields d 0 shared suffix f t e }

pub prefix-free : (prev_len : ℕ) (restart : Bool) (s₁ : ℕ) (x₁ : List ℕ) (f₁ : Fields) (t₁ : List ℕ) (s₂ : ℕ) (x₂ : List ℕ) (f₂ : Fields) (t₂ : List ℕ)
    → s₁ ≤ may_share restart prev_len → s₂ ≤ may_share restart prev_len → KeyOk s₁ (length x₁) → KeyOk s₂ (length x₂) → FieldsOk f₁ → FieldsOk f₂
    → row_bytes s₁ x₁ f₁ ++ t₁ ≡ row_bytes s₂ x₂ f₂ ++ t₂ → SameRow s₁ x₁ f₁ t₁ s₂ x₂ f₂ t₂
prefix-free prev_len restart s₁ x₁ f₁ t₁ s₂ x₂ f₂ t₂ sh₁ sh₂ k₁ k₂ h₁ h₂ e =
    let d : List ℕ = row_bytes s₁ x₁ f₁ ++ t₁ in
    let g = ok-inj (sym (row_at-law d 0 s₁ x₁ f₁ t₁ refl prev_len restart sh₁ k₁ h₁) ∙ row_at-law d 0 s₂ x₂ f₂ t₂ e prev_len restart sh₂ k₂ h₂) in
    let w = one-row g (stands_read d s₁ x₁ f₁ t₁ refl) (stands_read d s₂ x₂ f₂ t₂ e) in
    record { shares = w.shares; suffixes = w.suffixes; fields = w.fields; bytes = w.bytes; tails = w.tails }

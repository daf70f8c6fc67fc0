-- Laid rows of the earlier format: their bytes are as many as their size says, at least 13; where they stand they are read, with their places, and at these places stands what was
-- laid, both times of a tombstone too; no row's bytes begin a different row's. Each part is read where it stands, by the laws of its numbers, flags and times.
use Rattle.std.specs.Prelude.{ℕ, ◌+◌, ◌^◌, ◌<◌, ◌≤◌, ◌≡◌, refl, List, [], ◌∷◌, ◌++◌, take, drop}
use Rattle.std.proofs.Common.{ap, sym, ◌∙◌, append_assoc, arith, length-append, take_at}
use Rattle.std.proofs.Math.ListN.{length}
use borrow.Author.Tests.{le-ltb, ne_eqb}
use Rattle.layout.specs.Res.{ok}
use Rattle.layout.specs.Limits.{max_key, max_value}
use Rattle.layout.specs.Fixed.{big}
use Rattle.layout.specs.Key.{Key}
use Rattle.layout.specs.Row.{Kind, value, tombstone, merge, Fields, kept, if_so, present, flags_of, time_bytes, key_length_tests, plain}
use Rattle.layout.specs.RowRead.{head_tests, Flags, flags_is, flags_at, held_as, key_of, kind_of, held_bytes, fields_of}
use Rattle.layout.proofs.Laws.Res.{ok-inj}
use Rattle.layout.proofs.Laws.Fixed.{length-big}
use Rattle.layout.proofs.Laws.Place.{past, within, byte_at, fixed_at-law}
use Rattle.layout.specs.Laws.OneRow.{StandsRead}
use Rattle.layout.proofs.Laws.OneRow.{one-row}
use Rattle.layout.specs.Laws.Row.{FieldsOk, KeyOk}
use Rattle.layout.proofs.Laws.Row.{length-time_bytes, flags_at-law, times_at-law}
use Rattle.layout_v1.specs.Row.{value_bytes_of, value_size, row_bytes, row_size, SameRow}
use Rattle.layout_v1.specs.RowRead.{Head, head_is, head_at, seq_at, body_is, body_at, held_is, span_is, value_at, held_at, row_at, read_row}
use Rattle.layout_v1.specs.Laws.Codec.{held_start, places_of, places_to, times_start}

-- ---- lengths

length-value_bytes : (k : Kind) (v : List ℕ) → length (value_bytes_of k v) ≡ value_size k (length v)
length-value_bytes value v = rw (length-append (big 4 (length v)) v, length-big 4 (length v))
length-value_bytes tombstone v = refl
length-value_bytes merge v = rw (length-append (big 4 (length v)) v, length-big 4 (length v))

-- a row's bytes are as many as its size says
pub length-row_bytes : (shared : ℕ) (suffix : List ℕ) (f : Fields)
    → length (row_bytes shared suffix f) ≡ row_size (length suffix) f.kind (length f.val) (present f.expire) (present f.create)
unfolding row_bytes row_size
length-row_bytes shared suffix f = simp (length-append, length-big, length-time_bytes, length-value_bytes) (omega arith)

pub row_bytes-least : (shared : ℕ) (suffix : List ℕ) (f : Fields) → 13 + length suffix ≤ length (row_bytes shared suffix f)
unfolding row_size
row_bytes-least shared suffix f = rw (length-row_bytes shared suffix f) (omega arith)

-- ---- a row's bytes before more bytes

abbrev pub after_suffix : Fields → List ℕ → List ℕ
after_suffix f post =
    big 8 f.seq ++ (flags_of f.kind (present f.expire) (present f.create) ∷ (time_bytes f.expire ++ (time_bytes f.create ++ (value_bytes_of f.kind f.val ++ post))))

pub row_bytes-then : (shared : ℕ) (suffix : List ℕ) (f : Fields) (post : List ℕ)
    → row_bytes shared suffix f ++ post ≡ big 2 shared ++ (big 2 (length suffix) ++ (suffix ++ after_suffix f post))
unfolding row_bytes
row_bytes-then shared suffix f post = simp append_assoc

-- ---- the places of a row that starts at `at`

abbrev pub head_of : ℕ → ℕ → List ℕ → Head
head_of at shared suffix = head_is shared (length suffix) (at + 2 + 2)

-- ---- each part is read where it stands

body_at-law : (d : List ℕ) (h : Head) (suffix : List ℕ) (q fl : ℕ) (more : List ℕ) (f : Flags) → length suffix ≡ h.unshared → q < 2 ^ 64 → flags_at fl ≡ ok f
    → drop h.suffix_at d ≡ suffix ++ (big 8 q ++ (fl ∷ more))
    → (body_at d h ≡ ok (body_is q f (seq_at h + 9))) × (drop (seq_at h + 9) d ≡ more)
unfolding body_at
body_at-law d h suffix q fl more f hs kq hf e =
    let e₁ : drop (seq_at h) d ≡ big 8 q ++ (fl ∷ more) = rw hs at (past d h.suffix_at suffix (big 8 q ++ (fl ∷ more)) e) in
    let e₂ : drop (seq_at h + 8) d ≡ fl ∷ more = rw (length-big 8 q) at (past d (seq_at h) (big 8 q) (fl ∷ more) e₁) in
    let e₃ : drop (seq_at h + 8 + 1) d ≡ more = past d (seq_at h + 8) (fl ∷ []) more e₂ in
    let nine : seq_at h + 9 ≡ seq_at h + 8 + 1 = omega arith in (
      rw (
        le-ltb (length d) (seq_at h + 9) (omega (arith, within d (seq_at h + 8) (fl ∷ []) more e₂ (omega arith))),
        fixed_at-law 8 d (seq_at h) q (fl ∷ more) (omega arith) (omega arith) e₁,
        byte_at d (seq_at h + 8) fl more e₂,
        hf,
      ),
      ap (λ (n : ℕ). drop n d) nine ∙ e₃,
    )

-- the value's length and the value
value_at-law : (d : List ℕ) (at : ℕ) (v post : List ℕ) → length v ≤ max_value → drop at d ≡ (big 4 (length v) ++ v) ++ post
    → (value_at d at ≡ ok (span_is (at + 4) (length v))) × (drop (at + 4) d ≡ v ++ post)
unfolding value_at
value_at-law d at v post k e =
    let e₁ : drop at d ≡ big 4 (length v) ++ (v ++ post) = e ∙ append_assoc (big 4 (length v)) v post in
    let long : length (big 4 (length v) ++ v) ≡ 4 + length v = rw (length-append (big 4 (length v)) v, length-big 4 (length v)) in (
      rw (
        fixed_at-law 4 d at (length v) (v ++ post) (omega arith) (omega arith) e₁,
        le-ltb max_value (length v) k,
        le-ltb (length d) (at + 4 + length v) (omega (arith, long, within d at (big 4 (length v) ++ v) post e (omega arith))),
      ),
      rw (length-big 4 (length v)) at (past d at (big 4 (length v)) (v ++ post) e₁),
    )

held_at-law : (k : Kind) (d : List ℕ) (at : ℕ) (v post : List ℕ) → length (kept k v) ≤ max_value → drop at d ≡ value_bytes_of k v ++ post
    → held_at k d at ≡ ok (held_is (held_as k (at + 4) (length v)) (at + value_size k (length v)))
unfolding held_at
held_at-law value d at v post h e = rw (value_at-law d at v post h e).0 (ap (λ (n : ℕ). ok (held_is (held_as value (at + 4) (length v)) n)) (omega arith))
held_at-law tombstone d at v post h e = ap (λ (n : ℕ). ok (held_is (held_as tombstone (at + 4) (length v)) n)) (omega arith)
held_at-law merge d at v post h e = rw (value_at-law d at v post h e).0 (ap (λ (n : ℕ). ok (held_is (held_as merge (at + 4) (length v)) n)) (omega arith))

held_back : (k : Kind) (d : List ℕ) (at : ℕ) (v post : List ℕ) → length (kept k v) ≤ max_value → drop at d ≡ value_bytes_of k v ++ post
    → (kind_of (held_as k (at + 4) (length v)) ≡ k) × (held_bytes d (held_as k (at + 4) (length v)) ≡ kept k v)
held_back value d at v post h e = (refl, rw (value_at-law d at v post h e).1 (take_at v post (length v) refl))
held_back tombstone d at v post h e = (refl, refl)
held_back merge d at v post h e = (refl, rw (value_at-law d at v post h e).1 (take_at v post (length v) refl))

-- ---- a laid row, where it stands: at `at` of d, before any bytes

module _ (d : List ℕ) (at shared : ℕ) (suffix : List ℕ) (f : Fields) (post : List ℕ) (here : drop at d ≡ row_bytes shared suffix f ++ post) where
  lengths-here : drop at d ≡ big 2 shared ++ (big 2 (length suffix) ++ (suffix ++ after_suffix f post))
  lengths-here = here ∙ row_bytes-then shared suffix f post

  length-here : drop (at + 2) d ≡ big 2 (length suffix) ++ (suffix ++ after_suffix f post)
  length-here = rw (length-big 2 shared) at (past d at (big 2 shared) (big 2 (length suffix) ++ (suffix ++ after_suffix f post)) lengths-here)

  suffix-here : drop (at + 2 + 2) d ≡ suffix ++ after_suffix f post
  suffix-here = rw (length-big 2 (length suffix)) at (past d (at + 2) (big 2 (length suffix)) (suffix ++ after_suffix f post) length-here)

  -- at these places stands its suffix
  pub places_of-key : (prev : Key) → key_of d prev (places_of at shared suffix f) ≡ take shared prev ++ suffix
  places_of-key prev = rw (suffix-here, take_at suffix (after_suffix f post) (length suffix) refl)

  module _ (h : FieldsOk f) where
    body-here : (body_at d (head_of at shared suffix) ≡ ok (body_is f.seq (flags_is f.kind (present f.expire) (present f.create)) (times_start at suffix)))
        × (drop (times_start at suffix) d ≡ time_bytes f.expire ++ (time_bytes f.create ++ (value_bytes_of f.kind f.val ++ post)))
    body-here =
        body_at-law d (head_of at shared suffix) suffix f.seq _ _ _ refl h.seq-fits (flags_at-law f.kind (present f.expire) (present f.create)) suffix-here

    held-here : drop (held_start at suffix f) d ≡ value_bytes_of f.kind f.val ++ post
    held-here =
        let v : List ℕ = value_bytes_of f.kind f.val ++ post in
        let e : drop (times_start at suffix + if_so (present f.expire) 8) d ≡ time_bytes f.create ++ v =
        rw (length-time_bytes f.expire) at (past d (times_start at suffix) (time_bytes f.expire) (time_bytes f.create ++ v) body-here.1) in
        rw (length-time_bytes f.create) at (past d (times_start at suffix + if_so (present f.expire) 8) (time_bytes f.create) v e)

    -- and its fields
    pub places_of-fields : fields_of d (places_of at shared suffix f) ≡ plain f
    places_of-fields =
        let w = held_back f.kind d (held_start at suffix f) f.val post h.value-fits held-here in
        rw (w.0, w.1)

    module _ (most : ℕ) (shares : shared ≤ most) (k : KeyOk shared (length suffix)) where
      head_at-law : head_at d at most ≡ ok (head_of at shared suffix)
      unfolding head_at head_tests key_length_tests
      head_at-law =
          rw (
            fixed_at-law 2 d at shared (big 2 (length suffix) ++ (suffix ++ after_suffix f post)) (omega arith) (omega (arith, k.fits)) lengths-here,
            fixed_at-law 2 d (at + 2) (length suffix) (suffix ++ after_suffix f post) (omega arith) (omega (arith, k.fits)) length-here,
            le-ltb most shared shares,
            ne_eqb (shared + length suffix) 0 (omega (arith, k.some)),
            le-ltb max_key (shared + length suffix) k.fits,
          )

      -- the row that was laid is read, with its places
      pub row_at-law : row_at d at most ≡ ok (places_of at shared suffix f)
      unfolding row_at row_size
      row_at-law =
          rw (
            head_at-law,
            body-here.0,
            times_at-law d (times_start at suffix) f.kind f.expire f.create (value_bytes_of f.kind f.val ++ post) h.expire-fits h.create-fits body-here.1,
            held_at-law f.kind d (held_start at suffix f) f.val post h.value-fits held-here,
            length-row_bytes shared suffix f,
          )
          (ap (λ (n : ℕ). ok (places_to at shared suffix f n)) (omega arith))

      -- in a block, where it ends at its end
      pub read_row-law : (end : ℕ) → at + length (row_bytes shared suffix f) ≡ end → read_row d at end most ≡ ok (places_of at shared suffix f)
      unfolding read_row
      read_row-law end w = rw (row_at-law, le-ltb end (at + length (row_bytes shared suffix f)) (omega arith), le-ltb (at + length (row_bytes shared suffix f)) end (omega arith))

-- ---- two rows after one first key, of which one's bytes begin the other's (t₂ empty), or both begin one list, are one

-- a row's bytes at the start of a list, as they are read there
stands_read : (d : List ℕ) (shared : ℕ) (suffix : List ℕ) (f : Fields) (t : List ℕ) → FieldsOk f → d ≡ row_bytes shared suffix f ++ t
    → StandsRead d (row_bytes shared suffix f) t (places_of 0 shared suffix f) shared suffix f
stands_read d shared suffix f t h e =
    record { is = e; ends = omega arith; shares = refl; key = places_of-key d 0 shared suffix f t e []; fields = places_of-fields d 0 shared suffix f t e h }

pub prefix-free : (most s₁ : ℕ) (x₁ : List ℕ) (f₁ : Fields) (t₁ : List ℕ) (s₂ : ℕ) (x₂ : List ℕ) (f₂ : Fields) (t₂ : List ℕ)
    → s₁ ≤ most → s₂ ≤ most → KeyOk s₁ (length x₁) → KeyOk s₂ (length x₂) → FieldsOk f₁ → FieldsOk f₂
    → row_bytes s₁ x₁ f₁ ++ t₁ ≡ row_bytes s₂ x₂ f₂ ++ t₂ → SameRow s₁ x₁ f₁ t₁ s₂ x₂ f₂ t₂
prefix-free most s₁ x₁ f₁ t₁ s₂ x₂ f₂ t₂ sh₁ sh₂ k₁ k₂ h₁ h₂ e =
    let d : List ℕ = row_bytes s₁ x₁ f₁ ++ t₁ in
    let g = ok-inj (sym (row_at-law d 0 s₁ x₁ f₁ t₁ refl h₁ most sh₁ k₁) ∙ row_at-law d 0 s₂ x₂ f₂ t₂ e h₂ most sh₂ k₂) in
    let w = one-row g (stands_read d s₁ x₁ f₁ t₁ h₁ refl) (stands_read d s₂ x₂ f₂ t₂ h₂ e) in
    record { shares = w.shares; suffixes = w.suffixes; fields = w.fields; bytes = w.bytes; tails = w.tails }

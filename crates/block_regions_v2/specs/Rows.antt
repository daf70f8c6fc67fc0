-- The key of a row put together afterwards, by a second read of rows that were read before: from any row on whose shared bytes are there already. A key on the
-- way may be longer than the slice that it is put together in: what has no room is left out.
use Rattle.std.specs.Prelude.{ℕ, ◌+◌, ◌-◌, ◌<◌, ◌≤◌, ◌≡◌, refl, cond, List, [], ◌∷◌, ◌++◌, eqb, leb, length, take, drop, get_or}
use Rattle.std.proofs.Common.{ap, ◌∙◌, arith, length-append, length-take, get_or-append-add, ext_get_or, length-take-le, take_all, le-leb}
use Rattle.std.proofs.Math.Path.{sym}
use Rattle.std.proofs.Math.Logic.{⊎_elim}
use Rattle.std.proofs.Math.ListN.{get_or-append}
use Rattle.std.proofs.Math.Seq.{get_or-take}
use Rattle.std.proofs.lemmas.Bool.{lt-leb}
use Rattle.layout.specs.Res.{ok, refuse}
use Rattle.layout.specs.Place.{splice}
use Rattle.layout.specs.Key.{Key}
use Rattle.layout.specs.RowRead.{RowRead, key_of}
use Rattle.layout.specs.Plain.{RowSpan, span_of, spans}
use Rattle.layout.specs.Trailer.{Region, row_in}
use Rattle.layout.proofs.Laws.Res.{ltb-cases, ok-inj}
use Rattle.basics.specs.Answers.{apart}
use Rattle.layout.specs.Laws.Carry.{suffix_of}
use Rattle.layout.proofs.Laws.Carry.{key_of-length}
use Rattle.layout.specs.Laws.MatchWalk.{span_suffix}
use Rattle.layout.proofs.Laws.Splice.{length-splice}
use Rattle.layout.proofs.Laws.Tells.{row-shares, row_in-ends}

-- ---- rows that follow one another, from a place after a key to a place after a key

abbrev pub Rows : List ℕ → Region → ℕ → Key → List RowRead → ℕ → Key → Type 0
Rows d g at before [] to last = (at ≡ to) × (before ≡ last)
Rows d g at before (r ∷ rs) to last = (row_in d g at (length before) ≡ ok r) × Rows d g r.next (key_of d before r) rs to last

module _ (d : List ℕ) (g : Region) where
  -- and one row more
  pub rows_on : (at : ℕ) (before : Key) (rs : List RowRead) (to : ℕ) (last : Key) → Rows d g at before rs to last → (r : RowRead)
      → row_in d g to (length last) ≡ ok r → Rows d g at before (rs ++ (r ∷ [])) r.next (key_of d last r)
  rows_on at before [] to last w r e = rw (w.0, w.1) (e, (refl, refl))
  rows_on at before (x ∷ rs) to last w r e = (w.0, rows_on x.next (key_of d before x) rs to last w.1 r e)

  pub rows-far : (at : ℕ) (before : Key) (rs : List RowRead) (to : ℕ) (last : Key) → Rows d g at before rs to last → at ≤ to
  rows-far at before [] to last w = omega (arith, w.0)
  rows-far at before (r ∷ rs) to last w =
      let far = (row_in-ends d g at (length before) r w.0).least in
      let more = rows-far r.next (key_of d before r) rs to last w.1 in
      omega arith

  -- none is left
  pub rows-over : (at : ℕ) (before : Key) (rs : List RowRead) (to : ℕ) (last : Key) → Rows d g at before rs to last → to ≤ at → before ≡ last
  rows-over at before [] to last w h = w.1
  rows-over at before (r ∷ rs) to last w h =
      let far = (row_in-ends d g at (length before) r w.0).least in
      let more = rows-far r.next (key_of d before r) rs to last w.1 in
      absurd (omega arith)

  -- the first of them
  pub rows-first : {A : Type 0} (at : ℕ) (before : Key) (rs : List RowRead) (to : ℕ) (last : Key) → Rows d g at before rs to last → at < to
      → ((r : RowRead) (more : List RowRead) → row_in d g at (length before) ≡ ok r → Rows d g r.next (key_of d before r) more to last → A) → A
  rows-first at before [] to last w h f = absurd (omega (arith, w.0))
  rows-first at before (r ∷ rs) to last w h f = f r rs w.0 w.1

-- ---- bytes put where there is room

unfoldable pub clipped : List ℕ → ℕ → List ℕ → List ℕ
clipped key s w = cond (leb (length key) s) key (splice key s (take (length key - s) w))

module _ (key : List ℕ) (s : ℕ) (w : List ℕ) where
  pub clipped-none : length key ≤ s → key ≡ clipped key s w
  unfolding clipped
  clipped-none h = rw (le-leb (length key) s h)

  module _ (h : s < length key) where
    pub clipped-part : {ys : List ℕ} → ys ≡ splice key s (take (length key - s) w) → ys ≡ clipped key s w
    unfolding clipped
    clipped-part e = rw (lt-leb (length key) s h) e

    pub clipped-whole : {ys : List ℕ} → length w ≤ length key - s → ys ≡ splice key s w → ys ≡ clipped key s w
    clipped-whole k e = clipped-part (e ∙ ap (splice key s) (sym (take_all (length key - s) w k)))

-- ---- two lists agree as far as both go, or in their first n elements

abbrev pub Agrees : List ℕ → List ℕ → Type 0
Agrees key before = (i : ℕ) → i < length key → i < length before → get_or key i 0 ≡ get_or before i 0

abbrev pub AgreesTo : ℕ → List ℕ → List ℕ → Type 0
AgreesTo n key before = (i : ℕ) → i < n → i < length key → i < length before → get_or key i 0 ≡ get_or before i 0

joined-first : (p q : List ℕ) (s i : ℕ) → length p ≡ s → i < s → get_or (p ++ q) i 0 ≡ get_or p i 0
joined-first p q s i e h = get_or-append p q 0 i (omega arith)

joined-second : (p q : List ℕ) (s i : ℕ) → length p ≡ s → s ≤ i → get_or (p ++ q) i 0 ≡ get_or q (i - s) 0
joined-second p q s i e h = ap (λ (k : ℕ). get_or (p ++ q) k 0) (omega arith) ∙ get_or-append-add p q (i - s) 0

module _ (key before w : List ℕ) (s : ℕ) (h : s ≤ length before) (a : AgreesTo s key before) where
  part : length (take s before) ≡ s
  part = length-take-le s before h

  whole_length : length (take s before ++ w) ≡ s + length w
  whole_length = length-append (take s before) w ∙ ap (λ (n : ℕ). n + length w) part

  first-is : (i : ℕ) → i < s → i < length key → get_or key i 0 ≡ get_or (take s before ++ w) i 0
  first-is i k u = a i k u (omega arith) ∙ sym (joined-first (take s before) w s i part k ∙ get_or-take s before i 0 k)

  module _ (k : s < length key) where
    cut-length : (n : ℕ) → n < length key - s → n < length w → n < length (take (length key - s) w)
    cut-length n u v = rw (length-take (length key - s) w) (omega arith)

    put-length : length (splice key s (take (length key - s) w)) ≡ length key
    put-length = length-splice key s (take (length key - s) w) (let m = length-take (length key - s) w in omega arith)

    put_is : (i : ℕ) → i < length key → i < s + length w → get_or (splice key s (take (length key - s) w)) i 0 ≡ get_or (take s before ++ w) i 0
    unfolding splice
    put_is i u v =
        ⊎_elim
        (λ t. joined-first (take s key) _ s i (length-take-le s key (omega arith)) t.1 ∙ get_or-take s key i 0 t.1 ∙ first-is i t.1 u)
        (λ t.
        joined-second (take s key) _ s i (length-take-le s key (omega arith)) t.1
        ∙ get_or-append (take (length key - s) w) _ 0 (i - s) (cut-length (i - s) (omega (arith, t.1)) (omega (arith, t.1)))
        ∙ get_or-take (length key - s) w (i - s) 0 (omega (arith, t.1))
        ∙ sym (joined-second (take s before) w s i part t.1))
        (ltb-cases i s)

  pub agrees_clipped : Agrees (clipped key s w) (take s before ++ w)
  unfolding clipped
  agrees_clipped i =
      ⊎_elim
      (λ t. rw (lt-leb (length key) s t.1) (λ u v. put_is t.1 i (rw (put-length t.1) at u) (rw whole_length at v)))
      (λ t. rw (le-leb (length key) s t.1) (λ u v. first-is i (omega (arith, t.1)) u))
      (ltb-cases s (length key))

pub clipped-length : (key : List ℕ) (s : ℕ) (w : List ℕ) → length (clipped key s w) ≡ length key
unfolding clipped
clipped-length key s w =
    ⊎_elim
    (λ t. rw (lt-leb (length key) s t.1) (length-splice key s (take (length key - s) w) (let m = length-take (length key - s) w in omega (arith, t.1))))
    (λ t. rw (le-leb (length key) s t.1))
    (ltb-cases s (length key))

-- the part of the data that is put, or held against a target, is the suffix
part-is : (from n : ℕ) → from + n - from ≡ n
part-is from n = omega arith

abbrev pub part_of : List ℕ → RowSpan → List ℕ
part_of d p = take (p.suffix_at + p.suffix_len - p.suffix_at) (drop p.suffix_at d)

pub part-suffix : (d : List ℕ) (p : RowSpan) → part_of d p ≡ span_suffix d p
part-suffix d p = rw (part-is p.suffix_at p.suffix_len)

-- ---- the first bytes of the key that rows up to `stop` make, as many as the slice has

pub filling_none : (wanted : Key) (key : List ℕ) → length key ≡ 0 → key ≡ take (length key) wanted
filling_none wanted [] h = refl
filling_none wanted (x ∷ key) h = absurd (omega arith)

module _ (d : List ℕ) (g : Region) (stop : ℕ) (wanted : Key) where
  pub record Filling (key : List ℕ) (at len : ℕ) : Type 0 where
    pub rows : List RowRead
    pub before : Key
    pub long : length before ≡ len
    pub leads : Rows d g at before rows stop wanted
    pub room : length key ≤ length wanted
    -- what the next row shares is there
    pub kept : (r : RowRead) → row_in d g at len ≡ ok r → AgreesTo r.shared key before
    pub whole : stop ≤ at → Agrees key before

  module _ (key : List ℕ) (at len : ℕ) (s : Filling key at len) where
    pub filling_over : stop ≤ at → key ≡ take (length key) wanted
    filling_over h =
        let is : s.before ≡ wanted = rows-over d g at s.before s.rows stop wanted s.leads h in
        let room = s.room in
        let n : length (take (length key) wanted) ≡ length key = length-take-le (length key) wanted room in
        ext_get_or 0 key (take (length key) wanted) (sym n)
        λ i u. s.whole h i u (rw is (omega arith)) ∙ ap (λ (k : Key). get_or k i 0) is ∙ sym (get_or-take (length key) wanted i 0 u)

    module _ (h : at < stop) where
      first : {A : Type 0} → ((r : RowRead) (more : List RowRead) → row_in d g at (length s.before) ≡ ok r
          → row_in d g at len ≡ ok r → Rows d g r.next (key_of d s.before r) more stop wanted → A) → A
      first f =
          rows-first d g at s.before s.rows stop wanted s.leads h λ r more q w. f r more q (rw s.long at q) w

      -- the rows were read before: none is refused
      pub filling_read : {A : Type 0} {n : ℕ} → refuse n ≡ spans (row_in d g at len) → A
      filling_read e = first λ r more q q' w. absurd (apart (sym (e ∙ ap spans q')))

      module _ (p : RowSpan) (e : ok p ≡ spans (row_in d g at len)) where
        more : {ys : List ℕ} → ys ≡ clipped key p.shared (span_suffix d p) → Filling ys p.next (p.shared + p.suffix_len)
        more y =
            first λ r rest q q' w.
            let is : p ≡ span_of r = ok-inj (e ∙ ap spans q') in
            let fits : r.shared ≤ length s.before = rw s.long (row-shares d at g.end len (eqb at g.start) r (row_in-ends d g at len r q')) in
            let all = agrees_clipped key s.before (suffix_of d r) r.shared fits (s.kept r q') in
            rw (y, is)
            (record {
              rows = rest;
              before = key_of d s.before r;
              long = key_of-length d at g.end s.before (eqb at g.start) r q;
              leads = w;
              room = rw (clipped-length key r.shared (suffix_of d r)) s.room;
              kept = λ x u i k l m. all i l m;
              whole = λ u i l m. all i l m;
            })

        pub filling_more : {ys : List ℕ} → ys ≡ clipped key p.shared (part_of d p) → Filling ys p.next (p.shared + p.suffix_len)
        filling_more y = more (rw (part-suffix d p) at y)

-- Where a seek of the earlier format closes: every probe answers, and keys that pass stand before those that do not, so the search closes at the first that does not pass. The
-- rows from there on, or back from there, are those that are walked.
use Prim.Native.Nat.{ℕ, zero, suc, ◌+◌, ◌-◌, ◌<◌, ◌≤◌, zero-le}
use Rattle.std.specs.Prelude.{◌≡◌, Bool, true, false, List, [], ◌∷◌, length, take, drop, get_or}
use Rattle.std.proofs.Common.{sym, ◌∙◌, ⊎_elim, arith, add-zero, add-suc, suc-add, zero-add}
use Rattle.layout.specs.Res.{ok}
use Rattle.layout.specs.Key.{Key}
use Rattle.layout.specs.Trailer.{Trailer}
use Rattle.layout.specs.Cursor.{Keyed}
use Rattle.layout.specs.Seek.{Found, search}
use Rattle.layout_v1.specs.Seek.{key_passes, search_rows}
use Rattle.demands.specs.Reads.{keys_of}
use Rattle.demands_v1.specs.Reads.{RowsFrom, first_key_of, Reads}
use Rattle.layout.proofs.Laws.Res.{ok-inj, ltb-cases, clash}
use Rattle.layout.specs.Laws.Search.{Closed}
use Rattle.layout.proofs.Laws.Search.{search-answers, search-closed}
use Rattle.layout_v1.proofs.Laws.Cursor.{passes-is}
use Rattle.demands_v1.specs.Laws.Reads.{rows-key}

module _ (b : List ℕ) (t : Trailer) (first : Key) where
  -- rows from some number on, and up to one
  pub rows_drop : (i n : ℕ) (ks : List Keyed) → RowsFrom b t first i ks → RowsFrom b t first (i + n) (drop n ks)
  rows_drop i zero ks p = rw (add-zero i) p
  rows_drop i (suc n) [] p = tt
  rows_drop i (suc n) (k ∷ ks) p = rw (add-suc i n, ← suc-add i n) (rows_drop (suc i) n ks p.1)

  pub rows_take : (i n : ℕ) (ks : List Keyed) → RowsFrom b t first i ks → RowsFrom b t first i (take n ks)
  rows_take i zero ks p = tt
  rows_take i (suc n) [] p = tt
  rows_take i (suc n) (k ∷ ks) p = (p.0, rows_take (suc i) n ks p.1)

-- the first n of some keys pass, and no other
abbrev pub Splits : (Key → Bool) → ℕ → List Keyed → Type 0
Splits passes n rows =
    (i : ℕ) → i < length rows → (i < n → passes (get_or (keys_of rows) i []) ≡ true) × (n ≤ i → passes (get_or (keys_of rows) i []) ≡ false)

module _ (b : List ℕ) (t : Trailer) (rows : List Keyed) (q : Reads b t rows) (passes : Key → Bool) (n : ℕ) (splits : Splits passes n rows) (most : n ≤ length rows) where
  probe : (i : ℕ) → i < t.count → key_passes b t (first_key_of rows) passes i ≡ ok (passes (get_or (keys_of rows) i []))
  probe i h =
      passes-is b t (first_key_of rows) i passes (get_or (keys_of rows) i [])
      (rw (zero-add i) at (rows-key b t (first_key_of rows) 0 i rows q.rows-read (omega (arith, q.count-is))))

  closes : (f : Found) → Closed (key_passes b t (first_key_of rows) passes) 0 t.count f → f.place ≡ n
  closes f c =
      ⊎_elim
      (λ l.
      let inside : f.place < length rows = omega (arith, l.1) in
      let here : f.place < t.count = omega (arith, q.count-is) in
      absurd (clash ((splits f.place inside).0 l.1) (ok-inj (sym (probe f.place here) ∙ c.here here))))
      (λ l.
      ⊎_elim
      (λ m.
      let is : suc (f.place - 1) ≡ f.place = omega (arith, m.1) in
      let inside : f.place - 1 < t.count = omega (arith, c.to) in
      absurd
      (clash (ok-inj (sym (probe (f.place - 1) inside) ∙ c.before (f.place - 1) is zero-le)) ((splits (f.place - 1) (omega (arith, q.count-is))).1 (omega (arith, m.1)))))
      (λ m. omega (arith, l.1, m.1))
      (ltb-cases n f.place))
      (ltb-cases f.place n)

  -- so the search answers, and closes there
  pub searched : (f : Found) × (search_rows b t (first_key_of rows) passes ≡ ok f) × (f.place ≡ n)
  unfolding search_rows
  searched =
      let r = answers in
      (r.0, r.1, closes r.0 (search-closed (key_passes b t (first_key_of rows) passes) 0 t.count r.0 zero-le r.1))
    where
      answers : (f : Found) × (search (key_passes b t (first_key_of rows) passes) 0 t.count ≡ ok f)
      answers = unfold search in search-answers (t.count - 0) (key_passes b t (first_key_of rows) passes) (λ (i : ℕ). passes (get_or (keys_of rows) i [])) 0 t.count probe

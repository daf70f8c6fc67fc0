-- "Cut a readable one at any byte: the balance is that of the complete records before the cut, and an incomplete tail is reported with its start."
use Rattle.std.specs.Prelude.{ℕ, ◌+◌, ◌≤◌, ◌<◌, ◌≡◌, refl, Bool, true, false, cond, List, [], ◌∷◌, ltb, leb, eqb, length, take, Ok, Err}
use Rattle.std.proofs.Common.{ap, sym, ◌∙◌, subst, ⊎_elim, arith, length-take-le, ltb-true, ltb-false, leb-true, le-leb}
use Rattle.std.proofs.lemmas.Bool.{lt-leb, eqb-false}
use Rattle.layout.proofs.Laws.Res.{ltb-cases}
use Rattle.journal.specs.declared.Record.{Record}
use Rattle.journal.specs.declared.Refusal.TheVariants.{UnknownKind}
use Rattle.journal.specs.declared.Found.TheVariants.{Whole, Incomplete, End}
use Rattle.journal.specs.Record.{length_of, kind_of, kind_at, body_at, found_in}
use Rattle.journal_read.specs.Reader.{holds, journal_of, tail_of}
use Rattle.journal_balance.specs.Balance.{balance_of, settled, balance_in}
use Rattle.journal.specs.Laws.Found.{Tells, tells}
use Rattle.journal_demands.specs.Run.{Run, over, tail, more, run_of, read-run, readable_short, next-is}
use Rattle.journal_demands.specs.Parts.{found_shorter, found-cut, found-past}

-- of records that stand from `at` on: those that are complete before n, and where these end
unfoldable pub complete_by : ℕ → ℕ → List Record → List Record
complete_by n at [] = []
complete_by n at (r ∷ rs) = cond (leb (at + length_of (kind_of r)) n) (r ∷ complete_by n (at + length_of (kind_of r)) rs) []

unfoldable pub end_by : ℕ → ℕ → List Record → ℕ
end_by n at [] = at
end_by n at (r ∷ rs) = cond (leb (at + length_of (kind_of r)) n) (end_by n (at + length_of (kind_of r)) rs) at

-- an incomplete record is there for a kind that has a length, and is longer than what is left
unfinished : (d : List ℕ) (at : ℕ) → found_in d at ≡ Ok Incomplete → (0 < length_of (kind_at d at)) × (length d < at + length_of (kind_at d at))
unfolding found_in
unfinished d at e = go (leb (length d) at) (eqb (length_of (kind_at d at)) 0) refl (ltb (length d) (at + length_of (kind_at d at))) refl e
  where
    go : (a b : Bool) → eqb (length_of (kind_at d at)) 0 ≡ b → (t : Bool) → ltb (length d) (at + length_of (kind_at d at)) ≡ t
        → cond a (Ok End) (cond b (Err (UnknownKind at)) (cond t (Ok Incomplete) (Ok (Whole (body_at (kind_at d at) d at) (at + length_of (kind_at d at)))))) ≡ Ok Incomplete
        → (0 < length_of (kind_at d at)) × (length d < at + length_of (kind_at d at))
    go true b q t u e = absurd (let z : ◌≡◌ {A = ℕ} 0 1 = cc in omega arith)
    go false true q t u e = absurd (let z : ◌≡◌ {A = ℕ} 0 1 = cc in omega arith)
    go false false q true u e = (positive (length_of (kind_at d at)) (eqb-false (length_of (kind_at d at)) 0 q), ltb-true (length d) (at + length_of (kind_at d at)) u)
      where
        positive : (n : ℕ) → (n ≡ 0 → ⊥) → 0 < n
        positive n h = omega arith
    go false false q false u e = absurd (let z : ◌≡◌ {A = ℕ} 0 1 = cc in omega arith)

ended : (d : List ℕ) (at : ℕ) → found_in d at ≡ Ok End → length d ≤ at
unfolding found_in
ended d at e = go (leb (length d) at) refl (eqb (length_of (kind_at d at)) 0) (ltb (length d) (at + length_of (kind_at d at))) e
  where
    go : (a : Bool) → leb (length d) at ≡ a → (b t : Bool)
        → cond a (Ok End) (cond b (Err (UnknownKind at)) (cond t (Ok Incomplete) (Ok (Whole (body_at (kind_at d at) d at) (at + length_of (kind_at d at)))))) ≡ Ok End → length d ≤ at
    go true p b t e = leb-true (length d) at p
    go false p true t e = absurd (let z : ◌≡◌ {A = ℕ} 0 1 = cc in omega arith)
    go false p false true e = absurd (let z : ◌≡◌ {A = ℕ} 0 1 = cc in omega arith)
    go false p false false e = absurd (let z : ◌≡◌ {A = ℕ} 0 1 = cc in omega arith)

module _ (n : ℕ) (d : List ℕ) (h : n ≤ length d) where
  -- nothing is complete between `at` and the cut
  stops : {at : ℕ} → at ≤ n → 0 < length_of (kind_at d at) → n < at + length_of (kind_at d at) → Run (take n d) at [] at
  stops {at} k s f = ⊎_elim (λ u. tail (found-cut n d h at u.1 s f)) (λ u. over (found-past n d h at u.1)) (ltb-cases at n)

  none-by : (at : ℕ) → (complete_by n at [] ≡ []) × (end_by n at [] ≡ at)
  unfolding complete_by end_by
  none-by at = (refl, refl)

  stop-by : (at : ℕ) (r : Record) (rs : List Record) → n < at + length_of (kind_of r) → (complete_by n at (r ∷ rs) ≡ []) × (end_by n at (r ∷ rs) ≡ at)
  unfolding complete_by end_by
  stop-by at r rs k = rw (lt-leb (at + length_of (kind_of r)) n k) (refl, refl)

  more_by : (at : ℕ) (r : Record) (rs : List Record) → at + length_of (kind_of r) ≤ n
      → (complete_by n at (r ∷ rs) ≡ r ∷ complete_by n (at + length_of (kind_of r)) rs) × (end_by n at (r ∷ rs) ≡ end_by n (at + length_of (kind_of r)) rs)
  unfolding complete_by end_by
  more_by at r rs k = rw (le-leb (at + length_of (kind_of r)) n k) (refl, refl)

  made_of : {at : ℕ} {qs ps : List Record} {e f : ℕ} → (qs ≡ ps) × (e ≡ f) → Run (take n d) at ps f → Run (take n d) at qs e
  made_of {at} {qs} {ps} {e} {f} p w = subst (λ (x : ℕ). Run (take n d) at qs x) (sym p.1) (subst (λ (l : List Record). Run (take n d) at l f) (sym p.0) w)

  pub run-cut : {at : ℕ} {rs : List Record} {end : ℕ} → at ≤ n → Run d at rs end → Run (take n d) at (complete_by n at rs) (end_by n at rs)
  run-cut {at} k (over e) = made_of (none-by at) (over (found-past n d h at (omega (arith, ended d at e))))
  run-cut {at} k (tail e) = let u = unfinished d at e in made_of (none-by at) (stops k u.0 (omega (arith, u.1)))
  run-cut {at} k (more {next} {r} {rs} e w) =
      let t = tells d at r next e in
      let q = next-is d at r next e in
      go (ltb n next) refl (λ l. run-cut l w) t q
    where
      go : (b : Bool) → ltb n next ≡ b → (next ≤ n → Run (take n d) next (complete_by n next rs) (end_by n next rs)) → Tells d at r next → next ≡ at + length_of (kind_of r)
          → Run (take n d) at (complete_by n at (r ∷ rs)) (end_by n at (r ∷ rs))
      go true p ih t q =
          let l = ltb-true n next p in
          made_of (stop-by at r rs (omega arith)) (stops k t.some (omega (arith, t.past)))
      go false p ih t q =
          let l : next ≤ n = ltb-false n next p in
          let w' : Run (take n d) (at + length_of (kind_of r)) (complete_by n (at + length_of (kind_of r)) rs) (end_by n (at + length_of (kind_of r)) rs) =
          subst (λ (x : ℕ). Run (take n d) x (complete_by n x rs) (end_by n x rs)) q (ih l) in
          made_of (more_by at r rs (omega arith)) (more (found_shorter n d h at r next e l ∙ ap (λ (m : ℕ). Ok (Whole r m)) q) w')

pub balance_holds : (d : List ℕ) (rs : List Record) (end card : ℕ) → journal_of d ≡ holds rs end → balance_in d card ≡ Ok (record { balance = balance_of card rs; tail = tail_of end (length d) })
unfolding balance_in
balance_holds d rs end card e = ap (settled card (length d)) e

-- the records of a part, and its balances
pub cut_anywhere : (d : List ℕ) (rs : List Record) (end : ℕ) → journal_of d ≡ holds rs end → (n : ℕ) → n ≤ length d
    → (journal_of (take n d) ≡ holds (complete_by n 0 rs) (end_by n 0 rs))
    × ((card : ℕ) → balance_in (take n d) card ≡ Ok (record { balance = balance_of card (complete_by n 0 rs); tail = tail_of (end_by n 0 rs) n }))
cut_anywhere d rs end e n h =
    let long : length (take n d) ≡ n = length-take-le n d h in
    let part : journal_of (take n d) ≡ holds (complete_by n 0 rs) (end_by n 0 rs) =
    read-run (omega (arith, long, readable_short d rs end e)) (run-cut n d h (omega arith) (run_of d rs end e)) in
    (part, λ card. balance_holds (take n d) (complete_by n 0 rs) (end_by n 0 rs) card part ∙ ap (λ (m : ℕ). Ok (record { balance = balance_of card (complete_by n 0 rs); tail = tail_of (end_by n 0 rs) m })) long)

-- A restart's key as a search meets it: read alone, it lies inside the data and the region. And the regions that the searches answer: each is below the count.
use Rattle.std.specs.Prelude.{ℕ, zero, suc, ◌+◌, ◌-◌, ◌<◌, ◌≤◌, ◌≡◌, Bool, List, ltb, length}
use Rattle.std.proofs.Common.{⊎_elim, arith, ltb-false}
use Rattle.layout.specs.Res.{ok}
use Rattle.layout.specs.Key.{Key, same}
use Rattle.layout.specs.RowRead.{value_at, head_at, KeyRead, read_key}
use Rattle.layout.specs.Trailer.{Trailer}
use Rattle.layout.specs.Seek.{Found, restart_key, restart_below, search_restarts, last_equal, start_down}
use Rattle.layout.proofs.Laws.Res.{bind-then, guard-then, cond-ok, ok-inj, ltb-cases}
use Rattle.layout.proofs.Laws.Search.{search-closed}

-- ---- the key read alone

pub read_key-ends : (d : List ℕ) (at end prev_len : ℕ) (restart : Bool) (k : KeyRead) → read_key d at end prev_len restart ≡ ok k
    → (k.suffix_at + k.suffix_len ≤ length d) × (k.suffix_at + k.suffix_len ≤ end)
unfolding read_key
read_key-ends d at end prev_len restart k e =
    bind-then (head_at d at prev_len restart) _ k e λ l p q.
    guard-then (ltb (length d) (value_at l)) 9 _ k q λ t₁ q₁.
    guard-then (ltb end (value_at l)) 16 _ k q₁ λ t₂ q₂.
    rw (← ok-inj q₂) (ltb-false (length d) (value_at l) t₁, ltb-false end (value_at l) t₂)

-- ---- the regions answered

pub search-inside : (b : List ℕ) (t : Trailer) (target : Key) (f : Found) → search_restarts b t target ≡ ok f → f.place ≤ t.count
unfolding search_restarts
search-inside b t target f e = (search-closed (restart_below b t target) 0 t.count f (omega arith) e).to

pub run_inside : (left : ℕ) (b : List ℕ) (t : Trailer) (target : Key) (i r : ℕ) → last_equal left b t target i ≡ ok r → i < t.count → r < t.count
unfolding last_equal
run_inside zero b t target i r e h = let q = ok-inj e in omega arith
run_inside (suc left) b t target i r e h =
    ⊎_elim
    (λ u.
    bind-then (restart_key b t (i + 1)) _ r (rw u.0 at e) λ k p q.
    ⊎_elim (λ v. run_inside left b t target (i + 1) r v.1 u.1) (λ v. let w = ok-inj v.1 in omega arith) (cond-ok (same k target) _ _ r q))
    (λ u. let w : i ≡ r = ok-inj (rw u.0 at e) in omega arith)
    (ltb-cases (i + 1) t.count)

pub start-inside : (b : List ℕ) (t : Trailer) (target : Key) (place r : ℕ) → start_down b t target place ≡ ok r → place ≤ t.count → 1 ≤ t.count → r < t.count
unfolding start_down
start-inside b t target place r e h c =
    ⊎_elim
    (λ u.
    bind-then (restart_key b t place) _ r (rw u.0 at e) λ k p q.
    ⊎_elim (λ v. run_inside t.count b t target place r v.1 u.1) (λ v. let w = ok-inj v.1 in omega arith) (cond-ok (same k target) _ _ r q))
    (λ u. let w : place - 1 ≡ r = ok-inj (rw u.0 at e) in omega arith)
    (ltb-cases place t.count)

-- A run keeps what each of its calls keeps: that state and buffers are those of the rows accepted so far (`Made` of the format). And build has one answer.
use Rattle.std.specs.Prelude.{ℕ, ◌≡◌, refl, length, take}
use Rattle.std.proofs.Common.{ap, sym, ◌∙◌}
use mathlib.Core.List.{List, [], ◌∷◌, ◌++◌, append_assoc, append-nil}
use Rattle.layout.specs.Res.{Res, ok, refuse}
use Rattle.layout.specs.Row.{Row, Typed}
use Rattle.demands.specs.Lends.{Maker, Call, offer, would-fit, is-empty, finish, lend_on, taken, LendingOf, lending_of, add_to, build_of, after, accepted, run, rows_of, BeginAlike, TypedCall, TypedCalls, RanOf, FinishesOf}
use Rattle.layout.proofs.Laws.Res.{ok-inj}

-- what is said of rows, state and buffers is kept by an accepted row, with that row at the end, by other buffers that begin alike, and by a build, which leaves such
pub record Keeps (m : Maker) (P : List Row → m.State → List ℕ → List ℕ → Type 0) : Type 0 where
  pub more : (rs : List Row) (b : m.State) (bytes places : List ℕ) (r : Row) (b' : m.State) → P rs b bytes places → Typed r.fields
      → m.add b (length bytes) (length places) r.key r.fields ≡ ok b'
      → P (rs ++ (r ∷ [])) b' (m.data_after_of (ok b') b r.key r.fields bytes) (m.places_after_of (ok b') b places)
  pub given : (b b' : m.State) → m.state_after_of (ok b') b ≡ b'
  pub untouched : (b : m.State) (bytes places : List ℕ) (r : Row) (k : ℕ)
      → (m.state_after_of (refuse k) b ≡ b) × (m.data_after_of (refuse k) b r.key r.fields bytes ≡ bytes) × (m.places_after_of (refuse k) b places ≡ places)
  pub unbuilt : (b : m.State) (bytes places : List ℕ) (k : ℕ) → m.block_after_of (refuse k) b bytes places ≡ bytes
  pub longer : (rs : List Row) (h : LendingOf m) (bytes places : List ℕ) → P rs h.builder h.bytes h.places → BeginAlike m h bytes places → P rs h.builder bytes places
  pub finished : (rs : List Row) (b : m.State) (bytes places : List ℕ) (k : ℕ) → P rs b bytes places → m.build b (length bytes) (length places) ≡ ok k
      → P rs b (m.block_after_of (ok k) b bytes places) places

module _ (m : Maker) (P : List Row → m.State → List ℕ → List ℕ → Type 0) (keeps : Keeps m P) where
  kept-after : (rs : List Row) (h : LendingOf m) (c : Call) → P rs h.builder h.bytes h.places → TypedCall m h c
      → P (rs ++ accepted m h c) (after m h c).builder (after m h c).bytes (after m h c).places
  kept-after rs h (offer r) p t = go (add_to m h r) refl
    where
      go : (x : Res m.State) → add_to m h r ≡ x → P (rs ++ taken (add_to m h r) r) (after m h (offer r)).builder (after m h (offer r)).bytes (after m h (offer r)).places
      go (ok b) e = rw (e, keeps.given h.builder b) (keeps.more rs h.builder h.bytes h.places r b p t e)
      go (refuse k) e = let u = keeps.untouched h.builder h.bytes h.places r k in rw (e, append-nil rs, u.0, u.1, u.2) p
  kept-after rs h (would-fit r) p t = rw (append-nil rs) p
  kept-after rs h is-empty p t = rw (append-nil rs) p
  kept-after rs h finish p t = rw (append-nil rs) (go (build_of m h) refl)
    where
      go : (x : Res ℕ) → build_of m h ≡ x → P rs h.builder (m.block_after_of (build_of m h) h.builder h.bytes h.places) h.places
      go (ok k) e = rw e (keeps.finished rs h.builder h.bytes h.places k p e)
      go (refuse k) e = rw (e, keeps.unbuilt h.builder h.bytes h.places k) p
  kept-after rs h (lend_on bytes places) p t = rw (append-nil rs) (keeps.longer rs h bytes places p t)

  kept_run : (rs : List Row) (h : LendingOf m) (cs : List Call) → P rs h.builder h.bytes h.places → TypedCalls m h cs
      → P (rs ++ rows_of m h cs) (run m h cs).builder (run m h cs).bytes (run m h cs).places
  unfolding rows_of run
  kept_run rs h [] p t = rw (append-nil rs) p
  kept_run rs h (c ∷ cs) p t =
      rw (append_assoc rs (accepted m h c) (rows_of m (after m h c) cs)) at (kept_run (rs ++ accepted m h c) (after m h c) cs (kept-after rs h c p t.0) t.1)

  -- so of a fresh builder's run, if it holds of a fresh builder, whatever its buffers hold
  pub kept-ran : (new : Res m.State) (cs : List Call) (rows : List Row) (end : LendingOf m) → ((b : m.State) (bytes places : List ℕ) → new ≡ ok b → P [] b bytes places)
      → RanOf m new cs rows end → P rows end.builder end.bytes end.places
  kept-ran new cs rows end none r =
      rw (r.rows_are, r.ends) (kept_run [] (lending_of m r.fresh-one r.bytes r.places) cs (none r.fresh-one r.bytes r.places r.is-new) r.typed)

-- one answer of build, one block
pub finishes_one : (m : Maker) (h : LendingOf m) (x y : List ℕ) → FinishesOf m h x → FinishesOf m h y → x ≡ y
finishes_one m h x y f g =
    let n : f.n ≡ g.n = ok-inj (sym f.answers ∙ g.answers) in
    sym f.block-is ∙ ap (λ (k : ℕ). take k (m.block_after_of (ok k) h.builder h.bytes h.places)) n ∙ g.block-is

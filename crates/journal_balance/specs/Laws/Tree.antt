-- The tree of the records passed. A slot that has a place keeps it, so a walk that met a record meets it again: only an empty slot at a walk's end is filled. A walk that ends at
-- an empty slot has met no record of its name, and each one of the card that was passed is met: so there was none.
use Rattle.std.specs.Prelude.{ℕ, zero, suc, ◌+◌, ◌*◌, ◌/◌, ◌≤◌, ◌<◌, ◌≡◌, refl, Bool, true, false, ◌&&◌, ◌||◌, List, [], ◌∷◌, eqb, length, get_or, set, replicate, Ok}
use Rattle.std.proofs.Common.{ap, sym, ◌∙◌, ⊎_elim, arith, length-set, get_or-set_same, get_or-set_other, eq-eqb, eqb-true}
use Rattle.std.proofs.lemmas.List.{length-replicate}
use Rattle.layout.proofs.Laws.Res.{eqb-cases, clash}
use Rattle.journal.specs.declared.Record.{Record}
use Rattle.journal.specs.declared.Found.TheVariants.{Whole}
use Rattle.journal.specs.Record.{length_of, kind_of, card_of, retry_of, number_at, kind_at, body_at, found_in, max_journal}
use Rattle.journal.specs.Laws.Found.{found-moves, found-whole, found-kind, found-card, found_retry}
use Rattle.journal_balance.specs.Counts.{some}
use Rattle.journal_balance.specs.Parts.{Walk, here as walk_here, step, Earlier, Named, named}
use Rattle.journal_balance.specs.Tree.{slots, root, below, Met, here, there, Node, Tree, Offers, Keeps}
use Rattle.journal_balance.specs.Laws.Walk.{walk-le, walk_more, walk-over, walk-rest, some-none, some_more, or-true}

-- ---- what was passed is one list

passed-one : {d : List ℕ} {end : ℕ} {all : List Record} {at : ℕ} {all' before : List Record} → Walk d end all at before → Walk d end all' at before → all ≡ all'
passed-one walk_here v = sym (walk-over v (omega arith))
passed-one {d} {end} {all} {at} {all'} {before} (step {next} {r} e w) v =
    let l : at < end = let m = found-moves d at r next e in omega (arith, walk-le w) in
    walk-rest v l λ q next' f u.
    let same : q ≡ r = cc in
    let on : next' ≡ next = cc in
    passed-one w (rw (same, on) at u)

-- ---- names

and-true : (a b : Bool) → a && b ≡ true → (a ≡ true) × (b ≡ true)
and-true true b e = (refl, e)
and-true false b e = absurd (clash e refl)

module _ (kind card retry : ℕ) (r : Record) where
  pub named-is : kind_of r ≡ kind → card_of r ≡ card → retry_of r ≡ retry → named kind card retry r ≡ true
  named-is k c y = rw (eq-eqb kind (kind_of r) (sym k), eq-eqb card (card_of r) (sym c), eq-eqb retry (retry_of r) (sym y))

  named-tells : named kind card retry r ≡ true → (kind ≡ kind_of r) × (card ≡ card_of r) × (retry ≡ retry_of r)
  named-tells e =
      let a = and-true (eqb kind (kind_of r)) (eqb card (card_of r) && eqb retry (retry_of r)) e in
      let b = and-true (eqb card (card_of r)) (eqb retry (retry_of r)) a.1 in
      (eqb-true kind (kind_of r) a.0, eqb-true card (card_of r) b.0, eqb-true retry (retry_of r) b.1)

-- ---- slots that keep their places

abbrev pub Grows : List ℕ → List ℕ → Type 0
Grows tree tree' = (slot p : ℕ) → get_or tree slot 0 ≡ p + 1 → get_or tree' slot 0 ≡ p + 1

met-grows : {d tree tree' : List ℕ} {kind card retry slot bits : ℕ} → Grows tree tree' → Met d tree kind card retry slot bits → Met d tree' kind card retry slot bits
met-grows g (here {slot} p e n) = here p (g slot p e) n
met-grows g (there {slot} p e m) = there p (g slot p e) (met-grows g m)

zeros : (n slot : ℕ) → ◌≡◌ {A = ℕ} (get_or (replicate n 0) slot 0) 0
zeros zero slot = refl
zeros (suc n) zero = refl
zeros (suc n) (suc slot) = zeros n slot

pub tree-start : (d : List ℕ) (card n : ℕ) → n ≡ slots → Tree d card 0 (replicate n 0)
tree-start d card n e =
    record {
      before = [];
      passed = walk_here;
      size = length-replicate {A = ℕ} n 0 ∙ e;
      nodes = λ slot p q. absurd (omega (arith, zeros n slot, q));
      whole = λ kind retry l s. absurd (clash s (some-none (named kind card retry)));
    }

-- ---- a record is passed

module _ (d : List ℕ) (card at : ℕ) (tree : List ℕ) (t : Tree d card at tree) (r : Record) (next : ℕ) (e : found_in d at ≡ Ok (Whole r next)) where
  some-on : (test : Record → Bool) → some test t.before ≡ true → some test (r ∷ t.before) ≡ true
  some-on test h = some_more test r t.before ∙ ap (λ (b : Bool). test r || b) h ∙ or-true (test r)

  node-on : {slot p : ℕ} → Node d at t.before slot p → Node d next (r ∷ t.before) slot p
  node-on n =
      record {
        is = n.is;
        next = n.next;
        found = n.found;
        among = λ test h. some-on test (n.among test h);
        early = let m = found-moves d at r next e in omega (arith, n.early);
        above = n.above;
      }

  tree-grows : (tree' : List ℕ) → length tree' ≡ length tree → Grows tree tree' → ((slot p : ℕ) → get_or tree' slot 0 ≡ p + 1 → Node d next (r ∷ t.before) slot p)
      → ((kind retry : ℕ) → named kind card retry r ≡ true → Met d tree' kind card retry (root kind) retry) → Tree d card next tree'
  tree-grows tree' size g nodes own =
      record {
        before = r ∷ t.before;
        passed = walk_more t.passed e;
        size = size ∙ t.size;
        nodes = nodes;
        whole = λ kind retry l s. go kind retry l (named kind card retry r) refl (sym (some_more (named kind card retry) r t.before) ∙ s);
      }
    where
      go : (kind retry : ℕ) → length_of kind ≡ 21 → (b : Bool) → named kind card retry r ≡ b → b || some (named kind card retry) t.before ≡ true
          → Met d tree' kind card retry (root kind) retry
      go kind retry l true q s = own kind retry q
      go kind retry l false q s = met-grows g (t.whole kind retry l s)

  -- another card's: the tree stays
  pub tree-other : (card_of r ≡ card → ⊥) → Tree d card next tree
  tree-other n = tree-grows tree refl (λ slot p q. q) (λ slot p q. node-on (t.nodes slot p q)) (λ kind retry q. absurd (n (sym (named-tells kind card retry r q).1)))

  module _ (kind retry : ℕ) (k : kind_of r ≡ kind) (y : retry_of r ≡ retry) where
    own-met : (tree' : List ℕ) → Met d tree' kind card retry (root kind) retry → (kind' retry' : ℕ) → named kind' card retry' r ≡ true → Met d tree' kind' card retry' (root kind') retry'
    own-met tree' m kind' retry' q =
        let n = named-tells kind' card retry' r q in
        let a : kind ≡ kind' = sym (n.0 ∙ k) in
        let b : retry ≡ retry' = sym (n.2 ∙ y) in
        rw (a, b) at m

    -- a double: the tree stays
    pub tree-double : Met d tree kind card retry (root kind) retry → Tree d card next tree
    tree-double m = tree-grows tree refl (λ slot p q. q) (λ slot p q. node-on (t.nodes slot p q)) (own-met tree m)

-- ---- the search

-- a walk from the root meets a record of the name if and only if it does from this slot on; the second also in trees that grow from this one
pub record Seeking (d tree : List ℕ) (kind card retry slot bits : ℕ) : Type 0 where
  pub onward : Met d tree kind card retry (root kind) retry → Met d tree kind card retry slot bits
  pub back : (tree' : List ℕ) → Grows tree tree' → Met d tree' kind card retry slot bits → Met d tree' kind card retry (root kind) retry

pub seeking_start : (d tree : List ℕ) (kind card retry : ℕ) → Seeking d tree kind card retry (root kind) retry
seeking_start d tree kind card retry = record { onward = λ m. m; back = λ tree' g m. m }

module _ (d : List ℕ) (card at : ℕ) (tree : List ℕ) (t : Tree d card at tree) (kind retry slot bits : ℕ) (s : Seeking d tree kind card retry slot bits) where
  module _ (p : ℕ) (h : get_or tree slot 0 ≡ p + 1) where
    -- another's: the walk goes on
    pub seeking_more : Named d p kind card retry false → Seeking d tree kind card retry (below p bits) (bits / 2)
    seeking_more n = record { onward = λ m. go (s.onward m); back = λ tree' g m. s.back tree' g (there p (g slot p h) m) }
      where
        go : Met d tree kind card retry slot bits → Met d tree kind card retry (below p bits) (bits / 2)
        go (here q e y) =
            let same : q ≡ p = omega (arith, e, h) in
            let node = t.nodes slot p h in
            let yes : Named d p kind card retry true = rw same at y in
            absurd (clash (sym (yes node.is node.next node.found)) (sym (n node.is node.next node.found)))
        go (there q e m) = let same : q ≡ p = omega (arith, e, h) in rw same at m

    -- found: it came before, and the walk has met it
    pub seeking_found : Named d p kind card retry true → Earlier d at kind card retry true
    seeking_found y before w =
        let node = t.nodes slot p h in
        sym (ap (some (named kind card retry)) (passed-one w t.passed) ∙ node.among (named kind card retry) (sym (y node.is node.next node.found)))

    pub seeking_met : Named d p kind card retry true → Met d tree kind card retry (root kind) retry
    seeking_met y = s.back tree (λ i q e. e) (here p h y)

  module _ (free : get_or tree slot 0 ≡ 0) where
    nothing : Met d tree kind card retry slot bits → ⊥
    nothing (here q e y) = omega (arith, e, free)
    nothing (there q e m) = omega (arith, e, free)

    -- an empty slot: none came before
    pub seeking_none : length_of kind ≡ 21 → Earlier d at kind card retry false
    seeking_none l before w = sym (ap (some (named kind card retry)) (passed-one w t.passed) ∙ go (some (named kind card retry) t.before) refl)
      where
        go : (b : Bool) → some (named kind card retry) t.before ≡ b → some (named kind card retry) t.before ≡ false
        go true q = absurd (nothing (s.onward (t.whole kind retry l q)))
        go false q = q

    -- and this one is put there
    module _ (r : Record) (next : ℕ) (e : found_in d at ≡ Ok (Whole r next)) (k : kind_of r ≡ kind) (c : card_of r ≡ card) (y : retry_of r ≡ retry) (long : next ≡ at + 21) (size : at + 21 ≤ max_journal)
        (above : slot < 2 + at / 21 * 2) where
      in' : slot < length tree
      in' = omega (arith, t.size, size, above)

      abbrev planted : List ℕ
      planted = set tree slot (at + 1)

      keeps : Grows tree planted
      keeps i p q = get_or-set_other tree slot i (at + 1) 0 (λ same. absurd (omega (arith, free, q, ap (λ (n : ℕ). get_or tree n 0) same))) ∙ q

      own-node : (p : ℕ) → p ≡ at → Node d next (r ∷ t.before) slot p
      own-node p same =
          rw same (record {
            is = r;
            next = next;
            found = e;
            among = λ test h. some_more test r t.before ∙ ap (λ (b : Bool). b || some test t.before) h;
            early = omega arith;
            above = above;
          })

      node : (i p : ℕ) → get_or planted i 0 ≡ p + 1 → Node d next (r ∷ t.before) i p
      node i p q =
          ⊎_elim
          (λ u. let same : i ≡ slot = u.1 in
          let mine : get_or planted slot 0 ≡ p + 1 = rw same at q in
          rw same (own-node p (omega (arith, mine, get_or-set_same tree slot (at + 1) 0 in'))))
          (λ u. node-on d card at tree t r next e (t.nodes i p (sym (get_or-set_other tree slot i (at + 1) 0 u.1) ∙ q)))
          (eqb-cases i slot)

      pub tree-planted : Tree d card next (set tree slot (at + 1))
      tree-planted =
          tree-grows d card at tree t r next e planted (length-set tree slot (at + 1)) keeps node
          (own-met d card at tree t r next e kind retry k y planted (s.back planted keeps (here at (get_or-set_same tree slot (at + 1) 0 in') named_here)))
        where
          named_here : Named d at kind card retry true
          named_here q next' f = let same : r ≡ q = cc in sym (named-is kind card retry q (rw same at k) (rw same at c) (rw same at y))

-- ---- the record that is offered

module _ (d : List ℕ) (at kind card retry : ℕ) (o : Offers d at kind card retry) where
  long-here : length_of (kind_at d at) ≡ 21
  long-here = ap length_of (sym o.kind-is) ∙ o.long

  offers_found : found_in d at ≡ Ok (Whole (body_at (kind_at d at) d at) (at + 21))
  offers_found =
      let l = long-here in
      found-whole d at (omega (arith, o.inside)) (λ z. absurd (omega (arith, l, z))) (omega (arith, l, o.inside)) ∙ ap (λ (n : ℕ). Ok (Whole (body_at (kind_at d at) d at) (at + n))) l

  module _ (tree : List ℕ) (t : Tree d card at tree) where
    pub offered-double : Met d tree kind card retry (root kind) retry → Tree d card (at + 21) tree
    offered-double =
        tree-double d card at tree t (body_at (kind_at d at) d at) (at + 21) offers_found kind retry
        (found-kind d at (body_at (kind_at d at) d at) (at + 21) offers_found ∙ sym o.kind-is)
        (found_retry d at (body_at (kind_at d at) d at) (at + 21) offers_found long-here ∙ sym o.retry_is)

    pub offered-new : (slot bits : ℕ) → Seeking d tree kind card retry slot bits → get_or tree slot 0 ≡ 0 → slot < 2 + at / 21 * 2
        → Tree d card (at + 21) (set tree slot (at + 1))
    offered-new slot bits s free above =
        tree-planted d card at tree t kind retry slot bits s free (body_at (kind_at d at) d at) (at + 21) offers_found
        (found-kind d at (body_at (kind_at d at) d at) (at + 21) offers_found ∙ sym o.kind-is)
        (found-card d at (body_at (kind_at d at) d at) (at + 21) offers_found ∙ sym o.card-is)
        (found_retry d at (body_at (kind_at d at) d at) (at + 21) offers_found long-here ∙ sym o.retry_is)
        refl (omega (arith, o.inside, o.short)) above

-- ---- the tree is kept

module _ (d : List ℕ) (card at : ℕ) (closed : Bool) (tree : List ℕ) where
  pub keeps-closed : closed ≡ true → Keeps d card at closed tree
  keeps-closed e f = absurd (clash e f)

  pub keeps-long : (kind : ℕ) → length_of kind ≡ 21 → Tree d card (at + 21) tree → Keeps d card (at + length_of kind) closed tree
  keeps-long kind l t f = rw l t

  module _ (kind : ℕ) (k : kind ≡ kind_at d at) (some' : 0 < length_of kind) (fits : at + length_of kind ≤ length d) where
    pub keeps-other : (x : ℕ) → x ≡ number_at 8 d (at + 1) → (x ≡ card → ⊥) → Keeps d card at closed tree → Keeps d card (at + length_of kind) closed tree
    keeps-other x rx n keeps f =
        let same = ap length_of k in
        let e = found-whole d at (omega arith) (λ z. absurd (omega (arith, same, z))) (omega (arith, same)) in
        rw k (tree-other d card at tree (keeps f) (body_at (kind_at d at) d at) (at + length_of (kind_at d at)) e (λ m. n (rx ∙ sym (found-card d at _ _ e) ∙ m)))

-- When a step is plain, one law for each exit of the look; what a plain step stands on; and that it is the
-- rules' own step, with the key carried and given.
use Rattle.std.specs.Prelude.{Option, Some, None}
use Prim.Native.Nat.{ℕ, ◌+◌, ◌-◌, ◌*◌, ◌≤◌, ◌<◌}
use mathlib.Core.Path.{◌≡◌, refl, ap, sym, ◌∙◌, subst}
use mathlib.Core.Bool.{Bool, true, false, cond, not, ◌||◌}
use mathlib.Core.List.{List, []}
use mathlib.Core.Logic.{⊎_elim}
use native.Mathlib.Omega.{arith}
use lib.Dec.{ltb, eqb}
use lib.ListN.{length, take, drop, get_or, length-drop, take-append-drop}
use lib.Seq.{get_or-take, take-append-le, drop-append-le, length-take-le}
use borrow.Author.Tests.{lt-ltb, le-ltb, eq-eqb, ne_eqb, ltb-false, eqb-true, eqb-false}
use Rattle.layout.specs.Res.{Res, ok, refuse}
use Rattle.layout.specs.Limits.{max_key}
use Rattle.layout.specs.Fixed.{unbig}
use Rattle.layout.specs.Place.{NumAt, splice}
use Rattle.layout.specs.Key.{Key}
use Rattle.layout.specs.RowRead.{RowRead, may_share, key_of}
use Rattle.layout.specs.Trailer.{Trailer, trailer_of, data_of, Region, region_of, row_in}
use Rattle.layout.specs.Plain.{Plain, plain_at, plain_read}
use Rattle.layout.specs.Number.{wrong_after}
use Rattle.layout.specs.Cursor.{ascending, Cursor, cursor_is, found, Step, step_is, past_row, next}
use Rattle.layout.proofs.Laws.Res.{ok-inj, bool_cases, ltb-cases, eqb-cases, cond-ok}
use Rattle.layout.specs.Laws.Carry.{Carries, suffix_of}
use Rattle.layout.proofs.Laws.Carry.{read-carried, key_of-length, key-new}
use Rattle.layout.proofs.Laws.Cursor.{next_up, up-found}
use Rattle.layout.proofs.Laws.Number.{right-tells}
use Rattle.layout.specs.Laws.Place.{four_at}
use Rattle.layout.proofs.Laws.Place.{fixed_at-eight}
use Rattle.layout.specs.Laws.Plain.{PlainTells}
use Rattle.layout.proofs.Laws.Plain.{or-false, some-one, none-apart, fixed_at-is, plain_at-tells, plain-read}
use Rattle.layout.proofs.Laws.Trailer.{trailer_of-tells, region_of-tells}
use Rattle.trailer.specs.Handed.{region_by}
use Rattle.trailer.specs.Joined.{region_by-tells}
use Rattle.step_plain_v2.specs.declared.Ahead.{Ahead}
use Rattle.step_plain_v2.specs.declared.Stepped.{Stepped}
use Rattle.step_plain_v2.specs.Ahead.{ahead_with, ahead_at, ascends, where_plain, plain_step_of, stepped_of, stepped_to, row_made, Moved}
use Rattle.step_plain_v2.specs.Promise.{Goes}
use Rattle.step_plain_v2.proofs.Copies.{part_length}

shares : (t : Bool) (n : ℕ) → cond t 0 n ≡ may_share t n
shares true n = refl
shares false n = refl

-- ---- each way through the look

module _ (b : List ℕ) (region at number key_len held room : ℕ) where
  pub ahead-odd : (ltb max_key key_len || not (eqb held max_key)) ≡ true → None ≡ ahead_at b region at number key_len held room
  unfolding ahead_at
  ahead-odd e = rw e

  module _ (e : (ltb max_key key_len || not (eqb held max_key)) ≡ false) where
    pub ahead_none : {n : ℕ} → refuse n ≡ region_by b region → None ≡ ahead_at b region at number key_len held room
    unfolding ahead_at
    ahead_none q = rw (e, ← q)

    module _ (g : Region) (q : ok g ≡ region_by b region) where
      pub ahead_before : at < g.start → None ≡ ahead_at b region at number key_len held room
      unfolding ahead_at
      ahead_before h = rw (e, ← q, lt-ltb at g.start h)

      module _ (h : g.start ≤ at) where
        pub ahead_wrong : wrong_after (at - g.start) number ≡ true → None ≡ ahead_at b region at number key_len held room
        unfolding ahead_at
        ahead_wrong w = rw (e, ← q, le-ltb at g.start h, w)

      module _ (h : g.start ≤ at) (w : wrong_after (at - g.start) number ≡ false) {most : ℕ} (m : most ≡ cond (eqb at g.start) 0 key_len) {x : Option Plain} (r : x ≡ plain_at (take g.end b) at g.end most) where
        row_is_lem : x ≡ plain_at (take g.end b) at g.end (may_share (eqb at g.start) key_len)
        row_is_lem = r ∙ ap (plain_at (take g.end b) at g.end) (m ∙ shares (eqb at g.start) key_len)

        pub ahead-not : x ≡ None → None ≡ ahead_at b region at number key_len held room
        unfolding ahead_at
        ahead-not n = rw (e, ← q, le-ltb at g.start h, w, ← row_is_lem, n)

        module _ (p : Plain) (n : x ≡ Some p) where
          pub ahead-tells : PlainTells (take g.end b) at g.end (may_share (eqb at g.start) key_len) p
          ahead-tells = plain_at-tells (take g.end b) at g.end (may_share (eqb at g.start) key_len) (sym row_is_lem ∙ n)

          pub ahead-narrow : room < p.shared + p.unshared → None ≡ ahead_at b region at number key_len held room
          unfolding ahead_at
          ahead-narrow k = rw (e, ← q, le-ltb at g.start h, w, ← row_is_lem, n, lt-ltb room (p.shared + p.unshared) k)

          pub ahead-good : p.shared + p.unshared ≤ room → Some (ahead_with g.reach p) ≡ ahead_at b region at number key_len held room
          unfolding ahead_at
          ahead-good k = rw (e, ← q, le-ltb at g.start h, w, ← row_is_lem, n, le-ltb room (p.shared + p.unshared) k)

-- a region that is good ends inside the block
pub region-inside : (b : List ℕ) (region : ℕ) (g : Region) → ok g ≡ region_by b region → g.end ≤ length b
region-inside b region g q =
    region_by-tells b region g (sym q) λ t read inside bounds.
    omega (arith, (region_of-tells b t region g bounds).inside, (trailer_of-tells b t read).0)

-- ---- what a plain step stands on

-- a row that is plain in a part of the bytes is plain in a longer one
cut : (b : List ℕ) (n m at end most : ℕ) (p : Plain) → end ≤ n → end ≤ m → m ≤ length b → PlainTells (take n b) at end most p → PlainTells (take m b) at end most p
cut b n m at end most p h k l w =
    let same : (i : ℕ) → i < end → get_or (take n b) i 0 ≡ get_or (take m b) i 0 = λ i o. get_or-take n b i 0 (omega arith) ∙ sym (get_or-take m b i 0 (omega arith)) in
    let ends : at + 12 ≤ end = omega (arith, w.next-is, w.within) in
    record {
      inside = rw (length-take-le m b l) k;
      shared-is = w.shared-is ∙ same at (omega arith);
      unshared-is = w.unshared-is ∙ same (at + 1) (omega arith);
      value_len-is = w.value_len-is ∙ same (at + 2) (omega arith);
      shared-small = w.shared-small;
      unshared-small = w.unshared-small;
      value_len-small = w.value_len-small;
      shares = w.shares;
      some = w.some;
      next-is = w.next-is;
      within = w.within;
      flags-none = sym (same (p.next - 1) (omega (arith, w.next-is, w.within))) ∙ w.flags-none;
    }

pub record Standing (b : List ℕ) (region at number key_len held room : ℕ) (a : Ahead) : Type 0 where
  pub t : Trailer
  pub g : Region
  pub p : Plain
  pub few : key_len ≤ max_key
  pub whole : held ≡ max_key
  pub read : trailer_of b ≡ ok t
  pub inside : region < t.count
  pub bounds : region_of b t region ≡ ok g
  pub from : g.start ≤ at
  pub right : wrong_after (at - g.start) number ≡ false
  pub plain : PlainTells (data_of b t) at g.end (may_share (eqb at g.start) key_len) p
  pub fits : p.shared + p.unshared ≤ room
  pub is : a ≡ ahead_with g.reach p

was : (t : Bool) → not t ≡ false → t ≡ true
was true e = refl
was false e = cc

module _ (b : List ℕ) (region at number key_len held room : ℕ) (a : Ahead) (e : Some a ≡ ahead_at b region at number key_len held room) where
  -- no exit but the last
  never : {A : Type 0} → None ≡ ahead_at b region at number key_len held room → A
  never q = absurd (none-apart (q ∙ sym e))

  module _ (g : Region) (q : ok g ≡ region_by b region) where
    abbrev x₀ : Option Plain
    x₀ = plain_at (take g.end b) at g.end (cond (eqb at g.start) 0 key_len)

    last : (o : (ltb max_key key_len || not (eqb held max_key)) ≡ false) (h : g.start ≤ at) (w : wrong_after (at - g.start) number ≡ false) (p₀ : Plain) (r : x₀ ≡ Some p₀) → p₀.shared + p₀.unshared ≤ room → Standing b region at number key_len held room a
    last o h w p₀ r k =
        let u = or-false {a = ltb max_key key_len} {b = not (eqb held max_key)} o in
        region_by-tells b region g (sym q) λ t read inside bounds.
        let v = region_of-tells b t region g bounds in
        let size = (trailer_of-tells b t read).0 in
        record {
          t = t;
          g = g;
          p = p₀;
          few = ltb-false max_key key_len u.0;
          whole = eqb-true held max_key (was (eqb held max_key) u.1);
          read = read;
          inside = inside;
          bounds = bounds;
          from = h;
          right = w;
          plain = cut b g.end t.size at g.end (may_share (eqb at g.start) key_len) p₀ (omega arith) v.inside (omega arith) (ahead-tells b region at number key_len held room o g q h w refl refl p₀ r);
          fits = k;
          is = some-one (e ∙ sym (ahead-good b region at number key_len held room o g q h w refl refl p₀ r k));
        }

    stands_in : (ltb max_key key_len || not (eqb held max_key)) ≡ false → Standing b region at number key_len held room a
    stands_in o =
        ⊎_elim (λ h. never (ahead_before b region at number key_len held room o g q h.1))
        (λ h.
        ⊎_elim (λ w. never (ahead_wrong b region at number key_len held room o g q h.1 w))
        (λ w. met o h.1 w x₀ refl)
        (bool_cases (wrong_after (at - g.start) number)))
        (ltb-cases at g.start)
      where
        met : (o : (ltb max_key key_len || not (eqb held max_key)) ≡ false) (h : g.start ≤ at) (w : wrong_after (at - g.start) number ≡ false) (x : Option Plain) → x₀ ≡ x → Standing b region at number key_len held room a
        met o h w None r = never (ahead-not b region at number key_len held room o g q h w refl refl r)
        met o h w (Some p₀) r =
            ⊎_elim (λ k. never (ahead-narrow b region at number key_len held room o g q h w refl refl p₀ r k.1))
            (λ k. last o h w p₀ r k.1)
            (ltb-cases room (p₀.shared + p₀.unshared))

  pub standing : Standing b region at number key_len held room a
  standing =
      ⊎_elim (λ o. never (ahead-odd b region at number key_len held room o)) (λ o. go o (region_by b region) refl)
      (bool_cases (ltb max_key key_len || not (eqb held max_key)))
    where
      go : (ltb max_key key_len || not (eqb held max_key)) ≡ false → (x : Res Region) → x ≡ region_by b region → Standing b region at number key_len held room a
      go o (ok g) q = stands_in g q o
      go o (refuse n) q = never (ahead_none b region at number key_len held room o q)

-- the numbers of a plain step, for the sums and places that are made of them
pub record Numbers (b : List ℕ) (region at number : ℕ) (key out : List ℕ) (a : Ahead) : Type 0 where
  pub counted : region < length b
  pub passed : number ≤ at
  pub ends : a.next ≡ at + 12 + a.unshared + a.value_len
  pub inside : a.next ≤ length b
  pub shared-small : a.shared ≤ 127
  pub unshared-small : a.unshared ≤ 127
  pub carries : length key ≡ max_key
  pub gives : a.shared + a.unshared ≤ length out

-- bytes of a part, where they stand
part : (b : List ℕ) (m n i : ℕ) → i + n ≤ m → m ≤ length b → take n (drop i (take m b)) ≡ take n (drop i b)
part b m n i h l =
    let e : length (take m b) ≡ m = length-take-le m b l in
    sym (take-append-le n (drop i (take m b)) (drop m b) (rw (length-drop i (take m b), e) (omega arith)))
    ∙ ap (take n) (sym (drop-append-le i (take m b) (drop m b) (rw e (omega arith))) ∙ ap (drop i) (take-append-drop m b))

seq-is : (b : List ℕ) (i : ℕ) → i + 8 ≤ length b → four_at b i * 4294967296 + four_at b (i + 4) ≡ unbig (take 8 (drop i b))
seq-is b i h = ap (λ (x : NumAt). x.val) (ok-inj (fixed_at-eight b i h ∙ fixed_at-is 8 b i h))

-- what the code makes of the row that it met
abbrev pub made : ℕ → ℕ → ℕ → Ahead → Stepped
made region number q a =
    record {
      region = cond (ltb a.reach a.next) (region + 1) region;
      number = cond (ltb a.reach a.next) 0 (number + 1);
      key_len = cond (ltb a.reach a.next) 0 (a.shared + a.unshared);
      next = a.next;
      shared = a.shared;
      unshared = a.unshared;
      value_len = a.value_len;
      seq = q;
    }

-- ---- it is the rules' own step

module _ (b : List ℕ) (region at number key_len : ℕ) (key out : List ℕ) {a : Ahead} (s : Standing b region at number key_len (length key) (length out) a) where
  abbrev d : List ℕ
  d = data_of b s.t

  abbrev c : Cursor
  c = ascends region at number key_len key

  abbrev r : RowRead
  r = plain_read d at s.p

  abbrev k : Key
  k = key_of d (take key_len key) r

  size : s.t.size ≤ length b
  size = omega (arith, (trailer_of-tells b s.t s.read).0)

  ends : s.p.next ≤ s.t.size
  ends = omega (arith, s.plain.within, (region_of-tells b s.t region s.g s.bounds).inside)

  pub numbers : Numbers b region at number key out a
  numbers =
      let w = s.plain in
      let h = size in
      let e = ends in
      rw s.is
      (record {
        counted = omega (arith, s.inside, (trailer_of-tells b s.t s.read).0);
        passed = omega (arith, right-tells (at - s.g.start) number s.right);
        ends = w.next-is;
        inside = omega arith;
        shared-small = w.shared-small;
        unshared-small = w.unshared-small;
        carries = s.whole;
        gives = s.fits;
      })

  row : row_in d s.g at key_len ≡ ok r
  row = sym (plain-read d at s.g.end key_len (eqb at s.g.start) s.p s.plain)

  wanted : next c b (length out) ≡ ok (step_is (past_row c s.g r k) (found region number r k))
  wanted =
      let w = s.plain in
      next_up c b (length out) s.t s.read s.inside s.few refl refl
      ∙ up-found c b s.t (length out) s.g s.bounds s.from (omega (arith, w.next-is, w.within, (region_of-tells b s.t region s.g s.bounds).near)) s.right (λ q. absurd (omega (arith, w.next-is, w.within))) r row s.fits

  carries : Carries key key_len
  carries = record { few = s.few; whole = s.whole }

  long : length k ≡ s.p.shared + s.p.unshared
  long = key_of-length d at s.g.end (take key_len key) (eqb at s.g.start) r (read-carried d at s.g.end (eqb at s.g.start) key key_len carries row)

  suffix : take s.p.unshared (drop (at + 3) b) ≡ suffix_of d r
  suffix = sym (part b s.t.size s.p.unshared (at + 3) (omega (arith, s.plain.next-is, ends)) size)

  seq : four_at b (s.p.next - 9) * 4294967296 + four_at b (s.p.next - 9 + 4) ≡ r.seq
  seq =
      let w = s.plain in
      let h = size in
      let e = ends in
      seq-is b (s.p.next - 9) (omega (arith, w.next-is)) ∙ ap unbig (sym (part b s.t.size 8 (s.p.next - 9) (omega (arith, w.next-is)) h))

  module _ {key' out' : List ℕ} (m : Moved key out s.p.shared (take s.p.unshared (drop (at + 3) b)) key' out') where
    key-is : take (s.p.shared + s.p.unshared) key' ≡ k
    key-is =
        ap (take (s.p.shared + s.p.unshared)) (m.carried ∙ ap (splice key s.p.shared) suffix)
        ∙ key-new d at s.g.end (eqb at s.g.start) key key_len carries r row

    given : out' ≡ splice out 0 k
    given =
        let h = size in
        let e = ends in
        let n : length (take s.p.unshared (drop (at + 3) b)) ≡ s.p.unshared = part_length b (at + 3) s.p.unshared (omega (arith, s.plain.next-is)) in
        m.given ∙ ap (splice out 0) (ap (λ (i : ℕ). take (s.p.shared + i) key') n ∙ key-is)

    -- a finished region hands over, or the cursor carries the row's key
    goes : (t : Bool) → Goes (ok (step_is (cond t (cursor_is ascending (region + 1) s.p.next 0 [] false) (cursor_is ascending region s.p.next (number + 1) k false)) (found region number r k))) key out
        (Some (record {
          region = cond t (region + 1) region;
          number = cond t 0 (number + 1);
          key_len = cond t 0 (s.p.shared + s.p.unshared);
          next = s.p.next;
          shared = s.p.shared;
          unshared = s.p.unshared;
          value_len = s.p.value_len;
          seq = four_at b (s.p.next - 9) * 4294967296 + four_at b (s.p.next - 9 + 4);
        }))
        key' out'
    goes true = record { answer = rw seq; key-bytes = refl; lent = given }
    goes false = record { answer = rw (seq, long); key-bytes = rw long key-is; lent = given }

module _ (b : List ℕ) (region at number key_len : ℕ) (key out : List ℕ) where
  pub step-not : None ≡ ahead_at b region at number key_len (length key) (length out) → Goes (plain_step_of region at number key_len key b (length out)) key out None key out
  unfolding plain_step_of
  step-not e = rw (← e) (record { answer = refl; key-bytes = refl; lent = refl })

  module _ (a : Ahead) (e : Some a ≡ ahead_at b region at number key_len (length key) (length out)) where
    step_is_lem : plain_step_of region at number key_len key b (length out) ≡ next (ascends region at number key_len key) b (length out)
    unfolding plain_step_of
    step_is_lem = rw (← e)

    goes-made : {key' out' : List ℕ} → Moved key out a.shared (take a.unshared (drop (at + 3) b)) key' out'
        → Goes (plain_step_of region at number key_len key b (length out)) key out (Some (made region number (four_at b (a.next - 9) * 4294967296 + four_at b (a.next - 9 + 4)) a)) key' out'
    goes-made {key'} {out'} m =
        let s = standing b region at number key_len (length key) (length out) a e in
        let moved = subst (λ (x : Ahead). Moved key out x.shared (take x.unshared (drop (at + 3) b)) key' out') s.is m in
        subst (λ (w : Res Step). Goes w key out (Some (made region number (four_at b (a.next - 9) * 4294967296 + four_at b (a.next - 9 + 4)) a)) key' out') (sym (step_is_lem ∙ wanted b region at number key_len key out s))
        (subst (λ (x : Ahead). Goes (ok (step_is (past_row (c b region at number key_len key out s) s.g (r b region at number key_len key out s) (k b region at number key_len key out s)) (found region number (r b region at number key_len key out s) (k b region at number key_len key out s)))) key out (Some (made region number (four_at b (x.next - 9) * 4294967296 + four_at b (x.next - 9 + 4)) x)) key' out') (sym s.is)
        (goes b region at number key_len key out s moved (ltb s.g.reach s.p.next)))

    -- by the numbers that were met
    pub step-goes : {key' out' : List ℕ} {to more left q : ℕ} → Moved key out a.shared (take a.unshared (drop (at + 3) b)) key' out'
        → to ≡ cond (ltb a.reach a.next) (region + 1) region → more ≡ cond (ltb a.reach a.next) 0 (number + 1)
        → left ≡ cond (ltb a.reach a.next) 0 (a.shared + a.unshared)
        → q ≡ four_at b (a.next - 9) * 4294967296 + four_at b (a.next - 9 + 4)
        → Goes (plain_step_of region at number key_len key b (length out)) key out
        (Some (record { region = to; number = more; key_len = left; next = a.next; shared = a.shared; unshared = a.unshared; value_len = a.value_len; seq = q })) key' out'
    step-goes m t i l w =
        let g = goes-made m in
        record { answer = rw (t, i, l, w) g.answer; key-bytes = g.key-bytes; lent = g.lent }

-- ---- for callers

-- a plain step is the rules' own, over as many key bytes as there must be
pub plain_step-tells : (region at number key_len : ℕ) (key b : List ℕ) (room : ℕ) (s : Step) → plain_step_of region at number key_len key b room ≡ ok s
    → (length key ≡ max_key) × (next (ascends region at number key_len key) b room ≡ ok s)
unfolding plain_step_of
plain_step-tells region at number key_len key b room s e = go (ahead_at b region at number key_len (length key) room) refl e
  where
    go : (x : Option Ahead) → x ≡ ahead_at b region at number key_len (length key) room → where_plain x (next (ascends region at number key_len key) b room) ≡ ok s
        → (length key ≡ max_key) × (next (ascends region at number key_len key) b room ≡ ok s)
    go None q w = absurd (let z : ◌≡◌ {A = ℕ} 0 1 = cc in omega arith)
    go (Some a) q w = ((standing b region at number key_len (length key) room a q).whole, w)

-- what a step that was made tells: the cursor and the row, whose places are those of a plain one
pub record Told (want : Res Step) (region at number : ℕ) (r : Stepped) : Type 0 where
  pub cursor : Cursor
  pub key : Key
  pub is : want ≡ ok (step_is cursor (found region number (row_made at r) key))
  pub to : Some r ≡ stepped_to cursor (found region number (row_made at r) key)
  pub heads : cursor.order ≡ ascending
  pub unmarked : cursor.done ≡ false
  pub ends : at + 12 + r.unshared + r.value_len ≡ r.next

module _ (region at number key_len : ℕ) (key b out : List ℕ) where
  abbrev a₀ : Option Ahead
  a₀ = ahead_at b region at number key_len (length key) (length out)

  refused : None ≡ a₀ → plain_step_of region at number key_len key b (length out) ≡ refuse 0
  unfolding plain_step_of
  refused z = rw (← z)

  module _ (a : Ahead) (q : Some a ≡ a₀) where
    s₀ : Standing b region at number key_len (length key) (length out) a
    s₀ = standing b region at number key_len (length key) (length out) a q

    abbrev r₀ : RowRead
    r₀ = r b region at number key_len key out s₀

    abbrev k₀ : Key
    k₀ = k b region at number key_len key out s₀

    is₀ : plain_step_of region at number key_len key b (length out) ≡ ok (step_is (past_row (ascends region at number key_len key) s₀.g r₀ k₀) (found region number r₀ k₀))
    is₀ = step_is_lem b region at number key_len key out a q ∙ wanted b region at number key_len key out s₀

    -- whichever cursor it leaves
    either : (x : Stepped) {key' out' : List ℕ} → Goes (plain_step_of region at number key_len key b (length out)) key out (Some x) key' out' → (t : Bool) (v : Cursor) → v ≡ cond t (cursor_is ascending (region + 1) s₀.p.next 0 [] false) (cursor_is ascending region s₀.p.next (number + 1) k₀ false)
        → plain_step_of region at number key_len key b (length out) ≡ ok (step_is v (found region number r₀ k₀)) → Told (plain_step_of region at number key_len key b (length out)) region at number x
    either x g t v e i =
        let place : v.at ≡ s₀.p.next = ap (λ (u : Cursor). u.at) e ∙ one t in
        let to : Some x ≡ stepped_to v (found region number r₀ k₀) = g.answer ∙ ap stepped_of i in
        let same = some-one to in
        let row : r₀ ≡ row_made at x = ap (λ (m : ℕ). row_made at (record { region = 0; number = 0; key_len = 0; next = m; shared = s₀.p.shared; unshared = s₀.p.unshared; value_len = s₀.p.value_len; seq = r₀.seq })) (sym place) ∙ ap (row_made at) (sym same) in
        record {
          cursor = v;
          key = k₀;
          is = i ∙ ap (λ (u : RowRead). ok (step_is v (found region number u k₀))) row;
          to = to ∙ ap (λ (u : RowRead). stepped_to v (found region number u k₀)) row;
          heads = ap (λ (u : Cursor). u.order) e ∙ two t;
          unmarked = ap (λ (u : Cursor). u.done) e ∙ three t;
          ends = omega (arith, place, s₀.plain.next-is, ap (λ (u : Stepped). u.unshared) same, ap (λ (u : Stepped). u.value_len) same, ap (λ (u : Stepped). u.next) same);
        }
      where
        one : (t : Bool) → (cond t (cursor_is ascending (region + 1) s₀.p.next 0 [] false) (cursor_is ascending region s₀.p.next (number + 1) k₀ false)).at ≡ s₀.p.next
        one true = refl
        one false = refl

        two : (t : Bool) → (cond t (cursor_is ascending (region + 1) s₀.p.next 0 [] false) (cursor_is ascending region s₀.p.next (number + 1) k₀ false)).order ≡ ascending
        two true = refl
        two false = refl

        three : (t : Bool) → (cond t (cursor_is ascending (region + 1) s₀.p.next 0 [] false) (cursor_is ascending region s₀.p.next (number + 1) k₀ false)).done ≡ false
        three true = refl
        three false = refl

    made₀ : (x : Stepped) {key' out' : List ℕ} → Goes (plain_step_of region at number key_len key b (length out)) key out (Some x) key' out' → Told (plain_step_of region at number key_len key b (length out)) region at number x
    made₀ x g = either x g (ltb s₀.g.reach s₀.p.next) _ refl is₀

    none-made : {key' out' : List ℕ} → Goes (plain_step_of region at number key_len key b (length out)) key out None key' out' → ⊥
    none-made g = none-apart (g.answer ∙ ap stepped_of is₀)

  pub not-told : {key' out' : List ℕ} → Goes (plain_step_of region at number key_len key b (length out)) key out None key' out' → plain_step_of region at number key_len key b (length out) ≡ refuse 0
  not-told g = go a₀ refl
    where
      go : (x : Option Ahead) → x ≡ a₀ → plain_step_of region at number key_len key b (length out) ≡ refuse 0
      go None q = refused q
      go (Some a) q = absurd (none-made a q g)

  pub told : (x : Stepped) {key' out' : List ℕ} → Goes (plain_step_of region at number key_len key b (length out)) key out (Some x) key' out' → Told (plain_step_of region at number key_len key b (length out)) region at number x
  told x g = go a₀ refl
    where
      go : (y : Option Ahead) → y ≡ a₀ → Told (plain_step_of region at number key_len key b (length out)) region at number x
      go None q = absurd (none-apart (sym (g.answer ∙ ap stepped_of (refused q))))
      go (Some a) q = made₀ a q x g

-- Where an ascending cursor goes on: the bytes of rows and the region, once the tests of a step that come before the row are passed. None where one is not.
use Rattle.std.specs.Prelude.{ℕ, ◌-◌, ◌<◌, ◌≤◌, ◌≡◌, refl, true, false, List, ltb, leb, Option, Some, None}
use Rattle.std.proofs.Common.{ap, sym, ◌∙◌, arith}
use borrow.Author.Tests.{lt-ltb, le-ltb, le-leb, lt-leb, ltb-false, leb-false}
use Rattle.layout.specs.Res.{Res, ok, refuse, bind, guard}
use Rattle.layout.specs.Limits.{max_key}
use Rattle.layout.specs.Trailer.{Trailer, trailer_is, trailer_of, Region, region_of}
use Rattle.layout.specs.Number.{wrong_after}
use Rattle.layout.specs.Cursor.{Direction, ascending, descending, Cursor}
use Rattle.layout.proofs.Laws.Res.{bind-then, guard-then, ok-inj}
use Rattle.layout.proofs.Laws.Plain.{some-one, none-apart}
use Rattle.trailer.specs.Says.{region_from}
use Rattle.region_rows_v2.specs.declared.Bounds.{Bounds}

pub record Stretch : Type 0 where
  pub size : ℕ
  pub region : Region

abbrev pub stretch_is : ℕ → Region → Stretch
stretch_is n g = record { size = n; region = g }

abbrev pub stretch_from : Bounds → Stretch
stretch_from b = stretch_is b.size (region_from b.region)

abbrev pub says_bounds : Option Bounds → Option Stretch
says_bounds None = None
says_bounds (Some b) = Some (stretch_from b)

-- the numbers of the refusals do not matter: a step answers
unfoldable pub goes_on : Cursor → List ℕ → Res Stretch
goes_on c b =
    guard c.done 18
    (bind (trailer_of b) λ t.
    guard (leb t.count c.region) 18
    (guard (ltb max_key c.key_len) 18
    (bind (region_of b t c.region) λ g.
    guard (ltb c.at g.start) 18
    (guard (wrong_after (c.at - g.start) c.number) 18
    (ok (stretch_is t.size g))))))

abbrev pub goes_along : Direction → Cursor → List ℕ → Res Stretch
goes_along ascending c b = goes_on c b
goes_along descending c b = refuse 18

abbrev pub or_none : Res Stretch → Option Stretch
or_none (ok s) = Some s
or_none (refuse n) = None

abbrev pub stretch_of : Cursor → List ℕ → Option Stretch
stretch_of c b = or_none (goes_along c.order c b)

-- ---- each way through the tests; answer on the left

module _ (c : Cursor) (b : List ℕ) where
  pub none-down : c.order ≡ descending → None ≡ stretch_of c b
  none-down e = rw e

  module _ (up : c.order ≡ ascending) where
    pub none-marked : c.done ≡ true → None ≡ stretch_of c b
    unfolding goes_on
    none-marked m = rw (up, m)

    module _ (m : c.done ≡ false) where
      pub none-trailer : {n : ℕ} → trailer_of b ≡ refuse n → None ≡ stretch_of c b
      unfolding goes_on
      none-trailer e = rw (up, m, e)

      module _ (t : Trailer) (e : trailer_of b ≡ ok t) where
        pub none-region : t.count ≤ c.region → None ≡ stretch_of c b
        unfolding goes_on
        none-region h = rw (up, m, e, le-leb t.count c.region h)

        module _ (h : c.region < t.count) where
          pub none-key : max_key < c.key_len → None ≡ stretch_of c b
          unfolding goes_on
          none-key k = rw (up, m, e, lt-leb t.count c.region h, lt-ltb max_key c.key_len k)

          module _ (k : c.key_len ≤ max_key) where
            pub none-bounds : {n : ℕ} → region_of b t c.region ≡ refuse n → None ≡ stretch_of c b
            unfolding goes_on
            none-bounds q = rw (up, m, e, lt-leb t.count c.region h, le-ltb max_key c.key_len k, q)

            module _ (g : Region) (q : region_of b t c.region ≡ ok g) where
              pub none_before : c.at < g.start → None ≡ stretch_of c b
              unfolding goes_on
              none_before w = rw (up, m, e, lt-leb t.count c.region h, le-ltb max_key c.key_len k, q, lt-ltb c.at g.start w)

              module _ (w : g.start ≤ c.at) where
                pub none_wrong : wrong_after (c.at - g.start) c.number ≡ true → None ≡ stretch_of c b
                unfolding goes_on
                none_wrong n = rw (up, m, e, lt-leb t.count c.region h, le-ltb max_key c.key_len k, q, le-ltb c.at g.start w, n)

                pub some_stretch : wrong_after (c.at - g.start) c.number ≡ false → Some (stretch_is t.size g) ≡ stretch_of c b
                unfolding goes_on
                some_stretch n = rw (up, m, e, lt-leb t.count c.region h, le-ltb max_key c.key_len k, q, le-ltb c.at g.start w, n)

-- ---- what a stretch tells

-- a cursor that goes on in the region g of a block with `size` bytes of rows
pub record Inside (b : List ℕ) (size : ℕ) (g : Region) (c : Cursor) : Type 0 where
  pub count : ℕ
  pub heads : c.order ≡ ascending
  pub unmarked : c.done ≡ false
  pub read : trailer_of b ≡ ok (trailer_is count size)
  pub counted : c.region < count
  pub few : c.key_len ≤ max_key
  pub bounds : region_of b (trailer_is count size) c.region ≡ ok g
  pub from : g.start ≤ c.at
  pub right : wrong_after (c.at - g.start) c.number ≡ false

pub stretch_inside : (c : Cursor) (b : List ℕ) {s : Stretch} → Some s ≡ stretch_of c b → Inside b s.size s.region c
unfolding goes_on
stretch_inside c b {s} e = along c.order refl (goes_along c.order c b) refl e
  where
    up : c.order ≡ ascending → goes_on c b ≡ ok s → Inside b s.size s.region c
    up d q =
        guard-then c.done 18 _ s q λ m q.
        bind-then (trailer_of b) _ s q λ t e₁ q.
        guard-then (leb t.count c.region) 18 _ s q λ h q.
        guard-then (ltb max_key c.key_len) 18 _ s q λ k q.
        bind-then (region_of b t c.region) _ s q λ g e₂ q.
        guard-then (ltb c.at g.start) 18 _ s q λ w q.
        guard-then (wrong_after (c.at - g.start) c.number) 18 _ s q λ n q.
        rw (← ok-inj q)
        (record { count = t.count; heads = d; unmarked = m; read = e₁; counted = leb-false t.count c.region h; few = ltb-false max_key c.key_len k; bounds = e₂; from = ltb-false c.at g.start w; right = n })

    along : (d : Direction) → c.order ≡ d → (x : Res Stretch) → goes_along d c b ≡ x → Some s ≡ or_none x → Inside b s.size s.region c
    along ascending d (ok y) q i = up d (q ∙ ap ok (sym (some-one i)))
    along descending d (ok y) q i = absurd (let w : ◌≡◌ {A = ℕ} 0 1 = cc in omega arith)
    along d e (refuse n) q i = absurd (none-apart (sym i))

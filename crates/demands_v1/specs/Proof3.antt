-- Demand 3 for the earlier format, proved: a run makes the block of its accepted rows (`Made`), such a block is read back (`laid-block`), and one number names one row; so equal
-- blocks have equal rows. Walks go along the numbers; and of rows that are read the check tells no more than their order.
use Rattle.std.specs.Prelude.{ℕ, ◌≤◌, ◌≡◌, refl, List, [], ◌∷◌, map, ltb, eqb, length, take}
use Rattle.std.proofs.Common.{ap, sym, ◌∙◌, arith, ltb-false}
use Rattle.std.proofs.lemmas.List.{length-map}
use Rattle.std.proofs.lemmas.Bool.{eqb-false}
use Rattle.layout.specs.Res.{ok}
use Rattle.layout.specs.Limits.{max_key}
use Rattle.layout.specs.Place.{splice}
use Rattle.layout.specs.Key.{Rank, no_rank, Rising}
use Rattle.layout.specs.Row.{Row, plain_row}
use Rattle.layout.specs.RowRead.{key_length}
use Rattle.layout.specs.Block.{trailer}
use Rattle.layout.specs.Trailer.{Trailer, data_of}
use Rattle.layout.specs.Cursor.{Keyed}
use Rattle.layout_v1.specs.Block.{offsets, block_bytes}
use Rattle.layout_v1.specs.Builder.{Builder, new_builder, state_tests, present_size, build, block_after_of}
use Rattle.layout_v1.specs.Check.{check}
use Rattle.demands.specs.Lends.{Call, lending_of, BeginAlike}
use Rattle.demands.specs.LendsProof.{Keeps, kept-ran, finishes_one}
use Rattle.demands.specs.Reads.{verdict, content_of}
use Rattle.demands.specs.Rows.{offered_ranks}
use Rattle.demands.specs.Runs.{RoomFor, KeysFit}
use Rattle.demands.specs.Proof2.{same_ranks}
use Rattle.demands.specs.Proof3.{Keyeds, rooms, keys-fit-all}
use Rattle.demands_v1.specs.Reads.{first_key_of, Reads}
use Rattle.demands_v1.specs.Runs.{maker, Lending, Ran, Finishes}
use Rattle.demands_v1.specs.Rows.{BothWays}
use Rattle.layout.proofs.Laws.Res.{bind-then, guard-then, ok-inj}
use Rattle.layout.specs.Laws.Block.{AllOk, AllFit}
use Rattle.layout_v1.specs.Laws.Made.{Made}
use Rattle.layout_v1.proofs.Laws.Made.{made_none, made_more, made-stands, made-builds}
use Rattle.layout_v1.proofs.Laws.Cursor.{open_good}
use Rattle.demands_v1.specs.Laws.Reads.{rows-one, rows_all, first_read, names_length}
use Rattle.demands_v1.specs.Laws.Laid.{LaidBlock, laid-block}
use Rattle.demands_v1.specs.Laws.Walk.{walks-up, walks-down}
use Rattle.demands_v1.specs.Laws.Accept.{check-verdict, check_accepts, accepts_check}

-- ---- a run keeps `Made`

-- buffers that begin alike hold the same rows
made-longer : (rs : List Row) (h : Lending) (bytes places : List ℕ) → Made rs h.builder h.bytes h.places → BeginAlike maker h bytes places → Made rs h.builder bytes places
made-longer rs h bytes places m a =
    record {
      block = m.block;
      used-is = m.used-is;
      rows_are = m.rows_are;
      first_len_is = m.first_len_is;
      first-is = m.first-is;
      rows_ok = m.rows_ok;
      offsets-fit = m.offsets-fit;
      lent =
          record {
            in_data = omega (arith, m.lent.in_data, a.no_fewer_bytes);
            in_places = omega (arith, m.lent.in_places, a.no_fewer_places);
            bytes-are = a.same_bytes ∙ m.lent.bytes-are;
            places-are = a.same-places ∙ m.lent.places-are;
            room = λ s. omega (arith, m.lent.room s, a.no_fewer_bytes);
          };
    }

-- what an answer of build passed
built-tells : (b : Builder) (data_len places_len k : ℕ) → build b data_len places_len ≡ ok k → (present_size b ≤ data_len) × (b.rows ≡ 0 → ⊥)
unfolding build
built-tells b data_len places_len k e =
    bind-then (state_tests b data_len places_len) _ k e λ u s e₁.
    guard-then (eqb b.rows 0) 7 _ k e₁ λ t₁ e₂.
    guard-then (ltb data_len (present_size b)) 6 _ k e₂ λ t₂ e₃.
    (ltb-false data_len (present_size b) t₂, eqb-false b.rows 0 t₁)

-- a build in the middle leaves the rows
made-finish : (rs : List Row) (b : Builder) (bytes places : List ℕ) (k : ℕ) → Made rs b bytes places → build b (length bytes) (length places) ≡ ok k
    → Made rs b (block_after_of (ok k) b bytes places) places
made-finish rs b bytes places k m e =
    let w = made-stands rs b bytes places m (built-tells b (length bytes) (length places) k e).0 in
    made-longer rs (lending_of maker b bytes places) (splice bytes b.used (trailer (take b.rows places))) places m
    (record { no_fewer_bytes = omega (arith, w.long); no_fewer_places = omega arith; same_bytes = w.begins; same-places = refl })

made_kept : Keeps maker Made
made_kept =
    record {
      more = made_more;
      given = λ b b'. refl;
      untouched = λ b bytes places r k. (refl, refl, refl);
      unbuilt = λ b bytes places k. refl;
      longer = made-longer;
      finished = made-finish;
    }

-- rows that are laid make a block
laid-rows : (rows : List Row) → 1 ≤ length rows → AllOk rows → AllFit (offsets rows) → LaidBlock (block_bytes rows) rows
laid-rows [] s a o = absurd (omega arith)
laid-rows (r ∷ rs) s a o = laid-block r rs a o

module _ (size : ℕ) (calls : List Call) (rows : List Row) (end : Lending) (ran : Ran size calls rows end) where
  m : Made rows end.builder end.bytes end.places
  m = kept-ran maker Made made_kept (new_builder size) calls rows end (made_none size) ran

  -- after an accepted row, build answers the block of the accepted rows
  pub ran_finishes : 1 ≤ length rows → Finishes end (block_bytes rows)
  ran_finishes some =
      let q = made-builds rows end.builder end.bytes end.places m some in
      record { n = length (block_bytes rows); answers = q.0; block-is = q.1 }

  -- and it answers a block only where a row was accepted
  ran-some : (block : List ℕ) → Finishes end block → 1 ≤ length rows
  ran-some block f =
      let ne = (built-tells end.builder (length end.bytes) (length end.places) f.n f.answers).1 in
      omega (arith, ne, m.rows_are)

  pub ran-laid : (block : List ℕ) → Finishes end block → LaidBlock block rows
  ran-laid block f =
      rw (finishes_one maker end block (block_bytes rows) f (ran_finishes (ran-some block f))) (laid-rows rows (ran-some block f) m.rows_ok m.offsets-fit)

  -- no accepted key is longer than the key limit
  pub ran-fits : KeysFit max_key rows
  ran-fits = keys-fit-all rows m.rows_ok

-- ---- a block has one list of rows

reads-one : (b : List ℕ) (t₁ t₂ : Trailer) (r₁ r₂ : List Keyed) → Reads b t₁ r₁ → Reads b t₂ r₂ → (t₁ ≡ t₂) × (r₁ ≡ r₂)
reads-one b t₁ t₂ r₁ r₂ p q = go t₁ t₂ (ok-inj (sym p.trailer-good ∙ q.trailer-good)) p q
  where
    go : (t₁ t₂ : Trailer) → t₁ ≡ t₂ → Reads b t₁ r₁ → Reads b t₂ r₂ → (t₁ ≡ t₂) × (r₁ ≡ r₂)
    go t₁ t₂ t p q =
        let q' : Reads b t₁ r₂ = rw t q in
        let f : first_key_of r₁ ≡ first_key_of r₂ = ok-inj (sym (first_read b t₁ r₁ p) ∙ first_read b t₁ r₂ q') in
        (t, rows-one b t₁ (first_key_of r₂) 0 r₁ r₂ (rw f at p.rows-read) q'.rows-read (p.count-is ∙ sym q'.count-is))

pub same_rows : (b : List ℕ) (rows₁ rows₂ : List Row) → LaidBlock b rows₁ → LaidBlock b rows₂ → map plain_row rows₁ ≡ map plain_row rows₂
same_rows b rows₁ rows₂ p q =
    let o = reads-one b p.t q.t p.given q.given p.reads q.reads in
    sym p.contents ∙ ap (λ (x : Trailer). map (content_of (data_of b x)) p.given) o.0 ∙ ap (λ (x : List Keyed). map (content_of (data_of b q.t)) x) o.1 ∙ q.contents

-- ---- walks

pub both_ways : (b : List ℕ) (t : Trailer) (rows : List Keyed) (room : ℕ) → Reads b t rows → RoomFor room rows → BothWays b room rows
both_ways b t rows room q f =
    record {
      opens = λ d. open_good b d t q.trailer-good q.offsets-good (first_key_of rows) (first_read b t rows q);
      forwards = walks-up b t (first_key_of rows) q.trailer-good (first_read b t rows q) room 0 rows q.rows-read (omega (arith, q.count-is)) f;
      back = walks-down b t (first_key_of rows) q.trailer-good (first_read b t rows q) room (length rows) 0 rows (omega arith) q.rows-read (omega (arith, q.count-is)) f;
    }

pub record ReadsBack (block : List ℕ) (room : ℕ) (rows : List Row) : Type 0 where
  pub t : Trailer
  pub given : List Keyed
  pub walks : BothWays block room given
  pub are : map (content_of (data_of block t)) given ≡ map plain_row rows

pub laid-reads-back : (block : List ℕ) (room : ℕ) (rows : List Row) → LaidBlock block rows → KeysFit room rows → ReadsBack block room rows
laid-reads-back block room rows l f =
    record { t = l.t; given = l.given; walks = both_ways block l.t l.given room l.reads fits; are = l.contents }
  where
    whole : Keyeds l.given
    whole = rows_all block l.t (first_key_of l.given) (λ (k : Keyed). length k.key ≡ key_length k.row) (names_length block l.t (first_key_of l.given)) 0 l.given l.reads.rows-read

    fits : RoomFor room l.given
    fits = rooms room (data_of block l.t) l.given rows l.contents whole f

-- ---- a finished block is accepted exactly when its rows are in order

pub laid-verdict : (b : List ℕ) (rows : List Row) → LaidBlock b rows → check b ≡ verdict no_rank (offered_ranks rows) 0
laid-verdict b rows l =
    check-verdict b l.t l.given l.reads ∙ ap (λ (x : List Rank). verdict no_rank x 0) (same_ranks (data_of b l.t) l.given rows l.contents)

pub laid-accepted : (b : List ℕ) (rows : List Row) → LaidBlock b rows → Rising no_rank (offered_ranks rows) → check b ≡ ok (length rows)
laid-accepted b rows l o =
    accepts_check b (length rows)
    (record {
      t = l.t;
      rows = l.given;
      reads = l.reads;
      in_order = rw (same_ranks (data_of b l.t) l.given rows l.contents) o;
      many = sym (length-map rows plain_row) ∙ ap length (sym l.contents) ∙ length-map l.given (content_of (data_of b l.t));
    })

pub accepted-laid : (b : List ℕ) (rows : List Row) (n : ℕ) → LaidBlock b rows → check b ≡ ok n → Rising no_rank (offered_ranks rows)
accepted-laid b rows n l e =
    let a = check_accepts b n e in
    let o = reads-one b a.t l.t a.rows l.given a.reads l.reads in
    rw (← same_ranks (data_of b l.t) l.given rows l.contents, ← o.1) a.in_order

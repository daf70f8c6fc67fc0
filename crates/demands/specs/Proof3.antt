-- Demand 3, proved: a run makes the block of its accepted rows (`Made`), such a block is read back (`laid-block`), and a read has one outcome; so equal blocks have
-- equal rows. Rows after one key: what is read of one's bytes depends on no byte past its end.
use Rattle.std.specs.Prelude.{ℕ, ◌≤◌, ◌≡◌, refl, Bool, false, List, [], ◌∷◌, ◌++◌, map, ltb, length}
use Rattle.std.proofs.Common.{ap, sym, ◌∙◌, append-nil, arith, length-append, le-ltb, ltb-false}
use Rattle.layout.specs.Res.{ok}
use Rattle.layout.specs.Limits.{max_key}
use Rattle.layout.specs.Row.{Fields, Row, row_bytes, encode_row, SameRow, Typed, plain_row}
use Rattle.layout.specs.RowRead.{RowRead, row_at, read_row, decode_row, key_length}
use Rattle.layout.specs.Block.{block_bytes, offsets}
use Rattle.layout.specs.Trailer.{Trailer, data_of}
use Rattle.layout.specs.Cursor.{opened_up, opened_down, Keyed}
use Rattle.demands.specs.Reads.{regions_rows, Reads, all_rows, AllOf, content_of}
use Rattle.demands.specs.Rows.{BothWays}
use Rattle.demands.specs.Lends.{Call}
use Rattle.demands.specs.LendsProof.{finishes_one}
use Rattle.demands.specs.Runs.{maker, Lending, Ran, Finishes, RoomFor, KeysFit}
use Rattle.demands.specs.RunsProof.{made-ran, finishes_some, made_finishes, walks-before, walks-after}
use Rattle.layout.proofs.Laws.Res.{bind-then, guard-then, ok-inj}
use Rattle.layout.proofs.Laws.Row.{prefix-free}
use Rattle.layout.specs.Laws.Encoded.{Encoded}
use Rattle.layout.proofs.Laws.Encoded.{tests-tell, encoded_fields}
use Rattle.demands.specs.Laws.Local.{read_row-local}
use Rattle.layout.proofs.Laws.Carry.{key_of-length}
use Rattle.layout.specs.Laws.Block.{AllOk, AllFit}
use Rattle.layout.specs.Laws.Made.{Made}
use Rattle.demands.specs.Laws.Reads.{rows_all}
use Rattle.demands.specs.Laws.Ascend.{opened-before, opens_up}
use Rattle.demands.specs.Laws.Descend.{opened_after_lem, opens-down}
use Rattle.demands.specs.Laws.Laid.{LaidBlock, laid-block}

-- ---- a run finishes

-- rows that are laid make a block
laid-rows : (n : ℕ) (rows : List Row) → 1 ≤ length rows → AllOk rows → AllFit (offsets n rows) → LaidBlock (block_bytes n rows) n rows
laid-rows n [] s a o = absurd (omega arith)
laid-rows n (r ∷ rs) s a o = laid-block n r rs a o

module _ (size n : ℕ) (calls : List Call) (rows : List Row) (end : Lending) (ran : Ran size n calls rows end) where
  m : Made n rows end.builder end.bytes end.places
  m = made-ran size n calls rows end ran

  pub ran_finishes : 1 ≤ length rows → Finishes end (block_bytes n rows)
  ran_finishes some = made_finishes n rows end m some

  ran-some : (block : List ℕ) → Finishes end block → 1 ≤ length rows
  ran-some block f = finishes_some n rows end block m f

  pub ran-block : (block : List ℕ) → Finishes end block → block ≡ block_bytes n rows
  ran-block block f = finishes_one maker end block (block_bytes n rows) f (ran_finishes (ran-some block f))

  pub ran-laid : (block : List ℕ) → Finishes end block → LaidBlock block n rows
  ran-laid block f = rw (ran-block block f) (laid-rows n rows (ran-some block f) m.rows_ok m.offsets-fit)

-- no accepted key is longer than the key limit
pub keys-fit-all : (rows : List Row) → AllOk rows → KeysFit max_key rows
keys-fit-all [] a = tt
keys-fit-all (r ∷ rs) a = (a.0.key_fits, keys-fit-all rs a.1)

pub ran-fits : (size n : ℕ) (calls : List Call) (rows : List Row) (end : Lending) → Ran size n calls rows end → KeysFit max_key rows
ran-fits size n calls rows end ran = keys-fit-all rows (made-ran size n calls rows end ran).rows_ok

-- ---- a read has one outcome

reads-one : (b : List ℕ) (t₁ t₂ : Trailer) (r₁ r₂ : List (List Keyed)) → Reads b t₁ r₁ → Reads b t₂ r₂ → (t₁ ≡ t₂) × (r₁ ≡ r₂)
reads-one b t₁ t₂ r₁ r₂ p q =
    let t : t₁ ≡ t₂ = ok-inj (sym p.trailer-good ∙ q.trailer-good) in
    (t, ok-inj (sym p.rows-read ∙ ap (λ (x : Trailer). regions_rows x.count b x 0) t ∙ q.rows-read))

pub same_rows : (b : List ℕ) (n₁ n₂ : ℕ) (rows₁ rows₂ : List Row) → LaidBlock b n₁ rows₁ → LaidBlock b n₂ rows₂ → map plain_row rows₁ ≡ map plain_row rows₂
same_rows b n₁ n₂ rows₁ rows₂ p q =
    let o = reads-one b p.t q.t p.regions q.regions p.reads q.reads in
    sym p.contents ∙ ap (λ (x : Trailer). map (content_of (data_of b x)) (all_rows p.regions)) o.0 ∙ ap (λ (x : List (List Keyed)). map (content_of (data_of b q.t)) (all_rows x)) o.1 ∙ q.contents

-- ---- reading back

-- keys that are read are as long as their rows say
abbrev pub Keyeds : List Keyed → Type 0
Keyeds ks = AllOf (λ (k : Keyed). length k.key ≡ key_length k.row) ks

pub rooms : (room : ℕ) (d : List ℕ) (ks : List Keyed) (rows : List Row) → map (content_of d) ks ≡ map plain_row rows → Keyeds ks → KeysFit room rows → RoomFor room ks
rooms room d [] rows e k f = tt
rooms room d (x ∷ ks) [] e k f = absurd (let z : ◌≡◌ {A = ℕ} 0 1 = cc in omega arith)
rooms room d (x ∷ ks) (r ∷ rows) e k f =
    let h : content_of d x ≡ plain_row r = cc in
    let t : map (content_of d) ks ≡ map plain_row rows = cc in
    let l : length x.key ≡ length r.key = ap (λ (y : Row). length y.key) h in
    (omega (arith, k.0, f.0), rooms room d ks rows t k.1 f.1)

module _ (block : List ℕ) (n room : ℕ) (rows : List Row) (l : LaidBlock block n rows) (f : KeysFit room rows) where
  pub laid-room : RoomFor room (all_rows l.regions)
  laid-room =
      rooms room (data_of block l.t) (all_rows l.regions) rows l.contents (rows_all (λ (k : Keyed). length k.key ≡ key_length k.row) key_of-length l.t.count block l.t 0 l.regions l.reads.rows-read) f

  -- opened, and stepped through to the end
  pub laid-both-ways : BothWays block l.t room (all_rows l.regions)
  laid-both-ways =
      record {
        opens_up = opens_up block l.t l.regions l.reads;
        opens-down = opens-down block l.t l.regions l.reads;
        forwards = walks-before block l.t room opened_up (all_rows l.regions) (opened-before block l.t l.regions l.reads) laid-room;
        back =
            walks-after (length (all_rows l.regions)) block l.t room (opened_down block l.t) (all_rows l.regions) (omega arith) (opened_after_lem block l.t l.regions l.reads) laid-room;
      }

pub record ReadsBack (block : List ℕ) (room : ℕ) (rows : List Row) : Type 0 where
  pub t : Trailer
  pub given : List Keyed
  pub walks : BothWays block t room given
  pub are : map (content_of (data_of block t)) given ≡ map plain_row rows

pub laid-reads-back : (block : List ℕ) (n room : ℕ) (rows : List Row) → LaidBlock block n rows → KeysFit room rows → ReadsBack block room rows
laid-reads-back block n room rows l f = record { t = l.t; given = all_rows l.regions; walks = laid-both-ways block n room rows l f; are = l.contents }

-- ---- rows after one key

pub encode-tells : (prev_len shared : ℕ) (suffix : List ℕ) (f : Fields) (room : ℕ) (w : List ℕ) → encode_row prev_len shared suffix f room ≡ ok w
    → Encoded (row_bytes shared suffix f) prev_len shared suffix f w
unfolding encode_row
encode-tells prev_len shared suffix f room w e = tests-tell (row_bytes shared suffix f) prev_len shared suffix f room w e

pub encoded_differ : (prev_len : ℕ) (s₁ : ℕ) (x₁ : List ℕ) (f₁ : Fields) (w₁ : List ℕ) (s₂ : ℕ) (x₂ : List ℕ) (f₂ : Fields) (w₂ tail : List ℕ)
    → Encoded (row_bytes s₁ x₁ f₁) prev_len s₁ x₁ f₁ w₁ → Encoded (row_bytes s₂ x₂ f₂) prev_len s₂ x₂ f₂ w₂ → Typed f₁ → Typed f₂ → w₁ ++ tail ≡ w₂ → SameRow s₁ x₁ f₁ tail s₂ x₂ f₂ []
encoded_differ prev_len s₁ x₁ f₁ w₁ s₂ x₂ f₂ w₂ tail e₁ e₂ t₁ t₂ h =
    prefix-free prev_len false s₁ x₁ f₁ tail s₂ x₂ f₂ [] e₁.shares e₂.shares e₁.key-ok e₂.key-ok (encoded_fields e₁ t₁) (encoded_fields e₂ t₂)
    (ap (λ (x : List ℕ). x ++ tail) e₁.is ∙ h ∙ sym e₂.is ∙ sym (append-nil (row_bytes s₂ x₂ f₂)))

-- a region that ends later changes nothing for a row that is read
wider : (d : List ℕ) (at end end' n : ℕ) (restart : Bool) (r : RowRead) → read_row d at end n restart ≡ ok r → end ≤ end' → read_row d at end' n restart ≡ ok r
unfolding read_row
wider d at end end' n restart r e h =
    bind-then (row_at d at n restart) _ r e λ g p q.
    guard-then (ltb end g.next) 16 _ r q λ t c.
    rw (p, le-ltb end' g.next (omega (arith, ltb-false end g.next t))) c

-- two reads of one row, each of all its bytes, leave nothing over
pub no-tail : (x y tail : List ℕ) (r q : RowRead) → r ≡ q → r.next ≡ length x → q.next ≡ length y → x ++ tail ≡ y → tail ≡ []
no-tail x y tail r q same n m h = nothing tail (omega (arith, n, m, ap (λ (z : RowRead). z.next) same, ap length h, length-append x tail))
  where
    nothing : (t : List ℕ) → length t ≡ 0 → t ≡ []
    nothing [] k = refl
    nothing (z ∷ t) k = absurd (omega arith)

pub decoded_differ : (prev_len : ℕ) (x y tail : List ℕ) (r q : RowRead) → decode_row x prev_len ≡ ok r → r.next ≡ length x → decode_row y prev_len ≡ ok q → q.next ≡ length y → x ++ tail ≡ y
    → (tail ≡ []) × (r ≡ q)
unfolding decode_row
decoded_differ prev_len x y tail r q e n f m h =
    let e₁ : read_row (x ++ []) 0 (length x) prev_len false ≡ ok r = ap (λ (d : List ℕ). read_row d 0 (length x) prev_len false) (append-nil x) ∙ e in
    let e₂ : read_row (x ++ tail) 0 (length x) prev_len false ≡ ok r = read_row-local x [] tail 0 (length x) prev_len false r e₁ (omega (arith, n)) in
    let long : length x ≤ length (x ++ tail) = rw (length-append x tail) (omega arith) in
    let e₃ : read_row (x ++ tail) 0 (length (x ++ tail)) prev_len false ≡ ok r = wider (x ++ tail) 0 (length x) (length (x ++ tail)) prev_len false r e₂ long in
    let f₁ : read_row (x ++ tail) 0 (length (x ++ tail)) prev_len false ≡ ok q = ap (λ (d : List ℕ). read_row d 0 (length d) prev_len false) h ∙ f in
    let same : r ≡ q = ok-inj (sym e₃ ∙ f₁) in
    (no-tail x y tail r q same n m h, same)

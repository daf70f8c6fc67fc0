-- Demand 3, for the earlier format. Two fresh builders, any settings, any rows offered: if the accepted rows differ anywhere, the finished blocks differ. Each block read forwards
-- gives exactly its accepted rows, and backwards the same reversed, each with its number. After one first key, no row's bytes begin a different row's.
--
-- A run (`Ran`) is any mix of calls on a fresh builder, refused ones among them, each given what the last gave back, over buffers of any length and content. A tombstone's value
-- counts as empty (`plain_row`). The proofs are in Proof3 and RowProof.
use Rattle.std.specs.Prelude.{ℕ, ◌≤◌, ◌≡◌, List, [], ◌++◌, map, length}
use Rattle.layout.specs.Res.{ok}
use Rattle.layout.specs.Limits.{max_key}
use Rattle.layout.specs.Row.{Fields, Row, Typed, plain_row}
use Rattle.layout.specs.RowRead.{RowRead}
use Rattle.layout.specs.Trailer.{Trailer, data_of}
use Rattle.layout.specs.Cursor.{ascending, descending, Keyed}
use Rattle.layout_v1.specs.Row.{encode_row, SameRow}
use Rattle.layout_v1.specs.RowRead.{decode_row}
use Rattle.layout_v1.specs.Block.{block_bytes}
use Rattle.layout_v1.specs.Cursor.{open_block}
use Rattle.demands.specs.Lends.{Call}
use Rattle.demands.specs.Reads.{content_of}
use Rattle.demands.specs.Runs.{backwards, KeysFit}
use Rattle.demands_v1.specs.Runs.{Lending, Ran, Finishes, WalksAll, GivesFirst}
use Rattle.demands_v1.specs.Rows.{opened}
use Rattle.demands_v1.specs.RowProof.{encode-tells, encoded_differ, decoded_differ}
use Rattle.demands_v1.specs.Proof3.{ran_finishes, ran-laid, ran-fits, same_rows, ReadsBack, laid-reads-back}
use Rattle.demands_v1.specs.Laws.Walk.{walks-first}

-- After at least one accepted row, build answers a block, never 6 or 18: the block of the accepted rows.
pub run_finishes : (size : ℕ) (calls : List Call) (rows : List Row) (end : Lending) → Ran size calls rows end → 1 ≤ length rows → Finishes end (block_bytes rows)
run_finishes size calls rows end ran some = ran_finishes size calls rows end ran some

-- Different accepted rows, in key, kind, value, seq, times or order, give different finished blocks.
pub blocks-differ : (size₁ size₂ : ℕ) (calls₁ calls₂ : List Call) (rows₁ rows₂ : List Row) (end₁ end₂ : Lending) (block₁ block₂ : List ℕ) → Ran size₁ calls₁ rows₁ end₁
    → Ran size₂ calls₂ rows₂ end₂ → Finishes end₁ block₁ → Finishes end₂ block₂ → (map plain_row rows₁ ≡ map plain_row rows₂ → ⊥) → block₁ ≡ block₂ → ⊥
blocks-differ size₁ size₂ calls₁ calls₂ rows₁ rows₂ end₁ end₂ block₁ block₂ ran₁ ran₂ f₁ f₂ differ same =
    differ (same_rows block₂ rows₁ rows₂ (rw same at (ran-laid size₁ calls₁ rows₁ end₁ ran₁ block₁ f₁)) (ran-laid size₂ calls₂ rows₂ end₂ ran₂ block₂ f₂))

-- A key buffer as long as the longest key is no shorter than any accepted key.
pub keys-fit : (size : ℕ) (calls : List Call) (rows : List Row) (end : Lending) → Ran size calls rows end → KeysFit max_key rows
keys-fit size calls rows end ran = ran-fits size calls rows end ran

module _ (size : ℕ) (calls : List Call) (rows : List Row) (end : Lending) (block : List ℕ) (ran : Ran size calls rows end) (f : Finishes end block) where
  back_in : (room : ℕ) → KeysFit room rows → ReadsBack block room rows
  back_in room fits = laid-reads-back block room rows (ran-laid size calls rows end ran block f) fits

  module _ (room : ℕ) (fits : KeysFit room rows) where
    -- Opened ascending and stepped, with a key buffer no shorter than any key: exactly the accepted rows, each with its number, then "done" ever after. Keys may have come in any
    -- order.
    pub reads-forwards : (t : Trailer) × (given : List Keyed) × (open_block block ascending ≡ ok (opened ascending)) × WalksAll block room (opened ascending) given
        × (map (content_of (data_of block t)) given ≡ map plain_row rows)
    reads-forwards = let r = back_in room fits in (r.t, r.given, r.walks.opens ascending, r.walks.forwards, r.are)

    -- Opened descending: the same rows reversed.
    pub reads-backwards : (t : Trailer) × (given : List Keyed) × (open_block block descending ≡ ok (opened descending)) × WalksAll block room (opened descending) (backwards given)
        × (map (content_of (data_of block t)) given ≡ map plain_row rows)
    reads-backwards = let r = back_in room fits in (r.t, r.given, r.walks.opens descending, r.walks.back, r.are)

  -- Whatever key buffers the steps are lent, refused steps among them, they give the accepted rows in order, or reversed: none twice, and none left out before one that is given.
  pub reads-any_buffers : (rooms : List ℕ) → (t : Trailer) × (given : List Keyed) × GivesFirst block (opened ascending) rooms given
      × GivesFirst block (opened descending) rooms (backwards given) × (map (content_of (data_of block t)) given ≡ map plain_row rows)
  reads-any_buffers rooms =
      let r = back_in max_key (ran-fits size calls rows end ran) in
      (r.t, r.given, walks-first block max_key rooms (opened ascending) r.given r.walks.forwards, walks-first block max_key rooms (opened descending) (backwards r.given) r.walks.back, r.are)

-- After one first key, of two rows that `encode` accepts: where one's bytes begin the other's, they are one row, and nothing follows.
pub row-begins-no-other : (first_len : ℕ) (shared₁ : ℕ) (suffix₁ : List ℕ) (f₁ : Fields) (room₁ : ℕ) (w₁ : List ℕ) (shared₂ : ℕ) (suffix₂ : List ℕ) (f₂ : Fields) (room₂ : ℕ) (w₂ tail : List ℕ)
    → Typed f₁ → Typed f₂ → encode_row first_len shared₁ suffix₁ f₁ room₁ ≡ ok w₁ → encode_row first_len shared₂ suffix₂ f₂ room₂ ≡ ok w₂ → w₁ ++ tail ≡ w₂
    → SameRow shared₁ suffix₁ f₁ tail shared₂ suffix₂ f₂ []
row-begins-no-other first_len shared₁ suffix₁ f₁ room₁ w₁ shared₂ suffix₂ f₂ room₂ w₂ tail t₁ t₂ e₁ e₂ h =
    encoded_differ first_len shared₁ suffix₁ f₁ w₁ shared₂ suffix₂ f₂ w₂ tail (encode-tells first_len shared₁ suffix₁ f₁ room₁ w₁ e₁) (encode-tells first_len shared₂ suffix₂ f₂ room₂ w₂ e₂) t₁ t₂ h

-- And of any two byte strings that `decode` reads whole: one that begins the other is the other.
pub read-begins-no-other : (first_len : ℕ) (x y tail : List ℕ) (r q : RowRead) → decode_row x first_len ≡ ok r → r.next ≡ length x → decode_row y first_len ≡ ok q → q.next ≡ length y → x ++ tail ≡ y
    → (tail ≡ []) × (r ≡ q)
read-begins-no-other first_len x y tail r q e n f m h = decoded_differ first_len x y tail r q e n f m h

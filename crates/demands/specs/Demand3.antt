-- Demand 3. Two fresh builders, any settings, any rows offered: if the accepted rows differ anywhere, the finished blocks differ. Each block read forwards gives exactly its
-- accepted rows, and backwards the same reversed. After one previous key, no row's bytes begin a different row's.
--
-- A run (`Ran`) is any mix of calls on a fresh builder, refused ones among them, each given what the last gave back, over buffers of any length and content. A tombstone's value
-- counts as empty (`plain_row`). The proofs are in Proof3.
use Rattle.std.specs.Prelude.{ℕ, ◌≤◌, ◌≡◌, List, [], ◌++◌, map, length}
use Rattle.layout.specs.Res.{ok}
use Rattle.layout.specs.Limits.{max_key}
use Rattle.layout.specs.Row.{Fields, Row, encode_row, SameRow, Typed, plain_row}
use Rattle.layout.specs.RowRead.{RowRead, decode_row}
use Rattle.layout.specs.Block.{block_bytes}
use Rattle.layout.specs.Trailer.{Trailer, data_of}
use Rattle.layout.specs.Cursor.{ascending, descending, opened_up, opened_down, open_block, Keyed}
use Rattle.demands.specs.Reads.{content_of}
use Rattle.demands.specs.Lends.{Call}
use Rattle.demands.specs.Runs.{Lending, Ran, Finishes, backwards, WalksAll, GivesFirst, KeysFit}
use Rattle.demands.specs.RunsProof.{walks-first}
use Rattle.demands.specs.Proof3.{ran_finishes, ran-laid, ran-fits, same_rows, ReadsBack, laid-reads-back, encode-tells, encoded_differ, decoded_differ}

-- After at least one accepted row, build answers a block, never 6 or 18: the block of the accepted rows.
pub run_finishes : (size interval : ℕ) (calls : List Call) (rows : List Row) (end : Lending) → Ran size interval calls rows end → 1 ≤ length rows → Finishes end (block_bytes interval rows)
run_finishes size interval calls rows end ran some = ran_finishes size interval calls rows end ran some

-- Different accepted rows, in key, kind, value, seq, times or order, give different finished blocks.
pub blocks-differ : (size₁ size₂ n₁ n₂ : ℕ) (calls₁ calls₂ : List Call) (rows₁ rows₂ : List Row) (end₁ end₂ : Lending) (block₁ block₂ : List ℕ)
    → Ran size₁ n₁ calls₁ rows₁ end₁ → Ran size₂ n₂ calls₂ rows₂ end₂ → Finishes end₁ block₁ → Finishes end₂ block₂
    → (map plain_row rows₁ ≡ map plain_row rows₂ → ⊥) → block₁ ≡ block₂ → ⊥
blocks-differ size₁ size₂ n₁ n₂ calls₁ calls₂ rows₁ rows₂ end₁ end₂ block₁ block₂ ran₁ ran₂ f₁ f₂ differ same =
    differ
    (same_rows block₂ n₁ n₂ rows₁ rows₂ (rw same at (ran-laid size₁ n₁ calls₁ rows₁ end₁ ran₁ block₁ f₁)) (ran-laid size₂ n₂ calls₂ rows₂ end₂ ran₂ block₂ f₂))

-- A key buffer as long as the longest key is no shorter than any accepted key.
pub keys-fit : (size interval : ℕ) (calls : List Call) (rows : List Row) (end : Lending) → Ran size interval calls rows end → KeysFit max_key rows
keys-fit size interval calls rows end ran = ran-fits size interval calls rows end ran

module _ (size interval : ℕ) (calls : List Call) (rows : List Row) (end : Lending) (block : List ℕ) (ran : Ran size interval calls rows end) (f : Finishes end block)
    (room : ℕ) (fits : KeysFit room rows) where
  all_back : ReadsBack block room rows
  all_back = laid-reads-back block interval room rows (ran-laid size interval calls rows end ran block f) fits

  -- Opened ascending and stepped, with a key buffer no shorter than any key: exactly the accepted rows, then "done" ever after. Keys may have come in any order.
  pub reads-forwards : (t : Trailer) × (given : List Keyed) × (open_block block ascending ≡ ok opened_up) × WalksAll block room opened_up given
      × (map (content_of (data_of block t)) given ≡ map plain_row rows)
  reads-forwards = (all_back.t, all_back.given, all_back.walks.opens_up, all_back.walks.forwards, all_back.are)

  -- Opened descending: the same rows reversed.
  pub reads-backwards : (t : Trailer) × (given : List Keyed) × (open_block block descending ≡ ok (opened_down block t)) × WalksAll block room (opened_down block t) (backwards given)
      × (map (content_of (data_of block t)) given ≡ map plain_row rows)
  reads-backwards = (all_back.t, all_back.given, all_back.walks.opens-down, all_back.walks.back, all_back.are)

-- Whatever key buffers the steps are lent, refused steps among them, they give the accepted rows in order, or reversed: none twice, and none left out before one that is given.
pub reads-any_buffers : (size interval : ℕ) (calls : List Call) (rows : List Row) (end : Lending) (block : List ℕ) → Ran size interval calls rows end → Finishes end block
    → (rooms : List ℕ) → (t : Trailer) × (given : List Keyed) × GivesFirst block opened_up rooms given × GivesFirst block (opened_down block t) rooms (backwards given)
    × (map (content_of (data_of block t)) given ≡ map plain_row rows)
reads-any_buffers size interval calls rows end block ran f rooms =
    let r = laid-reads-back block interval max_key rows (ran-laid size interval calls rows end ran block f) (ran-fits size interval calls rows end ran) in
    (r.t, r.given, walks-first block max_key rooms opened_up r.given r.walks.forwards, walks-first block max_key rooms (opened_down block r.t) (backwards r.given) r.walks.back, r.are)

-- After one previous key, of two rows that `encode` accepts: where one's bytes begin the other's, they are one row, and nothing follows.
pub row-begins-no-other : (prev_len : ℕ) (shared₁ : ℕ) (suffix₁ : List ℕ) (f₁ : Fields) (room₁ : ℕ) (w₁ : List ℕ) (shared₂ : ℕ) (suffix₂ : List ℕ) (f₂ : Fields) (room₂ : ℕ) (w₂ tail : List ℕ)
    → Typed f₁ → Typed f₂ → encode_row prev_len shared₁ suffix₁ f₁ room₁ ≡ ok w₁ → encode_row prev_len shared₂ suffix₂ f₂ room₂ ≡ ok w₂ → w₁ ++ tail ≡ w₂
    → SameRow shared₁ suffix₁ f₁ tail shared₂ suffix₂ f₂ []
row-begins-no-other prev_len shared₁ suffix₁ f₁ room₁ w₁ shared₂ suffix₂ f₂ room₂ w₂ tail t₁ t₂ e₁ e₂ h =
    encoded_differ prev_len shared₁ suffix₁ f₁ w₁ shared₂ suffix₂ f₂ w₂ tail (encode-tells prev_len shared₁ suffix₁ f₁ room₁ w₁ e₁) (encode-tells prev_len shared₂ suffix₂ f₂ room₂ w₂ e₂) t₁ t₂ h

-- And of any two byte strings that `decode` reads whole: one that begins the other is the other.
pub read-begins-no-other : (prev_len : ℕ) (x y tail : List ℕ) (r q : RowRead) → decode_row x prev_len ≡ ok r → r.next ≡ length x → decode_row y prev_len ≡ ok q → q.next ≡ length y → x ++ tail ≡ y
    → (tail ≡ []) × (r ≡ q)
read-begins-no-other prev_len x y tail r q e n f m h = decoded_differ prev_len x y tail r q e n f m h

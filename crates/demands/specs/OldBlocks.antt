-- Blocks that were built while a key had at most 1,024 bytes read the same. Such a block's bytes are the layout's (`block_bytes`), which names no key limit; and what is read of them
-- is told by the rows and the interval alone: the check's verdict, both walks and every seek, with key buffers as long as they had to be then. The rows may be in any order; where they are
-- in the order of the check, `seek_ascending_lands` and `seek_descending_lands` say more plainly where a seek lands.
use Rattle.std.specs.Prelude.{ℕ, ◌≡◌, List, map}
use Rattle.layout.specs.Key.{Key, no_rank}
use Rattle.layout.specs.Row.{Row, plain_row}
use Rattle.layout.specs.Block.{block_bytes}
use Rattle.layout.specs.Trailer.{Trailer, data_of}
use Rattle.layout.specs.Check.{check}
use Rattle.layout.specs.Cursor.{Keyed}
use Rattle.demands.specs.Reads.{all_rows, content_of, verdict}
use Rattle.demands.specs.Lends.{Call}
use Rattle.demands.specs.Runs.{Lending, Ran, Finishes, KeysFit}
use Rattle.demands.specs.Rows.{BothWays, offered_ranks}
use Rattle.demands.specs.AnyOrder.{regions_from, SoughtAmong}
use Rattle.demands.specs.Proof3.{ran-block, ran-laid, laid-room, laid-both-ways}
use Rattle.demands.specs.Proof2.{laid-verdict}
use Rattle.demands.specs.SoughtProof.{sought-among}
use Rattle.demands.specs.Laws.Laid.{LaidBlock}

abbrev pub former_max_key : ℕ
former_max_key = 1024

-- a block of these rows: its bytes, and what is read of it, by the rows and the interval alone
pub record Stand (interval : ℕ) (rows : List Row) (block : List ℕ) : Type 0 where
  pub bytes : block ≡ block_bytes interval rows
  pub t : Trailer
  pub given : List (List Keyed)
  pub are : map (map (content_of (data_of block t))) given ≡ regions_from interval 0 (map plain_row rows)
  pub all : map (content_of (data_of block t)) (all_rows given) ≡ map plain_row rows
  pub walks : BothWays block t former_max_key (all_rows given)
  pub checked : check block ≡ verdict no_rank (offered_ranks rows) 0
  pub sought : (target : Key) → SoughtAmong block t target given former_max_key

-- Whatever a builder was offered, with any settings: where no accepted key was longer than the limit was then, the finished block stands.
pub old-blocks-stand : (size interval : ℕ) (calls : List Call) (rows : List Row) (end : Lending) (block : List ℕ) → Ran size interval calls rows end → Finishes end block
    → KeysFit former_max_key rows → Stand interval rows block
old-blocks-stand size interval calls rows end block ran f short = stand (ran-laid size interval calls rows end ran block f)
  where
    stand : LaidBlock block interval rows → Stand interval rows block
    stand l =
        record {
          bytes = ran-block size interval calls rows end ran block f;
          t = l.t;
          given = l.regions;
          are = l.parts;
          all = l.contents;
          walks = laid-both-ways block interval former_max_key rows l short;
          checked = laid-verdict block interval rows l;
          sought = λ target. sought-among block l.t l.regions l.reads target former_max_key (laid-room block interval former_max_key rows l short);
        }

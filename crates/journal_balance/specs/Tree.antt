-- The records of a card that were passed, kept in a binary tree, so that one of the same kind and retry number is found without reading all of them again. The tree is an
-- array of slots: a slot has 0, or the place of a record and one more. A kind has a slot to start from, and the record at place p two slots of its own, 2 + p / 21 * 2 and
-- the next: those that have retry numbers are 21 bytes long, so no two of them share a slot. From a record a walk goes on by the retry number's bits, the lowest first.
use Rattle.std.specs.Prelude.{ℕ, ◌+◌, ◌*◌, ◌/◌, ◌%◌, ◌≤◌, ◌<◌, ◌≡◌, Bool, true, false, List, length, get_or, Ok}
use Rattle.journal.specs.declared.Record.{Record}
use Rattle.journal.specs.declared.Found.TheVariants.{Whole}
use Rattle.journal.specs.Record.{length_of, number_at, kind_at, found_in, max_journal}
use Rattle.journal_balance.specs.Counts.{some}
use Rattle.journal_balance.specs.Parts.{Passed, named, Named}

-- one for each kind, and two for each 21 bytes of a journal
abbrev pub slots : ℕ
slots = 6240

abbrev pub root : ℕ → ℕ
root kind = kind % 2

abbrev pub below : ℕ → ℕ → ℕ
below p bits = 2 + p / 21 * 2 + bits % 2

-- from a slot on, by the bits that are left, a walk meets a record of this kind, card and retry number
pub data Met (d tree : List ℕ) (kind card retry : ℕ) : ℕ → ℕ → Type 0 where
  here : {slot bits : ℕ} (p : ℕ) → get_or tree slot 0 ≡ p + 1 → Named d p kind card retry true → Met d tree kind card retry slot bits
  there : {slot bits : ℕ} (p : ℕ) → get_or tree slot 0 ≡ p + 1 → Met d tree kind card retry (below p bits) (bits / 2) → Met d tree kind card retry slot bits

-- the place in a slot is that of a record which came before, and the slots of that record come after the slot
pub record Node (d : List ℕ) (at : ℕ) (before : List Record) (slot p : ℕ) : Type 0 where
  pub is : Record
  pub next : ℕ
  pub found : found_in d p ≡ Ok (Whole is next)
  pub among : (test : Record → Bool) → test is ≡ true → some test before ≡ true
  pub early : p + 21 ≤ at
  pub above : slot < 2 + p / 21 * 2

-- the tree before the record at `at`: a walk meets each kind and retry number of the card that came before
pub record Tree (d : List ℕ) (card at : ℕ) (tree : List ℕ) : Type 0 where
  pub before : List Record
  pub passed : Passed d at before
  pub size : length tree ≡ slots
  pub nodes : (slot p : ℕ) → get_or tree slot 0 ≡ p + 1 → Node d at before slot p
  pub whole : (kind retry : ℕ) → length_of kind ≡ 21 → some (named kind card retry) before ≡ true → Met d tree kind card retry (root kind) retry

-- a debit or a top-up of this card stands at `at`, whole
pub record Offers (d : List ℕ) (at kind card retry : ℕ) : Type 0 where
  pub kind-is : kind ≡ kind_at d at
  pub card-is : card ≡ number_at 8 d (at + 1)
  pub retry_is : retry ≡ number_at 8 d (at + 9)
  pub long : length_of kind ≡ 21
  pub inside : at + 21 ≤ length d
  pub short : length d ≤ max_journal

-- until the card's close, the tree is kept
abbrev pub Keeps : List ℕ → ℕ → ℕ → Bool → List ℕ → Type 0
Keeps d card at closed tree = closed ≡ false → Tree d card at tree

-- The promises of `next` and `seek` from what was met: one law for the whole step and one for the whole seek.
-- The place that a step or a seek leaves is put into the cursor that came, beside its key bytes; after a refusal both are those that came.
use Prim.Native.Nat.{ℕ}
use mathlib.Core.Path.{◌≡◌, refl, ap, ◌∙◌}
use mathlib.Core.List.{List}
use lib.ListN.{length}
use Rattle.layout.specs.Res.{Res, ok, refuse, bind}
use Rattle.layout.specs.Cursor.{Step, next}
use Rattle.layout.specs.Seek.{Sought, seek}
use Rattle.basics.specs.Answers.{apart}
use Rattle.std.specs.Prelude.{Result, Ok, Err, Option}
use Rattle.basics.specs.declared.Refusal.{Refusal}
use Rattle.basics.specs.Says.{says_order}
use Rattle.place_v2.specs.declared.Place.{Place}
use Rattle.step_in_place_v2.specs.declared.Moved.{Moved}
use Rattle.step_in_place_v2.specs.declared.Moved.TheVariants.{Found as StepFound, Done as StepDone}
use Rattle.step_in_place_v2.specs.Promise.{Kept, Moves}
use Rattle.step_in_place_v2.specs.Says.{told, says_moved, place_after}
use Rattle.seek_in_place_v2.specs.declared.Found.{Found as FoundC}
use Rattle.seek_in_place_v2.specs.declared.Found.TheVariants.{Landed as FoundLanded, Done as FoundDone}
use Rattle.seek_in_place_v2.specs.Promise.{Finds}
use Rattle.seek_in_place_v2.specs.Says.{reported, says_found, place_found}
use Rattle.block_iterator_v2.specs.declared.BlockIteratorV2.{BlockIteratorV2}
use Rattle.block_iterator_v2.specs.declared.Found.{Found}
use Rattle.block_iterator_v2.specs.declared.SeekAnswer.{SeekAnswer}
use Rattle.block_iterator_v2.specs.Says.{view_of, says_next, says_seek}
use Rattle.block_iterator_v2.specs.Parts.{answer_of, answer_found}
use Rattle.block_iterator_v2.specs.Promise.{Whole, StepsNext, SeeksTarget}

-- ---- a step

abbrev pub cursor_is : Place → List ℕ → BlockIteratorV2
cursor_is p key = record { place = p; key = key }

same-said : (m : Result Moved Refusal) → says_next (answer_of m) ≡ says_moved m
same-said (Ok (StepFound p g n r)) = refl
same-said (Ok (StepDone p)) = refl
same-said (Err r) = refl

-- beside a refusal the place is the one that came, and so are the bytes
all-kept : (want : Res Step) (self : BlockIteratorV2) (m : Result Moved Refusal) (key' : List ℕ) → says_moved m ≡ bind want told → Kept want key' self.key
    → Whole want (cursor_is (place_after m self.place) key') self
all-kept (ok s) self m key' e k = tt
all-kept (refuse n) self (Ok m) key' e k = absurd (apart e)
all-kept (refuse n) self (Err r) key' e k = ap (cursor_is self.place) k

pub steps-put : (self : BlockIteratorV2) (b out key' out' : List ℕ) {m : Result Moved Refusal} {p : Place} {a : Result (Option Found) Refusal}
    → Moves (next (view_of self) b (length out)) self.place self.key out m key' out' → p ≡ place_after m self.place → a ≡ answer_of m
    → StepsNext self b out (record { iterator = cursor_is p key'; answer = a }) out'
steps-put self b out key' out' {m} s e q =
    rw (e, q)
    (record { answer = same-said m ∙ s.answer; view = s.view; whole = all-kept (next (view_of self) b (length out)) self m key' s.answer s.whole; lent = s.lent })

-- ---- a seek

same-found : (f : Result FoundC Refusal) → says_seek (answer_found f) ≡ says_found f
same-found (Ok (FoundLanded p n)) = refl
same-found (Ok (FoundDone p n)) = refl
same-found (Err r) = refl

all_left : (want : Res Sought) (self : BlockIteratorV2) (f : Result FoundC Refusal) (key' : List ℕ) → says_found f ≡ bind want reported → Kept want key' self.key
    → Whole want (cursor_is (place_found f self.place) key') self
all_left (ok s) self f key' e k = tt
all_left (refuse n) self (Ok f) key' e k = absurd (apart e)
all_left (refuse n) self (Err r) key' e k = ap (cursor_is self.place) k

pub seeks-put : (self : BlockIteratorV2) (b target key' : List ℕ) {f : Result FoundC Refusal} {p : Place} {a : Result SeekAnswer Refusal}
    → Finds (seek (says_order self.place.order) b target) self.place self.key f key' → p ≡ place_found f self.place → a ≡ answer_found f
    → SeeksTarget self b target (record { iterator = cursor_is p key'; answer = a })
seeks-put self b target key' {f} s e q =
    rw (e, q)
    (record { answer = same-found f ∙ s.answer; view = s.view; whole = all_left (seek (says_order self.place.order) b target) self f key' s.answer s.whole })

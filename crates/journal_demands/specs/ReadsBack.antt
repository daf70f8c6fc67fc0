-- What the writer appends, the reader gives back, after the records that were there.
use Rattle.std.specs.Prelude.{ℕ, ◌+◌, ◌^◌, ◌≤◌, ◌<◌, ◌≡◌, Bool, true, false, cond, ◌||◌, List, [], ◌∷◌, ◌++◌, ltb, length, take, drop, Ok, Err}
use Rattle.std.proofs.Math.Path.{refl, ap}
use Rattle.std.proofs.Common.{sym, ◌∙◌, subst, append_assoc, append-nil, arith, length-append, take_at, drop_at, drop-drop, length-take-le, ltb-false}
use Rattle.layout.specs.Fixed.{big}
use Rattle.layout.specs.Place.{splice}
use Rattle.layout.proofs.Laws.Fixed.{length-big, unbig-take-big}
use Rattle.layout.proofs.Laws.Place.{past, byte_at}
use Rattle.layout.proofs.Laws.Splice.{take-past-splice}
use Rattle.journal.specs.declared.Refusal.TheVariants.{UsedPastBuffer, EndsInside, NoRoom}
use Rattle.journal.specs.declared.Record.{Record}
use Rattle.journal.specs.declared.Record.TheVariants.{Debit, TopUp, Close}
use Rattle.journal.specs.declared.Found.TheVariants.{Whole}
use Rattle.journal.specs.Record.{length_of, kind_of, body_bytes, record_bytes, number_at, kind_at, body_at, found_in, max_journal}
use Rattle.journal_read.specs.Reader.{Journal, holds, refused, journal_of}
use Rattle.journal_append.specs.Append.{placed, appended, written}
use Rattle.journal.specs.Laws.Found.{kind-length, body-debit, body_up, body-close, found-whole, found-end}
use Rattle.journal_append.specs.Laws.Append.{length_record}
use Rattle.journal_demands.specs.Run.{Run, over, tail, more, run_of, run_inside, read-run}
use Rattle.journal_demands.specs.Parts.{found-longer}

-- a record whose numbers have the widths of its fields: every record of the writer's is one
abbrev pub Fits : Record → Type 0
Fits (Debit card retry amount) = (card < 2 ^ 64) × (retry < 2 ^ 64) × (amount < 2 ^ 32)
Fits (TopUp card retry amount) = (card < 2 ^ 64) × (retry < 2 ^ 64) × (amount < 2 ^ 32)
Fits (Close card) = card < 2 ^ 64

-- ---- a record's bytes, read where they stand

module _ (d : List ℕ) (at : ℕ) where
  laid-number : (n v : ℕ) (post : List ℕ) → v < 256 ^ n → drop at d ≡ big n v ++ post → number_at n d at ≡ v
  unfolding number_at
  laid-number n v post h e = rw e (unbig-take-big n v post h)

laid_next : (d : List ℕ) (at n v : ℕ) (post : List ℕ) → drop at d ≡ big n v ++ post → drop (at + n) d ≡ post
laid_next d at n v post e = ap (λ (k : ℕ). drop (at + k) d) (sym (length-big n v)) ∙ past d at (big n v) post e

module _ (d : List ℕ) (at k : ℕ) where
  laid-kind : (w : List ℕ) → drop at d ≡ k ∷ w → (kind_at d at ≡ k) × (drop (at + 1) d ≡ w)
  laid-kind w e = (byte_at d at k w e, sym (drop-drop 1 at d) ∙ ap (drop 1) e)

  laid-body : (card retry amount : ℕ) (post : List ℕ) → card < 2 ^ 64 → retry < 2 ^ 64 → amount < 2 ^ 32 → drop (at + 1) d ≡ body_bytes card retry amount ++ post
      → (number_at 8 d (at + 1) ≡ card) × (number_at 8 d (at + 9) ≡ retry) × (number_at 4 d (at + 17) ≡ amount)
  laid-body card retry amount post a b c e =
      let one : drop (at + 1) d ≡ big 8 card ++ (big 8 retry ++ (big 4 amount ++ post)) = e ∙ simp append_assoc in
      let two : drop (at + 9) d ≡ big 8 retry ++ (big 4 amount ++ post) = ap (λ (p : ℕ). drop p d) nine ∙ laid_next d (at + 1) 8 card (big 8 retry ++ (big 4 amount ++ post)) one in
      let three : drop (at + 17) d ≡ big 4 amount ++ post = ap (λ (p : ℕ). drop p d) seventeen ∙ laid_next d (at + 9) 8 retry (big 4 amount ++ post) two in (
        laid-number d (at + 1) 8 card (big 8 retry ++ (big 4 amount ++ post)) a one,
        laid-number d (at + 9) 8 retry (big 4 amount ++ post) b two,
        laid-number d (at + 17) 4 amount post c three,
      )
    where
      nine : at + 9 ≡ at + 1 + 8
      nine = omega arith

      seventeen : at + 17 ≡ at + 9 + 8
      seventeen = omega arith

module _ (d : List ℕ) (at : ℕ) where
  laid_record : (r : Record) (post : List ℕ) → Fits r → drop at d ≡ record_bytes r ++ post → (kind_at d at ≡ kind_of r) × (body_at (kind_of r) d at ≡ r)
  unfolding record_bytes
  laid_record (Debit card retry amount) post f e =
      let k = laid-kind d at 1 (body_bytes card retry amount ++ post) e in
      let b = laid-body d at 1 card retry amount post f.0 f.1 f.2 k.1 in
      (k.0, body-debit 1 d at refl ∙ (λ i. Debit (b.0 i) (b.1 i) (b.2 i)))
  laid_record (TopUp card retry amount) post f e =
      let k = laid-kind d at 2 (body_bytes card retry amount ++ post) e in
      let b = laid-body d at 2 card retry amount post f.0 f.1 f.2 k.1 in
      (k.0, body_up 2 d at refl ∙ (λ i. TopUp (b.0 i) (b.1 i) (b.2 i)))
  laid_record (Close card) post f e =
      let k = laid-kind d at 3 (big 8 card ++ post) e in
      (k.0, body-close 3 d at refl ∙ ap Close (laid-number d (at + 1) 8 card post f k.1))

-- a record after a whole journal is found there
found-laid : (d : List ℕ) (r : Record) → Fits r → found_in (d ++ record_bytes r) (length d) ≡ Ok (Whole r (length d + length_of (kind_of r)))
found-laid d r f =
    let all = d ++ record_bytes r in
    let at = length d in
    let e : drop at all ≡ record_bytes r ++ [] = drop_at d (record_bytes r) at refl ∙ sym (append-nil (record_bytes r)) in
    let l = laid_record all at r [] f e in
    let size : length all ≡ at + length_of (kind_of r) = length-append d (record_bytes r) ∙ ap (λ (n : ℕ). at + n) (length_record r) in
    let len : length_of (kind_at all at) ≡ length_of (kind_of r) = ap length_of l.0 in
    let some = kind-length r in
    found-whole all at (omega (arith, size, some)) (λ z. absurd (omega (arith, len, some))) (omega (arith, size, len))
    ∙ (λ i. Ok (Whole (body_at (l.0 i) all at) (at + len i)))
    ∙ ap (λ (q : Record). Ok (Whole q (at + length_of (kind_of r)))) l.1

-- ---- one journal after another

run_join : {d all : List ℕ} {n at : ℕ} {rs qs : List Record} {m end : ℕ} → n ≤ length all → d ≡ take n all → m ≡ n → Run d at rs m → Run all n qs end → Run all at (rs ++ qs) end
run_join {all = all} {qs = qs} {end = end} h e q (over f) w = subst (λ (x : ℕ). Run all x qs end) (sym q) w
run_join {all = all} {qs = qs} {end = end} h e q (tail f) w = subst (λ (x : ℕ). Run all x qs end) (sym q) w
run_join {all = all} {n = n} {at = at} h e q (more {next} {r} f v) w = more (found-longer n all h at r next (rw e at f)) (run_join h e q v w)

-- a whole journal with a record after it
pub append-holds : (d : List ℕ) (rs : List Record) (r : Record) → journal_of d ≡ holds rs (length d) → Fits r → length (d ++ record_bytes r) ≤ max_journal
    → journal_of (d ++ record_bytes r) ≡ holds (rs ++ (r ∷ [])) (length (d ++ record_bytes r))
append-holds d rs r e f h =
    let all = d ++ record_bytes r in
    let size : length all ≡ length d + length_of (kind_of r) = length-append d (record_bytes r) ∙ ap (λ (n : ℕ). length d + n) (length_record r) in
    let last : Run all (length d + length_of (kind_of r)) [] (length d + length_of (kind_of r)) = over (found-end all (length d + length_of (kind_of r)) (omega (arith, size))) in
    let step : Run all (length d) (r ∷ []) (length d + length_of (kind_of r)) = more (found-laid d r f) last in
    let run : Run all 0 (rs ++ (r ∷ [])) (length d + length_of (kind_of r)) =
    run_join (omega (arith, size)) (sym (take_at d (record_bytes r) (length d) refl)) refl (run_of d rs (length d) e) step in
    read-run h run ∙ ap (holds (rs ++ (r ∷ []))) (sym size)

-- ---- the writer

-- an answer that is no refusal has come through every test
taken : (room used n : ℕ) (j : Journal) (next : ℕ) → placed room used n j ≡ Ok next
    → (rs : List Record) × (end : ℕ) × (j ≡ holds rs end) × (used ≤ end) × (used + n ≤ room) × (used + n ≤ max_journal) × (next ≡ used + n)
taken room used n (refused x) next e = absurd (let z : ◌≡◌ {A = ℕ} 0 1 = cc in omega arith)
taken room used n (holds rs end) next e = go (ltb end used) refl (ltb room (used + n)) refl (ltb max_journal (used + n)) refl e
  where
    go : (a : Bool) → ltb end used ≡ a → (b : Bool) → ltb room (used + n) ≡ b → (c : Bool) → ltb max_journal (used + n) ≡ c
        → cond a (Err EndsInside) (cond (b || c) (Err NoRoom) (Ok (used + n))) ≡ Ok next
        → (qs : List Record) × (f : ℕ) × (holds rs end ≡ holds qs f) × (used ≤ f) × (used + n ≤ room) × (used + n ≤ max_journal) × (next ≡ used + n)
    go true p b q c t e = absurd (let z : ◌≡◌ {A = ℕ} 0 1 = cc in omega arith)
    go false p true q c t e = absurd (let z : ◌≡◌ {A = ℕ} 0 1 = cc in omega arith)
    go false p false q true t e = absurd (let z : ◌≡◌ {A = ℕ} 0 1 = cc in omega arith)
    go false p false q false t e =
        let same : used + n ≡ next = cc in
        (rs, end, refl, ltb-false end used p, ltb-false room (used + n) q, ltb-false max_journal (used + n) t, sym same)

appended-tells : (buffer : List ℕ) (used : ℕ) (r : Record) (next : ℕ) → appended buffer used r ≡ Ok next
    → (used ≤ length buffer) × (placed (length buffer) used (length_of (kind_of r)) (journal_of (take used buffer)) ≡ Ok next)
unfolding appended
appended-tells buffer used r next e = go (ltb (length buffer) used) refl e
  where
    go : (a : Bool) → ltb (length buffer) used ≡ a → cond a (Err UsedPastBuffer) (placed (length buffer) used (length_of (kind_of r)) (journal_of (take used buffer))) ≡ Ok next
        → (used ≤ length buffer) × (placed (length buffer) used (length_of (kind_of r)) (journal_of (take used buffer)) ≡ Ok next)
    go true p e = absurd (let z : ◌≡◌ {A = ℕ} 0 1 = cc in omega arith)
    go false p e = (ltb-false (length buffer) used p, e)

-- the used part was whole, its records are as they were, and the record comes after them; the new used length is where it ends
pub append-reads-back : (buffer : List ℕ) (used : ℕ) (r : Record) (next : ℕ) → Fits r → appended buffer used r ≡ Ok next
    → (rs : List Record) × (journal_of (take used buffer) ≡ holds rs used) × (next ≡ used + length_of (kind_of r))
    × (journal_of (take next (written (Ok next) buffer used r)) ≡ holds (rs ++ (r ∷ [])) next)
append-reads-back buffer used r next f e =
    let a = appended-tells buffer used r next e in
    let t = taken (length buffer) used (length_of (kind_of r)) (journal_of (take used buffer)) next a.1 in
    let rs = t.0 in
    let end = t.1 in
    let d = take used buffer in
    let bytes = record_bytes r in
    let long : length d ≡ used = length-take-le used buffer a.0 in
    let inside : end ≤ length d = run_inside (omega arith) (run_of d rs end t.2) in
    let same : end ≡ used = omega (arith, t.3, long) in
    let whole : journal_of d ≡ holds rs used = t.2 ∙ ap (holds rs) same in
    let n : used + length bytes ≡ next = ap (λ (k : ℕ). used + k) (length_record r) ∙ sym t.6 in
    let fits : used + length bytes ≤ length buffer = omega (arith, length_record r, t.4) in
    let part : take next (splice buffer used bytes) ≡ d ++ bytes = ap (λ (k : ℕ). take k (splice buffer used bytes)) (sym n) ∙ take-past-splice buffer used bytes fits in
    let size : length (d ++ bytes) ≡ next = length-append d bytes ∙ ap (λ (k : ℕ). k + length bytes) long ∙ n in (
      rs,
      whole,
      t.6,
      ap journal_of part
          ∙ append-holds d rs r (whole ∙ ap (holds rs) (sym long)) f (omega (arith, size, t.5, t.6))
          ∙ ap (holds (rs ++ (r ∷ []))) size,
    )

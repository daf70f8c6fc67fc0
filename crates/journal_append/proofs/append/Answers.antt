-- `append` keeps its promise: 32 first, then what the reader says of the used part: its refusal (30, 31), a tail (33), or a whole part, after which the record goes.
use Prim.Native.Nat.{ℕ, ◌-◌, ◌≤◌}
use mathlib.Core.Path.{◌≡◌, refl, ap, sym, ◌∙◌}
use mathlib.Core.List.{List}
use native.Mathlib.Omega.{arith}
use lib.ListN.{length, take}
use lib.Seq.{length-take-le}
use Rattle.std.specs.Prelude.{Result, Ok, Err, IsErrAnd, Option, Some, None}
use Rattle.std.proofs.lemmas.Result.{err_from_is_err_and}
use Rattle.journal.specs.declared.Refusal.{Refusal}
use Rattle.journal.specs.declared.Refusal.TheVariants.{EndsInside}
use Rattle.journal.specs.declared.Record.{Record}
use Rattle.journal_read.specs.declared.Reading.{Reading}
use Rattle.journal_read.specs.Reader.{journal_of, counted, reading_of}
use Rattle.journal_append.specs.Append.{appended}
use Rattle.journal_append.specs.Promise.{Appends}
use Rattle.journal_append.specs.Parts.{Places}
use Rattle.journal_append.specs.Laws.Append.{append-past, append-reads, place-refused, place-tail, place-whole, reading_is, reading_short}
use Rattle.journal_append.proofs.append.Goals.{After-read}
use Rattle.journal_append.proofs.append.Goals as goal

module _ (buffer : List ℕ) (used : ℕ) (r : Record) (h : used ≤ length buffer) where
  said : {x : Result Reading Refusal} → x ≡ reading_of (take used buffer) → counted used (journal_of (take used buffer)) ≡ x
  said e = sym (e ∙ reading_is (take used buffer) ∙ ap (λ (n : ℕ). counted n (journal_of (take used buffer))) (length-take-le used buffer h))

  says-no : (q : Refusal) → Err q ≡ reading_of (take used buffer) → Err q ≡ appended buffer used r
  says-no q e = place-refused _ _ _ used (journal_of (take used buffer)) q (said e) ∙ append-reads buffer used r h

  says-tail : (x : Reading) (p : ℕ) → Ok x ≡ reading_of (take used buffer) → x.tail ≡ Some p → Err EndsInside ≡ appended buffer used r
  says-tail x p e g = place-tail _ used _ (journal_of (take used buffer)) x.records p (said e ∙ ap (λ (t : Option ℕ). Ok (record { records = x.records; tail = t })) g) ∙ append-reads buffer used r h

  says-short : (x : Reading) → Ok x ≡ reading_of (take used buffer) → used ≤ 65536
  says-short x e = let s = reading_short (take used buffer) x.records x.tail (sym e) in omega (arith, s, length-take-le used buffer h)

  says-whole : (x : Reading) → Ok x ≡ reading_of (take used buffer) → x.tail ≡ None → {q : Result ℕ Refusal} {buffer' : List ℕ} → Places buffer used r q buffer' → Appends buffer used r q buffer'
  says-whole x e g p =
      record {
        answer = p.answer ∙ place-whole _ used _ (journal_of (take used buffer)) x.records (said e ∙ ap (λ (t : Option ℕ). Ok (record { records = x.records; tail = t })) g) ∙ append-reads buffer used r h;
        bytes = p.bytes;
      }

pub returns-in_default : goal.returns-in_default
returns-in_default c = record { answer = append-past _ _ _ (omega (arith, c.in_default.ensures.lookup)); bytes = refl }

-- what was read is the used part
part_of : (c : After-read) → (c.args.used ≤ length c.args.buffer.now) × (c.in-Some.part.now ≡ take c.args.used c.args.buffer.now)
part_of c =
    let l = c.in-Some.ensures.lookup.0 in
    let all : c.args.used - 0 ≡ c.args.used = omega arith in
    (l.1, l.2 ∙ ap (λ (n : ℕ). take n c.args.buffer.now) all)

-- a refusal that is handed on
handed : (x : Result ℕ Refusal) {q : Refusal} → IsErrAnd x (λ y. y ≡ q) → x ≡ Err q
handed x e = let p = err_from_is_err_and x e in p.1 ∙ ap Err p.2

pub returns-in_err-reading : goal.returns-in_err-reading
returns-in_err-reading c =
    let p = part_of (goal.at.returns-in_err-reading c).After-read in
    let e = handed c.from_residual.result c.from_residual.ensures.1 in
    record {
      answer = e ∙ says-no c.args.buffer.now c.args.used c.args.record p.0 _ (c.in_err-reading.ensures ∙ ap reading_of p.1);
      bytes = rw e refl;
    }

pub returns-in-Some-tail : goal.returns-in-Some-tail
returns-in-Some-tail c =
    let p = part_of (goal.at.returns-in-Some-tail c).After-read in
    record {
      answer = says-tail c.args.buffer.now c.args.used c.args.record p.0 c.in_ok-reading.reading _ (c.in_ok-reading.ensures ∙ ap reading_of p.1) c.in-Some-tail.is;
      bytes = refl;
    }

pub append_whole-requires : goal.append_whole-requires
append_whole-requires c =
    let p = part_of (goal.at.append_whole-requires c).After-read in
    (p.0, says-short c.args.buffer.now c.args.used c.args.record p.0 c.in_ok-reading.reading (c.in_ok-reading.ensures ∙ ap reading_of p.1))

pub returns-in-None : goal.returns-in-None
returns-in-None c =
    let p = part_of (goal.at.returns-in-None c).After-read in
    says-whole c.args.buffer.now c.args.used c.args.record p.0 c.in_ok-reading.reading (c.in_ok-reading.ensures ∙ ap reading_of p.1) c.in-None.is c.append_whole.ensures

-- `counted` takes in the record at its place, and so does the tree. Each exit is one case of what counts (`proofs/One`).
use Prim.Native.Nat.{◌+◌}
use mathlib.Core.Path.{◌≡◌, ap, sym, ◌∙◌}
use mathlib.Core.Bool.{Bool}
use native.Mathlib.Omega.{arith}
use Rattle.journal.specs.declared.Kind.{Kind}
use Rattle.journal.specs.declared.Kind.TheVariants.{Close, Debit}
use Rattle.journal.specs.Record.{byte_of, length_of, number_at}
use Rattle.journal.specs.Laws.Found.{length-least, length-long, kind-some, kind-up, byte-one}
use Rattle.journal.proofs.Numbers.{number_is}
use Rattle.journal_balance.specs.Parts.{Earlier}
use Rattle.journal_balance.specs.Laws.Tree.{keeps-long, keeps-other}
use Rattle.journal_balance.proofs.One.{one-closed, one-other, one-close, one-double, one-debit, one_up}
use Rattle.journal_balance.proofs.counted.Goals.{After-eight, After-eight-retry, After-seen, After-four-amount}
use Rattle.journal_balance.proofs.counted.Goals as goal

-- a debit or a top-up
not-close : (kind : Kind) → (kind ≡ Close → ⊥) → byte_of kind ≡ 3 → ⊥
not-close kind n e = n (byte-one kind Close e)

long : (kind : Kind) → (kind ≡ Close → ⊥) → length_of (byte_of kind) ≡ 21
long kind n = length-long (byte_of kind) (kind-some kind) (not-close kind n)

-- the numbers that were read
card-is : (c : After-eight) → c.eight.result ≡ number_at 8 c.args.journal.now (c.args.at + 1)
card-is c =
    number_is 8 c.args.journal.now (c.args.at + 1) (omega (arith, length-least (byte_of c.args.kind) (kind-some c.args.kind), c.requires.kind_value.1)) c.eight.ensures

retry_is : (c : After-eight-retry) → c.eight-retry.result ≡ number_at 8 c.args.journal.now (c.args.at + 9)
retry_is c =
    number_is 8 c.args.journal.now (c.args.at + 9) (omega (arith, long c.args.kind c.in_default.not-Close, c.requires.kind_value.1)) c.eight-retry.ensures

amount-is : (c : After-four-amount) → c.four-amount.result ≡ number_at 4 c.args.journal.now (c.args.at + 17)
amount-is c =
    number_is 4 c.args.journal.now (c.args.at + 17) (omega (arith, long c.args.kind c.in_default.not-Close, c.requires.kind_value.1)) c.four-amount.ensures.0

-- what `seen` answered, of the records before
told : (c : After-seen) {t : Bool} → c.seen.result ≡ t → Earlier c.args.journal.now c.args.at (byte_of c.args.kind) c.args.card c.eight-retry.result t
told c e before p = sym e ∙ c.seen.ensures.earlier before p

pub returns-then-s-clause-counts_one : goal.returns-then-s-clause-counts_one
returns-then-s-clause-counts_one c = one-closed _ _ (byte_of c.args.kind) _ _ c.requires.kind_value.0 (kind-some c.args.kind) c.if-s.true

pub returns-then-eight-card : goal.returns-then-eight-card
returns-then-eight-card c =
    let e = card-is (goal.at.returns-then-eight-card c).After-eight in
    let k = c.requires.kind_value in
    record {
      counts_one = one-other _ _ (byte_of c.args.kind) _ _ k.0 (kind-some c.args.kind) c.eight.result e c.if-eight-card.true;
      keeps_2 = keeps-other _ _ _ _ _ (byte_of c.args.kind) k.0 (kind-some c.args.kind) k.1 c.eight.result e c.if-eight-card.true c.requires.keeps;
    }

pub returns-in-Close-clause-counts_one : goal.returns-in-Close-clause-counts_one
returns-in-Close-clause-counts_one c =
    one-close _ _ (byte_of c.args.kind) _ _ c.requires.kind_value.0 (kind-some c.args.kind) c.eight.result (card-is (goal.at.returns-in-Close-clause-counts_one c).After-eight) c.if-eight-card.false
    (ap byte_of c.in-Close.is)

pub seen-requires : goal.seen-requires
seen-requires c =
    let l = long c.args.kind c.in_default.not-Close in
    let k = c.requires.kind_value in
    record {
      offers = record {
        kind-is = k.0;
        card-is = sym c.if-eight-card.false ∙ card-is (goal.at.seen-requires c).After-eight;
        retry_is = retry_is (goal.at.seen-requires c).After-eight-retry;
        long = l;
        inside = omega (arith, k.1);
        short = k.2;
      };
      tree = c.requires.keeps c.if-s.false;
    }

pub returns-then-seen : goal.returns-then-seen
returns-then-seen c =
    let v = goal.at.returns-then-seen c in
    let n = c.in_default.not-Close in
    record {
      counts_one =
          one-double _ _ (byte_of c.args.kind) _ _ c.requires.kind_value.0 (kind-some c.args.kind) c.eight.result (card-is v.After-eight) c.if-eight-card.false (not-close c.args.kind n) c.eight-retry.result
          (retry_is v.After-eight-retry) (told v.After-seen c.if-seen.true);
      keeps_2 = keeps-long _ _ _ _ _ (byte_of c.args.kind) (long c.args.kind n) c.seen.ensures.tree_2;
    }

pub returns-in-Debit : goal.returns-in-Debit
returns-in-Debit c =
    let v = goal.at.returns-in-Debit c in
    let n = c.in_default.not-Close in
    record {
      counts_one =
          one-debit _ _ (byte_of c.args.kind) _ c.args.s c.requires.kind_value.0 (kind-some c.args.kind) c.eight.result (card-is v.After-eight) c.if-eight-card.false (not-close c.args.kind n) c.eight-retry.result
          (retry_is v.After-eight-retry) (told v.After-seen c.if-seen.false) c.if-s.false c.four-amount.result (amount-is v.After-four-amount) c.four-amount.ensures.1
          (ap byte_of c.in-Debit.is);
      keeps_2 = keeps-long _ _ _ _ _ (byte_of c.args.kind) (long c.args.kind n) c.seen.ensures.tree_2;
    }

pub returns : goal.returns
returns c =
    let v = goal.at.returns c in
    let n = c.in_default.not-Close in
    let up = kind-up (byte_of c.args.kind) (kind-some c.args.kind) (not-close c.args.kind n) (λ e. c.in_default-kind.not-Debit (byte-one c.args.kind Debit e)) in
    record {
      counts_one =
          one_up _ _ (byte_of c.args.kind) _ c.args.s c.requires.kind_value.0 (kind-some c.args.kind) c.eight.result (card-is v.After-eight) c.if-eight-card.false (not-close c.args.kind n) c.eight-retry.result
          (retry_is v.After-eight-retry) (told v.After-seen c.if-seen.false) c.if-s.false c.four-amount.result (amount-is v.After-four-amount) c.four-amount.ensures.1 up;
      keeps_2 = keeps-long _ _ _ _ _ (byte_of c.args.kind) (long c.args.kind n) c.seen.ensures.tree_2;
    }

-- `body_at` reads the fields that the kind has.
use Prim.Native.Nat.{◌+◌}
use mathlib.Core.Path.{◌≡◌, ap, sym}
use native.Mathlib.Omega.{arith}
use Rattle.journal.specs.Record.{byte_of, number_at}
use Rattle.journal.specs.Laws.Found.{length-least, length-debit, length_up, kind-some, body-close, body-debit, body_up}
use Rattle.journal.proofs.Numbers.{number_is}
use Rattle.journal.proofs.body_at.Goals.{After-eight-card}
use Rattle.journal.proofs.body_at.Goals as goal

-- the card that was read
card-is : (c : After-eight-card) → c.eight-card.result ≡ number_at 8 c.args.journal.now (c.args.at + 1)
card-is c =
    number_is 8 c.args.journal.now (c.args.at + 1) (omega (arith, length-least (byte_of c.args.kind) (kind-some c.args.kind))) c.eight-card.ensures

pub returns-in-Debit : goal.returns-in-Debit
returns-in-Debit c =
    let is = ap byte_of c.in-Debit.is in
    let long = length-debit _ is in
    rw (
      card-is (goal.at.returns-in-Debit c).After-eight-card,
      number_is 8 c.args.journal.now (c.args.at + 9) (omega arith) c.eight-retry.ensures,
      number_is 4 c.args.journal.now (c.args.at + 17) (omega arith) c.four-amount.ensures.0,
    ) (sym (body-debit _ _ _ is))

pub returns-in-TopUp : goal.returns-in-TopUp
returns-in-TopUp c =
    let is = ap byte_of c.in-TopUp.is in
    let long = length_up _ is in
    rw (
      card-is (goal.at.returns-in-TopUp c).After-eight-card,
      number_is 8 c.args.journal.now (c.args.at + 9) (omega arith) c.eight-retry.ensures,
      number_is 4 c.args.journal.now (c.args.at + 17) (omega arith) c.four-amount.ensures.0,
    ) (sym (body_up _ _ _ is))

pub returns-in-Close : goal.returns-in-Close
returns-in-Close c =
    rw (card-is (goal.at.returns-in-Close c).After-eight-card) (sym (body-close _ _ _ (ap byte_of c.in-Close.is)))

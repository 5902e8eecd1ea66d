use Rattle.std.proofs.Common.{arith}
use Rattle.mari_settle.specs.Conditions.{IsSmall}
use Rattle.mari_settle.specs.Lines.{nothing}
use Rattle.mari_settle.proofs.Amounts.{amounts_are}
use Rattle.std.proofs.lemmas.List.Elements.{All-from_get_or}
use Rattle.mari_settle.proofs.providers.write_amounts.Goals as goal

pub returns-clause-value : goal.returns-clause-value
returns-clause-value c =
    amounts_are c.args.bids.now c.args.numbers.now c.args.activation.now c.args.prices.now c.args.scheduled.now c.pay_all.new.amounts
    c.pay_all.ensures.lengths (rw c.as_slice.ensures at c.pay_all.ensures.paid)

pub returns-clause-small : goal.returns-clause-small
returns-clause-small c = All-from_get_or IsSmall c.pay_all.new.amounts nothing (λ k h. omega (arith, c.pay_all.ensures.small k))

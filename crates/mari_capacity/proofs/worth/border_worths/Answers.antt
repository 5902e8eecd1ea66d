use Rattle.std.proofs.Common.{arith}
use Rattle.std.proofs.lemmas.List.{length_push}
use Rattle.mari_capacity.specs.Worth.{IsBorderWorth, no_worth}
use Rattle.mari_capacity.proofs.Worths.{each-push}
use Rattle.mari_capacity.proofs.worth.border_worths.Goals as goal

pub loop-border-preserved : goal.loop-border-preserved
loop-border-preserved c =
    let old = c.loop-border.invariant in
    rw c.in_ok-push.ensures.items (record {
      one_each = rw length_push (omega (arith, old.one_each));
      each = each-push (IsBorderWorth c.args.market.now c.args.published.now.activation c.args.published.now.prices.cents c.args.more) c.loop-border.worths.items c.in_ok-border_worth.field-0 no_worth
          c.loop-border.border old.one_each old.each c.in_ok-border_worth.ensures;
    })

use Rattle.std.proofs.Common.{◌<◌, length, arith, ap}
use Rattle.mari_reach.proofs.StateTables.{shut_is}
use Rattle.mari_reach.proofs.closing.set_shut.Goals as goal

pub returns : goal.returns
returns c = λ g l.
    let there : g < length c.as_slice.result.now = omega (arith, ap length c.as_slice.ensures) in
    shut_is c.args.market.now c.args.decisions.now c.args.opened.now c.args.prices.now c.args.orders.now c.as_slice.result.now g _ _ _ _
    c.requires.market c.requires.opened c.requires.prices c.requires.orders c.as_slice.ensures (c.clear.ensures g) (c.mark_closed.ensures g l) (c.mark_rivals.ensures g there) (c.mark_losses.ensures g)

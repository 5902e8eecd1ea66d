use Rattle.std.proofs.Common.{length, ◌≡◌}
use Rattle.std.proofs.lemmas.Slice.Zip.{AllZip-long}
use Rattle.mari_prices.proofs.ends.bounds_of.Goals as goal

pub tightest-requires-clause-lengths : goal.tightest-requires-clause-lengths
tightest-requires-clause-lengths c =
    let long : length c.args.activation.now.mw ≡ length c.args.market.now.orders = AllZip-long _ c.args.market.now.orders c.args.activation.now.mw c.requires.feasible.orders in
    rw (c.as_slice-mw.ensures, c.as_slice-orders.ensures) long

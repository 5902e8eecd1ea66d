use Rattle.std.proofs.lemmas.Slice.Zip.{AllZip-long}
use Rattle.mari_check.proofs.ends.heights_of.Goals as goal

pub tightest-requires-clause-lengths : goal.tightest-requires-clause-lengths
tightest-requires-clause-lengths c = rw (c.as_slice-orders.ensures, c.as_slice-mw.ensures) (AllZip-long _ c.args.market.now.orders c.args.activation.now.mw c.requires.feasible.orders)

use Rattle.mari_market.specs.Activation.{IsWithinLimits}
use Rattle.std.proofs.lemmas.Slice.Zip.{AllZip-long}
use Rattle.mari_proofs.proofs.conflicts.is_contradiction.Goals as goal

pub is_chain-requires : goal.is_chain-requires
is_chain-requires c = AllZip-long IsWithinLimits c.args.market.now.borders c.args.activation.now.flow c.requires.activation.feasible.borders

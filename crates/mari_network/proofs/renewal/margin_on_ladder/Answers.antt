use Rattle.std.proofs.Common.{arith}
use Rattle.std.proofs.lemmas.Int.{ints}
use Rattle.mari_network.proofs.Rungs.{dearest_of_all, cheapest_of_all}
use Rattle.mari_network.proofs.renewal.margin_on_ladder.Goals as goal

pub returns : goal.returns
returns c = record {
  dearest = dearest_of_all c.args.network.now.slots.now c.args.amounts.now c.args.zone _ _ c.requires.network.small c.dearest_to.ensures;
  cheapest = cheapest_of_all c.args.network.now.slots.now c.args.amounts.now c.args.zone _ _ _ c.requires.network.small (λ s small. omega (arith, ints, small.cheap)) c.cheapest_from.ensures;
}

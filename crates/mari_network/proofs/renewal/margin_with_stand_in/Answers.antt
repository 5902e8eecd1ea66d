use Rattle.mari_network.proofs.Marginal.{cheapest_in_all, dearest_in_all}
use Rattle.mari_network.proofs.renewal.margin_with_stand_in.Goals as goal

pub returns : goal.returns
returns c = λ m. record {
  dearest = dearest_in_all c.args.network.now.slots.now c.args.amounts.now c.args.zone c.args.network.now.on_ladders _ _ c.dearest_with_stand_in.ensures.one c.dearest_with_stand_in.ensures.keeps
      c.dearest_with_stand_in.ensures.above m.dearest;
  cheapest = cheapest_in_all c.args.network.now.slots.now c.args.amounts.now c.args.zone c.args.network.now.on_ladders _ _ c.cheapest_with_stand_in.ensures.one c.cheapest_with_stand_in.ensures.keeps
      c.cheapest_with_stand_in.ensures.below m.cheapest;
}

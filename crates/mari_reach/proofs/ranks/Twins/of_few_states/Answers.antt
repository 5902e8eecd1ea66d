use Rattle.mari_reach.proofs.LoneTables.{all_marked}
use Rattle.mari_reach.proofs.ranks.Twins.of_few_states.Goals as goal

pub returns : goal.returns
returns c = record {
  lone = c.of.ensures;
  marked = all_marked c.args.market.now c.of.result c.all.result c.requires.few_gates c.all.ensures;
}

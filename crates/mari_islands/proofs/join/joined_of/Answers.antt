use Rattle.std.proofs.Common.{pos, ap, sym, ◌∙◌}
use Rattle.mari_islands.proofs.Cleared.{few_clearings, first_fit, joined_is_first, joined_welfare, small_welfare}
use Rattle.mari_islands.proofs.join.joined_of.Goals as goal

pub activation_of-requires-clause-clearings : goal.activation_of-requires-clause-clearings
activation_of-requires-clause-clearings c = first_fit c.args.islands.now c.args.clearings.now c.requires.firsts

pub welfare_of-requires-clause-few : goal.welfare_of-requires-clause-few
welfare_of-requires-clause-few c = few_clearings c.args.market.now c.args.islands.now c.requires.valid c.requires.islands c.args.clearings.now c.requires.firsts

pub welfare_of-requires-clause-small : goal.welfare_of-requires-clause-small
welfare_of-requires-clause-small c = small_welfare c.args.market.now c.args.islands.now c.requires.valid c.requires.islands c.args.clearings.now c.requires.firsts

pub returns-clause-first : goal.returns-clause-first
returns-clause-first c = record {
  first = joined_is_first c.args.market.now c.args.islands.now c.requires.valid c.requires.islands c.args.clearings.now c.in_ok-activation.activation c.requires.firsts c.in_ok-activation.ensures;
  welfare = joined_welfare c.args.market.now c.args.islands.now c.requires.valid c.requires.islands c.args.clearings.now c.in_ok-activation.activation c.requires.firsts c.in_ok-activation.ensures
      ∙ sym (ap pos c.welfare_of.ensures);
}

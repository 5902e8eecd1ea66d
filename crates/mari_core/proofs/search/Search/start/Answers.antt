use Rattle.std.proofs.Common.{List, sym, subst}
use Rattle.mari_core.specs.declared.search.Actor.{Actor}
use Rattle.mari_core.specs.Growth.{Grown, seed}
use Rattle.mari_core.specs.Machine.{KeepsFacts}
use Rattle.mari_core.proofs.Machines.{start_keeps}
use Rattle.mari_core.proofs.search.Search.start.Goals as goal

pub invariant_of-result : goal.invariant_of-result
invariant_of-result c =
    subst (λ (t : Grown). KeepsFacts (record { tree = t; incumbent = c.args.first.welfare; actors = c.in_ok-actors.actors.items; first = c.args.first })) (sym c.in_ok-tree.ensures)
    (subst (λ (others : List Actor). KeepsFacts (record {
      tree = seed c.args.market.now c.args.budget;
      incumbent = c.args.first.welfare;
      actors = others;
      first = c.args.first;
    })) (sym c.in_ok-actors.ensures)
    (start_keeps c.args.market.now c.args.actors c.args.budget c.args.first c.requires.market c.requires.actors c.requires.attained c.requires.closed c.requires.budget))

pub returns-clause-facts : goal.returns-clause-facts
returns-clause-facts c =
    subst (λ (t : Grown). KeepsFacts (record { tree = t; incumbent = c.args.first.welfare; actors = c.in_ok-actors.actors.items; first = c.args.first })) (sym c.in_ok-tree.ensures)
    (subst (λ (others : List Actor). KeepsFacts (record {
      tree = seed c.args.market.now c.args.budget;
      incumbent = c.args.first.welfare;
      actors = others;
      first = c.args.first;
    })) (sym c.in_ok-actors.ensures)
    (start_keeps c.args.market.now c.args.actors c.args.budget c.args.first c.requires.market c.requires.actors c.requires.attained c.requires.closed c.requires.budget))

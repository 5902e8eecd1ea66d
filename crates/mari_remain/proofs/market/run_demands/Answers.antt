use Rattle.std.proofs.Common.{◌≡◌, ◌∙◌, List, map, subst, IfOk}
use Rattle.mari_demands.specs.declared.demands.Demand.{Demand}
use Rattle.mari_remain.specs.Lists.{demand_at, numbers_of_run}
use Rattle.mari_remain.specs.RunMarket.{demands_of_run}
use Rattle.mari_remain.proofs.Choosing.{demands-are, has-run}
use Rattle.mari_remain.proofs.market.run_demands.Goals as goal

pub demands_of-numbers-requires : goal.demands_of-numbers-requires
demands_of-numbers-requires c = (has-run c.args.books.now c.args.remaining.now c.args.run c.requires.index c.requires.last).there

pub returns : goal.returns
returns c =
    let demands : List Demand = c.args.books.now.demands.demands in
    let numbers : c.demands_of-numbers.result.now ≡ numbers_of_run demands c.args.run =
    c.demands_of-numbers.ensures ∙ (has-run c.args.books.now c.args.remaining.now c.args.run c.requires.index c.requires.last).demands in
    let are : map (demand_at c.as_slice.result.now) c.demands_of-numbers.result.now ≡ demands_of_run demands c.args.run = rw (c.as_slice.ensures, numbers) (demands-are demands c.args.run) in
    subst (λ (ds : List Demand). IfOk c.demands_at.result (λ own. own.items ≡ ds)) are c.demands_at.ensures

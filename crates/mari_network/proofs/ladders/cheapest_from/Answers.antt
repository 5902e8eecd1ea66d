use Rattle.std.proofs.Common.{◌<◌, ◌≤◌, ◌<ℤ◌, ◌≤ℤ◌, ℕ, length, get_or, rules}
use Rattle.mari_network.specs.declared.network.Rung.{Rung}
use Rattle.mari_network.proofs.Rungs.{cheapest_on}
use Rattle.mari_network.proofs.ladders.cheapest_from.Goals as goal

pub returns : goal.returns
returns c =
    let below : (j : ℕ) (d : Rung) → j < c.rungs_below.result → (get_or c.ladder_at-ladder.result.now j d).price <ℤ c.args.least = search rules in
    let from : (j : ℕ) (d : Rung) → c.rungs_below.result ≤ j → j < length c.ladder_at-ladder.result.now → c.args.least ≤ℤ (get_or c.ladder_at-ladder.result.now j d).price = search rules in
    cheapest_on c.args.network.now.slots.now c.args.amounts.now c.args.network.now.on_ladders c.args.zone c.ladder_at-ladder.result.now c.args.least c.rungs_below.result c.cheapest_rung.result
    c.ladder_at-ladder.ensures below from c.cheapest_rung.ensures

use Rattle.std.proofs.Common.{◌<◌, ◌≤◌, ◌<ℤ◌, ◌≤ℤ◌, ℕ, length, get_or, rules}
use Rattle.mari_network.specs.declared.network.Rung.{Rung}
use Rattle.mari_network.proofs.Rungs.{dearest_on}
use Rattle.mari_network.proofs.ladders.dearest_to.Goals as goal

pub returns : goal.returns
returns c =
    let above : (j : ℕ) (d : Rung) → c.rungs_to.result ≤ j → j < length c.ladder_at-ladder.result.now → c.args.top <ℤ (get_or c.ladder_at-ladder.result.now j d).price = search rules in
    let most : (j : ℕ) (d : Rung) → j < c.rungs_to.result → (get_or c.ladder_at-ladder.result.now j d).price ≤ℤ c.args.top = search rules in
    dearest_on c.args.network.now.slots.now c.args.amounts.now c.args.network.now.on_ladders c.args.zone c.ladder_at-ladder.result.now c.args.top c.rungs_to.result c.dearest_rung.result
    c.ladder_at-ladder.ensures c.rungs_to.ensures.few most above c.dearest_rung.ensures

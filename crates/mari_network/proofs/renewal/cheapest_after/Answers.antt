use Rattle.std.proofs.Common.{◌≡◌, ◌<◌, arith, rules}
use Rattle.mari_network.specs.Slots.{zone_of}
use Rattle.mari_network.proofs.Marginal.{cheapest_with_sink, cheapest_without_sink}
use Rattle.mari_network.proofs.renewal.cheapest_after.Goals as goal
use Rattle.mari_network.proofs.renewal.cheapest_after.Goals.{else-sink-network-via-then-sink-network+else-network-sink, else-sink-network-via-else-sink-network}

pub returns-then-network-sink-clause-right : goal.returns-then-network-sink-clause-right
returns-then-network-sink-clause-right c =
    let here : zone_of c.args.network.now.slots.now c.args.sink ≡ c.args.zone = search rules in
    let first : c.args.sink < c.args.network.now.on_ladders = search rules in
    λ old moved d. cheapest_with_sink c.args.network.now.slots.now old c.args.amounts.now c.args.sink c.args.source moved c.args.zone c.args.network.now.on_ladders
    c.cheapest_left-left.result c.cheaper_in_order.result c.requires.sink first here c.cheaper_in_order.ensures.one c.cheaper_in_order.ensures.below c.cheaper_in_order.ensures.keeps
    (c.cheapest_left-left.ensures.left old c.args.sink moved d)

pub returns-clause-right : goal.returns-clause-right
returns-clause-right c =
    let away : c.args.sink < c.args.network.now.on_ladders → zone_of c.args.network.now.slots.now c.args.sink ≡ c.args.zone → ⊥ = λ l e. elim c.else-sink-network.branch [
      | else-sink-network-via-then-sink-network+else-network-sink w ↦ let no : zone_of c.args.network.now.slots.now c.args.sink ≡ c.args.zone → ⊥ = search (rules, w.if-network-sink.false) in no e
      | else-sink-network-via-else-sink-network w ↦ absurd (omega (arith, l, w.if-sink-network.false))
    ] in
    λ old moved d. cheapest_without_sink c.args.network.now.slots.now old c.args.amounts.now c.args.sink c.args.source moved c.args.zone c.args.network.now.on_ladders c.cheapest_left-left.result away
    (c.cheapest_left-left.ensures.left old c.args.sink moved d)

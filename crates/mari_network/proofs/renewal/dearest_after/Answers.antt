use Rattle.std.proofs.Common.{◌≡◌, ◌<◌, arith, rules}
use Rattle.mari_network.specs.Slots.{zone_of}
use Rattle.mari_network.proofs.Marginal.{dearest_with_source, dearest_without_source}
use Rattle.mari_network.proofs.renewal.dearest_after.Goals as goal
use Rattle.mari_network.proofs.renewal.dearest_after.Goals.{else-source-network-via-then-source-network+else-network-source, else-source-network-via-else-source-network}

pub returns-then-network-source-clause-right : goal.returns-then-network-source-clause-right
returns-then-network-source-clause-right c =
    let here : zone_of c.args.network.now.slots.now c.args.source ≡ c.args.zone = search rules in
    let first : c.args.source < c.args.network.now.on_ladders = search rules in
    λ old moved d. dearest_with_source c.args.network.now.slots.now old c.args.amounts.now c.args.sink c.args.source moved c.args.zone c.args.network.now.on_ladders
    c.dearest_left-left.result c.dearer_in_order.result c.requires.source first here c.dearer_in_order.ensures.one c.dearer_in_order.ensures.above c.dearer_in_order.ensures.keeps
    (c.dearest_left-left.ensures.left old c.args.source moved d)

pub returns-clause-right : goal.returns-clause-right
returns-clause-right c =
    let away : c.args.source < c.args.network.now.on_ladders → zone_of c.args.network.now.slots.now c.args.source ≡ c.args.zone → ⊥ = λ l e. elim c.else-source-network.branch [
      | else-source-network-via-then-source-network+else-network-source w ↦ let no : zone_of c.args.network.now.slots.now c.args.source ≡ c.args.zone
          → ⊥ = search (rules, w.if-network-source.false) in no e
      | else-source-network-via-else-source-network w ↦ absurd (omega (arith, l, w.if-source-network.false))
    ] in
    λ old moved d. dearest_without_source c.args.network.now.slots.now old c.args.amounts.now c.args.sink c.args.source moved c.args.zone c.args.network.now.on_ladders c.dearest_left-left.result away
    (c.dearest_left-left.ensures.left old c.args.source moved d)

use Rattle.std.proofs.Common.{length, arith, refl}
use Rattle.mari_islands.specs.Islands.{has_first}
use Rattle.mari_islands.specs.Part.{is_gate_of, orders_in}
use Rattle.mari_islands.proofs.Homes.{gates_below}
use Rattle.mari_islands.proofs.Numbers.{few_in}
use Rattle.mari_islands.proofs.part.market_inside.Goals as goal

pub overflow_cast-result : goal.overflow_cast-result
overflow_cast-result c =
    omega
    (arith, few_in (has_first c.args.firsts.now c.args.first) (length c.args.firsts.now) c.args.zones.now c.args.zones.now refl c.requires.zones, c.requires.firsts.one_each, c.requires.valid.zones.1)

pub borders_among-requires-clause-zones : goal.borders_among-requires-clause-zones
borders_among-requires-clause-zones c =
    omega
    (arith, few_in (has_first c.args.firsts.now c.args.first) (length c.args.firsts.now) c.args.zones.now c.args.zones.now refl c.requires.zones, c.requires.firsts.one_each, c.requires.valid.zones.1)

pub orders_among-requires-clause-zones : goal.orders_among-requires-clause-zones
orders_among-requires-clause-zones c =
    omega
    (arith, few_in (has_first c.args.firsts.now c.args.first) (length c.args.firsts.now) c.args.zones.now c.args.zones.now refl c.requires.zones, c.requires.firsts.one_each, c.requires.valid.zones.1)

pub orders_among-requires-clause-gates : goal.orders_among-requires-clause-gates
orders_among-requires-clause-gates c =
    let m = c.args.market.now in
    omega
    (arith, few_in (is_gate_of (orders_in m (has_first c.args.firsts.now c.args.first))) (length m.gates) c.args.gates.now c.args.gates.now refl c.requires.gates, c.requires.valid.few_gates)

pub gates_among-requires-clause-few : goal.gates_among-requires-clause-few
gates_among-requires-clause-few c =
    let m = c.args.market.now in
    omega
    (arith, few_in (is_gate_of (orders_in m (has_first c.args.firsts.now c.args.first))) (length m.gates) c.args.gates.now c.args.gates.now refl c.requires.gates, c.requires.valid.few_gates)

pub gates_among-requires-clause-there : goal.gates_among-requires-clause-there
gates_among-requires-clause-there c =
    let m = c.args.market.now in
    let below = gates_below m (has_first c.args.firsts.now c.args.first) in
    rw (c.requires.gates, c.as_slice-3.ensures) below

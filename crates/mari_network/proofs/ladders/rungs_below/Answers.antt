use Rattle.std.proofs.Common.{arith, rules, get_or}
use Rattle.std.proofs.lemmas.List.Sorted.{IsPartitionPoint-from_clause}
use lib.Signed.{lt_z}
use Rattle.mari_network.specs.declared.network.Rung.{Rung}
use Rattle.mari_market.proofs.Rising.{less, not_less, parts_below}
use Rattle.mari_network.proofs.ladders.rungs_below.Goals as goal

pub returns-clause-below : goal.returns-clause-below
returns-clause-below c =
    let point = IsPartitionPoint-from_clause (λ (r : Rung). lt_z r.price c.args.least) _ _ c.partition_point.ensures.partitioned
    (parts_below (λ (r : Rung). r.price) c.args.ladder.now c.args.least c.requires) (λ a r q k. search rules) in
    λ j d l. less ((get_or c.args.ladder.now j d).price) c.args.least (point.0 j d (omega arith) l)

pub returns-clause-from : goal.returns-clause-from
returns-clause-from c =
    let point = IsPartitionPoint-from_clause (λ (r : Rung). lt_z r.price c.args.least) _ _ c.partition_point.ensures.partitioned
    (parts_below (λ (r : Rung). r.price) c.args.ladder.now c.args.least c.requires) (λ a r q k. search rules) in
    λ j d g l. not_less ((get_or c.args.ladder.now j d).price) c.args.least (point.1 j d g l)

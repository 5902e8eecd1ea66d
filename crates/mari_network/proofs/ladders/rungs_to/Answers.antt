use Rattle.std.proofs.Common.{not, arith, rules, get_or}
use Rattle.std.proofs.lemmas.List.Sorted.{IsPartitionPoint-from_clause}
use lib.Signed.{lt_z}
use Rattle.mari_network.specs.declared.network.Rung.{Rung}
use Rattle.mari_network.proofs.Rungs.{parted_to, not_false, not_true}
use Rattle.mari_network.proofs.ladders.rungs_to.Goals as goal

pub returns-clause-above : goal.returns-clause-above
returns-clause-above c =
    let point = IsPartitionPoint-from_clause (λ (r : Rung). not (lt_z c.args.top r.price)) _ _ c.partition_point.ensures.partitioned (parted_to c.args.ladder.now c.args.top c.requires)
    (λ a r q k. search rules) in
    λ j d g l. not_false c.args.top ((get_or c.args.ladder.now j d).price) (point.1 j d g l)

pub returns-clause-to : goal.returns-clause-to
returns-clause-to c =
    let point = IsPartitionPoint-from_clause (λ (r : Rung). not (lt_z c.args.top r.price)) _ _ c.partition_point.ensures.partitioned (parted_to c.args.ladder.now c.args.top c.requires)
    (λ a r q k. search rules) in
    λ j d l. not_true c.args.top ((get_or c.args.ladder.now j d).price) (point.0 j d (omega arith) l)

use Rattle.std.proofs.Common.{arith, rules, get_or}
use Rattle.std.proofs.lemmas.List.Sorted.{IsPartitionPoint-from_clause}
use lib.Signed.{lt_z}
use Rattle.mari_paths.specs.declared.curves.CurveStep.{CurveStep}
use Rattle.mari_market.proofs.Rising.{less, not_less, parts_below}
use Rattle.mari_paths.proofs.curves.steps_below.Goals as goal

pub returns-clause-below : goal.returns-clause-below
returns-clause-below c =
    let point = IsPartitionPoint-from_clause (λ (s : CurveStep). lt_z s.price c.args.price) _ _ c.partition_point.ensures.partitioned
    (parts_below (λ (s : CurveStep). s.price) c.args.steps.now c.args.price c.requires) (λ a r q k. search rules) in
    λ j d l. less ((get_or c.args.steps.now j d).price) c.args.price (point.0 j d (omega arith) l)

pub returns-clause-rest : goal.returns-clause-rest
returns-clause-rest c =
    let point = IsPartitionPoint-from_clause (λ (s : CurveStep). lt_z s.price c.args.price) _ _ c.partition_point.ensures.partitioned
    (parts_below (λ (s : CurveStep). s.price) c.args.steps.now c.args.price c.requires) (λ a r q k. search rules) in
    λ j d l m. not_less ((get_or c.args.steps.now j d).price) c.args.price (point.1 j d l m)

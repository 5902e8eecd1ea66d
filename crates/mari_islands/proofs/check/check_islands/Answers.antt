use Rattle.std.proofs.Common.{arith}
use Rattle.std.proofs.lemmas.List.{length-map}
use Rattle.std.proofs.lemmas.Bool.{both_ways, false≢true}
use Rattle.std.proofs.lemmas.Slice.Zip.{AllZip-long}
use Rattle.mari_islands.specs.Checked.{AreCertified, HoldsInIsland}
use Rattle.mari_islands.specs.Lists.{lists_of}
use Rattle.mari_islands.proofs.Laws.{certified_first, lengths_of, sum_of_islands}
use Rattle.mari_islands.proofs.check.check_islands.Goals as goal
use Rattle.mari_islands.proofs.check.check_islands.Goals.{then-trees-islands-via-then-trees-islands, then-trees-islands-via-else-trees-islands+then-not-is_feasible}

pub returns-then-trees-islands-clause-certified : goal.returns-then-trees-islands-clause-certified
returns-then-trees-islands-clause-certified c = (
  λ t. absurd (false≢true t),
  λ k. elim c.then-trees-islands.branch [
    | then-trees-islands-via-then-trees-islands w ↦ absurd (let long = AllZip-long (HoldsInIsland c.args.activation.now) c.args.islands.now
        (lists_of c.args.trees.now) k.hold in let many = length-map c.args.trees.now (λ v. v.items) in omega (arith, long, many, w.if-trees-islands.true))
    | then-trees-islands-via-else-trees-islands+then-not-is_feasible w ↦ absurd (both_ways _ w.if-not-is_feasible.true (w.is_feasible.ensures.1 k.admissible.feasible))
  ],
)

pub returns-clause-first : goal.returns-clause-first
returns-clause-first c = λ t.
    let m = c.args.market.now in
    let certified : AreCertified m c.args.islands.now c.args.activation.now (lists_of c.args.trees.now) =
    record { admissible = c.in_ok-has_prices.ensures.0 c.if-not-branch.false; hold = c.in_ok-hold.ensures.0 t } in
    certified_first m c.args.islands.now c.requires.valid c.requires.islands c.args.activation.now (lists_of c.args.trees.now) certified

pub returns-clause-welfare : goal.returns-clause-welfare
returns-clause-welfare c = λ t.
    let m = c.args.market.now in
    let islands = c.args.islands.now in
    let a = c.args.activation.now in
    let admissible = c.in_ok-has_prices.ensures.0 c.if-not-branch.false in
    sum_of_islands m islands c.requires.valid c.requires.islands a (lengths_of m islands c.requires.valid c.requires.islands a admissible.feasible)

use Rattle.std.proofs.Common.{◌^◌, arith, ◌==◌, ◌≡◌, pos, neg_ℤ, ◌-ℤ◌, to_z, of_z}
use Rattle.std.specs.Int.{w128}
use Rattle.std.proofs.lemmas.Int.{ints}
use Rattle.mari_market.specs.Sums.{int_at}
use Rattle.mari_welfare.proofs.Balance.{carry_step, carry_small}
use Rattle.mari_welfare.proofs.feasibility.carry.Goals as goal

pub returns-clause-carried : goal.returns-clause-carried
returns-clause-carried c z =
    let out : to_z w128 (of_z w128 (pos 0 -ℤ to_z w128 (of_z w128 c.from.result))) ≡ neg_ℤ c.args.flow = omega (arith, ints) in
    let inward : to_z w128 (of_z w128 c.from-2.result) ≡ c.args.flow = omega (arith, ints) in
    carry_step _ _ _ _ _ c.args.flow _ _ (c.add_to.ensures z) (c.add_to-2.ensures z) out inward

pub returns-clause-small : goal.returns-clause-small
returns-clause-small c z =
    let b = c.args.border.now in
    let small = carry_small (b.from == z) (b.to == z) (int_at c.args.left.now z) (int_at c.add_to-2.new.left z) c.args.flow (2 ^ 63) (omega (arith, ints)) (returns-clause-carried c z) in
    omega (arith, small)

use Rattle.std.proofs.Common.{ℤ, List, ap, ◌∙◌, arith, to_z-of_z, FitsSigned, w64, rules}
use Rattle.std.proofs.lemmas.Int.{ints}
use Rattle.mari_market.specs.Sums.{int_at}
use Rattle.mari_network.specs.Slots.{at_zone}
use Rattle.mari_paths.proofs.Shortages.{less_at, more_at, near_more, near_zone}
use Rattle.mari_paths.proofs.start.carry_out.Goals as goal

pub take_at-requires-clause-before : goal.take_at-requires-clause-before
take_at-requires-clause-before c =
    let fits : FitsSigned w64 c.args.flow = search rules in
    let z = c.args.border.now.to in
    near_more 700000000 200000 700200000 (int_at c.args.short.now c.args.border.now.to)
    (at_zone c.args.border.now.to c.args.border.now.from c.args.flow) (int_at c.add_at.new.short c.args.border.now.to)
    (c.requires.near c.args.border.now.to) (near_zone 200000 c.args.border.now.to c.args.border.now.from c.args.flow c.requires.flow)
    (ap (λ (xs : List ℤ). int_at xs c.args.border.now.to) (rw (to_z-of_z fits) at c.add_at.ensures)
    ∙ more_at c.args.short.now c.args.border.now.from c.args.border.now.to c.args.flow c.requires.ends.0)
    (omega arith)

pub returns-clause-each : goal.returns-clause-each
returns-clause-each c = λ z.
    let fits : FitsSigned w64 c.args.flow = search rules in
    let there = c.requires.ends.1 in
    omega (
      arith,
      ints,
      (ap (λ (xs : List ℤ). int_at xs z) (rw (to_z-of_z fits) at c.take_at.ensures) ∙ less_at c.add_at.new.short c.args.border.now.to z c.args.flow (omega (arith, c.add_at.auto.short, there))),
      (ap (λ (xs : List ℤ). int_at xs z) (rw (to_z-of_z fits) at c.add_at.ensures) ∙ more_at c.args.short.now c.args.border.now.from z c.args.flow c.requires.ends.0),
    )

pub returns-clause-long : goal.returns-clause-long
returns-clause-long c = omega (arith, c.take_at.auto.short, c.add_at.auto.short)

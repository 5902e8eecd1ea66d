use Rattle.std.proofs.Common.{arith, pos, get_or, to_z-of_z, w64, rules, refl}
use Rattle.std.specs.Prelude.{FitsSigned}
use Rattle.std.proofs.lemmas.Bool.{both_ways}
use Rattle.mari_market.specs.declared.market.Border.{Border}
use Rattle.mari_market.specs.declared.along.Along.TheVariants.{Rising}
use Rattle.mari_market.specs.Along.{LeadsOver}
use Rattle.mari_proofs.proofs.Pairs.{nowhere_more}
use Rattle.mari_proofs.proofs.conflicts.leads.Goals as goal
use Rattle.mari_market.proofs.Sums.{AnyZip-at}

pub returns-then-leads : goal.returns-then-leads
returns-then-leads c =
    let none : Border = record { from = 0; to = 0; limit = 0; back = 0 } in
    let fits : FitsSigned w64 (get_or c.args.flow.now c.loop-i.i (pos 0)) = search rules in
    let test = rw (to_z-of_z fits) at c.leads.ensures in
    (λ t. AnyZip-at (LeadsOver Rising c.args.first c.args.second) c.args.borders.now c.args.flow.now c.loop-i.i none (pos 0) c.loop-i-test.true (omega arith) (test.0 c.if-leads.true), λ a. refl)

pub loop-i-preserved : goal.loop-i-preserved
loop-i-preserved c =
    let none : Border = record { from = 0; to = 0; limit = 0; back = 0 } in
    let fits : FitsSigned w64 (get_or c.args.flow.now c.loop-i.i (pos 0)) = search rules in
    let test = rw (to_z-of_z fits) at c.leads.ensures in
    nowhere_more (LeadsOver Rising c.args.first c.args.second) c.args.borders.now c.args.flow.now c.loop-i.i none (pos 0) c.loop-i-test.true
    (omega arith) c.loop-i.invariant (λ p. absurd (both_ways c.leads.result c.if-leads.false (test.1 p)))

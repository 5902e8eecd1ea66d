use Rattle.std.proofs.Common.{◌≡◌, ◌+◌, ◌-◌, ◌*◌, [], ap, arith, subst}
use Rattle.std.specs.List.{range_with_len}
use Rattle.mari_remain.specs.RunMarket.{run_market_of}
use Rattle.mari_blocks.specs.Joint.{zones_before}
use Rattle.mari_blocks.specs.Parts.{HoldsJointParts}
use Rattle.mari_blocks.proofs.Brought.{brought}
use Rattle.mari_blocks.proofs.Quarters.{has-run}
use Rattle.mari_blocks.proofs.parts.parts_of.Goals as goal

pub run_of_quarter-run-requires-clause-there : goal.run_of_quarter-run-requires-clause-there
run_of_quarter-run-requires-clause-there c =
    has-run c.args.books.now c.requires.accepted c.args.first c.args.last c.requires.runs c.loop-quarter.quarter c.loop-quarter.auto.quarter (omega (arith, c.loop-quarter-test.true))

pub loop-quarter-preserved : goal.loop-quarter-preserved
loop-quarter-preserved c =
    let books = c.args.books.now in
    let quarter = c.loop-quarter.quarter in
    let after : (quarter - c.args.first) * c.len-zones.result ≡ zones_before books c.args.first quarter = ap (λ n. (quarter - c.args.first) * n) c.len-zones.ensures.len in
    brought books c.args.first quarter c.loop-quarter.parts c.add_run.new.self (run_market_of books [] c.run_of_quarter-run.result)
    ((quarter - c.args.first) * c.len-zones.result) c.loop-quarter.auto.quarter
    (ap (run_market_of books []) c.run_of_quarter-run.ensures.run) after
    c.in-Ok.ensures.offered c.in-Ok.ensures.borders c.in-Ok.ensures.demands c.loop-quarter.invariant

pub returns : goal.returns
returns c =
    let end = c.loop-quarter.auto.quarter-end (omega (arith, c.requires.in_order)) in
    let whole : c.loop-quarter.quarter - c.args.first ≡ c.args.last + 1 - c.args.first = omega (arith, end, c.loop-quarter-test.false) in
    subst (λ n. HoldsJointParts c.args.books.now c.args.first (range_with_len c.args.first n) c.loop-quarter.parts) whole c.loop-quarter.invariant

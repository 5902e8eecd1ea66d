use Rattle.std.proofs.Common.{to_z-of_z, rules, w64}
use Rattle.std.specs.Prelude.{FitsSigned}
use Rattle.mari_market.specs.Bounds.{span_in}
use Rattle.mari_gates.specs.GateTable.{state_in}
use Rattle.mari_proofs.proofs.CutTests.{tests_balance}
use Rattle.mari_proofs.proofs.cuts.cannot_balance.Goals as goal

pub returns : goal.returns
returns c =
    let put_fits : FitsSigned w64 c.orders_put-put.result = search rules in
    let carried_fits : FitsSigned w64 c.borders_carry-carried.result = search rules in
    let test = rw (to_z-of_z put_fits, to_z-of_z carried_fits) at c.exceeds.ensures in
    tests_balance (span_in (state_in c.args.states.now)) c.args.market.now c.args.side c.args.zones.now _ _ _ _ _ c.orders_put-put.ensures.value
    c.as_slice.ensures c.borders_carry-carried.ensures.value c.as_slice-2.ensures test

use Rattle.std.proofs.Common.{arith, ℤ, pos, get_or, to_z-of_z, to_z, of_z, FitsSigned, w64, rules, ◌≡◌, subst}
use Rattle.mari_market.specs.declared.market.Border.{Border}
use Rattle.mari_market.proofs.Sums.{AnyZip-at}
use Rattle.mari_market.specs.Along.{LeadsOver}
use Rattle.mari_prices.specs.Spread.{NoneOver, IsLedOver}
use Rattle.mari_market.proofs.Lists.{AllZip_more}
use Rattle.mari_prices.proofs.spread.next_led.Goals as goal

pub loop-i-preserved : goal.loop-i-preserved
loop-i-preserved c =
    let none : Border = record { from = 0; to = 0; limit = 0; back = 0 } in
    let fits : FitsSigned w64 (get_or c.args.flow.now c.loop-i.i (pos 0)) = search rules in
    let read : to_z w64 (of_z w64 (get_or c.args.flow.now c.loop-i.i (pos 0))) ≡ get_or c.args.flow.now c.loop-i.i (pos 0) = to_z-of_z fits in
    AllZip_more (NoneOver c.args.along c.args.settled.now) c.args.borders.now c.args.flow.now c.loop-i.i none (pos 0) c.loop-i-test.true (omega arith) c.loop-i.invariant
    (subst (λ (f : ℤ). NoneOver c.args.along c.args.settled.now (get_or c.args.borders.now c.loop-i.i none) f) read c.in_default.ensures.none)

pub returns-in-Some-clause-some : goal.returns-in-Some-clause-some
returns-in-Some-clause-some c =
    let none : Border = record { from = 0; to = 0; limit = 0; back = 0 } in
    let fits : FitsSigned w64 (get_or c.args.flow.now c.loop-i.i (pos 0)) = search rules in
    let read : to_z w64 (of_z w64 (get_or c.args.flow.now c.loop-i.i (pos 0))) ≡ get_or c.args.flow.now c.loop-i.i (pos 0) = to_z-of_z fits in
    let over : IsLedOver c.args.along c.args.settled.now (get_or c.args.borders.now c.loop-i.i none) (to_z w64 (of_z w64 (get_or c.args.flow.now c.loop-i.i (pos 0)))) c.in-Some.zone c.in-Some.entry =
    c.in-Some.ensures.some in
    let p = over.passed in
    record {
      free = p.free;
      after = record {
        before = over.before;
        entry = p.entry;
        settled = p.settled;
        leads = AnyZip-at (LeadsOver c.args.along over.before c.in-Some.zone) c.args.borders.now c.args.flow.now c.loop-i.i none (pos 0) c.loop-i-test.true (omega arith)
            (subst (λ (f : ℤ). LeadsOver c.args.along over.before c.in-Some.zone (get_or c.args.borders.now c.loop-i.i none) f) read over.leads);
        previous = p.previous;
        value = p.value;
        depth = p.depth;
      };
    }

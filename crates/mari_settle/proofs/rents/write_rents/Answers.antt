use Rattle.std.proofs.Common.{arith, ◌≡◌, ◌<◌, ℤ, pos, length, get_or, to_z-of_z, w64, rules, refl}
use Rattle.std.specs.Int.{w128}
use Rattle.std.specs.Prelude.{FitsSigned}
use Rattle.std.proofs.lemmas.Int.{ints, fits_signed_from_abs}
use Rattle.mari_units.specs.declared.numbers.Quarters.{Quarters}
use Rattle.mari_market.specs.declared.market.Border.{Border}
use Rattle.mari_settle.specs.Conditions.{IsSmall}
use Rattle.mari_settle.specs.Ledger.{rent_of}
use Rattle.mari_settle.proofs.Flows.{no_border, flow_within}
use Rattle.mari_settle.proofs.Lists.{written_along_more, small_more}
use Rattle.mari_settle.proofs.rents.write_rents.Goals as goal

pub rent_of-requires-clause-flow : goal.rent_of-requires-clause-flow
rent_of-requires-clause-flow c =
    flow_within c.args.market.now.borders _ c.args.activation.now.flow _ c.loop-i.i c.as_slice-border-items.ensures c.as_slice-flow.ensures
    c.loop-i-test.true c.requires.flows.within (search rules)

pub loop-i-preserved : goal.loop-i-preserved
loop-i-preserved c =
    let bs : c.as_slice-border-items.result.now ≡ c.args.market.now.borders = c.as_slice-border-items.ensures in
    let fs : c.as_slice-flow.result.now ≡ c.args.activation.now.flow = c.as_slice-flow.ensures in
    let here : c.loop-i.i < length c.args.market.now.borders = rw bs at c.loop-i-test.true in
    let fits : FitsSigned w64 (get_or c.as_slice-flow.result.now c.loop-i.i (pos 0)) = search rules in
    let rent_fits : FitsSigned w128 c.rent_of.result = fits_signed_from_abs w128 c.rent_of.result (omega arith) in
    let value = rw (to_z-of_z fits, bs, fs) at c.rent_of.ensures.value in
    let rent : Border → ℤ → Quarters = λ b f. record { 0 = rent_of c.args.prices.now b f } in
    record {
      written =
          rw (to_z-of_z rent_fits, value)
          (written_along_more rent c.args.market.now.borders c.args.activation.now.flow c.loop-i.rents c.loop-i.i no_border (pos 0) _ here (omega (arith, c.requires.flows.one_each))
          (omega arith) c.loop-i.invariant.written refl);
      small = small_more IsSmall c.loop-i.rents c.loop-i.i _ (omega arith) c.loop-i.invariant.small (omega (arith, ints));
    }

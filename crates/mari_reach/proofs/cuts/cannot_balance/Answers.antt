use Rattle.std.proofs.Common.{◌∙◌, ℕ, List, ap, refl, to_z-of_z, rules, w64}
use Rattle.std.specs.Prelude.{FitsSigned}
use Rattle.mari_market.specs.Sums.{int_sum}
use Rattle.mari_proofs.specs.NetInjections.{put_of}
use Rattle.mari_reach.specs.Tables.{flow_in, span_in}
use Rattle.mari_reach.specs.Values.{carried_by}
use Rattle.mari_reach.proofs.LeafTables.{tests_balance}
use Rattle.mari_reach.proofs.cuts.cannot_balance.Goals as goal

pub returns : goal.returns
returns c =
    let side = c.args.side in
    let spans = span_in c.args.state.now in
    let flows = flow_in c.args.state.now in
    let put_fits : FitsSigned w64 c.put_by-put.result = search rules in
    let carried_fits : FitsSigned w64 c.borders_carry-carried.result = search rules in
    let test = rw (to_z-of_z put_fits, to_z-of_z carried_fits) at c.exceeds.ensures in
    let same = c.of-set.ensures.zones in
    let put = c.put_by-put.ensures ∙ ap (λ (zs : List ℕ). int_sum (put_of side spans zs) c.args.market.now.orders) same in
    let carried = c.borders_carry-carried.ensures.value ∙ ap (λ (zs : List ℕ). int_sum (carried_by side flows zs) c.as_slice.result.now) same in
    tests_balance spans flows c.args.market.now side c.args.zones.now _ _ _ _ _ put refl carried c.as_slice.ensures test

use Rattle.std.proofs.Common.{◌≡◌, ◌++◌, ◌∷◌, FitsSigned, get_or, pos, rules, w64}
use Rattle.std.proofs.lemmas.Int.{to_z-of_z}
use Rattle.std.specs.Fmt.{signed_decimal}
use Rattle.mari_lines.proofs.Appended.{after_one}
use Rattle.mari_lines.proofs.writing.tree.put_flows.Goals as goal

pub loop-flow-preserved : goal.loop-flow-preserved
loop-flow-preserved c =
    let flow = get_or c.args.flows.now c.loop-flow.flow-index (pos 0) in
    let fits : FitsSigned w64 flow = search rules in
    let put : c.put_flow.new.out.items ≡ c.loop-flow.out.items ++ 32 ∷ signed_decimal flow = rw (to_z-of_z w64 flow fits) at c.in_ok-put_flow.ensures in
    after_one signed_decimal c.args.flows.now c.loop-flow.flow-index (pos 0) c.loop-flow.out.items c.put_flow.new.out.items _ c.loop-flow-test.true c.loop-flow.invariant put

use Rattle.std.proofs.Common.{to_z-of_z, FitsSigned, w64, rules}
use Rattle.mari_market.specs.Activation.{IsWithinLimits}
use Rattle.mari_network.specs.Network.{no_border}
use Rattle.mari_network.proofs.Lists.{zip_step}
use Rattle.mari_paths.proofs.start.flows_near.Goals as goal

pub loop-i-preserved : goal.loop-i-preserved
loop-i-preserved c =
    let fits : FitsSigned w64 c.flow_near.result = search rules in
    zip_step IsWithinLimits c.args.borders.now c.loop-i.flows.items c.push.new.self.items c.loop-i.i no_border _ c.loop-i-test.true
    c.in_ok-push.ensures.items c.loop-i.invariant (rw (to_z-of_z fits) c.flow_near.ensures)

use Rattle.std.proofs.Common.{to_z-of_z, FitsSigned, w64, rules}
use Rattle.mari_network.specs.Slots.{no_slot, IsWithinSlot}
use Rattle.mari_network.proofs.Lists.{zip_step}
use Rattle.mari_paths.proofs.start.amounts_near.Goals as goal

pub loop-i-preserved : goal.loop-i-preserved
loop-i-preserved c =
    let fits : FitsSigned w64 c.nearest_within.result = search rules in
    zip_step IsWithinSlot c.args.slots.now c.loop-i.amounts.items c.push.new.self.items c.loop-i.i no_slot _ c.loop-i-test.true
    c.in_ok-push.ensures.items c.loop-i.invariant (rw (to_z-of_z fits) c.nearest_within.ensures)

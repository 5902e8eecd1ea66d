use Rattle.std.proofs.Common.{arith}
use Rattle.mari_reach.proofs.Lines.{parent_there, some_there}
use Rattle.mari_reach.proofs.ranks.parents_among.Goals as goal

pub mark-requires : goal.mark-requires
mark-requires c =
    let l = some_there _ c.in-Some.parent _ c.in-Some.is (parent_there c.args.gates.now c.loop-gate.gate _ c.requires.earlier c.loop-gate-test.true) in
    omega (arith, l, c.requires.few)

use Rattle.std.proofs.Common.{arith, refl}
use Rattle.mari_proofs.proofs.TreeWalk.{branch_fits}
use Rattle.mari_check.specs.Shapes.{AnyLeaf}
use Rattle.mari_check.proofs.TreeShapes.{room-left}
use Rattle.mari_check.proofs.tree.after.Goals as goal

pub child_of-requires-clause-room : goal.child_of-requires-clause-room
child_of-requires-clause-room c = omega (arith, room-left c.args.market.now c.args.prefix.now c.args.item.now c.in-Branch.is c.requires.item, c.requires.market.few_gates)

pub returns-in-Branch-clause-fits : goal.returns-in-Branch-clause-fits
returns-in-Branch-clause-fits c =
    (branch_fits c.args.market.now AnyLeaf c.args.prefix.now c.child_of.result c.args.item.now c.args.market.now.gates c.in-Branch.is refl
    (room-left c.args.market.now c.args.prefix.now c.args.item.now c.in-Branch.is c.requires.item)
    c.requires.prefix c.child_of.ensures.word c.child_of.ensures.cleared).0

pub returns-in-Branch-clause-feasible : goal.returns-in-Branch-clause-feasible
returns-in-Branch-clause-feasible c =
    (branch_fits c.args.market.now AnyLeaf c.args.prefix.now c.child_of.result c.args.item.now c.args.market.now.gates c.in-Branch.is refl
    (room-left c.args.market.now c.args.prefix.now c.args.item.now c.in-Branch.is c.requires.item)
    c.requires.prefix c.child_of.ensures.word c.child_of.ensures.cleared).1

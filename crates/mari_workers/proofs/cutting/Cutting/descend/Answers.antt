use Rattle.std.proofs.Common.{◌∷◌, [], arith, length-append, ap}
use Rattle.std.proofs.Common.{length}
use Rattle.mari_market.specs.declared.certificate.TreeItem.TheVariants.{Branch}
use Rattle.mari_workers.proofs.Cuts.{branch_kept}
use Rattle.mari_workers.proofs.TreeWalks.{room_of}
use Rattle.mari_workers.proofs.cutting.Cutting.descend.Goals as goal

pub child_of-requires-clause-room : goal.child_of-requires-clause-room
child_of-requires-clause-room c = room_of c.args.market.now c.args.prefix.now c.requires.market c.requires.walk.after.0

pub returns : goal.returns
returns c = record {
  goes_on = branch_kept c.args.market.now c.args.welfare c.args.prefix.now c.child_of.result c.args.self.now.done.items c.args.self.now.left.items c.push.new.self.items c.requires.walk
      c.in_ok-push.ensures.items c.child_of.ensures.word c.child_of.ensures.cleared;
  count = omega (arith, ap length c.in_ok-push.ensures.items, length-append c.args.self.now.done.items (Branch ∷ []));
  no_more = omega arith;
}

use Rattle.std.proofs.Common.{◌∷◌, ◌∙◌, [], arith, length, length-append, ap}
use Rattle.std.specs.declared.vec.Vec.{Vec}
use Rattle.std.specs.declared.alloc.Global.{Global}
use Rattle.mari_market.specs.declared.certificate.TreeItem.{TreeItem}
use Rattle.mari_market.specs.declared.certificate.TreeItem.TheVariants.{Branch, Leaf}
use Rattle.mari_workers.proofs.Cuts.{below_branch, leaf_done, node_here}
use Rattle.mari_workers.proofs.TreeWalks.{room_of}
use Rattle.mari_workers.proofs.cutting.Cutting.cut.Goals as goal

pub child_of-requires-clause-room : goal.child_of-requires-clause-room
child_of-requires-clause-room c = room_of c.args.market.now c.args.prefix.now c.requires.market c.requires.walk.after.0

pub drop_below-requires-clause-below : goal.drop_below-requires-clause-below
drop_below-requires-clause-below c =
    below_branch c.args.market.now c.args.welfare c.args.prefix.now c.child_of.result c.args.self.now.done.items c.args.self.now.left.items
    c.requires.walk c.child_of.ensures.word c.child_of.ensures.cleared

pub returns : goal.returns
returns c =
    let new = c.drop_below.new.self in
    let done = ap (λ (v : Vec TreeItem Global). v.items) c.drop_below.ensures.done ∙ c.in_ok-push.ensures.items in
    record {
      goes_on = leaf_done c.args.market.now c.args.welfare c.args.prefix.now Branch c.args.leaf c.args.self.now.done.items c.args.self.now.left.items new.done.items new.left.items new.next
          c.requires.walk (record {
            holds = c.requires.leaf;
            node = node_here c.args.market.now c.args.welfare c.args.prefix.now c.args.self.now.done.items c.args.self.now.left.items c.requires.market c.requires.walk;
          }) done c.drop_below.ensures.next c.drop_below.ensures.below.after c.drop_below.ensures.below.feasible;
      count = omega (arith, ap length done, length-append c.args.self.now.done.items (Leaf c.args.leaf ∷ []));
      no_more = c.drop_below.ensures.fewer;
    }

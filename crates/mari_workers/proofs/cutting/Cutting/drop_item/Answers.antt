use Rattle.std.proofs.Common.{◌++◌, ◌∷◌, [], ap, ◌∙◌}
use Rattle.mari_market.specs.declared.certificate.TreeItem.{TreeItem}
use Rattle.mari_market.specs.Prefix.{word_of}
use Rattle.mari_workers.proofs.Cuts.{below_room, branch_dropped, leaf_dropped, word_longer}
use Rattle.mari_workers.proofs.TreeWalks.{room_of}
use Rattle.mari_workers.proofs.cutting.Cutting.drop_item.Goals as goal

pub child_of-requires-clause-room : goal.child_of-requires-clause-room
child_of-requires-clause-room c =
    room_of c.args.market.now c.args.at.now c.requires.market
    (below_room c.args.market.now c.args.welfare (word_of c.args.above.now) c.args.at.now c.pop.new.self.items c.args.self.now.left.items c.requires.below
    (c.in-Some-Branch.ensures.items ∙ ap (λ (item : TreeItem). c.pop.new.self.items ++ item ∷ []) c.in-Some-Branch.field-0-is))

pub returns-in-Some-Leaf-clause-below : goal.returns-in-Some-Leaf-clause-below
returns-in-Some-Leaf-clause-below c =
    leaf_dropped c.args.market.now c.args.welfare (word_of c.args.above.now) c.args.at.now c.in-Some-Leaf.leaf c.pop.new.self.items c.args.self.now.left.items c.next_after-self.result c.requires.below
    (c.in-Some-Leaf.ensures.items ∙ ap (λ (item : TreeItem). c.pop.new.self.items ++ item ∷ []) c.in-Some-Leaf.field-0-is)
    (word_longer c.args.above.now c.args.at.now c.requires.deeper) c.next_after-self.ensures.left c.next_after-self.ensures.feasible

pub returns-in-Some-Branch-clause-below : goal.returns-in-Some-Branch-clause-below
returns-in-Some-Branch-clause-below c =
    branch_dropped c.args.market.now c.args.welfare (word_of c.args.above.now) c.args.at.now c.child_of.result c.pop.new.self.items c.args.self.now.left.items c.requires.below
    (c.in-Some-Branch.ensures.items ∙ ap (λ (item : TreeItem). c.pop.new.self.items ++ item ∷ []) c.in-Some-Branch.field-0-is)
    (word_longer c.args.above.now c.args.at.now c.requires.deeper) c.child_of.ensures.word c.child_of.ensures.cleared

use Rattle.std.proofs.Common.{◌++◌, ◌∷◌, [], ap, ◌∙◌}
use Rattle.std.specs.declared.vec.Vec.{Vec}
use Rattle.std.specs.declared.alloc.Global.{Global}
use Rattle.mari_market.specs.declared.certificate.TreeItem.{TreeItem}
use Rattle.mari_workers.proofs.TreeWalks.{branch_room, room_of}
use Rattle.mari_workers.proofs.Turns.{turned_branch}
use Rattle.mari_workers.proofs.refining.Walk.advance.Goals as goal

pub descend-requires-clause-room : goal.descend-requires-clause-room
descend-requires-clause-room c =
    let m = c.args.market.now in
    room_of m c.args.prefix.now c.requires.market (branch_room m c.args.aim.now c.args.prefix.now c.args.self.now.done.items c.pop.new.self.items c.args.self.now.left.items c.requires.walk
    (c.in-Some-Branch.ensures.items ∙ ap (λ (item : TreeItem). c.pop.new.self.items ++ item ∷ []) c.in-Some-Branch.field-0-is))

pub returns-in_ok-descend-in-Some-Branch : goal.returns-in_ok-descend-in-Some-Branch
returns-in_ok-descend-in-Some-Branch c =
    turned_branch c.args.market.now c.args.aim.now c.args.prefix.now c.args.self.now.done.items c.pop.new.self.items c.descend.new.self.done.items
    c.descend.new.self.left.items c.args.self.now.left.items c.descend.new.self.next c.requires.walk
    (c.in-Some-Branch.ensures.items ∙ ap (λ (item : TreeItem). c.pop.new.self.items ++ item ∷ []) c.in-Some-Branch.field-0-is)
    c.in_ok-descend-in-Some-Branch.ensures.done
    (ap (λ (v : Vec TreeItem Global). v.items) c.in_ok-descend-in-Some-Branch.ensures.left)
    c.in_ok-descend-in-Some-Branch.ensures.next

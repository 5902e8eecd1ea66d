use Rattle.std.proofs.Common.{◌≡◌, ◌+◌, ◌<◌, ◌≤◌, ◌^◌, ◌++◌, ◌∷◌, [], arith, Bool, if◌then◌else◌, ap, sym, ◌∙◌}
use Rattle.std.specs.declared.vec.Vec.{Vec}
use Rattle.std.specs.declared.alloc.Global.{Global}
use Rattle.mari_market.specs.declared.certificate.TreeItem.{TreeItem}
use Rattle.mari_market.specs.declared.certificate.TreeItem.TheVariants.{Branch}
use Rattle.mari_gates.proofs.Decisions.{length-decisions}
use Rattle.mari_workers.proofs.TreeWalks.{leaf_crowded, room_of}
use Rattle.mari_workers.proofs.Turns.{turned_branched}
use Rattle.mari_workers.proofs.refining.Walk.branch.Goals as goal
use Rattle.mari_workers.proofs.refining.Walk.branch.Goals.{then-may_open, else-may_open}

pub may_branch_up-may_open-requires-clause-undecided : goal.may_branch_up-may_open-requires-clause-undecided
may_branch_up-may_open-requires-clause-undecided c = omega (arith, c.requires.branch.undecided, length-decisions c.args.prefix.now c.args.prefix.now.length)

pub overflow_add-len-3 : goal.overflow_add-len-3
overflow_add-len-3 c =
    let few : c.if-may_open.more ≤ 2 = elim c.if-may_open.branch [ then-may_open w ↦ omega (arith, w.more-is) | else-may_open w ↦ omega (arith, w.more-is) ] in
    let all : c.len.result + c.len-2.result + 1 + c.if-may_open.more < 2 ^ 64 = omega (arith, few, c.len.ensures, c.len-2.ensures, c.requires.walk.within, c.requires.aim.budget) in
    omega (arith, all)

pub returns-then-len-more : goal.returns-then-len-more
returns-then-len-more c =
    let m = c.args.market.now in
    let may = c.may_branch_up-may_open.result in
    let more : c.if-may_open.more ≡ (if may then 2 else 1) = elim c.if-may_open.branch [
      | then-may_open w ↦ w.more-is ∙ sym (ap (λ (b : Bool). if b then 2 else 1) w.if-may_open.true)
      | else-may_open w ↦ w.more-is ∙ sym (ap (λ (b : Bool). if b then 2 else 1) w.if-may_open.false)
    ] in
    leaf_crowded m c.args.aim.now c.args.prefix.now c.args.leaf c.args.leaf may c.args.self.now.done.items c.args.self.now.left.items
    c.push.new.self.items c.requires.market c.requires.aim c.requires.walk c.requires.branch
    c.may_branch_up-may_open.ensures.may_close c.may_branch_up-may_open.ensures.may_open.0 c.may_branch_up-may_open.ensures.children c.in_ok-push.ensures.items
    (omega (arith, more, c.len.ensures, c.len-2.ensures, c.if-len-more.true))

pub descend-requires-clause-room : goal.descend-requires-clause-room
descend-requires-clause-room c = room_of c.args.market.now c.args.prefix.now c.requires.market c.requires.branch.undecided

pub returns : goal.returns
returns c =
    let m = c.args.market.now in
    let may = c.may_branch_up-may_open.result in
    let more : c.if-may_open.more ≡ (if may then 2 else 1) = elim c.if-may_open.branch [
      | then-may_open w ↦ w.more-is ∙ sym (ap (λ (b : Bool). if b then 2 else 1) w.if-may_open.true)
      | else-may_open w ↦ w.more-is ∙ sym (ap (λ (b : Bool). if b then 2 else 1) w.if-may_open.false)
    ] in
    turned_branched m c.args.aim.now c.args.prefix.now c.args.leaf c.args.leaf may c.args.self.now.done.items c.args.self.now.left.items
    c.descend.new.self.done.items c.descend.new.self.left.items c.descend.new.self.next
    c.requires.market c.requires.aim c.requires.walk c.requires.branch c.may_branch_up-may_open.ensures.may_close c.may_branch_up-may_open.ensures.may_open.0 c.may_branch_up-may_open.ensures.children
    (omega (arith, more, c.len.ensures, c.len-2.ensures, c.if-len-more.false))
    (c.in_ok-descend.ensures.done ∙ ap (λ (v : Vec TreeItem Global). v.items ++ Branch ∷ []) c.in_ok-give.ensures.done)
    (ap (λ (v : Vec TreeItem Global). v.items) c.in_ok-descend.ensures.left ∙ c.in_ok-give.ensures.left)
    c.in_ok-descend.ensures.next

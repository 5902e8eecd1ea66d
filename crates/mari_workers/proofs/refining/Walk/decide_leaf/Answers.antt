use Rattle.std.proofs.Common.{subst}
use Rattle.mari_market.specs.Prefix.{word_of}
use Rattle.mari_workers.specs.Refine.{IsFate}
use Rattle.mari_workers.proofs.Turns.{turned_leaf}
use Rattle.mari_workers.proofs.refining.Walk.decide_leaf.Goals as goal

pub returns-in_ok-push-in-Stays : goal.returns-in_ok-push-in-Stays
returns-in_ok-push-in-Stays c =
    let m = c.args.market.now in
    let aim = c.args.aim.now in
    let x = c.args.prefix.now in
    turned_leaf m aim x c.args.leaf c.in-Stays.leaf c.args.self.now.done.items c.args.self.now.left.items c.push.new.self.items c.next_after-self.result c.requires.walk
    (subst (IsFate m aim.welfare (word_of aim.word) (word_of x)) c.in-Stays.is c.in_ok-leaf.ensures)
    c.next_after-self.ensures.left c.next_after-self.ensures.feasible c.in_ok-push-in-Stays.ensures.items

use Rattle.std.proofs.Common.{subst, sym, arith}
use Rattle.mari_islands.specs.Islands.{AreFirstZones}
use Rattle.mari_islands.proofs.Placing.{written}
use Rattle.mari_islands.proofs.firsts.firsts_of.Goals as goal

pub returns : goal.returns
returns c =
    let m = c.args.market.now in
    let news = c.unite_all.new.firsts in
    let is = written c.in_ok-firsts.firsts.len news c.in_ok-firsts.firsts.items (omega (arith, c.unite_all.auto.firsts, c.deref_mut.ensures.len)) in
    subst (AreFirstZones m) (sym is) c.unite_all.ensures

use Rattle.std.proofs.Common.{subst, sym, arith}
use Rattle.mari_islands.specs.Uniting.{AreHomes}
use Rattle.mari_islands.proofs.Placing.{written}
use Rattle.mari_islands.proofs.firsts.homes_of.Goals as goal

pub returns : goal.returns
returns c =
    let m = c.args.market.now in
    let news = c.place_homes.new.homes in
    let is = written c.in_ok-homes.homes.len news c.in_ok-homes.homes.items (omega (arith, c.place_homes.auto.homes, c.deref_mut.ensures.len)) in
    subst (AreHomes m) (sym is) c.place_homes.ensures

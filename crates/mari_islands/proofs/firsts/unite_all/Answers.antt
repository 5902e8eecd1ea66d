use Rattle.mari_islands.proofs.Uniting.{are_first_zones, united_by_three}
use Rattle.mari_islands.proofs.firsts.unite_all.Goals as goal

pub returns : goal.returns
returns c =
    let m = c.args.market.now in
    let homes = c.args.homes.now in
    let mates = c.args.mates.now in
    let ones = c.unite_by_borders.new.firsts in
    let twos = c.unite_by_orders.new.firsts in
    let news = c.unite_by_gates.new.firsts in
    let borders = c.unite_by_borders.ensures in
    let orders = c.unite_by_orders.ensures in
    let gates = c.unite_by_gates.ensures in
    are_first_zones m homes mates news c.requires.valid c.requires.mates
    (united_by_three m homes mates ones twos news c.requires.valid c.requires.homes borders.sound borders.united orders.sound orders.stay orders.united gates.sound gates.stay gates.united)

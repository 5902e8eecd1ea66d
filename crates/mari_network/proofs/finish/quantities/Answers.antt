use Rattle.std.proofs.Common.{◌≡◌, length, map, take, unsigned_abs, rules, List, sym, subst, ℕ}
use Rattle.mari_network.specs.Orders.{ArePuts}
use Rattle.mari_network.proofs.Transfers.{sizes_put, sizes_small}
use Rattle.mari_network.proofs.finish.quantities.Goals as goal

pub sizes-requires : goal.sizes-requires
sizes-requires c = sizes_small c.args.orders.now (take (length c.args.orders.now) c.args.amounts.now) c.requires.fits

pub returns : goal.returns
returns c =
    let amounts = take (length c.args.orders.now) c.args.amounts.now in
    let puts : (qs : List ℕ) → qs ≡ map unsigned_abs amounts
    → ArePuts c.args.orders.now amounts qs = λ qs e. subst (λ (qs : List ℕ). ArePuts c.args.orders.now amounts qs) (sym e) (sizes_put c.args.orders.now amounts c.requires.fits) in
    search (rules, puts)

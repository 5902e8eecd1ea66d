use Rattle.std.proofs.Common.{◌≡◌, ◌∙◌, ◌+ℤ◌, ◌≤◌, List, arith, length, refl, subst, sym, to_z, of_z, w64}
use Rattle.std.proofs.lemmas.Int.{ints}
use Rattle.std.proofs.lemmas.List.Elements.{All-filter}
use Rattle.std.specs.List.{All, filter}
use Rattle.mari_market.specs.declared.market.Order.{Order}
use Rattle.mari_market.specs.declared.limits.TheConstants.{MOST_ORDERS}
use Rattle.mari_market.specs.Market.{IsValidOrder}
use Rattle.mari_proofs.specs.NetInjections.{put_of}
use Rattle.mari_reach.specs.Tables.{has_gate, is_plain, span_in}
use Rattle.mari_reach.proofs.ByLevel.{few_kept, split_sum, valid_widest}
use Rattle.mari_reach.proofs.cuts.surveyed_put.Goals as goal

pub orders_put-requires-clause-few : goal.orders_put-requires-clause-few
orders_put-requires-clause-few c =
    subst (λ (xs : List Order). length xs ≤ MOST_ORDERS) (sym c.requires.gated) (omega (arith, few_kept has_gate c.args.market.now.orders, c.requires.market.few_orders))

pub orders_put-requires-clause-orders : goal.orders_put-requires-clause-orders
orders_put-requires-clause-orders c =
    let m = c.args.market.now in
    subst (λ (xs : List Order). All (IsValidOrder 64 512) xs) (sym c.requires.gated) (All-filter has_gate (IsValidOrder 64 512) m.orders (valid_widest m c.requires.market))

pub returns : goal.returns
returns c =
    let m = c.args.market.now in
    let new : to_z w64 (of_z w64 (to_z w64 (of_z w64 c.put.result) +ℤ to_z w64 (of_z w64 c.orders_put.result))) ≡ c.put.result +ℤ c.orders_put.result =
    omega (arith, ints, c.put.ensures.low, c.put.ensures.high, c.orders_put.ensures.low, c.orders_put.ensures.high) in
    new ∙ split_sum (put_of c.args.side (span_in c.args.state.now) c.args.set.now.zones.now) m.orders (filter is_plain m.orders) c.args.gated.now c.put.result c.orders_put.result
    refl c.requires.gated c.put.ensures.value c.orders_put.ensures.value

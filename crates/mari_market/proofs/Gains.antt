-- What orders add to the welfare at most.
use Rattle.std.proofs.Common.{ℕ, ◌*◌, ◌≤◌, ℤ, pos, ◌≤ℤ◌, List, ◌∷◌, length, arith}
use Rattle.std.specs.List.{All}
use Rattle.std.proofs.lemmas.Int.{ints}
use Rattle.std.proofs.lemmas.List.Elements.{All-head, All-tail}
use Rattle.mari_market.specs.declared.market.Side.{Side}
use Rattle.mari_market.specs.declared.market.Side.TheVariants.{Inject, Withdraw}
use Rattle.mari_market.specs.declared.market.Order.{Order}
use Rattle.mari_market.specs.Activation.{gain, order_gain}
use Rattle.mari_market.specs.Price.{IsPrice}
use Rattle.mari_market.specs.Sums.{sum_along}
use Rattle.mari_market.proofs.Wide.{scaled}

pub gain_at_most : (side : Side) (c : ℤ) (q : ℕ) → IsPrice c → q ≤ 99999 → gain side c q ≤ℤ pos (9999900 * 99999)
gain_at_most Inject c q p l = omega (arith, ints, (scaled c q 9999900 99999 p.low p.high l).0)
gain_at_most Withdraw c q p l = (scaled c q 9999900 99999 p.low p.high l).1

pub gains_at_most : (os : List Order) (qs : List ℕ) → All (λ (o : Order). IsPrice o.price.0) os → All (λ q. q ≤ 99999) qs → sum_along order_gain os qs ≤ℤ pos (9999900 * 99999 * length os)
gains_at_most (o ∷ os) (q ∷ qs) p s =
    let here = gain_at_most o.side o.price.0 q (All-head (λ (x : Order). IsPrice x.price.0) o os p) (All-head (λ x. x ≤ 99999) q qs s) in
    omega (arith, ints, here, gains_at_most os qs (All-tail (λ (x : Order). IsPrice x.price.0) o os p) (All-tail (λ x. x ≤ 99999) q qs s))
gains_at_most _ _ p s = omega (arith, ints)

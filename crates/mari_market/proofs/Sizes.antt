-- The welfare of an admissible activation fits 64 bits.
use Rattle.std.proofs.Common.{◌≡◌, ℕ, ◌*◌, ◌≤◌, if◌then◌else◌, Bool, pos, ◌≤ℤ◌, List, [], ◌∷◌, Option, Some, None, length, arith, refl}
use Rattle.std.proofs.lemmas.Int.{ints}
use Rattle.mari_market.specs.declared.market.Order.{Order}
use Rattle.mari_market.specs.declared.market.Market.{Market}
use Rattle.mari_market.specs.declared.activation.Activation.{Activation}
use Rattle.mari_market.specs.Activation.{order_gain, welfare_of, is_open}
use Rattle.mari_market.specs.Bounds.{GateState, IsWithin, span_of, own_bounds}
use Rattle.mari_market.specs.Bounds.GateState.{Open, Closed, Free}
use Rattle.mari_market.specs.Market.{IsValid, IsValidOrder}
use Rattle.mari_market.specs.Optimal.{IsFeasible}
use Rattle.mari_market.specs.Sums.{int_sum}
use Rattle.mari_market.proofs.Sums.{sum_along-le, AllZip-with}
use Rattle.mari_market.proofs.Gains.{gain_at_most}
use Rattle.std.proofs.lemmas.Slice.Zip.{AllZip-long}

pub high_at_most : (state : ℕ → GateState) (gate : Option ℕ) (o : Order) → (span_of state gate o).hi ≤ o.greatest
high_at_most state None o = omega arith
high_at_most state (Some g) o = elim (state g) as (λ s. (span_of (λ (h : ℕ). s) (Some g) o).hi ≤ o.greatest) [ Open ↦ omega arith | Closed ↦ omega arith | Free ↦ omega arith ]

pub at_most : (opens : ℕ → Bool) (gate : Option ℕ) (o : Order) (q : ℕ) → IsWithin (span_of (λ g. if opens g then Open else Closed) gate o) q → q ≤ o.greatest
at_most opens gate o q w = omega (arith, w.most, high_at_most (λ g. if opens g then Open else Closed) gate o)

constant : {X : Type 0} (xs : List X) → int_sum (λ (x : X). pos (9999900 * 99999)) xs ≡ pos (9999900 * 99999 * length xs)
constant [] = refl
constant (x ∷ xs) = omega (arith, ints, constant xs)

-- the welfare of a feasible activation is at most what all orders gain at their greatest quantities and the greatest
-- price
pub welfare_at_most : (m : Market) (a : Activation) → IsValid m → IsFeasible m a → welfare_of m a ≤ℤ pos (9999900 * 99999 * 4608)
welfare_at_most m a v f =
    let each = sum_along-le order_gain (λ (o : Order). pos (9999900 * 99999)) (λ (o : Order) (q : ℕ). IsValidOrder m.zones (length m.gates) o × IsWithin (own_bounds m a o) q)
    (λ o q h. gain_at_most o.side o.price.0 q h.0.price (omega (arith, h.0.small, at_most (is_open m a) o.gate o q h.1)))
    m.orders a.mw (AllZip-with _ _ m.orders a.mw v.orders f.orders) in
    omega (arith, ints, each, constant m.orders, v.few_orders)

-- a feasible activation has as many quantities as there are orders
pub as_many : (m : Market) (a : Activation) → IsFeasible m a → length a.mw ≡ length m.orders
as_many m a f = AllZip-long _ m.orders a.mw f.orders

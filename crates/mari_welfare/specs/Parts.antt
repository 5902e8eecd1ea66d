-- The parts of the tests of a market and an activation.
use Rattle.std.specs.Prelude.{ℕ, List}
use Rattle.std.specs.List.{AllZip}
use Rattle.mari_units.specs.declared.Cents.{Cents}
use Rattle.mari_market.specs.declared.market.Order.{Order}
use Rattle.mari_market.specs.declared.market.Market.{Market}
use Rattle.mari_market.specs.declared.activation.Activation.{Activation}
use Rattle.mari_market.specs.Activation.{IsBalanced, IsWithinLimits, is_open}
use Rattle.mari_market.specs.Bounds.{IsWithin, own_bounds}
use Rattle.mari_market.specs.Consistent.{IsConsistentOrder, IsConsistentBorder}
use Rattle.mari_market.specs.Gates.{KeepsGateRules}

-- each order runs within its bounds, and the open gates keep the rules
pub record OrdersAndGatesFit (m : Market) (a : Activation) : Type 0 where
  pub orders : AllZip (λ (o : Order) (q : ℕ). IsWithin (own_bounds m a o) q) m.orders a.mw
  pub gates : KeepsGateRules m.gates (is_open m a)

-- each flow is within its limits, and each zone is in balance
pub record BordersAndZonesFit (m : Market) (a : Activation) : Type 0 where
  pub borders : AllZip IsWithinLimits m.borders a.flow
  pub balance : IsBalanced m a

-- each order and each border is consistent with the prices
pub record OrdersAndBordersAgree (m : Market) (a : Activation) (ps : List Cents) : Type 0 where
  pub orders : AllZip (IsConsistentOrder (is_open m a) ps) m.orders a.mw
  pub borders : AllZip (IsConsistentBorder ps) m.borders a.flow

-- What the solver answers: the relaxed optimum with tight potentials, or a cut.
use Rattle.std.specs.Prelude.{◌≡◌, ◌≤◌, ℤ, pos, ◌++◌, List, length, take, Result, Ok, Err, ⊤}
use Rattle.std.specs.Int.{int_max}
use Rattle.std.specs.List.{All, AllZip}
use Rattle.mari_market.specs.declared.market.Order.{Order}
use Rattle.mari_market.specs.declared.market.Market.{Market}
use Rattle.mari_market.specs.declared.activation.Activation.{Activation}
use Rattle.mari_market.specs.declared.certificate.Cut.{Cut as CutRecord}
use Rattle.mari_market.specs.Activation.{welfare_of}
use Rattle.mari_market.specs.Bounds.{Span}
use Rattle.mari_market.specs.Cut.{IsCut}
use Rattle.mari_market.specs.Dual.{IsTight, dual_value_of}
use Rattle.mari_market.specs.Price.{ArePrices}
use Rattle.mari_market.specs.Relaxation.{IsWithinBounds, IsRelaxed}
use Rattle.mari_network.specs.declared.network.Network.{Network as NetworkRecord}
use Rattle.mari_network.specs.declared.optimum.Optimum.{Optimum}
use Rattle.mari_network.specs.declared.optimum.Solved.{Solved}
use Rattle.mari_network.specs.declared.optimum.SolveFault.{SolveFault}
use Rattle.mari_network.specs.declared.optimum.SolveFault.TheVariants.{Cut, Memory}
use Rattle.mari_network.specs.declared.slots.Slot.{Slot}
use Rattle.mari_network.specs.Orders.{slots_of, IsStandIn, CanPut, ArePuts}
use Rattle.mari_network.specs.declared.slots.TheConstants.{BEYOND}

-- no activation lies within the spans
abbrev pub NoneWithin : (Order → Span) → Market → Type 0
NoneWithin spans m = (a : Activation) → ¬ IsWithinBounds spans m a

-- P holds of the cut, where the fault is one
abbrev pub OfCut : SolveFault → (CutRecord → Type 0) → Type 0
OfCut (Cut cut) P = P cut
OfCut Memory P = ⊤

-- an activation within the spans that is the relaxed optimum; potentials that are tight for it, and whose dual value is
-- its welfare; and the welfare as it is stated, 0 where it is negative
pub record IsSolution (spans : Order → Span) (m : Market) (s : Solved) : Type 0 where
  pub within : IsWithinBounds spans m s.activation
  pub relaxed : IsRelaxed spans m (welfare_of m s.activation)
  pub dual : dual_value_of spans m s.potentials.cents ≡ welfare_of m s.activation
  pub tight : IsTight spans m s.activation s.potentials.cents
  pub potentials : ArePrices m s.potentials.cents
  pub stated : pos s.welfare ≡ int_max (pos 0) (welfare_of m s.activation)

-- the orders' part of the amounts, each of which its order can put in
pub record FitsOrders (m : Market) (o : Optimum) : Type 0 where
  pub long : length m.orders ≤ length o.amounts.items
  pub puts : AllZip (λ (o : Order) (x : ℤ). CanPut o.side x) m.orders (take (length m.orders) o.amounts.items)

-- the activation runs these amounts and flows
pub record IsWritten (m : Market) (o : Optimum) (a : Activation) : Type 0 where
  pub puts : ArePuts m.orders (take (length m.orders) o.amounts.items) a.mw
  pub flow : a.flow ≡ o.flows.items

-- the activation that it is written as is the solution
pub record IsOptimum (spans : Order → Span) (m : Market) (o : Optimum) : Type 0 where
  pub fits : FitsOrders m o
  pub solution : (a : Activation) → IsWritten m o a → IsSolution spans m (record { activation = a; potentials = o.potentials; welfare = o.welfare })

-- the optimum within the spans, or a cut that holds there
abbrev pub IsFoundOptimum : (Order → Span) → Market → Result Optimum SolveFault → Type 0
IsFoundOptimum spans m (Ok o) = IsOptimum spans m o
IsFoundOptimum spans m (Err fault) = OfCut fault (IsCut spans m)

-- the network has the market's zones and borders, and slots of its orders before others
pub record IsNetworkOf (m : Market) (n : NetworkRecord) : Type 0 where
  pub zones : length n.meeting.now ≡ m.zones
  pub borders : n.borders.now ≡ m.borders
  pub orders : AllZip (λ (o : Order) (s : Slot). CanPut o.side s.low × CanPut o.side s.high) m.orders (take (length m.orders) n.slots.now)

-- the slots are the orders' within the spans, and others that stand in
pub record AreSlotsOf (spans : Order → Span) (m : Market) (more slots : List Slot) : Type 0 where
  pub made : slots ≡ slots_of spans m.orders ++ more
  pub others : All (IsStandIn BEYOND) more

-- What the orders of gates run.
use Rattle.std.specs.Prelude.{◌≡◌, ℕ, ◌<◌, ◌≤◌, Bool, true, Some, List, unsigned_abs}
use Rattle.std.specs.List.{AllZip, list_any}
use Rattle.mari_market.specs.declared.market.Order.{Order}
use Rattle.mari_market.specs.declared.market.Market.{Market}
use Rattle.mari_market.specs.declared.activation.Activation.{Activation}
use Rattle.mari_market.specs.Activation.{is_run_of, IsBalanced, IsWithinLimits}
use Rattle.mari_market.specs.Sums.{int_at}
use Rattle.mari_network.specs.declared.optimum.Optimum.{Optimum}
use Rattle.mari_paths.specs.Starts.{order_at}

-- how many MW the order at this place of an optimum runs
abbrev pub quantity_at : Optimum → ℕ → ℕ
quantity_at o k = unsigned_abs (int_at o.amounts.items k)

-- whether one of the orders at these places is of the gate and runs
abbrev pub runs_among : ℕ → Market → Optimum → List ℕ → Bool
runs_among g m o ks = list_any (λ (k : ℕ). is_run_of g (order_at m k) (quantity_at o k)) ks

-- an order that runs, but less than its least
pub record IsPartial (o : Order) (q : ℕ) : Type 0 where
  pub some : 0 < q
  pub short : q < o.least

-- an order that runs nothing or at least its least
abbrev pub IsNotPartial : Order → ℕ → Type 0
IsNotPartial o q = 0 < q → o.least ≤ q

-- an order that runs if its gate, if it has one, is open
abbrev pub RunsWhereOpen : (ℕ → Bool) → Order → ℕ → Type 0
RunsWhereOpen opens o q = (g : ℕ) → o.gate ≡ Some g → opens g ≡ true → 0 < q

-- no more than each order's greatest runs, each flow is within its border's limits, and each zone is in balance
pub record IsBounded (m : Market) (a : Activation) : Type 0 where
  pub orders : AllZip (λ o q. q ≤ o.greatest) m.orders a.mw
  pub borders : AllZip IsWithinLimits m.borders a.flow
  pub balance : IsBalanced m a

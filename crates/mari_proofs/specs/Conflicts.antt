-- The parts of a conflict, as the test goes through them.
use Rattle.std.specs.Prelude.{◌≡◌, ⊤, Bool, ℕ, ◌<◌, nat_lt, ℤ, ◌≤ℤ◌, List, Option, Some, None, IfSome}
use Rattle.mari_units.specs.declared.Cents.{Cents}
use Rattle.mari_market.specs.declared.market.Order.{Order}
use Rattle.mari_market.specs.declared.market.Market.{Market}
use Rattle.mari_market.specs.declared.activation.Activation.{Activation}
use Rattle.mari_market.specs.declared.prefix.Prefix.{Prefix}
use Rattle.mari_market.specs.Activation.{gate_word_of}
use Rattle.mari_market.specs.Bounds.{own_bounds}
use Rattle.mari_market.specs.Consistent.{IsLowerOf, IsUpperOf}
use Rattle.mari_market.specs.Dual.{IsTight}
use Rattle.mari_market.specs.Optimal.{IsFeasible}
use Rattle.mari_market.specs.Prefix.{word_of, opens_in}
use Rattle.mari_market.specs.Price.{ArePrices}

-- whether the prefix decides the gate as open
abbrev pub opens_gate : Prefix → ℕ → Bool
opens_gate x g = opens_in (word_of x) g

-- the order's gate, if it has one, is one of the first n
abbrev pub HasDecidedGate : ℕ → Order → Type 0
HasDecidedGate n o = IfSome o.gate (λ g. g < n)

-- an order runs exactly where its gate is open
abbrev pub RunsAsDecided : (ℕ → Bool) → Option ℕ → ℕ → Type 0
RunsAsDecided opens None q = ⊤
RunsAsDecided opens (Some g) q = opens g ≡ nat_lt 0 q

-- the activation is feasible, and opens exactly the gates that the prefix opens, which decides all
pub record IsOfWord (m : Market) (x : Prefix) (a : Activation) : Type 0 where
  pub gates : gate_word_of m a ≡ word_of x
  pub feasible : IsFeasible m a

-- potentials within the cap that are tight for the activation
pub record AreTightPotentials (m : Market) (a : Activation) (ps : List Cents) : Type 0 where
  pub prices : ArePrices m ps
  pub tight : IsTight (own_bounds m a) m a ps

-- the greatest lower bound
pub record IsGreatestLower (opens : ℕ → Bool) (z : ℕ) (os : List Order) (qs : List ℕ) (c : ℤ) : Type 0 where
  pub reached : IsLowerOf opens z os qs c
  pub greatest : (d : ℤ) → IsLowerOf opens z os qs d → d ≤ℤ c

-- the least upper bound
pub record IsLeastUpper (opens : ℕ → Bool) (z : ℕ) (os : List Order) (qs : List ℕ) (c : ℤ) : Type 0 where
  pub reached : IsUpperOf opens z os qs c
  pub least : (d : ℤ) → IsUpperOf opens z os qs d → c ≤ℤ d

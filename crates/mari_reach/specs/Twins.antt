-- Twins: gates whose orders may be exchanged.
use Rattle.std.specs.Prelude.{◌≡◌, ◌⊎◌, ◌==◌, ◌&&◌, ◌||◌, not, if◌then◌else◌, Bool, true, false, ℕ, ◌<◌, nat_lt, ℤ, pos, ◌<ℤ◌, List, [], ◌∷◌, length, Option, Some, None, slice_index_or, slice_set}
use Rattle.std.specs.List.{filter, list_any}
use Rattle.std.specs.Option.{is_some}
use Rattle.std.specs.Ordering.{int_eq}
use lib.Signed.{lt_z}
use Rattle.mari_market.specs.declared.market.Side.{Side}
use Rattle.mari_market.specs.declared.market.Side.TheVariants.{Inject, Withdraw}
use Rattle.mari_market.specs.declared.market.Order.{Order}
use Rattle.mari_market.specs.declared.market.GateInfo.{GateInfo}
use Rattle.mari_market.specs.declared.market.Market.{Market}
use Rattle.mari_market.specs.declared.activation.Activation.{Activation}
use Rattle.mari_market.specs.Activation.{gate_word_of, is_gate, welfare_of}
use Rattle.mari_market.specs.First.{ComesBefore}
use Rattle.mari_market.specs.Gates.{group_of, parent_of}

-- what reads as an order past the end of a list
abbrev pub no_order : Order
no_order = record { zone = 0; side = Inject; price = record { 0 = pos 0 }; least = 0; greatest = 0; gate = None }

-- the order at a place of a market
abbrev pub order_at : Market → ℕ → Order
order_at m i = slice_index_or m.orders i no_order

-- a gate without a group, a parent or a child, whose only order stands at this place
pub record IsLone (m : Market) (g i : ℕ) : Type 0 where
  pub there : g < length m.gates
  pub place : i < length m.orders
  pub of_it : (order_at m i).gate ≡ Some g
  pub alone : (k : ℕ) → k < length m.orders → (order_at m k).gate ≡ Some g → k ≡ i
  pub no_group : group_of m.gates g ≡ None
  pub no_parent : parent_of m.gates g ≡ None
  pub no_child : (h : ℕ) → parent_of m.gates h ≡ Some g → ⊥

-- orders that are indivisible and of one size
pub record AreIndivisible (o x : Order) : Type 0 where
  pub first : o.least ≡ o.greatest
  pub second : x.least ≡ x.greatest
  pub size : o.greatest ≡ x.greatest

-- orders of one price, whose least and greatest quantities are the same
pub record AreAlike (o x : Order) : Type 0 where
  pub least : o.least ≡ x.least
  pub greatest : o.greatest ≡ x.greatest
  pub price : o.price.0 ≡ x.price.0

-- two lone gates whose orders are of one zone and side, and indivisible of one size, or alike
pub record AreTwins (m : Market) (g h i j : ℕ) : Type 0 where
  pub first : IsLone m g i
  pub second : IsLone m h j
  pub zone : (order_at m i).zone ≡ (order_at m j).zone
  pub side : (order_at m i).side ≡ (order_at m j).side
  pub sizes : AreIndivisible (order_at m i) (order_at m j) ⊎ AreAlike (order_at m i) (order_at m j)

-- a better price of a side: the lower of injections, the higher of withdrawals
abbrev pub IsBetter : Side → ℤ → ℤ → Type 0
IsBetter Inject c d = c <ℤ d
IsBetter Withdraw c d = d <ℤ c

-- the order of gate g ranks before that of gate h: by a better price, or by the same price and a later place in the file
abbrev pub RanksBefore : Order → ℕ → Order → ℕ → Type 0
RanksBefore o g x h = IsBetter o.side o.price.0 x.price.0 ⊎ ((o.price.0 ≡ x.price.0) × (h < g))

-- an activation is better than another, or as good with an earlier word
abbrev pub IsAhead : Market → (b a : Activation) → Type 0
IsAhead m b a = (welfare_of m a <ℤ welfare_of m b) ⊎ ((welfare_of m a ≡ welfare_of m b) × ComesBefore (gate_word_of m b) (gate_word_of m a))

-- it is the other, or ahead of it
abbrev pub IsNoWorse : Market → (b a : Activation) → Type 0
IsNoWorse m b a = (b ≡ a) ⊎ IsAhead m b a

-- the activation in which the order at i runs what that at j ran, and the one at j nothing
abbrev pub moved : Activation → (i j : ℕ) → Activation
moved a i j = record { mw = slice_set (slice_set a.mw j 0) i (slice_index_or a.mw j 0); flow = a.flow }

-- ---- tests

-- whether a gate's parent is g
abbrev pub is_child : ℕ → GateInfo → Bool
is_child g info = is_gate g info.parent

-- whether a gate has no group, no parent and no child
abbrev pub stands_alone : List GateInfo → ℕ → Bool
stands_alone gates g = not (is_some (group_of gates g)) && (not (is_some (parent_of gates g)) && not (list_any (is_child g) gates))

-- the orders of a gate among these
abbrev pub orders_of : List Order → ℕ → List Order
orders_of os g = filter (λ (o : Order). is_gate g o.gate) os

-- the order of a list that has one alone
abbrev pub sole : List Order → Option Order
sole [] = None
sole (o ∷ []) = Some o
sole (o ∷ x ∷ os) = None

-- the order of a gate that stands alone and has no other order
abbrev pub lone_order : Market → ℕ → Option Order
lone_order m g = if stands_alone m.gates g then sole (orders_of m.orders g) else None

-- whether two sides are the same
abbrev pub is_one_side : Side → Side → Bool
is_one_side Inject Inject = true
is_one_side Inject Withdraw = false
is_one_side Withdraw Inject = false
is_one_side Withdraw Withdraw = true

-- whether orders are indivisible and of one size
abbrev pub are_indivisible : Order → Order → Bool
are_indivisible o x = (o.least == o.greatest) && ((x.least == x.greatest) && (o.greatest == x.greatest))

-- whether orders are of one price, and their least and greatest quantities the same
abbrev pub are_alike : Order → Order → Bool
are_alike o x = (o.least == x.least) && ((o.greatest == x.greatest) && int_eq o.price.0 x.price.0)

-- whether orders are of one zone and side, and indivisible of one size, or alike
abbrev pub may_exchange : Order → Order → Bool
may_exchange o x = (o.zone == x.zone) && (is_one_side o.side x.side && (are_indivisible o x || are_alike o x))

-- whether a price of a side is better: lower of injections, higher of withdrawals
abbrev pub is_better : Side → ℤ → ℤ → Bool
is_better Inject c d = lt_z c d
is_better Withdraw c d = lt_z d c

-- whether the order of gate g ranks before that of gate h: by a better price, or by the same price and a later place in
-- the file
abbrev pub ranks_before : Order → ℕ → Order → ℕ → Bool
ranks_before o g x h = is_better o.side o.price.0 x.price.0 || (int_eq o.price.0 x.price.0 && nat_lt h g)

-- the same of orders that there may be
abbrev pub outranks_by : Option Order → ℕ → Option Order → ℕ → Bool
outranks_by None g x h = false
outranks_by (Some o) g None h = false
outranks_by (Some o) g (Some x) h = may_exchange o x && ranks_before o g x h

-- whether gate g is a twin of gate h, and ranks before it
abbrev pub outranks : Market → ℕ → ℕ → Bool
outranks m g h = outranks_by (lone_order m g) g (lone_order m h) h

-- open gates keep the rank of twins: none is open while a twin that ranks before it is closed
abbrev pub KeepsRank : Market → (ℕ → Bool) → Type 0
KeepsRank m on = (g h : ℕ) → outranks m g h ≡ true → on h ≡ true → on g ≡ true

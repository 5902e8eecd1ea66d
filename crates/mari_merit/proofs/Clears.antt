-- What fills the need at a marginal price is a clearing.
use Rattle.std.proofs.Common.{◌≡◌, ℕ, ◌-◌, ◌<◌, ◌≤◌, Bool, ℤ, pos, List, [], ◌∷◌, Option, Some, None, length, map, arith, refl, ap, subst, sym, MatchOption}
use Rattle.std.proofs.lemmas.Int.{ints}
use Rattle.std.proofs.lemmas.List.Elements.{All-cons, All-nil}
use Rattle.std.specs.List.{All, AllZip}
use Rattle.mari_units.specs.declared.Cents.{Cents}
use Rattle.mari_market.specs.declared.market.Order.{Order}
use Rattle.mari_market.specs.declared.market.Border.{Border}
use Rattle.mari_market.specs.declared.market.GateInfo.{GateInfo}
use Rattle.mari_market.specs.declared.market.Market.{Market}
use Rattle.mari_market.specs.declared.activation.Activation.{Activation}
use Rattle.mari_market.specs.declared.certificate.TreeItem.{TreeItem}
use Rattle.mari_market.specs.Activation.{welfare_of, is_open, IsBalanced, IsWithinLimits, carried_out}
use Rattle.mari_market.specs.Bounds.{IsWithin, GateState, span_in, own_bounds}
use Rattle.mari_market.specs.Clearing.{IsClearing}
use Rattle.mari_market.specs.Consistent.{IsConsistentOrder, IsConsistentBorder}
use Rattle.mari_market.specs.Dual.{IsTight, IsTightOrder}
use Rattle.mari_market.specs.Gates.{KeepsGateRules}
use Rattle.mari_market.specs.Market.{IsValid, IsValidOrder}
use Rattle.mari_market.specs.Optimal.{IsFeasible, IsConsistent, IsAdmissible}
use Rattle.mari_market.specs.Prefix.{state_of, bounds_of_word}
use Rattle.mari_market.specs.Price.{IsPrice, ArePrices}
use Rattle.mari_market.specs.Relaxation.{IsWithinBounds}
use Rattle.mari_market.specs.Sums.{sum_along}
use Rattle.mari_market.specs.Tree.{TreeHolds}
use Rattle.mari_market.proofs.Search.{optimal_by_tree}
use Rattle.mari_market.proofs.Ties.{first_without_gates, tree_holds_without_gates}
use Rattle.mari_market.proofs.Sums.{AllZip-both}
use Rattle.mari_market.proofs.Tight.{tight_is_equal}
use Rattle.mari_market.proofs.Standings.{plain_consistent}
use Rattle.mari_merit.specs.Merit.{rung_of, room_below, withdrawn_in, quantities_at, bound_tree, IsMarginal, IsFilled}
use Rattle.mari_merit.proofs.Filling.{IsPlain, Fills, fills, put_in_all}

-- a market of one zone without borders and gates
pub record IsLone (m : Market) : Type 0 where
  pub valid : IsValid m
  pub zone : m.zones ≡ 1
  pub borders : m.borders ≡ []
  pub gates : m.gates ≡ []

no_gate : (gate : Option ℕ) (least n : ℕ) → n ≡ 0 → MatchOption gate (least ≡ 0) (λ g. (g < n) × (1 ≤ least)) → gate ≡ None
no_gate None least n e h = refl
no_gate (Some g) least n e h = absurd (omega (arith, h.0))

plain_order : (m : Market) → IsLone m → (o : Order) → IsValidOrder m.zones (length m.gates) o → IsPlain o
plain_order m l o v = record {
  gate = no_gate o.gate o.least (length m.gates) (ap length l.gates) v.gate;
  zone = omega (arith, v.zone, l.zone);
}

plain_orders : (m : Market) → IsLone m → All IsPlain m.orders
plain_orders m l k d less = plain_order m l _ (l.valid.orders k d less)

abbrev runs : List ℕ → Activation
runs mw = record { mw = mw; flow = [] }

within_span : (state : ℕ → GateState) (p : ℤ) (o : Order) (q : ℕ) → Fills p o q → IsWithin (span_in state o) q
within_span state p o q f = rw f.plain.gate (record { least = omega arith; most = f.within })

tight_span : (state : ℕ → GateState) (p : ℤ) (o : Order) (q : ℕ) → Fills p o q → IsTightOrder (span_in state) (record { 0 = p } ∷ []) o q
tight_span state p o q f = rw (f.plain.gate, f.plain.zone) f.tight

consistent_order : (opens : ℕ → Bool) (p : ℤ) (o : Order) (q : ℕ) → Fills p o q → IsConsistentOrder opens (record { 0 = p } ∷ []) o q
consistent_order opens p o q f = rw (f.plain.gate, f.plain.zone) (plain_consistent o.side o.price.0 p o.greatest q f.tight)

-- what holds of each order and what it runs, from what fills its part
each : (R : Order → ℕ → Type 0) (p : ℤ) → ((o : Order) (q : ℕ) → Fills p o q → R o q) → (os : List Order) (mw : List ℕ) → AllZip (Fills p) os mw → AllZip R os mw
each R p h os mw all = AllZip-both (Fills p) (Fills p) R (λ o q f g. h o q f) os mw all all

no_rules : (gates : List GateInfo) (opens : ℕ → Bool) → gates ≡ [] → KeepsGateRules gates opens
no_rules gates opens e = rw e (record { parents = λ g h o p. absurd (cc); groups = λ g h k o f in_g in_h. absurd (cc) })

no_flows : (m : Market) (R : Border → ℤ → Type 0) → m.borders ≡ [] → AllZip R m.borders []
no_flows m R e = rw e tt

none_carried : (m : Market) (z : ℕ) → m.borders ≡ [] → sum_along (carried_out z) m.borders [] ≡ pos 0
none_carried m z e = rw e refl

-- what the orders put in is 0
balanced : (m : Market) (p : ℤ) → IsLone m → IsMarginal (map rung_of m.orders) (withdrawn_in m.orders) p
    → IsBalanced m (runs (quantities_at p (withdrawn_in m.orders - room_below p (map rung_of m.orders)) m.orders))
balanced m p l h z less =
    let zero_zone : z ≡ 0 = omega (arith, l.zone) in
    let all = put_in_all p z (withdrawn_in m.orders - room_below p (map rung_of m.orders)) m.orders zero_zone (plain_orders m l) in
    omega (arith, ints, all, none_carried m z l.borders, h.cheaper, h.met)

-- so the activation is feasible and the marginal price consistent with it
module _ (m : Market) (p : ℤ) (mw : List ℕ) (l : IsLone m) (f : IsFilled m.orders p mw) where
  all_fill : AllZip (Fills p) m.orders mw
  all_fill = rw f.quantities (fills p (withdrawn_in m.orders - room_below p (map rung_of m.orders)) m.orders (plain_orders m l))

  its_balance : IsBalanced m (runs mw)
  its_balance = let P : List ℕ → Type 0 = λ qs. IsBalanced m (runs qs) in subst P (sym f.quantities) (balanced m p l f.marginal)

  pub feasible : IsFeasible m (runs mw)
  feasible = record {
    orders = each (λ o q. IsWithin (own_bounds m (runs mw) o) q) p (within_span _ p) m.orders mw all_fill;
    gates = no_rules m.gates (is_open m (runs mw)) l.gates;
    borders = no_flows m IsWithinLimits l.borders;
    balance = its_balance;
  }

  priced : ArePrices m (record { 0 = p } ∷ [])
  priced = record { one_each = sym l.zone; capped = All-cons (λ (c : Cents). IsPrice c.0) _ [] f.marginal.price (All-nil (λ (c : Cents). IsPrice c.0)) }

  consistent : IsConsistent m (runs mw) (record { 0 = p } ∷ [])
  consistent = record {
    prices = priced;
    orders = each _ p (consistent_order (is_open m (runs mw)) p) m.orders mw all_fill;
    borders = no_flows m (IsConsistentBorder (record { 0 = p } ∷ [])) l.borders;
  }

  pub admissible : IsAdmissible m (runs mw)
  admissible = record { feasible = feasible; consistent = (record { 0 = p } ∷ [], consistent) }

  within : IsWithinBounds (bounds_of_word m []) m (runs mw)
  within = record {
    orders = each (λ o q. IsWithin (bounds_of_word m [] o) q) p (within_span _ p) m.orders mw all_fill;
    borders = no_flows m IsWithinLimits l.borders;
    balance = its_balance;
  }

  tight : IsTight (bounds_of_word m []) m (runs mw) (record { 0 = p } ∷ [])
  tight = record {
    orders = each _ p (tight_span (state_of m.gates []) p) m.orders mw all_fill;
    borders = no_flows m (IsConsistentBorder (record { 0 = p } ∷ [])) l.borders;
  }

  holds : (w : ℤ) → welfare_of m (runs mw) ≡ w → TreeHolds m w (bound_tree p)
  holds w e = (record { prices = priced; value = omega (arith, ints, e, tight_is_equal (bounds_of_word m []) m (runs mw) (record { 0 = p } ∷ []) l.valid within tight) }, tt)

  pub clearing : (w : ℕ) → welfare_of m (runs mw) ≡ pos w → IsClearing m 1 (record { activation = runs mw; welfare = w; tree = bound_tree p })
  clearing w e = record {
    first = first_without_gates m (runs mw) (ap length l.gates) (optimal_by_tree m (runs mw) (bound_tree p) l.valid admissible (holds _ refl));
    welfare = e;
    tree = tree_holds_without_gates m (runs mw) (pos w) (bound_tree p) (ap length l.gates) (holds (pos w) e);
    within_budget = omega arith;
  }

-- the same of the parts as the code has them
pub cleared : (m : Market) (p : ℤ) (orders : List Order) (mw qs : List ℕ) (fs : List ℤ) (tree : List TreeItem) (w : ℕ) → IsLone m → orders ≡ m.orders → IsFilled orders p mw
    → qs ≡ mw → fs ≡ [] → tree ≡ bound_tree p → welfare_of m (record { mw = qs; flow = fs }) ≡ pos w → IsClearing m 1 (record { activation = record { mw = qs; flow = fs }; welfare = w; tree = tree })
cleared m p orders mw qs fs tree w l same f e none t h =
    let filled : IsFilled m.orders p mw = let P : List Order → Type 0 = λ os. IsFilled os p mw in subst P same f in
    let value : welfare_of m (runs mw) ≡ pos w = rw e at h in
    rw (e, none, t) (clearing m p mw l filled w value)

pub is_admissible : (m : Market) (p : ℤ) (orders : List Order) (mw qs : List ℕ) (fs : List ℤ) → IsLone m → orders ≡ m.orders → IsFilled orders p mw
    → qs ≡ mw → fs ≡ [] → IsAdmissible m (record { mw = qs; flow = fs })
is_admissible m p orders mw qs fs l same f e none =
    let filled : IsFilled m.orders p mw = let P : List Order → Type 0 = λ os. IsFilled os p mw in subst P same f in
    rw (e, none) (admissible m p mw l filled)

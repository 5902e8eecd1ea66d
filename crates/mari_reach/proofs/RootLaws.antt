-- One leaf at the state without decisions.
use Rattle.std.proofs.Common.{◌≡◌, ◌==◌, Bool, false, ℤ, neg_ℤ, ◌≤ℤ◌, ℕ, List, [], ◌∷◌, length, map, Option, Some, None, arith, refl, sym, ap, ◌∙◌, inl, inr}
use Rattle.std.proofs.lemmas.Int.{ints}
use Rattle.std.proofs.lemmas.Bool.{false≢true}
use Rattle.std.specs.Int.{int_max, int_min}
use Rattle.std.specs.List.{fold}
use Rattle.mari_units.specs.declared.numbers.Cents.{Cents}
use Rattle.mari_units.specs.declared.numbers.TheConstants.{CAP}
use Rattle.mari_market.specs.declared.market.Order.{Order}
use Rattle.mari_market.specs.declared.market.Market.{Market}
use Rattle.mari_market.specs.Market.{IsValid}
use Rattle.mari_market.specs.Price.{ArePrices}
use Rattle.mari_market.specs.Relaxation.{all_closed}
use Rattle.mari_market.proofs.Ties.{none_before_closed}
use Rattle.mari_reach.specs.declared.states.State.{State}
use Rattle.mari_market.specs.Dual.{dual_value_within}
use Rattle.mari_reach.specs.Leaf.{IsBoundFor, needed_word}
use Rattle.mari_reach.specs.State.{bounds_in, ceiling_at, ceiling_of, floor_at, floor_of, flows_in, is_opened, opens, IsVoid}
use Rattle.mari_reach.specs.Tables.{IsStateOf}
use Rattle.mari_reach.specs.Values.{dual_in}
use Rattle.mari_reach.proofs.LeafTables.{same_dual}
use Rattle.mari_reach.proofs.Ranges.{and_none}

at_most : (v w : ℤ) → v ≡ w → v ≤ℤ w
at_most v w e = omega (arith, ints, e)

no_gate : (m : Market) (gate : Option ℕ) → is_opened (opens m []) gate ≡ false
no_gate m None = refl
no_gate m (Some g) = refl

no_floor : (m : Market) (z : ℕ) (o : Order) → floor_at (opens m []) z o ≡ neg_ℤ CAP
no_floor m z o = ap (λ (b : Bool). floor_of b o.side o.price.0) (and_none (o.zone == z) (is_opened (opens m []) o.gate) (no_gate m o.gate))

no_ceiling : (m : Market) (z : ℕ) (o : Order) → ceiling_at (opens m []) z o ≡ CAP
no_ceiling m z o = ap (λ (b : Bool). ceiling_of b o.side o.price.0) (and_none (o.zone == z) (is_opened (opens m []) o.gate) (no_gate m o.gate))

whole_low : (m : Market) (z : ℕ) (os : List Order) → fold int_max (neg_ℤ CAP) (map (floor_at (opens m []) z) os) ≡ neg_ℤ CAP
whole_low m z [] = refl
whole_low m z (o ∷ os) = ap (λ (x : ℤ). fold int_max (int_max (neg_ℤ CAP) x) (map (floor_at (opens m []) z) os)) (no_floor m z o) ∙ whole_low m z os

whole_high : (m : Market) (z : ℕ) (os : List Order) → fold int_min CAP (map (ceiling_at (opens m []) z) os) ≡ CAP
whole_high m z [] = refl
whole_high m z (o ∷ os) = ap (λ (x : ℤ). fold int_min (int_min CAP x) (map (ceiling_at (opens m []) z) os)) (no_ceiling m z o) ∙ whole_high m z os

-- the state without decisions isn't void
root_is_live : (m : Market) → IsVoid m [] → ⊥
root_is_live m v = elim v [
  | inl torn ↦ false≢true torn.1.opened
  | inr zone ↦ let none = zone.1.none in omega (arith, ints, none, whole_low m zone.0 m.orders, whole_high m zone.0 m.orders)
]

-- potentials bound the state without decisions at their dual value, for the word that closes every gate
pub root_bound : (m : Market) (r : State) (ps : List Cents) (v w : ℤ) → IsValid m → IsStateOf m [] r → ArePrices m ps → v ≡ dual_in m r ps → w ≡ v
    → (IsVoid m [] → ⊥) × IsBoundFor m w (all_closed m) [] ps
root_bound m r ps v w valid h prices value e = (
  root_is_live m,
  record {
    prices = prices;
    value = at_most (dual_value_within (bounds_in m []) (flows_in m []) m ps) w (sym (e ∙ value ∙ same_dual m [] r ps valid h));
    early = λ _ before. absurd (none_before_closed (length m.gates) (needed_word m [] ps) before);
  },
)

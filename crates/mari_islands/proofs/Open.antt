-- A gate is open in its island where it is open in the whole.
use Rattle.std.proofs.Common.{◌≡◌, ◌==◌, ℕ, true, List, [], ◌∷◌, length, Option, Some, None, map, get_or, refl, sym, ap, ◌∙◌, subst, inl, inr}
use Rattle.std.specs.Prelude.{Contains, nat_lt}
use Rattle.std.specs.Option.{option_and_then}
use Rattle.std.specs.List.{list_any}
use Rattle.std.proofs.lemmas.Bool.{and_parts, both_ways, cases_eq, eq-eqb, eqb-true, false_from_ne_true, ne_eqb, or_cases, or_left, or_right}
use Rattle.std.proofs.lemmas.List.Elements.{All-contains_itself}
use Rattle.std.proofs.lemmas.List.Folds.{Any-from_list_any}
use Rattle.mari_market.specs.declared.activation.Activation.{Activation}
use Rattle.mari_market.specs.declared.market.Market.{Market}
use Rattle.mari_market.specs.declared.market.Order.{Order}
use Rattle.mari_market.specs.Activation.{HasLengths, is_gate, is_open, is_run_of, runs_gate}
use Rattle.mari_market.specs.Market.{IsValid}
use Rattle.mari_market.specs.Sums.{int_at}
use Rattle.mari_islands.specs.Lists.{place_in, places_from}
use Rattle.mari_islands.specs.Part.{activation_in, is_border_in, is_order_in, market_in, order_among, part_of}
use Rattle.mari_islands.proofs.Beside.{AreAlike, beside, flows_beside, quantities_beside, runs_beside}
use Rattle.mari_islands.proofs.Inside.{IsGateAt, gate_named, gate_place, gates_of, inside, zones_of}
use Rattle.mari_islands.proofs.Bound.{Splits, has_gate, one_gate}
use Rattle.mari_islands.proofs.Numbers.{IsPlace, one_place}

-- the island f as a market, and what an activation is there
abbrev pub island_of : Market → (ℕ → ℕ) → ℕ → Market
island_of m first f = market_in m (inside first f)

abbrev pub own_of : Market → (ℕ → ℕ) → ℕ → Activation → Activation
own_of m first f a = record { mw = beside (is_order_in (inside first f)) m.orders a.mw; flow = beside (is_border_in (inside first f)) m.borders a.flow }

pub own_is : (m : Market) (first : ℕ → ℕ) (f : ℕ) (a : Activation) → HasLengths m a → activation_in (part_of m (inside first f)) a ≡ own_of m first f a
own_is m first f a h =
    let mw = quantities_beside (is_order_in (inside first f)) m.orders a.mw h.orders in
    let flow = flows_beside (is_border_in (inside first f)) m.borders a.flow h.borders in
    let A : List ℕ → Activation = λ qs. record { mw = qs; flow = map (int_at a.flow) (places_from (is_border_in (inside first f)) 0 m.borders) } in
    ap A mw ∙ ap (λ fs. record { mw = beside (is_order_in (inside first f)) m.orders a.mw; flow = fs }) flow

-- ---- gates that are open

same_tests : (a b c d : ℕ) → (a ≡ b → c ≡ d) → (c ≡ d → a ≡ b) → (a == b) ≡ (c == d)
same_tests a b c d to back = elim (cases_eq a b) [
  | inl e ↦ eq-eqb a b e ∙ sym (eq-eqb c d (to e))
  | inr n ↦ ne_eqb a b n ∙ sym (ne_eqb c d (λ e. n (back e)))
]

-- an order of a gate that is open
pub runs_any : (g : ℕ) (os : List Order) (qs : List ℕ) → runs_gate g os qs ≡ true → list_any (λ (o : Order). is_gate g o.gate) os ≡ true
runs_any g [] qs e = absurd (cc)
runs_any g (o ∷ os) [] e = absurd (cc)
runs_any g (o ∷ os) (q ∷ qs) e = elim (or_cases (is_run_of g o q) (runs_gate g os qs) e) [
  | inl here ↦ or_left (is_gate g o.gate) (list_any (λ (o : Order). is_gate g o.gate) os) (and_parts (is_gate g o.gate) (nat_lt 0 q) here).0
  | inr there ↦ or_right (is_gate g o.gate) (list_any (λ (o : Order). is_gate g o.gate) os) (runs_any g os qs there)
]

-- an order of a gate
pub record HasOrder (m : Market) (g : ℕ) : Type 0 where
  pub order : Order
  pub of_market : Contains m.orders order
  pub of_gate : order.gate ≡ Some g

pub open_order : (m : Market) (a : Activation) (g : ℕ) → is_open m a g ≡ true → HasOrder m g
open_order m a g e =
    let any = Any-from_list_any (λ (o : Order). is_gate g o.gate) m.orders (runs_any g m.orders a.mw e) in
    record { order = any.1; of_market = (any.0, any.2, any.3); of_gate = gate_named g any.1.gate any.4 }

module _ (m : Market) (first : ℕ → ℕ) (f : ℕ) (v : IsValid m) (s : Splits m first) where
  same_gates : (j g : ℕ) → IsPlace (gates_of m first f) g j → (gate : Option ℕ)
      → ((h : ℕ) → gate ≡ Some h → (k : ℕ) × IsPlace (gates_of m first f) h k)
      → is_gate j (option_and_then (place_in (gates_of m first f)) gate) ≡ is_gate g gate
  same_gates j g here None place = refl
  same_gates j g here (Some h) place =
      let k = place h refl in
      let gs = gates_of m first f in
      ap (is_gate j) k.1.found ∙ same_tests k.0 j h g (λ e. sym k.1.read ∙ ap (λ (n : ℕ). get_or gs n 0) e ∙ here.read) (λ e. one_place gs g k.0 j (subst (λ (n : ℕ). IsPlace gs n k.0) e k.1) here)

  alike : (j g : ℕ) → IsGateAt m first f j g → (o : Order) → Contains m.orders o → AreAlike (is_order_in (inside first f)) (order_among (zones_of m first f) (gates_of m first f)) g j o
  alike j g own o h = record {
    passing = λ t. same_gates j g own.place o.gate (λ k e. gate_place m first f o k v h (eqb-true _ _ t) e);
    other = λ t. false_from_ne_true (is_gate g o.gate) (λ is.
        let e : o.gate ≡ Some g = gate_named g o.gate is in
        let same : first o.zone ≡ f = one_gate m first s o.zone own.order.zone g (has_gate m o g h e) (has_gate m own.order g own.of_market own.of_gate) ∙ own.inside in
        both_ways (is_order_in (inside first f) o) t (eq-eqb (first o.zone) f same));
  }

  -- a gate of the island is open there where it is open in the whole
  pub open_same : (a : Activation) → length a.mw ≡ length m.orders → (j g : ℕ) → IsGateAt m first f j g → is_open (island_of m first f) (own_of m first f a) j ≡ is_open m a g
  open_same a l j g own =
      runs_beside (is_order_in (inside first f)) (order_among (zones_of m first f) (gates_of m first f)) g j m.orders a.mw l
      (λ k d less. alike j g own _ (All-contains_itself m.orders k d less))

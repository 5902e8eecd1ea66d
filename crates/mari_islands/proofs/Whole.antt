-- An activation that is feasible in each island, with nothing that flows between islands, is feasible in the whole.
use Rattle.std.proofs.Common.{◌≡◌, ◌==◌, ℕ, ◌<◌, true, ℤ, pos, length, Some, get_or, refl, sym, ap, ◌∙◌, subst, arith, inl, inr}
use Rattle.std.specs.Prelude.{Contains}
use Rattle.std.specs.Option.{option_and_then}
use Rattle.std.specs.List.{AllZip}
use Rattle.std.proofs.lemmas.Bool.{and_from, cases_eq, eq-eqb}
use Rattle.std.proofs.lemmas.Int.{ints}
use Rattle.std.proofs.lemmas.List.Elements.{All-contains, All-contains_itself}
use Rattle.mari_market.specs.declared.activation.Activation.{Activation}
use Rattle.mari_market.specs.declared.market.Border.{Border}
use Rattle.mari_market.specs.declared.market.Market.{Market}
use Rattle.mari_market.specs.declared.market.Order.{Order}
use Rattle.mari_market.specs.Activation.{HasLengths, IsWithinLimits, is_open}
use Rattle.mari_market.specs.Bounds.{IsWithin, Span, own_bounds}
use Rattle.mari_market.specs.Gates.{group_of, parent_of}
use Rattle.mari_market.specs.Market.{IsValid, IsValidBorder, IsValidOrder}
use Rattle.mari_market.specs.Optimal.{IsFeasible}
use Rattle.mari_market.proofs.Sums.{AllZip-both, AllZip-each, AllZip-with}
use Rattle.mari_islands.specs.Islands.AreBound.{is_parent, same_group}
use Rattle.mari_islands.specs.Lists.{place_in}
use Rattle.mari_islands.specs.Part.{border_among, is_border_in, is_order_in, order_among}
use Rattle.mari_islands.proofs.Beside.{from_beside, side_all}
use Rattle.mari_islands.proofs.Feasible.{IsStill, bounds_same, carried_same, put_same}
use Rattle.mari_islands.proofs.Inside.{IsGateAt, gate_at, gate_below, gate_place, gates_of, group_info, inside, parent_info, zone_is_at, zones_of}
use Rattle.mari_islands.proofs.Bound.{Splits, has_gate}
use Rattle.mari_islands.proofs.Numbers.{IsPlace}
use Rattle.mari_islands.proofs.Open.{HasOrder, island_of, open_order, open_same, own_of}

-- a zone that is there
abbrev pub Zone : Market → Type 0
Zone m = (z : ℕ) × (z < m.zones)

-- P holds of the island of each zone, and of what the activation is there
abbrev pub InEach : (Market → Activation → Type 0) → Market → (ℕ → ℕ) → Activation → Type 0
InEach P m first a = (z : ℕ) → z < m.zones → P (island_of m first (first z)) (own_of m first (first z) a)

still_within : (b : Border) (q : ℤ) → q ≡ pos 0 → IsWithinLimits b q
still_within b q e = record { back = omega (arith, ints, e); limit = omega (arith, ints, e) }

module _ (m : Market) (first : ℕ → ℕ) (v : IsValid m) (s : Splits m first) (a : Activation) (long : HasLengths m a) (still : AllZip (IsStill first) m.borders a.flow)
    (fe : InEach IsFeasible m first a) where
  InOwnBounds : Zone m → Order → ℕ → Type 0
  InOwnBounds z o q =
      is_order_in (inside first (first z.0)) o ≡ true → IsWithin
      (own_bounds (island_of m first (first z.0)) (own_of m first (first z.0) a) (order_among (zones_of m first (first z.0)) (gates_of m first (first z.0)) o))
      q

  each_order : AllZip (λ o q. (z : Zone m) → InOwnBounds z o q) m.orders a.mw
  unfolding InOwnBounds
  each_order =
      AllZip-each InOwnBounds m.orders a.mw (sym long.orders) (λ z. from_beside (is_order_in (inside first (first z.0))) (order_among (zones_of m first (first z.0)) (gates_of m first (first z.0)))
      (λ o q. IsWithin (own_bounds (island_of m first (first z.0)) (own_of m first (first z.0) a) o) q) m.orders a.mw long.orders (fe z.0 z.1).orders)

  orders_within : AllZip (λ (o : Order) (q : ℕ). IsWithin (own_bounds m a o) q) m.orders a.mw
  unfolding InOwnBounds
  orders_within = AllZip-both (λ o q. Contains m.orders o) (λ o q. (z : Zone m) → InOwnBounds z o q) (λ o q. IsWithin (own_bounds m a o) q)
      (λ o q h each.
      let valid = All-contains (IsValidOrder m.zones (length m.gates)) m.orders o v.orders h in
      subst (λ (span : Span). IsWithin span q) (bounds_same m first (first o.zone) v s a long.orders o h refl) (each (o.zone, valid.zone) (eq-eqb (first o.zone) (first o.zone) refl)))
      m.orders a.mw (side_all (Contains m.orders) m.orders a.mw long.orders (All-contains_itself m.orders)) each_order

  InOwnLimits : Zone m → Border → ℤ → Type 0
  InOwnLimits z b q = is_border_in (inside first (first z.0)) b ≡ true → IsWithinLimits (border_among (zones_of m first (first z.0)) b) q

  each_border : AllZip (λ b q. (z : Zone m) → InOwnLimits z b q) m.borders a.flow
  unfolding InOwnLimits
  each_border =
      AllZip-each InOwnLimits m.borders a.flow (sym long.borders)
      (λ z. from_beside (is_border_in (inside first (first z.0))) (border_among (zones_of m first (first z.0))) IsWithinLimits m.borders a.flow long.borders (fe z.0 z.1).borders)

  border_within : (b : Border) (q : ℤ) → IsValidBorder m.zones b × IsStill first b q → ((z : Zone m) → InOwnLimits z b q) → IsWithinLimits b q
  unfolding InOwnLimits
  border_within b q h each = elim (cases_eq (first b.from) (first b.to)) [
    | inl same ↦
        let own = each (b.from, h.0.from) (and_from (first b.from == first b.from) (first b.to == first b.from) (eq-eqb _ _ refl) (eq-eqb _ _ (sym same))) in
        record { back = own.back; limit = own.limit }
    | inr apart ↦ still_within b q (h.1 apart)
  ]

  borders_within : AllZip IsWithinLimits m.borders a.flow
  borders_within = AllZip-both (λ b q. IsValidBorder m.zones b × IsStill first b q) (λ b q. (z : Zone m) → InOwnLimits z b q) IsWithinLimits border_within
      m.borders a.flow (AllZip-with (IsValidBorder m.zones) (IsStill first) m.borders a.flow v.borders still) each_border

  -- ---- gates

  zone_there : (g : ℕ) (h : HasOrder m g) → h.order.zone < m.zones
  zone_there g h = (All-contains (IsValidOrder m.zones (length m.gates)) m.orders h.order v.orders h.of_market).zone

  -- a gate by its number in the island of one of its orders, where it is open as in the whole
  record IsOwn (f g j : ℕ) : Type 0 where
    place : IsPlace (gates_of m first f) g j
    open_same' : is_open (island_of m first f) (own_of m first f a) j ≡ is_open m a g

  own_gate_at : (f g : ℕ) (h : HasOrder m g) → first h.order.zone ≡ f → (j : ℕ) × IsOwn f g j
  own_gate_at f g h e =
      let k = gate_place m first f h.order g v h.of_market e h.of_gate in
      let own : IsGateAt m first f k.0 g = subst (IsGateAt m first f k.0) k.1.read (gate_at m first f k.0 k.1.there) in
      (k.0, record { place = k.1; open_same' = open_same m first f v s a long.orders k.0 g own })

  an_order : (g : ℕ) → g < length m.gates → HasOrder m g
  an_order g l = let used = (v.gates g l).used in record { order = used.1; of_market = (used.0, used.2, used.3); of_gate = used.4 }

  own_parent : (f g h j k : ℕ) → IsPlace (gates_of m first f) g j → IsPlace (gates_of m first f) h k → parent_of m.gates g ≡ Some h → parent_of (island_of m first f).gates j ≡ Some k
  own_parent f g h j k a b is =
      parent_info m first f j a.there ∙ ap (λ (n : ℕ). option_and_then (place_in (gates_of m first f)) (parent_of m.gates n)) a.read ∙ ap
      (option_and_then (place_in (gates_of m first f))) is ∙ b.found

  parents_open : (g h : ℕ) → is_open m a g ≡ true → parent_of m.gates g ≡ Some h → is_open m a h ≡ true
  parents_open g h e is =
      let o = open_order m a g e in
      let below : h < g = (v.gates g (gate_below m o.order g v o.of_market o.of_gate)).parent h is in
      let p = an_order h (omega (arith, below, gate_below m o.order g v o.of_market o.of_gate)) in
      let same : first o.order.zone ≡ first p.order.zone =
      s.gates o.order.zone p.order.zone g h (has_gate m o.order g o.of_market o.of_gate) (has_gate m p.order h p.of_market p.of_gate) (is_parent is) in
      let f : ℕ = first o.order.zone in
      let j = own_gate_at f g o refl in
      let k = own_gate_at f h p (sym same) in
      sym k.1.open_same' ∙ (fe o.order.zone (zone_there g o)).gates.parents j.0 k.0 (j.1.open_same' ∙ e) (own_parent f g h j.0 k.0 j.1.place k.1.place is)

  own_group : (f g j k : ℕ) → IsPlace (gates_of m first f) g j → group_of m.gates g ≡ Some k → group_of (island_of m first f).gates j ≡ Some k
  own_group f g j k a is = group_info m first f j a.there ∙ ap (group_of m.gates) a.read ∙ is

  one_of_group : (g h k : ℕ) → is_open m a g ≡ true → is_open m a h ≡ true → group_of m.gates g ≡ Some k → group_of m.gates h ≡ Some k → g ≡ h
  one_of_group g h k d e is his =
      let o = open_order m a g d in
      let p = open_order m a h e in
      let same : first o.order.zone ≡ first p.order.zone =
      s.gates o.order.zone p.order.zone g h (has_gate m o.order g o.of_market o.of_gate) (has_gate m p.order h p.of_market p.of_gate) (same_group k is his) in
      let f : ℕ = first o.order.zone in
      let i = own_gate_at f g o refl in
      let j = own_gate_at f h p (sym same) in
      let one : i.0 ≡ j.0 =
      (fe o.order.zone (zone_there g o)).gates.groups i.0 j.0 k (i.1.open_same' ∙ d) (j.1.open_same' ∙ e) (own_group f g i.0 k i.1.place is) (own_group f h j.0 k j.1.place his) in
      sym i.1.place.read ∙ ap (λ (n : ℕ). get_or (gates_of m first f) n 0) one ∙ j.1.place.read

  pub whole_feasible : IsFeasible m a
  whole_feasible = record {
    orders = orders_within;
    gates = record { parents = parents_open; groups = one_of_group };
    borders = borders_within;
    balance = λ z l.
        let own = zone_is_at m first (first z) z l refl in
        sym (put_same m first (first z) v s a long.orders _ z own) ∙ (fe z l).balance _ own.place.there ∙ carried_same m first (first z) v s a still _ z own;
  }

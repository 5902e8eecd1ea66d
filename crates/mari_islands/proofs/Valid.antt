-- An island is a valid market.
use Rattle.std.proofs.Common.{◌≡◌, ◌≢◌, ℕ, ◌<◌, ◌≤◌, true, length, Option, Some, None, map, filter, get_or, refl, sym, ap, ◌∙◌, subst, arith}
use Rattle.std.specs.Prelude.{Any, Contains, MatchOption}
use Rattle.std.specs.Option.{option_and_then}
use Rattle.std.proofs.lemmas.Bool.{and_parts, eq-eqb, eqb-true}
use Rattle.std.proofs.lemmas.List.{get_or-map, length-map}
use Rattle.std.proofs.lemmas.List.Elements.{All-contains, All-map}
use Rattle.mari_market.specs.declared.market.Border.{Border}
use Rattle.mari_market.specs.declared.market.Market.{Market}
use Rattle.mari_market.specs.declared.market.Order.{Order}
use Rattle.mari_market.specs.Market.{IsValid, IsValidBorder, IsValidOrder}
use Rattle.mari_islands.specs.Lists.{place_in, place_of}
use Rattle.mari_islands.specs.Part.{border_among, gate_among, is_border_in, is_gate_of, is_order_in, market_in, order_among}
use Rattle.mari_islands.proofs.Inside.{IsParentAt, gate_at, gate_place, gates_of, gates_rise, infos_of, inside, orders_of, parent_at, parent_within, zone_is_at, zone_place, zones_of}
use Rattle.mari_islands.proofs.Numbers.{IsPlace, contains_filter, each_kept, few_kept, few_numbers, places_rise}

module _ (m : Market) (first : ℕ → ℕ) (f : ℕ) (v : IsValid m) where
  two_places : (y z : ℕ) → y < m.zones → first y ≡ f → z < m.zones → first z ≡ f → y ≢ z → place_of (zones_of m first f) y ≢ place_of (zones_of m first f) z
  two_places y z l e k i apart same =
      let a = zone_is_at m first f y l e in
      let b = zone_is_at m first f z k i in
      apart (sym a.place.read ∙ ap (λ (n : ℕ). get_or (zones_of m first f) n 0) same ∙ b.place.read)

  border_valid : (b : Border) → Contains m.borders b → is_border_in (inside first f) b ≡ true → IsValidBorder (length (zones_of m first f)) (border_among (zones_of m first f) b)
  border_valid b h t =
      let valid = All-contains (IsValidBorder m.zones) m.borders b v.borders h in
      let ends = and_parts (inside first f b.from) (inside first f b.to) t in
      let from : first b.from ≡ f = eqb-true _ _ ends.0 in
      let to : first b.to ≡ f = eqb-true _ _ ends.1 in
      record {
        from = (zone_is_at m first f b.from valid.from from).place.there;
        to = (zone_is_at m first f b.to valid.to to).place.there;
        apart = two_places b.from b.to valid.from from valid.to to valid.apart;
        limit = valid.limit;
        back = valid.back;
      }

  gate_fits : (o : Order) (gate : Option ℕ)
      → MatchOption gate (o.least ≡ 0) (λ g. (g < length m.gates) × (1 ≤ o.least))
      → ((g : ℕ) → gate ≡ Some g → (j : ℕ) × IsPlace (gates_of m first f) g j)
      → MatchOption (option_and_then (place_in (gates_of m first f)) gate) (o.least ≡ 0) (λ g. (g < length (infos_of m first f)) × (1 ≤ o.least))
  gate_fits o None h place = h
  gate_fits o (Some g) h place =
      let k = place g refl in
      subst (λ (gate : Option ℕ). MatchOption gate (o.least ≡ 0) (λ g. (g < length (infos_of m first f)) × (1 ≤ o.least))) (sym k.1.found)
      (omega (arith, k.1.there, length-map (gates_of m first f) (gate_among m.gates (gates_of m first f))), h.1)

  order_valid : (o : Order) → Contains m.orders o → is_order_in (inside first f) o ≡ true
      → IsValidOrder (length (zones_of m first f)) (length (infos_of m first f)) (order_among (zones_of m first f) (gates_of m first f) o)
  order_valid o h t =
      let valid = All-contains (IsValidOrder m.zones (length m.gates)) m.orders o v.orders h in
      let own : first o.zone ≡ f = eqb-true _ _ t in
      record {
        zone = (zone_is_at m first f o.zone valid.zone own).place.there;
        price = valid.price;
        in_order = valid.in_order;
        small = valid.small;
        gate = gate_fits o o.gate valid.gate (λ g e. gate_place m first f o g v h own e);
      }

  earlier : (j h : ℕ) → IsParentAt m first f (get_or (gates_of m first f) j 0) h → j < length (gates_of m first f) → h < j
  earlier j h k l =
      let g = gate_at m first f j l in
      places_rise (gates_of m first f) k.parent (get_or (gates_of m first f) j 0) h j (gates_rise m first f) k.place g.place
      ((v.gates (get_or (gates_of m first f) j 0) g.there).parent k.parent k.is_parent)

  gate_used : (j : ℕ) → j < length (gates_of m first f) → Any (λ (o : Order). o.gate ≡ Some j) (map (order_among (zones_of m first f) (gates_of m first f)) (orders_of m first f))
  gate_used j l =
      let g = gate_at m first f j l in
      let r : Order → Order = order_among (zones_of m first f) (gates_of m first f) in
      let own : Contains (orders_of m first f) g.order = contains_filter (is_order_in (inside first f)) m.orders g.order g.of_market (eq-eqb _ _ g.inside) in (
        own.0,
        r g.order,
        omega (arith, own.1, length-map (orders_of m first f) r),
        get_or-map r (orders_of m first f) own.0 g.order (r g.order) own.1 ∙ ap r own.2,
        ap (option_and_then (place_in (gates_of m first f))) g.of_gate ∙ g.place.found,
      )

  -- the island of a zone that is there
  pub island_valid : (z : ℕ) → z < m.zones → first z ≡ f → IsValid (market_in m (inside first f))
  island_valid z l e = record {
    zones = (omega (arith, (zone_place m first f z l e).1.there), omega (arith, few_numbers (inside first f) m.zones, v.zones.1));
    few_borders = omega (arith, length-map (filter (is_border_in (inside first f)) m.borders) (border_among (zones_of m first f)), few_kept (is_border_in (inside first f)) m.borders, v.few_borders);
    few_orders = omega (arith, length-map (orders_of m first f) (order_among (zones_of m first f) (gates_of m first f)), few_kept (is_order_in (inside first f)) m.orders, v.few_orders);
    few_gates = omega (arith, length-map (gates_of m first f) (gate_among m.gates (gates_of m first f)), few_numbers (is_gate_of (orders_of m first f)) (length m.gates), v.few_gates);
    borders = All-map (IsValidBorder (length (zones_of m first f))) (border_among (zones_of m first f)) (filter (is_border_in (inside first f)) m.borders)
        (each_kept (is_border_in (inside first f)) (λ b. IsValidBorder (length (zones_of m first f)) (border_among (zones_of m first f) b)) m.borders border_valid);
    orders = All-map (IsValidOrder (length (zones_of m first f)) (length (infos_of m first f))) (order_among (zones_of m first f) (gates_of m first f)) (orders_of m first f) (each_kept
        (is_order_in (inside first f)) (λ o. IsValidOrder (length (zones_of m first f)) (length (infos_of m first f)) (order_among (zones_of m first f) (gates_of m first f) o)) m.orders order_valid);
    gates = λ j h. record {
      parent = λ k is. earlier j k (parent_at m first f j k is) (parent_within m first f j k is);
      used = gate_used j (omega (arith, h, length-map (gates_of m first f) (gate_among m.gates (gates_of m first f))));
    };
    reference = v.reference;
  }

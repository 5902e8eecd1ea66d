-- The zones, orders and gates of one island, and their places.
use Rattle.std.proofs.Common.{◌≡◌, ◌==◌, ℕ, ◌<◌, ◌≤◌, Bool, true, List, length, Option, Some, None, map, get_or, refl, sym, ap, ◌∙◌, subst, arith}
use Rattle.std.specs.Prelude.{Any, Contains, slice_get}
use Rattle.std.specs.Option.{option_and_then, option_map}
use Rattle.std.proofs.lemmas.Bool.{eqb-true, eq-eqb}
use Rattle.std.proofs.lemmas.Option.{MatchOption-at_some, slice_get-map, slice_get-get_or, slice_get_within, option_and_then_some}
use Rattle.std.proofs.lemmas.List.{length-map}
use Rattle.std.proofs.lemmas.List.Elements.{All-contains}
use Rattle.std.proofs.lemmas.List.Folds.{Any-from_list_any, list_any-from_Any}
use Rattle.mari_market.specs.declared.market.GateInfo.{GateInfo}
use Rattle.mari_market.specs.declared.market.Market.{Market}
use Rattle.mari_market.specs.declared.market.Order.{Order}
use Rattle.mari_market.specs.Activation.{is_gate}
use Rattle.mari_market.specs.Gates.{group_of, parent_of}
use Rattle.mari_market.specs.Market.{IsValid, IsValidOrder}
use Rattle.mari_islands.specs.Lists.{place_in, place_of}
use Rattle.mari_islands.specs.Part.{gate_among, gates_in, is_gate_of, is_order_in, orders_in, zones_in}
use Rattle.mari_islands.proofs.Numbers.{IsPlace, Rises, any_from_contains, contains_filter, kept_contains, number_passes, number_there, numbers_rise, place_at, place_of_is, place_read, place_there}

-- whether a zone lies in the island f
abbrev pub inside : (ℕ → ℕ) → ℕ → ℕ → Bool
inside first f z = first z == f

abbrev pub zones_of : Market → (ℕ → ℕ) → ℕ → List ℕ
zones_of m first f = zones_in m (inside first f)

abbrev pub gates_of : Market → (ℕ → ℕ) → ℕ → List ℕ
gates_of m first f = gates_in m (inside first f)

abbrev pub orders_of : Market → (ℕ → ℕ) → ℕ → List Order
orders_of m first f = orders_in m (inside first f)

-- ---- zones

pub zones_rise : (m : Market) (first : ℕ → ℕ) (f : ℕ) → Rises (zones_of m first f)
zones_rise m first f = numbers_rise (inside first f) m.zones

pub zone_place : (m : Market) (first : ℕ → ℕ) (f z : ℕ) → z < m.zones → first z ≡ f → (i : ℕ) × IsPlace (zones_of m first f) z i
zone_place m first f z l e = place_there (zones_of m first f) z (zones_rise m first f) (number_there (inside first f) m.zones z l (eq-eqb (first z) f e))

-- a zone of the island, by its place
pub record IsZoneAt (m : Market) (first : ℕ → ℕ) (f i z : ℕ) : Type 0 where
  pub there : z < m.zones
  pub inside : first z ≡ f
  pub place : IsPlace (zones_of m first f) z i

pub zone_at : (m : Market) (first : ℕ → ℕ) (f i : ℕ) → i < length (zones_of m first f) → IsZoneAt m first f i (get_or (zones_of m first f) i 0)
zone_at m first f i l =
    let k = number_passes (inside first f) m.zones i l in
    record {
      there = k.below;
      inside = eqb-true _ _ k.passes;
      place = record { found = place_at (zones_of m first f) i (zones_rise m first f) l; there = l; read = refl };
    }

pub zone_is_at : (m : Market) (first : ℕ → ℕ) (f z : ℕ) → z < m.zones → first z ≡ f → IsZoneAt m first f (place_of (zones_of m first f) z) z
zone_is_at m first f z l e =
    let k = zone_place m first f z l e in
    record { there = l; inside = e; place = subst (IsPlace (zones_of m first f) z) (sym (place_of_is (zones_of m first f) z k.0 k.1)) k.1 }

-- ---- gates

pub gate_named : (g : ℕ) (gate : Option ℕ) → is_gate g gate ≡ true → gate ≡ Some g
gate_named g None e = absurd (cc)
gate_named g (Some h) e = ap Some (eqb-true h g e)

pub names_gate : (g : ℕ) (gate : Option ℕ) → gate ≡ Some g → is_gate g gate ≡ true
names_gate g gate e = ap (is_gate g) e ∙ eq-eqb g g refl

pub gates_rise : (m : Market) (first : ℕ → ℕ) (f : ℕ) → Rises (gates_of m first f)
gates_rise m first f = numbers_rise (is_gate_of (orders_of m first f)) (length m.gates)

pub gate_below : (m : Market) (o : Order) (g : ℕ) → IsValid m → Contains m.orders o → o.gate ≡ Some g → g < length m.gates
gate_below m o g v h e =
    let valid = All-contains (IsValidOrder m.zones (length m.gates)) m.orders o v.orders h in
    (MatchOption-at_some (o.least ≡ 0) (λ (k : ℕ). (k < length m.gates) × (1 ≤ o.least)) g e valid.gate).0

-- the gate of an order of the island has a place
pub gate_place : (m : Market) (first : ℕ → ℕ) (f : ℕ) (o : Order) (g : ℕ) → IsValid m → Contains m.orders o → first o.zone ≡ f → o.gate ≡ Some g → (j : ℕ) × IsPlace (gates_of m first f) g j
gate_place m first f o g v h i e =
    let own : Contains (orders_of m first f) o = contains_filter (is_order_in (inside first f)) m.orders o h (eq-eqb (first o.zone) f i) in
    let used : is_gate_of (orders_of m first f) g ≡ true =
    list_any-from_Any (λ (o : Order). is_gate g o.gate) (orders_of m first f) (any_from_contains (λ (o : Order). is_gate g o.gate ≡ true) (orders_of m first f) o own (names_gate g o.gate e)) in
    place_there (gates_of m first f) g (gates_rise m first f) (number_there (is_gate_of (orders_of m first f)) (length m.gates) g (gate_below m o g v h e) used)

-- a gate of the island by its number there, with an order of it
pub record IsGateAt (m : Market) (first : ℕ → ℕ) (f j g : ℕ) : Type 0 where
  pub there : g < length m.gates
  pub place : IsPlace (gates_of m first f) g j
  pub order : Order
  pub of_market : Contains m.orders order
  pub inside : first order.zone ≡ f
  pub of_gate : order.gate ≡ Some g

pub gate_at : (m : Market) (first : ℕ → ℕ) (f j : ℕ) → j < length (gates_of m first f) → IsGateAt m first f j (get_or (gates_of m first f) j 0)
gate_at m first f j l =
    let g : ℕ = get_or (gates_of m first f) j 0 in
    let k = number_passes (is_gate_of (orders_of m first f)) (length m.gates) j l in
    let used : Any (λ (o : Order). is_gate g o.gate ≡ true) (orders_of m first f) = Any-from_list_any (λ (o : Order). is_gate g o.gate) (orders_of m first f) k.passes in
    let kept = kept_contains (is_order_in (inside first f)) m.orders used.1 (used.0, used.2, used.3) in
    record {
      there = k.below;
      place = record { found = place_at (gates_of m first f) j (gates_rise m first f) l; there = l; read = refl };
      order = used.1;
      of_market = kept.0;
      inside = eqb-true _ _ kept.1;
      of_gate = gate_named g used.1.gate used.4;
    }

-- ---- what is known of a gate

abbrev pub infos_of : Market → (ℕ → ℕ) → ℕ → List GateInfo
infos_of m first f = map (gate_among m.gates (gates_of m first f)) (gates_of m first f)

module _ (m : Market) (first : ℕ → ℕ) (f : ℕ) where
  info_at : (j : ℕ) → j < length (gates_of m first f) → slice_get (infos_of m first f) j ≡ Some (gate_among m.gates (gates_of m first f) (get_or (gates_of m first f) j 0))
  info_at j l = slice_get-map (gate_among m.gates (gates_of m first f)) (gates_of m first f) j ∙ ap (option_map (gate_among m.gates (gates_of m first f))) (slice_get-get_or (gates_of m first f) j 0 l)

  pub parent_info : (j : ℕ) → j < length (gates_of m first f) → parent_of (infos_of m first f) j ≡ option_and_then (place_in (gates_of m first f)) (parent_of m.gates (get_or (gates_of m first f) j 0))
  parent_info j l = ap (option_and_then (λ (info : GateInfo). info.parent)) (info_at j l)

  pub group_info : (j : ℕ) → j < length (gates_of m first f) → group_of (infos_of m first f) j ≡ group_of m.gates (get_or (gates_of m first f) j 0)
  group_info j l = ap (option_and_then (λ (info : GateInfo). info.group)) (info_at j l)

  within_infos : (part : GateInfo → Option ℕ) (j k : ℕ) → option_and_then part (slice_get (infos_of m first f) j) ≡ Some k → j < length (gates_of m first f)
  within_infos part j k e = option_and_then_some part (slice_get (infos_of m first f) j) k e (λ info h t.
      omega (arith, slice_get_within (infos_of m first f) j info h, length-map (gates_of m first f) (gate_among m.gates (gates_of m first f))))

  pub parent_within : (j k : ℕ) → parent_of (infos_of m first f) j ≡ Some k → j < length (gates_of m first f)
  parent_within j k e = within_infos (λ info. info.parent) j k e

  pub group_within : (j k : ℕ) → group_of (infos_of m first f) j ≡ Some k → j < length (gates_of m first f)
  group_within j k e = within_infos (λ info. info.group) j k e

  -- the parent of a gate of the island, by both numbers
  pub record IsParentAt (g k : ℕ) : Type 0 where
    pub parent : ℕ
    pub is_parent : parent_of m.gates g ≡ Some parent
    pub place : IsPlace (gates_of m first f) parent k

  pub parent_at : (j k : ℕ) → parent_of (infos_of m first f) j ≡ Some k → IsParentAt (get_or (gates_of m first f) j 0) k
  parent_at j k e =
      let g : ℕ = get_or (gates_of m first f) j 0 in
      let both : option_and_then (place_in (gates_of m first f)) (parent_of m.gates g) ≡ Some k = sym (parent_info j (parent_within j k e)) ∙ e in
      option_and_then_some (place_in (gates_of m first f)) (parent_of m.gates g) k both (λ h is t. record { parent = h; is_parent = is; place = place_read (gates_of m first f) h k t })

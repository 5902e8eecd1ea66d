-- An activation is feasible in the whole where it is feasible in each island and nothing flows between islands.
use Rattle.std.proofs.Common.{◌≡◌, ◌≢◌, ◌==◌, if◌then◌else◌, ℕ, ◌<◌, ◌≤◌, Bool, true, false, ℤ, pos, ◌-ℤ◌, neg_ℤ, ◌≤ℤ◌, List, length, Option, Some, None, get_or, refl, sym, ap, ◌∙◌, subst, arith, inl, inr}
use Rattle.std.specs.Prelude.{Contains}
use Rattle.std.specs.Option.{option_and_then}
use Rattle.std.specs.List.{AllZip}
use Rattle.std.proofs.lemmas.Bool.{and_cases, and_parts, cases_eq, cases_lt, eq-eqb, eqb-true, eqb-false, ne_eqb}
use Rattle.std.proofs.lemmas.Int.{ints}
use Rattle.std.proofs.lemmas.List.Elements.{All-contains, All-contains_itself}
use Rattle.std.proofs.lemmas.Slice.Zip.{AllZip-long}
use Rattle.mari_market.specs.declared.activation.Activation.{Activation}
use Rattle.mari_market.specs.declared.market.Border.{Border}
use Rattle.mari_market.specs.declared.market.Market.{Market}
use Rattle.mari_market.specs.declared.market.Order.{Order}
use Rattle.mari_market.specs.Activation.{IsWithinLimits, carried_out, is_open, put_in, put_into}
use Rattle.mari_market.specs.Bounds.{IsWithin, Span, gated_span, own_bounds, span_of}
use Rattle.mari_market.specs.Bounds.GateState.{Open, Closed}
use Rattle.mari_market.specs.Gates.{group_of, parent_of}
use Rattle.mari_market.specs.Market.{IsValid, IsValidBorder, IsValidOrder}
use Rattle.mari_market.specs.Optimal.{IsFeasible}
use Rattle.mari_market.specs.Sums.{sum_along}
use Rattle.mari_market.proofs.Sums.{AllZip-both, AllZip-with}
use Rattle.mari_islands.specs.Islands.{IsUsable}
use Rattle.mari_islands.specs.Lists.{place_in, place_of}
use Rattle.mari_islands.specs.Part.{border_among, is_border_in, is_order_in, order_among}
use Rattle.mari_islands.proofs.Beside.{all_beside, side_all, sum_beside}
use Rattle.mari_islands.proofs.Inside.{IsGateAt, IsZoneAt, gate_at, gate_place, gates_of, group_info, group_within, inside, parent_at, parent_within, zone_at, zone_is_at, zones_of}
use Rattle.mari_islands.proofs.Bound.{Splits}
use Rattle.mari_islands.proofs.Numbers.{IsPlace, one_place}
use Rattle.mari_islands.proofs.Open.{island_of, open_same, own_of}

-- nothing flows over a border between islands
abbrev pub IsStill : (ℕ → ℕ) → Border → ℤ → Type 0
IsStill first b q = first b.from ≢ first b.to → q ≡ pos 0

-- ---- bounds of orders

same_gated : (b : Bool) (zones gates : List ℕ) (o : Order) → gated_span (if b then Open else Closed) (order_among zones gates o) ≡ gated_span (if b then Open else Closed) o
same_gated true zones gates o = refl
same_gated false zones gates o = refl

same_span : (opens own : ℕ → Bool) (zones gates : List ℕ) (gate : Option ℕ) (o : Order) → ((g : ℕ) → gate ≡ Some g → (j : ℕ) × (place_in gates g ≡ Some j) × (own j ≡ opens g))
    → span_of (λ j. if own j then Open else Closed) (option_and_then (place_in gates) gate) (order_among zones gates o) ≡ span_of (λ g. if opens g then Open else Closed) gate o
same_span opens own zones gates None o h = refl
same_span opens own zones gates (Some g) o h =
    let k = h g refl in
    ap (λ (gate : Option ℕ). span_of (λ j. if own j then Open else Closed) gate (order_among zones gates o)) k.1
    ∙ ap (λ (b : Bool). gated_span (if b then Open else Closed) (order_among zones gates o)) k.2
    ∙ same_gated (opens g) zones gates o

module _ (m : Market) (first : ℕ → ℕ) (f : ℕ) (v : IsValid m) (s : Splits m first) where
  -- a gate of an order of the island, by its number there, open where it is in the whole
  pub own_gate : (a : Activation) → length a.mw ≡ length m.orders → (o : Order) → Contains m.orders o
      → first o.zone ≡ f → (g : ℕ) → o.gate ≡ Some g
      → (j : ℕ) × (place_in (gates_of m first f) g ≡ Some j) × (is_open (island_of m first f) (own_of m first f a) j ≡ is_open m a g)
  own_gate a l o h e g is =
      let k = gate_place m first f o g v h e is in
      let own : IsGateAt m first f k.0 g = subst (IsGateAt m first f k.0) k.1.read (gate_at m first f k.0 k.1.there) in
      (k.0, k.1.found, open_same m first f v s a l k.0 g own)

  pub bounds_same : (a : Activation) → length a.mw ≡ length m.orders → (o : Order) → Contains m.orders o
      → first o.zone ≡ f
      → own_bounds (island_of m first f) (own_of m first f a) (order_among (zones_of m first f) (gates_of m first f) o) ≡ own_bounds m a o
  bounds_same a l o h e = same_span (is_open m a) (is_open (island_of m first f) (own_of m first f a)) (zones_of m first f) (gates_of m first f) o.gate o (own_gate a l o h e)

  -- ---- balance

  same_zone : (i z : ℕ) → IsZoneAt m first f i z → (y : ℕ) → y < m.zones → first y ≡ f → (place_of (zones_of m first f) y == i) ≡ (y == z)
  same_zone i z own y l e =
      let k = zone_is_at m first f y l e in
      elim (cases_eq y z) [
        | inl same ↦ eq-eqb _ _ (one_place (zones_of m first f) z (place_of (zones_of m first f) y) i
            (subst (λ (x : ℕ). IsPlace (zones_of m first f) x (place_of (zones_of m first f) y)) same k.place) own.place) ∙ sym (eq-eqb y z same)
        | inr apart ↦ ne_eqb _ _ (λ same. apart (sym k.place.read ∙ ap (λ (n : ℕ). get_or (zones_of m first f) n 0) same ∙ own.place.read)) ∙ sym (ne_eqb y z apart)
      ]

  other_zone : (i z : ℕ) → IsZoneAt m first f i z → (y : ℕ) → (first y == f) ≡ false → (y == z) ≡ false
  other_zone i z own y t = ne_eqb y z (λ same. eqb-false (first y) f t (ap first same ∙ own.inside))

  pub put_same : (a : Activation) → length a.mw ≡ length m.orders → (i z : ℕ) → IsZoneAt m first f i z
      → sum_along (put_into i) (island_of m first f).orders (own_of m first f a).mw ≡ sum_along (put_into z) m.orders a.mw
  put_same a l i z own = sum_beside (is_order_in (inside first f)) (order_among (zones_of m first f) (gates_of m first f)) (put_into z) (put_into i) (λ o q. Contains m.orders o)
      (λ o q h t. ap (λ (b : Bool). if b then put_in o.side q else pos 0) (same_zone i z own o.zone (All-contains (IsValidOrder m.zones (length m.gates)) m.orders o v.orders h).zone (eqb-true _ _ t)))
      (λ o q h t. ap (λ (b : Bool). if b then put_in o.side q else pos 0) (other_zone i z own o.zone t))
      m.orders a.mw (side_all (Contains m.orders) m.orders a.mw l (All-contains_itself m.orders))

  carried_inside : (i z : ℕ) → IsZoneAt m first f i z → (b : Border) (q : ℤ) → IsValidBorder m.zones b
      → is_border_in (inside first f) b ≡ true
      → carried_out i (border_among (zones_of m first f) b) q ≡ carried_out z b q
  carried_inside i z own b q valid t =
      let ends = and_parts (inside first f b.from) (inside first f b.to) t in
      ap (λ (c : Bool). (if c then q else pos 0) -ℤ (if place_of (zones_of m first f) b.to == i then q else pos 0)) (same_zone i z own b.from valid.from (eqb-true _ _ ends.0))
      ∙ ap (λ (c : Bool). (if b.from == z then q else pos 0) -ℤ (if c then q else pos 0)) (same_zone i z own b.to valid.to (eqb-true _ _ ends.1))

  carried_outside : (i z : ℕ) → IsZoneAt m first f i z → (b : Border) (q : ℤ) → IsStill first b q → is_border_in (inside first f) b ≡ false → carried_out z b q ≡ pos 0
  carried_outside i z own b q none t = elim (cases_eq (first b.from) (first b.to)) [
    | inl same ↦ both_out (elim (and_cases (inside first f b.from) (inside first f b.to) t) [
      | inl e ↦ (e, ap (λ (n : ℕ). n == f) (sym same) ∙ e)
      | inr e ↦ (ap (λ (n : ℕ). n == f) same ∙ e, e)
    ])
    | inr apart ↦ rw (none apart) (nothing (b.from == z) (b.to == z))
  ]
    where
      nothing : (c d : Bool) → (if c then pos 0 else pos 0) -ℤ (if d then pos 0 else pos 0) ≡ pos 0
      nothing true true = refl
      nothing true false = refl
      nothing false true = refl
      nothing false false = refl

      both_out : ((first b.from == f) ≡ false) × ((first b.to == f) ≡ false) → carried_out z b q ≡ pos 0
      both_out h = rw (other_zone i z own b.from h.0, other_zone i z own b.to h.1) refl

  pub carried_same : (a : Activation) → AllZip (IsStill first) m.borders a.flow → (i z : ℕ) → IsZoneAt m first f i z
      → sum_along (carried_out i) (island_of m first f).borders (own_of m first f a).flow ≡ sum_along (carried_out z) m.borders a.flow
  carried_same a still i z own = sum_beside (is_border_in (inside first f)) (border_among (zones_of m first f)) (carried_out z) (carried_out i) (λ b q. IsValidBorder m.zones b × IsStill first b q)
      (λ b q h t. carried_inside i z own b q h.0 t)
      (λ b q h t. carried_outside i z own b q h.1 t)
      m.borders a.flow (AllZip-with (IsValidBorder m.zones) (IsStill first) m.borders a.flow v.borders still)

-- ---- nothing flows between islands

pub is_zero : (n : ℕ) → (0 < n → ⊥) → n ≤ 0
is_zero n h = elim (cases_lt 0 n) [ inl l ↦ absurd (h l) | inr l ↦ l ]

no_flow : (limit back : ℕ) (q : ℤ) → limit ≤ 0 → back ≤ 0 → neg_ℤ (pos back) ≤ℤ q → q ≤ℤ pos limit → q ≡ pos 0
no_flow limit back q l k low high = omega (arith, ints)

pub flows_still : (m : Market) (first : ℕ → ℕ) (a : Activation) → Splits m first → IsFeasible m a → AllZip (IsStill first) m.borders a.flow
flows_still m first a s fe = AllZip-both (λ b q. IsUsable b → first b.from ≡ first b.to) IsWithinLimits (IsStill first)
    (λ b q u w apart. no_flow b.limit b.back q (is_zero b.limit (λ l. apart (u (inl l)))) (is_zero b.back (λ l. apart (u (inr l)))) w.back w.limit)
    m.borders a.flow (side_all (λ (b : Border). IsUsable b → first b.from ≡ first b.to) m.borders a.flow (AllZip-long IsWithinLimits m.borders a.flow fe.borders) s.borders) fe.borders

-- ---- from the whole to an island

module _ (m : Market) (first : ℕ → ℕ) (f : ℕ) (v : IsValid m) (s : Splits m first) (a : Activation) (fe : IsFeasible m a) where
  long : length a.mw ≡ length m.orders
  long = AllZip-long (λ (o : Order) (q : ℕ). IsWithin (own_bounds m a o) q) m.orders a.mw fe.orders

  open_at : (j : ℕ) → j < length (gates_of m first f) → is_open (island_of m first f) (own_of m first f a) j ≡ is_open m a (get_or (gates_of m first f) j 0)
  open_at j l = open_same m first f v s a long j (get_or (gates_of m first f) j 0) (gate_at m first f j l)

  parent_open : (j k : ℕ) → is_open (island_of m first f) (own_of m first f a) j ≡ true → parent_of (island_of m first f).gates j ≡ Some k → is_open (island_of m first f) (own_of m first f a) k ≡ true
  parent_open j k e is =
      let p = parent_at m first f j k is in
      let g = get_or (gates_of m first f) j 0 in
      let opened : is_open m a p.parent ≡ true = fe.gates.parents g p.parent (sym (open_at j (parent_within m first f j k is)) ∙ e) p.is_parent in
      open_at k p.place.there ∙ ap (is_open m a) p.place.read ∙ opened

  one_of_group : (i j k : ℕ) → is_open (island_of m first f) (own_of m first f a) i ≡ true
      → is_open (island_of m first f) (own_of m first f a) j ≡ true → group_of (island_of m first f).gates i ≡ Some k
      → group_of (island_of m first f).gates j ≡ Some k → i ≡ j
  one_of_group i j k d e is js =
      let gs = gates_of m first f in
      let l = group_within m first f i k is in
      let r = group_within m first f j k js in
      let same : get_or gs i 0 ≡ get_or gs j 0 =
      fe.gates.groups (get_or gs i 0) (get_or gs j 0) k (sym (open_at i l) ∙ d) (sym (open_at j r) ∙ e) (sym (group_info m first f i l) ∙ is) (sym (group_info m first f j r) ∙ js) in
      one_place gs (get_or gs j 0) i j (subst (λ (g : ℕ). IsPlace gs g i) same (gate_at m first f i l).place) (gate_at m first f j r).place

  pub own_feasible : IsFeasible (island_of m first f) (own_of m first f a)
  own_feasible = record {
    orders =
        all_beside (is_order_in (inside first f)) (order_among (zones_of m first f) (gates_of m first f))
        (λ o q. Contains m.orders o × IsWithin (own_bounds m a o) q) (λ o q. IsWithin (own_bounds (island_of m first f) (own_of m first f a) o) q)
        (λ o q t h. subst (λ (span : Span). IsWithin span q) (sym (bounds_same m first f v s a long o h.0 (eqb-true _ _ t))) h.1)
        m.orders a.mw (AllZip-with (Contains m.orders) (λ o q. IsWithin (own_bounds m a o) q) m.orders a.mw (All-contains_itself m.orders) fe.orders);
    gates = record { parents = parent_open; groups = one_of_group };
    borders =
        all_beside (is_border_in (inside first f)) (border_among (zones_of m first f)) IsWithinLimits IsWithinLimits (λ b q t w. record { back = w.back; limit = w.limit }) m.borders a.flow fe.borders;
    balance = λ i l.
        let own = zone_at m first f i l in
        let z = get_or (zones_of m first f) i 0 in
        put_same m first f v s a long i z own ∙ fe.balance z own.there ∙ sym (carried_same m first f v s a (flows_still m first a s fe) i z own);
  }

-- Prices are consistent in the whole where they are in each island.
use Rattle.std.proofs.Common.{◌≡◌, ◌≢◌, ◌==◌, ◌⊎◌, if◌then◌else◌, ℕ, ◌<◌, ◌≤◌, Bool, true, ℤ, pos, List, [], length, Option, Some, None, map, refl, sym, ap, ◌∙◌, subst, arith, inl, inr}
use Rattle.std.specs.Prelude.{Contains, slice_index_or}
use Rattle.std.specs.Option.{option_and_then}
use Rattle.std.specs.List.{All, AllZip, range_with_len}
use Rattle.std.proofs.lemmas.Bool.{and_from, and_parts, cases_eq, cases_lt, eq-eqb, eqb-true}
use Rattle.std.proofs.lemmas.Int.{ints}
use Rattle.std.proofs.lemmas.List.{get_or-map, get_or_default, length-map}
use Rattle.std.proofs.lemmas.List.Elements.{All-contains, All-contains_itself, All-map}
use Rattle.std.proofs.lemmas.List.FromFn.{get_or-map-range_with_len, length-map-range_with_len}
use Rattle.std.proofs.lemmas.Slice.Zip.{AllZip-long}
use Rattle.mari_units.specs.declared.Cents.{Cents}
use Rattle.mari_market.specs.declared.activation.Activation.{Activation}
use Rattle.mari_market.specs.declared.market.Border.{Border}
use Rattle.mari_market.specs.declared.market.Market.{Market}
use Rattle.mari_market.specs.declared.market.Order.{Order}
use Rattle.mari_market.specs.declared.price_rules.Standing.{Standing}
use Rattle.mari_market.specs.declared.price_rules.Standing.TheVariants.{InOpen, InClosed}
use Rattle.mari_market.specs.Activation.{HasLengths, is_open}
use Rattle.mari_market.specs.Consistent.{IsConsistentBorder, IsConsistentOrder, IsConsistentTrade, standing_of}
use Rattle.mari_market.specs.Market.{IsValid, IsValidBorder, IsValidOrder}
use Rattle.mari_market.specs.Optimal.{IsAdmissible, IsConsistent, IsFeasible}
use Rattle.mari_market.specs.Price.{IsCapped, price_at}
use Rattle.mari_market.proofs.Sums.{AllZip-both, AllZip-each, AllZip-with}
use Rattle.mari_islands.specs.Islands.{IsUsable}
use Rattle.mari_islands.specs.Lists.{place_in, place_of}
use Rattle.mari_islands.specs.Part.{border_among, is_border_in, is_order_in, order_among}
use Rattle.mari_islands.proofs.Beside.{all_beside, from_beside, side_all}
use Rattle.mari_islands.proofs.Feasible.{IsStill, is_zero, own_feasible, own_gate}
use Rattle.mari_islands.proofs.Inside.{gates_of, inside, zone_at, zone_is_at, zones_of}
use Rattle.mari_islands.proofs.Bound.{Splits}
use Rattle.mari_islands.proofs.Open.{island_of, own_of}
use Rattle.mari_islands.proofs.Whole.{InEach, Zone, whole_feasible}

-- ---- the standing of an order

same_standing : (opens own : ℕ → Bool) (gates : List ℕ) (gate : Option ℕ)
    → ((g : ℕ) → gate ≡ Some g → (j : ℕ) × (place_in gates g ≡ Some j) × (own j ≡ opens g))
    → standing_of own (option_and_then (place_in gates) gate) ≡ standing_of opens gate
same_standing opens own gates None h = refl
same_standing opens own gates (Some g) h =
    let k = h g refl in
    ap (standing_of own) k.1 ∙ ap (λ (b : Bool). if b then InOpen else InClosed) k.2

-- prices of an island agree with those of the whole
abbrev pub Agree : Market → (ℕ → ℕ) → ℕ → (whole own : List Cents) → Type 0
Agree m first f ps qs = (z : ℕ) → z < m.zones → first z ≡ f → price_at qs (place_of (zones_of m first f) z) ≡ price_at ps z

-- a trade at a standing and a price
abbrev Trade : Order → ℕ → Standing → ℤ → Type 0
Trade o q s p = IsConsistentTrade s o.side o.price.0 o.greatest q p

module _ (m : Market) (first : ℕ → ℕ) (f : ℕ) (v : IsValid m) (s : Splits m first) (a : Activation) (long : length a.mw ≡ length m.orders) (ps qs : List Cents) (agree : Agree m first f ps qs) where
  standing_same : (o : Order) → Contains m.orders o → first o.zone ≡ f
      → standing_of (is_open (island_of m first f) (own_of m first f a)) (order_among (zones_of m first f) (gates_of m first f) o).gate ≡ standing_of (is_open m a) o.gate
  standing_same o h e = same_standing (is_open m a) (is_open (island_of m first f) (own_of m first f a)) (gates_of m first f) o.gate (own_gate m first f v s a long o h e)

  price_same : (o : Order) → Contains m.orders o → first o.zone ≡ f → price_at qs (place_of (zones_of m first f) o.zone) ≡ price_at ps o.zone
  price_same o h e = agree o.zone (All-contains (IsValidOrder m.zones (length m.gates)) m.orders o v.orders h).zone e

  pub order_to : (o : Order) (q : ℕ) → Contains m.orders o → first o.zone ≡ f → IsConsistentOrder (is_open m a) ps o q
      → IsConsistentOrder (is_open (island_of m first f) (own_of m first f a)) qs (order_among (zones_of m first f) (gates_of m first f) o) q
  order_to o q h e k =
      subst (λ (t : Standing). Trade o q t (price_at qs (place_of (zones_of m first f) o.zone))) (sym (standing_same o h e))
      (subst (Trade o q (standing_of (is_open m a) o.gate)) (sym (price_same o h e)) k)

  pub order_from : (o : Order) (q : ℕ) → Contains m.orders o → first o.zone ≡ f
      → IsConsistentOrder (is_open (island_of m first f) (own_of m first f a)) qs (order_among (zones_of m first f) (gates_of m first f) o) q
      → IsConsistentOrder (is_open m a) ps o q
  order_from o q h e k =
      subst (Trade o q (standing_of (is_open m a) o.gate)) (price_same o h e)
      (subst (λ (t : Standing). Trade o q t (price_at qs (place_of (zones_of m first f) o.zone))) (standing_same o h e) k)

  pub border_to : (b : Border) (q : ℤ) → IsValidBorder m.zones b → first b.from ≡ f → first b.to ≡ f → IsConsistentBorder ps b q → IsConsistentBorder qs (border_among (zones_of m first f) b) q
  border_to b q valid d e k =
      let from = agree b.from valid.from d in
      let to = agree b.to valid.to e in
      record { more = λ room. omega (arith, ints, k.more room, from, to); less = λ room. omega (arith, ints, k.less room, from, to) }

  pub border_from : (b : Border) (q : ℤ) → IsValidBorder m.zones b → first b.from ≡ f → first b.to ≡ f → IsConsistentBorder qs (border_among (zones_of m first f) b) q → IsConsistentBorder ps b q
  border_from b q valid d e k =
      let from = agree b.from valid.from d in
      let to = agree b.to valid.to e in
      record { more = λ room. omega (arith, ints, k.more room, from, to); less = λ room. omega (arith, ints, k.less room, from, to) }

-- ---- from the whole to an island

abbrev none : Cents
none = record { 0 = pos 0 }

pub own_prices : Market → (ℕ → ℕ) → ℕ → List Cents → List Cents
own_prices m first f ps = map (λ z. slice_index_or ps z none) (zones_of m first f)

module _ (m : Market) (first : ℕ → ℕ) (f : ℕ) (v : IsValid m) (s : Splits m first) (a : Activation) (fe : IsFeasible m a) (ps : List Cents) (k : IsConsistent m a ps) where
  own_agree : Agree m first f ps (own_prices m first f ps)
  unfolding own_prices
  own_agree z l e =
      let own = zone_is_at m first f z l e in
      ap (λ (c : Cents). c.0) (get_or-map (λ z. slice_index_or ps z none) (zones_of m first f) (place_of (zones_of m first f) z) 0 none own.place.there)
      ∙ ap (price_at ps) own.place.read

  own_capped : All IsCapped (own_prices m first f ps)
  unfolding own_prices
  own_capped = All-map IsCapped (λ z. slice_index_or ps z none) (zones_of m first f)
      (λ i d l. k.prices.capped (slice_index_or (zones_of m first f) i d) none
      (let own = zone_at m first f i l in let same = get_or_default (zones_of m first f) i d 0 l in omega (arith, k.prices.one_each, own.there, same)))

  length_own : length (own_prices m first f ps) ≡ length (zones_of m first f)
  unfolding own_prices
  length_own = length-map (zones_of m first f) (λ z. slice_index_or ps z none)

  long : length a.mw ≡ length m.orders
  long = AllZip-long (IsConsistentOrder (is_open m a) ps) m.orders a.mw k.orders

  pub own_consistent : IsConsistent (island_of m first f) (own_of m first f a) (own_prices m first f ps)
  own_consistent = record {
    prices = record { one_each = length_own; capped = own_capped };
    orders =
        all_beside (is_order_in (inside first f)) (order_among (zones_of m first f) (gates_of m first f))
        (λ o q. Contains m.orders o × IsConsistentOrder (is_open m a) ps o q)
        (IsConsistentOrder (is_open (island_of m first f) (own_of m first f a)) (own_prices m first f ps))
        (λ o q t h. order_to m first f v s a long ps (own_prices m first f ps) own_agree o q h.0 (eqb-true _ _ t) h.1)
        m.orders a.mw (AllZip-with (Contains m.orders) (IsConsistentOrder (is_open m a) ps) m.orders a.mw (All-contains_itself m.orders) k.orders);
    borders = all_beside (is_border_in (inside first f)) (border_among (zones_of m first f)) (λ b q. IsValidBorder m.zones b × IsConsistentBorder ps b q) (IsConsistentBorder (own_prices m first f ps))
        (λ b q t h.
        let ends = and_parts (inside first f b.from) (inside first f b.to) t in
        border_to m first f v s a long ps (own_prices m first f ps) own_agree b q h.0 (eqb-true _ _ ends.0) (eqb-true _ _ ends.1) h.1)
        m.borders a.flow (AllZip-with (IsValidBorder m.zones) (IsConsistentBorder ps) m.borders a.flow v.borders k.borders);
  }

-- what is admissible in the whole is so in each island
pub own_admissible : (m : Market) (first : ℕ → ℕ) (f : ℕ) → IsValid m → Splits m first → (a : Activation) → IsAdmissible m a → IsAdmissible (island_of m first f) (own_of m first f a)
own_admissible m first f v s a h = record {
  feasible = own_feasible m first f v s a h.feasible;
  consistent = (own_prices m first f h.consistent.0, own_consistent m first f v s a h.feasible h.consistent.0 h.consistent.1);
}

-- ---- from the islands to the whole

-- a first zone is there, and its own first zone
pub record HasHeads (m : Market) (first : ℕ → ℕ) : Type 0 where
  pub below : (z : ℕ) → z < m.zones → first z < m.zones
  pub own : (z : ℕ) → z < m.zones → first (first z) ≡ first z

module _ (m : Market) (first : ℕ → ℕ) (v : IsValid m) (s : Splits m first) (heads : HasHeads m first) (a : Activation) (long : HasLengths m a) (still : AllZip (IsStill first) m.borders a.flow)
    (each : InEach IsAdmissible m first a) where
  -- the prices of the island f
  abbrev OfIsland : ℕ → List Cents → Type 0
  OfIsland f qs = IsConsistent (island_of m first f) (own_of m first f a) qs

  pick : (f : ℕ) → (f < m.zones) ⊎ (m.zones ≤ f) → List Cents
  pick f (inl l) = (each f l).consistent.0
  pick f (inr l) = []

  picked : (f : ℕ) (c : (f < m.zones) ⊎ (m.zones ≤ f)) → f < m.zones → OfIsland (first f) (pick f c)
  unfolding pick
  picked f (inl l) h = (each f l).consistent.1
  picked f (inr l) h = absurd (omega arith)

  of_island : ℕ → List Cents
  of_island f = pick f (cases_lt f m.zones)

  of_island_is : (z : ℕ) → z < m.zones → OfIsland (first z) (of_island (first z))
  unfolding of_island
  of_island_is z l = subst (λ (f : ℕ). OfIsland f (of_island (first z))) (heads.own z l) (picked (first z) (cases_lt (first z) m.zones) (heads.below z l))

  joined_price : ℕ → Cents
  joined_price z = slice_index_or (of_island (first z)) (place_of (zones_of m first (first z)) z) none

  joined_prices : List Cents
  joined_prices = map joined_price (range_with_len 0 m.zones)

  joined_at : (z : ℕ) → z < m.zones → price_at joined_prices z ≡ price_at (of_island (first z)) (place_of (zones_of m first (first z)) z)
  unfolding joined_prices joined_price
  joined_at z l = ap (λ (c : Cents). c.0) (get_or-map-range_with_len joined_price 0 m.zones z z none l (omega arith))

  joined_agree : (f : ℕ) → Agree m first f joined_prices (of_island f)
  joined_agree f z l e = sym (joined_at z l ∙ ap (λ (g : ℕ). price_at (of_island g) (place_of (zones_of m first g) z)) e)

  length_joined : length joined_prices ≡ m.zones
  unfolding joined_prices
  length_joined = length-map-range_with_len joined_price 0 m.zones

  capped_at : (z : ℕ) → z < m.zones → IsCapped (joined_price z)
  unfolding joined_price
  capped_at z l =
      let own = of_island_is z l in
      let at = zone_is_at m first (first z) z l refl in
      own.prices.capped _ none (omega (arith, own.prices.one_each, at.place.there))

  joined_capped : All IsCapped joined_prices
  unfolding joined_prices
  joined_capped = λ i d l.
      let less : i < m.zones = omega (arith, l, length_joined) in
      subst IsCapped (sym (get_or-map-range_with_len joined_price 0 m.zones i i d less (omega arith))) (capped_at i less)

  AgreesThere : Zone m → Order → ℕ → Type 0
  AgreesThere z o q =
      is_order_in (inside first (first z.0)) o ≡ true → IsConsistentOrder (is_open (island_of m first (first z.0)) (own_of m first (first z.0) a))
      (of_island (first z.0)) (order_among (zones_of m first (first z.0)) (gates_of m first (first z.0)) o) q

  each_order : AllZip (λ o q. (z : Zone m) → AgreesThere z o q) m.orders a.mw
  unfolding AgreesThere
  each_order =
      AllZip-each AgreesThere m.orders a.mw (sym long.orders) (λ z. from_beside (is_order_in (inside first (first z.0))) (order_among (zones_of m first (first z.0)) (gates_of m first (first z.0)))
      (IsConsistentOrder (is_open (island_of m first (first z.0)) (own_of m first (first z.0) a)) (of_island (first z.0))) m.orders a.mw long.orders (of_island_is z.0 z.1).orders)

  orders_agree : AllZip (IsConsistentOrder (is_open m a) joined_prices) m.orders a.mw
  unfolding AgreesThere
  orders_agree = AllZip-both (λ o q. Contains m.orders o) (λ o q. (z : Zone m) → AgreesThere z o q) (IsConsistentOrder (is_open m a) joined_prices)
      (λ o q h e.
      let valid = All-contains (IsValidOrder m.zones (length m.gates)) m.orders o v.orders h in
      order_from m first (first o.zone) v s a long.orders joined_prices (of_island (first o.zone)) (joined_agree (first o.zone)) o q h refl
      (e (o.zone, valid.zone) (eq-eqb (first o.zone) (first o.zone) refl)))
      m.orders a.mw (side_all (Contains m.orders) m.orders a.mw long.orders (All-contains_itself m.orders)) each_order

  FlowsThere : Zone m → Border → ℤ → Type 0
  FlowsThere z b q = is_border_in (inside first (first z.0)) b ≡ true → IsConsistentBorder (of_island (first z.0)) (border_among (zones_of m first (first z.0)) b) q

  each_border : AllZip (λ b q. (z : Zone m) → FlowsThere z b q) m.borders a.flow
  unfolding FlowsThere
  each_border =
      AllZip-each FlowsThere m.borders a.flow (sym long.borders)
      (λ z. from_beside (is_border_in (inside first (first z.0))) (border_among (zones_of m first (first z.0))) (IsConsistentBorder (of_island (first z.0))) m.borders a.flow long.borders
      (of_island_is z.0 z.1).borders)

  -- over a border between two islands nothing can flow
  IsClosed : Border → ℤ → Type 0
  IsClosed b q = first b.from ≢ first b.to → (b.limit ≤ 0) × (b.back ≤ 0)

  border_agrees : (b : Border) (q : ℤ) → IsValidBorder m.zones b × (IsClosed b q × IsStill first b q) → ((z : Zone m) → FlowsThere z b q) → IsConsistentBorder joined_prices b q
  unfolding FlowsThere IsClosed
  border_agrees b q h e = elim (cases_eq (first b.from) (first b.to)) [
    | inl same ↦ border_from m first (first b.from) v s a long.orders joined_prices (of_island (first b.from)) (joined_agree (first b.from)) b q h.0 refl (sym same)
        (e (b.from, h.0.from) (and_from (first b.from == first b.from) (first b.to == first b.from) (eq-eqb _ _ refl) (eq-eqb _ _ (sym same))))
    | inr apart ↦
        let limits = h.1.0 apart in
        let none' = h.1.1 apart in
        record { more = λ room. absurd (omega (arith, ints, room, limits.0, none')); less = λ room. absurd (omega (arith, ints, room, limits.1, none')) }
  ]

  limits_closed : AllZip IsClosed m.borders a.flow
  unfolding IsClosed
  limits_closed = AllZip-both (λ b q. IsUsable b → first b.from ≡ first b.to) (λ b q. IsStill first b q) IsClosed
      (λ b q u k apart. (is_zero b.limit (λ l. apart (u (inl l))), is_zero b.back (λ l. apart (u (inr l)))))
      m.borders a.flow (side_all (λ (b : Border). IsUsable b → first b.from ≡ first b.to) m.borders a.flow long.borders s.borders) still

  borders_agree : AllZip (IsConsistentBorder joined_prices) m.borders a.flow
  borders_agree = AllZip-both (λ b q. IsValidBorder m.zones b × (IsClosed b q × IsStill first b q)) (λ b q. (z : Zone m) → FlowsThere z b q) (IsConsistentBorder joined_prices) border_agrees
      m.borders a.flow
      (AllZip-with (IsValidBorder m.zones) (λ b q. IsClosed b q × IsStill first b q) m.borders a.flow v.borders
      (AllZip-both IsClosed (IsStill first) (λ b q. IsClosed b q × IsStill first b q) (λ b q c k. (c, k)) m.borders a.flow limits_closed still))
      each_border

  -- what is admissible in each island is so in the whole
  pub whole_admissible : IsAdmissible m a
  whole_admissible = record {
    feasible = whole_feasible m first v s a long still (λ z l. (each z l).feasible);
    consistent = (joined_prices, record { prices = record { one_each = length_joined; capped = joined_capped }; orders = orders_agree; borders = borders_agree });
  }

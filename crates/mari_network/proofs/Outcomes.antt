-- What the end of a run says of the orders: the relaxed optimum, or a cut.
use Rattle.std.proofs.Common.{◌≡◌, ◌==◌, ℕ, suc, ◌+◌, ◌<◌, ℤ, pos, ◌+ℤ◌, neg_ℤ, ◌<ℤ◌, List, ◌∷◌, ◌++◌, length, get_or, take, drop, arith, refl, sym, ◌∙◌, subst}
use Rattle.std.proofs.lemmas.List.{length-map, get_or-drop, get_or-map}
use Rattle.std.proofs.lemmas.Int.{ints}
use Rattle.std.specs.List.{All, AllZip}
use Rattle.mari_units.specs.declared.Cents.{Cents}
use Rattle.mari_market.specs.declared.market.Order.{Order}
use Rattle.mari_market.specs.declared.market.Market.{Market}
use Rattle.mari_market.specs.declared.activation.Activation.{Activation}
use Rattle.mari_market.specs.declared.certificate.CutSide.TheVariants.{Out, In}
use Rattle.mari_market.specs.Sums.{int_sum, sum_along, int_at}
use Rattle.mari_market.specs.Cut.{is_in, CannotBalance}
use Rattle.mari_market.specs.Activation.{IsWithinLimits}
use Rattle.mari_market.specs.Bounds.{Span}
use Rattle.mari_market.specs.Market.{IsValid, IsValidOrder}
use Rattle.mari_market.specs.Price.{price_at}
use Rattle.mari_network.specs.declared.slots.Slot.{Slot}
use Rattle.mari_network.specs.declared.slots.TheConstants.{BEYOND}
use Rattle.mari_network.specs.Slots.{no_slot, slot_into, IsWithinSlot, IsTightSlot, IsRunning}
use Rattle.mari_network.specs.Levels.{AreTight}
use Rattle.mari_market.specs.Consistent.{IsConsistentFlow}
use Rattle.mari_network.specs.Orders.{no_order, slot_of, slots_of, IsStandIn, ArePuts, capped}
use Rattle.mari_network.specs.Network.{no_border}
use Rattle.mari_network.proofs.Lists.{all_zip, zip_of, zip_long, zip_first, zip_rest}
use Rattle.mari_network.proofs.Shortfalls.{RunsSlot, RunsFlow, IsReal, AreLowest, AreHighest, out_of, into_of, least_in, most_in_slot, counts, paid_slot, paid_is_cost, shortfall_out, shortfall_in}
use Rattle.mari_market.proofs.Duality.{cost_at}
use Rattle.mari_network.proofs.Chains.{if_none}
use Rattle.mari_network.proofs.Transfers.{IsBest, best_from}
use Rattle.mari_market.proofs.Sums.{AllZip-at, int_sum-map}

sum_split : {X Y : Type 0} (f : X → Y → ℤ) (P : X → Y → Type 0) (ss rs : List X) (ys : List Y)
    → AllZip P (ss ++ rs) ys
    → sum_along f (ss ++ rs) ys ≡ sum_along f ss (take (length ss) ys) +ℤ sum_along f rs (drop (length ss) ys)
sum_split f P (s ∷ ss) rs (y ∷ ys) a = omega (arith, ints, sum_split f P ss rs ys a.1)
sum_split f P _ rs _ a = omega (arith, ints)

into_none : (z : ℕ) (slots : List Slot) (ws : List ℤ) → ((k : ℕ) → k < length ws → get_or ws k (pos 0) ≡ pos 0) → sum_along (slot_into z) slots ws ≡ pos 0
into_none z (s ∷ ss) (w ∷ ws) h = omega (arith, ints, into_none z ss ws (λ k l. h (suc k) (omega arith)), if_none (s.zone == z) w (h 0 (omega arith)))
into_none z _ _ h = refl

reals_real : (bounds : Order → Span) (n gates : ℕ) (os : List Order) → All (IsValidOrder n gates) os → All (IsReal BEYOND) (slots_of bounds os)
reals_real bounds n gates os v = λ k d l.
    let there : k < length os = omega (arith, length-map os (λ (o : Order). slot_of (bounds o) o), l) in
    let o_valid = v k no_order there in
    subst (λ (s : Slot). IsReal BEYOND s) (sym (get_or-map (λ (o : Order). slot_of (bounds o) o) os k no_order d there))
    (record { above = omega (arith, ints, o_valid.price.low); below = omega (arith, ints, o_valid.price.high) })

-- what is known where a run ends
pub record Ends (bounds : Order → Span) (m : Market) (more : List Slot) (xs fs : List ℤ) (p : ℕ → ℤ) : Type 0 where
  pub valid : IsValid m
  pub others : All (IsStandIn BEYOND) more
  pub zones : All (λ (s : Slot). s.zone < m.zones) (slots_of bounds m.orders ++ more)
  pub running : IsRunning m.zones (slots_of bounds m.orders ++ more) m.borders xs fs
  pub tight : AreTight (slots_of bounds m.orders ++ more) m.borders xs fs p

runs : (bounds : Order → Span) (m : Market) (more : List Slot) (xs fs : List ℤ) (p : ℕ → ℤ) → Ends bounds m more xs fs p → AllZip (RunsSlot m.zones p) (slots_of bounds m.orders ++ more) xs
runs bounds m more xs fs p e =
    let all = slots_of bounds m.orders ++ more in
    zip_of (RunsSlot m.zones p) (slots_of bounds m.orders ++ more) xs no_slot (pos 0) (zip_long IsWithinSlot (slots_of bounds m.orders ++ more) xs e.running.amounts)
    (λ k l. record {
      zone = e.zones k no_slot l;
      within = AllZip-at IsWithinSlot (slots_of bounds m.orders ++ more) xs k no_slot (pos 0) l e.running.amounts;
      tight = e.tight.slots_tight k l;
    })

-- where nothing stands in, the orders' amounts are the relaxed optimum
pub ends_solved : (bounds : Order → Span) (m : Market) (more : List Slot) (a : Activation) (ps : List Cents) (p : ℕ → ℤ) (xs : List ℤ)
    → Ends bounds m more xs a.flow p → ArePuts m.orders (take (length (slots_of bounds m.orders)) xs) a.mw
    → ((z : ℕ) → z < m.zones → price_at ps z ≡ capped (p z))
    → ((j : ℕ) → j < length (drop (length (slots_of bounds m.orders)) xs) → int_at xs (length (slots_of bounds m.orders) + j) ≡ pos 0)
    → IsBest bounds m a ps
ends_solved bounds m more a ps p xs e puts prices none =
    let reals = slots_of bounds m.orders in
    let all = runs bounds m more xs a.flow p e in
    best_from bounds m a ps p (take (length (slots_of bounds m.orders)) xs) e.valid puts prices
    (zip_first IsWithinSlot (slots_of bounds m.orders) more xs e.running.amounts) e.running.flows
    (λ z l. omega (
      arith,
      ints,
      e.running.balance z l,
      sum_split (slot_into z) IsWithinSlot (slots_of bounds m.orders) more xs e.running.amounts,
      into_none z more (drop (length (slots_of bounds m.orders)) xs) (λ k h. get_or-drop (length (slots_of bounds m.orders)) xs k (pos 0) ∙ none k h),
    ))
    (zip_first (IsTightSlot p) (slots_of bounds m.orders) more xs
    (zip_of (IsTightSlot p) (slots_of bounds m.orders ++ more) xs no_slot (pos 0) (zip_long IsWithinSlot (slots_of bounds m.orders ++ more) xs e.running.amounts) e.tight.slots_tight))
    e.tight.flows_tight

flow_runs : (bounds : Order → Span) (m : Market) (more : List Slot) (xs fs : List ℤ) (p : ℕ → ℤ) → Ends bounds m more xs fs p → AllZip (RunsFlow m.zones p) m.borders fs
flow_runs bounds m more xs fs p e =
    zip_of (RunsFlow m.zones p) m.borders fs no_border (pos 0) (zip_long IsWithinLimits m.borders fs e.running.flows)
    (λ k l. let b_valid = e.valid.borders k no_border l in record {
      from = b_valid.from;
      to = b_valid.to;
      within = AllZip-at IsWithinLimits m.borders fs k no_border (pos 0) l e.running.flows;
      tight = AllZip-at (IsConsistentFlow p) m.borders fs k no_border (pos 0) l e.tight.flows_tight;
    })

ends_paid : (bounds : Order → Span) (m : Market) (more : List Slot) (xs fs : List ℤ) (p q : ℕ → ℤ)
    → Ends bounds m more xs fs p
    → (sum_along (paid_slot q) (slots_of bounds m.orders) (take (length (slots_of bounds m.orders)) xs) +ℤ sum_along (paid_slot q) more (drop (length (slots_of bounds m.orders)) xs))
    ≡ sum_along (cost_at q) m.borders fs
ends_paid bounds m more xs fs p q e =
    sym (sum_split (paid_slot q) IsWithinSlot (slots_of bounds m.orders) more xs e.running.amounts)
    ∙ paid_is_cost q m.zones (slots_of bounds m.orders ++ more) xs m.borders fs e.zones (λ k d l. let b_valid = e.valid.borders k d l in (b_valid.from, b_valid.to)) e.running.balance

-- a shortfall of the orders' slots is a cut
shortfall_is_cut_out : (bounds : Order → Span) (m : Market) (zones : List ℕ)
    → int_sum (out_of (is_in zones)) m.borders <ℤ int_sum (least_in (is_in zones)) (slots_of bounds m.orders)
    → CannotBalance bounds m Out zones
shortfall_is_cut_out bounds m zones h = omega (arith, ints, h, int_sum-map (least_in (is_in zones)) (λ o. slot_of (bounds o) o) m.orders)

shortfall_is_cut_in : (bounds : Order → Span) (m : Market) (zones : List ℕ)
    → int_sum (most_in_slot (is_in zones)) (slots_of bounds m.orders) <ℤ neg_ℤ (int_sum (into_of (is_in zones)) m.borders)
    → CannotBalance bounds m In zones
shortfall_is_cut_in bounds m zones h = omega (arith, ints, h, int_sum-map (most_in_slot (is_in zones)) (λ o. slot_of (bounds o) o) m.orders)

-- where something is taken away, the zones of the least price are a cut
pub ends_cut_out : (bounds : Order → Span) (m : Market) (more : List Slot) (xs fs : List ℤ) (p : ℕ → ℤ) (zones : List ℕ) (j : ℕ)
    → Ends bounds m more xs fs p → AreLowest m.zones BEYOND p (is_in zones) → j < length more
    → int_at xs (length (slots_of bounds m.orders) + j) <ℤ pos 0 → CannotBalance bounds m Out zones
ends_cut_out bounds m more xs fs p zones j e low there short =
    let reals = slots_of bounds m.orders in
    let all = runs bounds m more xs fs p e in
    let first = zip_first (RunsSlot m.zones p) (slots_of bounds m.orders) more xs all in
    let rest = zip_rest (RunsSlot m.zones p) (slots_of bounds m.orders) more xs all in
    shortfall_is_cut_out bounds m zones
    (shortfall_out m.zones BEYOND p (is_in zones) (slots_of bounds m.orders) more (take (length (slots_of bounds m.orders)) xs) (drop (length (slots_of bounds m.orders)) xs) m.borders fs j no_slot
    (omega (arith, ints)) low
    first
    (all_zip (IsReal BEYOND) (slots_of bounds m.orders) (take (length (slots_of bounds m.orders)) xs)
    (zip_long (RunsSlot m.zones p) (slots_of bounds m.orders) (take (length (slots_of bounds m.orders)) xs) first) (reals_real bounds m.zones (length m.gates) m.orders e.valid.orders))
    rest (all_zip (IsStandIn BEYOND) more (drop (length (slots_of bounds m.orders)) xs) (zip_long (RunsSlot m.zones p) more (drop (length (slots_of bounds m.orders)) xs) rest) e.others)
    (flow_runs bounds m more xs fs p e) (ends_paid bounds m more xs fs p (λ z. counts (is_in zones z)) e) there
    (subst (λ (x : ℤ). x <ℤ pos 0) (sym (get_or-drop (length (slots_of bounds m.orders)) xs j (pos 0))) short))

-- where something is given, the zones of the greatest price are
pub ends_cut_in : (bounds : Order → Span) (m : Market) (more : List Slot) (xs fs : List ℤ) (p : ℕ → ℤ) (zones : List ℕ) (j : ℕ)
    → Ends bounds m more xs fs p → AreHighest m.zones BEYOND p (is_in zones) → j < length more
    → pos 0 <ℤ int_at xs (length (slots_of bounds m.orders) + j) → CannotBalance bounds m In zones
ends_cut_in bounds m more xs fs p zones j e high there short =
    let all = runs bounds m more xs fs p e in
    let first = zip_first (RunsSlot m.zones p) (slots_of bounds m.orders) more xs all in
    let rest = zip_rest (RunsSlot m.zones p) (slots_of bounds m.orders) more xs all in
    shortfall_is_cut_in bounds m zones
    (shortfall_in m.zones BEYOND p (is_in zones) (slots_of bounds m.orders) more (take (length (slots_of bounds m.orders)) xs) (drop (length (slots_of bounds m.orders)) xs) m.borders fs j no_slot
    (omega (arith, ints)) high
    first
    (all_zip (IsReal BEYOND) (slots_of bounds m.orders) (take (length (slots_of bounds m.orders)) xs)
    (zip_long (RunsSlot m.zones p) (slots_of bounds m.orders) (take (length (slots_of bounds m.orders)) xs) first) (reals_real bounds m.zones (length m.gates) m.orders e.valid.orders))
    rest (all_zip (IsStandIn BEYOND) more (drop (length (slots_of bounds m.orders)) xs) (zip_long (RunsSlot m.zones p) more (drop (length (slots_of bounds m.orders)) xs) rest) e.others)
    (flow_runs bounds m more xs fs p e) (ends_paid bounds m more xs fs p (λ z. counts (is_in zones z)) e) there
    (subst (λ (x : ℤ). pos 0 <ℤ x) (sym (get_or-drop (length (slots_of bounds m.orders)) xs j (pos 0))) short))

-- The answer, from where a run ends.
use Rattle.std.proofs.Common.{◌≡◌, ◌≢◌, ℕ, ◌+◌, ◌-◌, ◌<◌, ◌≤◌, ℤ, pos, neg_ℤ, ◌≤ℤ◌, ◌<ℤ◌, List, ◌∷◌, ◌++◌, length, take, arith, sym, ap, ◌∙◌, subst, map, length-append, length-drop}
use Rattle.std.proofs.lemmas.Int.{ints, by_lt_z}
use Rattle.std.proofs.lemmas.List.{length-map, get_or-map}
use Rattle.std.proofs.lemmas.Bool.{not-true, not-false}
use Rattle.std.specs.List.{All, AllZip}
use lib.Signed.{lt_z}
use Rattle.mari_units.specs.declared.Cents.{Cents}
use Rattle.mari_market.specs.declared.market.Side.{Side}
use Rattle.mari_market.specs.declared.market.Order.{Order}
use Rattle.mari_market.specs.declared.market.Market.{Market}
use Rattle.mari_market.specs.declared.certificate.CutSide.{CutSide}
use Rattle.mari_market.specs.declared.certificate.CutSide.TheVariants.{Out, In}
use Rattle.mari_market.specs.declared.certificate.Cut.{Cut as CutRecord}
use Rattle.mari_market.specs.Activation.{welfare_of}
use Rattle.mari_market.specs.Cut.{is_in, IsRising, CannotBalance, IsCut}
use Rattle.mari_market.specs.Bounds.{Span}
use Rattle.mari_market.specs.Market.{IsValid}
use Rattle.mari_market.specs.Price.{price_at, IsPrice}
use Rattle.mari_network.specs.declared.slots.Slot.{Slot}
use Rattle.mari_network.specs.declared.slots.TheConstants.{BEYOND}
use Rattle.mari_market.specs.Sums.{int_at, sum_along}
use Rattle.mari_network.specs.Slots.{IsWithinSlot, IsRunning}
use Rattle.mari_network.specs.Levels.{AreTight}
use Rattle.mari_network.specs.declared.optimum.Optimum.{Optimum}
use Rattle.mari_network.specs.declared.optimum.Solved.{Solved}
use Rattle.mari_network.specs.declared.network.Network.{Network as NetworkRecord}
use Rattle.mari_network.specs.Network.{IsNetwork, Runs}
use Rattle.mari_network.specs.Searching.{AreTightPrices}
use Rattle.mari_network.specs.Solving.{IsSolution, IsOptimum, IsNetworkOf, AreSlotsOf}
use Rattle.mari_market.specs.declared.market.Border.{Border}
use Rattle.mari_network.specs.Orders.{amount_gain, slot_of, slots_of, ArePuts, CanPut, capped_cents, is_inside}
use Rattle.std.specs.Int.{int_max}
use Rattle.mari_network.proofs.Lists.{zip_long}
use Rattle.mari_market.proofs.Rising.{less, not_less}
use Rattle.mari_network.proofs.Shortfalls.{AreLowest, AreHighest}
use Rattle.mari_network.proofs.Transfers.{IsBest, capped_prices, puts_gain}
use Rattle.mari_network.proofs.Outcomes.{Ends, ends_solved, ends_cut_out, ends_cut_in}

can_between : (side : Side) (low high x : ℤ) → CanPut side low → CanPut side high → low ≤ℤ x → x ≤ℤ high → CanPut side x
can_between side low high x a b l h = grind (arith, ints)

pub zip_can : (os : List Order) (ss : List Slot) (xs : List ℤ) → AllZip (λ o s. CanPut o.side s.low × CanPut o.side s.high) os ss → AllZip IsWithinSlot ss xs → AllZip (λ o x. CanPut o.side x) os xs
zip_can (o ∷ os) (s ∷ ss) (x ∷ xs) a b = (can_between o.side s.low s.high x a.0.0 a.0.1 b.0.least b.0.most, zip_can os ss xs a.1 b.1)
zip_can _ _ _ a b = grind arith

-- what is known where a run ends, of the market's borders and of the slots within the spans
ends : (spans : Order → Span) (m : Market) (more : List Slot) (n : NetworkRecord) (xs fs prices : List ℤ)
    → AreSlotsOf spans m more n.slots.now → IsValid m → IsNetwork n → IsNetworkOf m n → Runs n xs fs
    → AreTightPrices n xs fs prices → Ends spans m more xs fs (int_at prices)
ends spans m more n xs fs prices e v network same runs tight = record {
  valid = v;
  others = e.others;
  zones = subst (λ (ss : List Slot). All (λ (s : Slot). s.zone < m.zones) ss) e.made (subst (λ (k : ℕ). All (λ (s : Slot). s.zone < k) n.slots.now) same.zones network.zones);
  running = subst (λ (ss : List Slot). IsRunning m.zones ss m.borders xs fs) e.made
      (subst (λ (bs : List Border). IsRunning m.zones n.slots.now bs xs fs) same.borders
      (subst (λ (k : ℕ). IsRunning k n.slots.now n.borders.now xs fs) same.zones runs));
  tight = subst (λ (ss : List Slot). AreTight ss m.borders xs fs (int_at prices)) e.made
      (subst (λ (bs : List Border). AreTight n.slots.now bs xs fs (int_at prices)) same.borders tight.tight);
}

-- where nothing stands in for an order, an activation of the orders' amounts is the relaxed optimum
solution : (spans : Order → Span) (m : Market) (more : List Slot) (n : NetworkRecord) (s : Solved) (xs fs prices : List ℤ)
    → AreSlotsOf spans m more n.slots.now → IsValid m → IsNetwork n → IsNetworkOf m n → Runs n xs fs
    → AreTightPrices n xs fs prices
    → s.activation.flow ≡ fs → ArePuts m.orders (take (length m.orders) xs) s.activation.mw → s.potentials.cents ≡ map capped_cents prices → pos
    s.welfare ≡ int_max (pos 0) (welfare_of m s.activation) → ((k : ℕ) → length m.orders ≤ k → k < length xs → int_at xs k ≡ pos 0)
    → IsSolution spans m s
solution spans m more n s xs fs prices e v network same runs tight flow puts made stated none =
    let reals : length (slots_of spans m.orders) ≡ length m.orders = length-map m.orders (λ (o : Order). slot_of (spans o) o) in
    let long : length prices ≡ m.zones = tight.one_each ∙ same.zones in
    let best : IsBest spans m s.activation s.potentials.cents =
    ends_solved spans m more s.activation s.potentials.cents (int_at prices) xs
    (subst (λ (gs : List ℤ). Ends spans m more xs gs (int_at prices)) (sym flow) (ends spans m more n xs fs prices e v network same runs tight))
    (subst (λ (k : ℕ). ArePuts m.orders (take k xs) s.activation.mw) (sym reals) puts)
    (λ z l. let there : z < length prices = omega arith in
    ap (λ (cs : List Cents). price_at cs z) made ∙ ap (λ (c : Cents). c.0) (get_or-map capped_cents prices z (pos 0) (record { 0 = pos 0 }) there))
    (λ j l. none (length (slots_of spans m.orders) + j) (omega arith) (omega (arith, length-drop (length (slots_of spans m.orders)) xs, l))) in
    record {
      within = best.within;
      relaxed = best.relaxed;
      dual = best.dual;
      tight = best.tight;
      potentials = record {
        one_each = ap (λ (cs : List Cents). length cs) made ∙ length-map prices capped_cents ∙ long;
        capped = subst (λ (cs : List Cents). All (λ (c : Cents). IsPrice c.0) cs) (sym made) (capped_prices prices);
      };
      stated = stated;
    }

-- and so an optimum of these amounts, flows and prices is one
pub answer_optimum : (spans : Order → Span) (m : Market) (more : List Slot) (n : NetworkRecord) (o : Optimum) (xs fs prices : List ℤ)
    → AreSlotsOf spans m more n.slots.now → IsValid m → IsNetwork n → IsNetworkOf m n → Runs n xs fs
    → AreTightPrices n xs fs prices
    → o.amounts.items ≡ xs → o.flows.items ≡ fs → o.potentials.cents ≡ map capped_cents prices
    → pos o.welfare ≡ int_max (pos 0) (sum_along amount_gain m.orders (take (length m.orders) xs))
    → length m.orders ≤ length xs → AllZip (λ (o : Order) (x : ℤ). CanPut o.side x) m.orders (take (length m.orders) xs)
    → ((k : ℕ) → length m.orders ≤ k → k < length xs → int_at xs k ≡ pos 0)
    → IsOptimum spans m o
answer_optimum spans m more n o xs fs prices e v network same runs tight amounts flows made stated long can none = record {
  fits = record {
    long = omega (arith, long, ap (λ (ys : List ℤ). length ys) amounts);
    puts = subst (λ (ys : List ℤ). AllZip (λ (o : Order) (x : ℤ). CanPut o.side x) m.orders (take (length m.orders) ys)) (sym amounts) can;
  };
  solution = λ a w.
      let puts : ArePuts m.orders (take (length m.orders) xs) a.mw = subst (λ (ys : List ℤ). ArePuts m.orders (take (length m.orders) ys) a.mw) amounts w.puts in
      solution spans m more n (record { activation = a; potentials = o.potentials; welfare = o.welfare }) xs fs prices e v network same runs tight
      (w.flow ∙ flows) puts made
      (stated ∙ ap (λ (x : ℤ). int_max (pos 0) x) (puts_gain m.orders (take (length m.orders) xs) a.mw puts)) none;
}

lowest : (n : ℕ) (p : ℕ → ℤ) (zones : List ℕ) → ((z : ℕ) → z < n → is_in zones z ≡ is_inside Out (p z)) → AreLowest n BEYOND p (is_in zones)
lowest n p zones h = record {
  yes = λ z l e. not_less (neg_ℤ BEYOND) (p z) (not-true (lt_z (neg_ℤ BEYOND) (p z)) (sym (h z l) ∙ e));
  no = λ z l e. less (neg_ℤ BEYOND) (p z) (not-false (lt_z (neg_ℤ BEYOND) (p z)) (sym (h z l) ∙ e));
}

highest : (n : ℕ) (p : ℕ → ℤ) (zones : List ℕ) → ((z : ℕ) → z < n → is_in zones z ≡ is_inside In (p z)) → AreHighest n BEYOND p (is_in zones)
highest n p zones h = record {
  yes = λ z l e. not_less (p z) BEYOND (not-true (lt_z (p z) BEYOND) (sym (h z l) ∙ e));
  no = λ z l e. less (p z) BEYOND (not-false (lt_z (p z) BEYOND) (sym (h z l) ∙ e));
}

-- where something stands in for an order, the zones of the least prices, or of the greatest, are a cut
pub answer_cut : (spans : Order → Span) (m : Market) (more : List Slot) (n : NetworkRecord) (xs fs prices : List ℤ) (side : CutSide) (cut : CutRecord) (i : ℕ)
    → AreSlotsOf spans m more n.slots.now → IsValid m → IsNetwork n → IsNetworkOf m n → Runs n xs fs
    → AreTightPrices n xs fs prices
    → cut.side ≡ side → IsRising 0 (length prices) cut.zones → ((z : ℕ) → z < length prices → is_in cut.zones z ≡ is_inside side (int_at prices z))
    → length m.orders ≤ i → i < length xs → int_at xs i ≢ pos 0 → (int_at xs i <ℤ pos 0 → side ≡ Out) → (pos 0 ≤ℤ int_at xs i → side ≡ In)
    → IsCut spans m cut
answer_cut spans m more n xs fs prices side cut i e v network same runs tight named rising inside from below nonzero out into =
    let reals : length (slots_of spans m.orders) ≡ length m.orders = length-map m.orders (λ (o : Order). slot_of (spans o) o) in
    let long : length prices ≡ m.zones = tight.one_each ∙ same.zones in
    let end = ends spans m more n xs fs prices e v network same runs tight in
    let place : length (slots_of spans m.orders) + (i - length (slots_of spans m.orders)) ≡ i = omega arith in
    let all = zip_long IsWithinSlot (slots_of spans m.orders ++ more) xs end.running.amounts in
    let there : i - length (slots_of spans m.orders) < length more = omega (arith, all, length-append (slots_of spans m.orders) more) in
    record {
      zones = subst (λ (k : ℕ). IsRising 0 k cut.zones) long rising;
      side = subst (λ (s : CutSide). CannotBalance spans m s cut.zones) (sym named)
          (by_lt_z (int_at xs i) (pos 0)
          (λ l. subst (λ (s : CutSide). CannotBalance spans m s cut.zones) (sym (out l))
          (ends_cut_out spans m more xs fs (int_at prices) cut.zones (i - length (slots_of spans m.orders)) end
          (lowest m.zones (int_at prices) cut.zones (λ z h. subst (λ (s : CutSide). is_in cut.zones z ≡ is_inside s (int_at prices z)) (out l) (inside z (omega arith)))) there
          (subst (λ (k : ℕ). int_at xs k <ℤ pos 0) (sym place) l)))
          (λ l. subst (λ (s : CutSide). CannotBalance spans m s cut.zones) (sym (into l))
          (ends_cut_in spans m more xs fs (int_at prices) cut.zones (i - length (slots_of spans m.orders)) end
          (highest m.zones (int_at prices) cut.zones (λ z h. subst (λ (s : CutSide). is_in cut.zones z ≡ is_inside s (int_at prices z)) (into l) (inside z (omega arith)))) there
          (subst (λ (k : ℕ). pos 0 <ℤ int_at xs k) (sym place) (by_lt_z (pos 0) (int_at xs i) (λ r. r) (λ r. absurd (nonzero (omega (arith, ints)))))))));
    }

-- What a start leaves out of balance, and what stands in for it.
use Rattle.std.proofs.Common.{◌≡◌, ◌==◌, if◌then◌else◌, ℕ, zero, suc, ◌+◌, ◌-◌, ◌<◌, ◌≤◌, ℤ, pos, List, [], ◌∷◌, ◌++◌, length, take, drop, arith, refl, sym, ap, ◌∙◌, subst, get_or, length-append, length-drop, get_or-drop, get_or-take}
use Rattle.std.proofs.lemmas.Int.{ints}
use Rattle.std.proofs.lemmas.List.{get_or-append-add, get_or_append_left, get_or_default, length-take-le, take-append-drop, take_at}
use Rattle.std.specs.List.{All, AllZip}
use Rattle.std.proofs.lemmas.List.Elements.{All-append, All-head, All-tail, All-cons}
use Rattle.mari_market.specs.declared.market.Border.{Border}
use Rattle.mari_market.specs.declared.market.Market.{Market}
use Rattle.mari_market.specs.declared.market.Order.{Order}
use Rattle.mari_market.specs.Bounds.{Span}
use Rattle.mari_market.specs.Sums.{sum_along, int_at}
use Rattle.mari_market.specs.Activation.{IsWithinLimits}
use Rattle.mari_market.proofs.Sums.{AllZip-at}
use Rattle.mari_network.specs.declared.slots.Slot.{Slot}
use Rattle.mari_network.specs.declared.slots.TheConstants.{BEYOND}
use Rattle.mari_network.specs.Slots.{no_slot, slot_at, slot_into, zone_of, IsWithinSlot, IsRunning}
use Rattle.mari_network.specs.Network.{AreInOrder}
use Rattle.mari_network.specs.Orders.{no_order, slots_of, stand_in_of, AreOrderSlots, CanPut, IsStandIn}
use Rattle.mari_network.specs.Solving.{AreSlotsOf}
use Rattle.mari_paths.specs.Starts.{order_at, stand_ins, AreEven, AreFilled, AreShort, FitsOrder, IsNear, StandInsNear}
use Rattle.mari_network.specs.Fits.{IsNetworkSlot}
use Rattle.mari_network.proofs.Fits.{network_slots}
use Rattle.mari_network.proofs.Lists.{zip_append, zip_long, zip_of}
use Rattle.mari_network.proofs.Shortfalls.{sum_along-append}
use Rattle.mari_network.proofs.StandIns.{stands_in}

stand_ins_within : (z : ℕ) (short : List ℤ) → AllZip IsWithinSlot (stand_ins z short) short
stand_ins_within z [] = tt
stand_ins_within z (d ∷ ds) = ((stands_in z d).within, stand_ins_within (z + 1) ds)

pub stand_ins_are : (z : ℕ) (short : List ℤ) → All (IsStandIn BEYOND) (stand_ins z short)
stand_ins_are z [] = λ k d l. absurd (omega arith)
stand_ins_are z (d ∷ ds) = All-cons (IsStandIn BEYOND) (stand_in_of z d) (stand_ins (z + 1) ds) (stands_in z d).kind (stand_ins_are (z + 1) ds)

pub stand_ins_network : (n z : ℕ) (short : List ℤ) → z + length short ≤ n → All (IsNear 700000000) short → All (IsNetworkSlot n) (stand_ins z short)
stand_ins_network n z [] l a = λ k d h. absurd (omega arith)
stand_ins_network n z (d ∷ ds) l a =
    let near = All-head (IsNear 700000000) d ds a in
    All-cons (IsNetworkSlot n) (stand_in_of z d) (stand_ins (z + 1) ds)
    ((stands_in z d).network n (omega arith) (omega (arith, ints, near.low)) (omega (arith, ints, near.high)))
    (stand_ins_network n (z + 1) ds (omega arith) (All-tail (IsNear 700000000) d ds a))

not_zone : (y z : ℕ) (d : ℤ) → y < z → (if z == y then d else pos 0) ≡ pos 0
not_zone y z d l = grind (arith)

same_zone : (y z : ℕ) (d : ℤ) → y ≡ z → (if z == y then d else pos 0) ≡ d
same_zone y z d e = grind (arith)

after_zone : (y z : ℕ) (d : ℤ) → z < y → (if z == y then d else pos 0) ≡ pos 0
after_zone y z d l = grind (arith)

into_head : (y z : ℕ) (d : ℤ) → slot_into y (stand_in_of z d) d ≡ (if z == y then d else pos 0)
into_head y z d = ap (λ (k : ℕ). if k == y then d else pos 0) (stands_in z d).zone

into_before : (y z : ℕ) (short : List ℤ) → y < z → sum_along (slot_into y) (stand_ins z short) short ≡ pos 0
into_before y z [] l = refl
into_before y z (d ∷ ds) l = omega (arith, ints, into_head y z d, not_zone y z d l, into_before y (z + 1) ds (omega arith))

pub into_at : (y z k : ℕ) (short : List ℤ) → y ≡ z + k → k < length short → sum_along (slot_into y) (stand_ins z short) short ≡ get_or short k (pos 0)
into_at y z k [] e l = absurd (omega arith)
into_at y z zero (d ∷ ds) e l = omega (arith, ints, into_head y z d, same_zone y z d (omega arith), into_before y (z + 1) ds (omega arith))
into_at y z (suc k) (d ∷ ds) e l = omega (arith, ints, into_head y z d, after_zone y z d (omega arith), into_at y (z + 1) k ds (omega arith) (omega arith))

pub stand_ins_push : (z : ℕ) (xs : List ℤ) (d : ℤ) → stand_ins z (xs ++ d ∷ []) ≡ stand_ins z xs ++ stand_in_of (z + length xs) d ∷ []
stand_ins_push z [] d = ap (λ (k : ℕ). stand_in_of k d ∷ []) (omega arith)
stand_ins_push z (x ∷ xs) d =
    let e : z + 1 + length xs ≡ z + length (x ∷ xs) = omega arith in
    ap (λ (ss : List Slot). stand_in_of z x ∷ ss) (stand_ins_push (z + 1) xs d ∙ ap (λ (k : ℕ). stand_ins (z + 1) xs ++ stand_in_of k d ∷ []) e)

-- with what stands in, all is in balance
pub starts_running : (n : ℕ) (slots : List Slot) (bs : List Border) (xs fs short : List ℤ)
    → AllZip IsWithinSlot slots xs → AllZip IsWithinLimits bs fs → AreShort n slots bs xs fs short
    → IsRunning n (slots ++ stand_ins 0 short) bs (xs ++ short) fs
starts_running n slots bs xs fs short a b s =
    let all : AllZip IsWithinSlot (slots ++ stand_ins 0 short) (xs ++ short) = zip_append IsWithinSlot slots (stand_ins 0 short) xs short a (stand_ins_within 0 short) in
    record {
      amounts_long = sym (zip_long IsWithinSlot (slots ++ stand_ins 0 short) (xs ++ short) all);
      flows_long = sym (zip_long IsWithinLimits bs fs b);
      amounts = all;
      flows = b;
      balance = λ z l. omega
          (arith, ints, sum_along-append (slot_into z) slots (stand_ins 0 short) xs short (zip_long IsWithinSlot slots xs a), into_at z 0 z short (omega arith) (omega (arith, s.long)), s.each z l);
    }

stand_ins_long : (z : ℕ) (short : List ℤ) → length (stand_ins z short) ≡ length short
stand_ins_long z [] = refl
stand_ins_long z (d ∷ ds) = ap suc (stand_ins_long (z + 1) ds)

stand_ins_at : (z k : ℕ) (short : List ℤ) → k < length short → get_or (stand_ins z short) k no_slot ≡ stand_in_of (z + k) (int_at short k)
stand_ins_at z k [] l = absurd (omega arith)
stand_ins_at z zero (d ∷ ds) l = let e : z ≡ z + 0 = omega arith in ap (λ (y : ℕ). stand_in_of y d) e
stand_ins_at z (suc k) (d ∷ ds) l = let e : z + 1 + k ≡ z + suc k = omega arith in stand_ins_at (z + 1) k ds (omega arith) ∙ ap (λ (y : ℕ). stand_in_of y (int_at ds k)) e

-- what runs at the start
pub record IsStarted (m : Market) (reals slots : List Slot) (xs fs : List ℤ) : Type 0 where
  pub filled : AreFilled m slots xs
  pub first : take (length m.orders) slots ≡ reals
  pub near : StandInsNear 700000000 m xs
  pub even : AreEven m slots xs fs

pub fits_order : (m : Market) (reals : List Slot) (k : ℕ) → AreOrderSlots m.zones m.orders reals → k < length m.orders → FitsOrder m.zones (order_at m k) (slot_at reals k)
fits_order m reals k a l =
    let sides = AllZip-at (λ (o : Order) (s : Slot). CanPut o.side s.low × CanPut o.side s.high) m.orders reals k no_order no_slot l a.sides in
    record { fine = a.fine k no_slot (omega (arith, a.long, l)); low = sides.0; high = sides.1 }

module _ (m : Market) (reals : List Slot) (ys fs short : List ℤ) (a : AreOrderSlots m.zones m.orders reals) (within : AllZip IsWithinSlot reals ys) (s : AreShort m.zones reals m.borders ys fs short)
    (near : (z : ℕ) → IsNear 700000000 (int_at short z)) where
  amount_at : (z : ℕ) → int_at (ys ++ short) (length m.orders + z) ≡ int_at short z
  amount_at z =
      let e : length m.orders + z ≡ length ys + z = omega (arith, a.long, zip_long IsWithinSlot reals ys within) in
      ap (int_at (ys ++ short)) e ∙ get_or-append-add ys short z (pos 0)

  stand_in_at : (z : ℕ) → z < m.zones → slot_at (reals ++ stand_ins 0 short) (length m.orders + z) ≡ stand_in_of z (int_at (ys ++ short) (length m.orders + z))
  stand_in_at z l =
      let e : length m.orders + z ≡ length reals + z = omega (arith, a.long) in
      let zone : 0 + z ≡ z = omega arith in
      ap (slot_at (reals ++ stand_ins 0 short)) e ∙ get_or-append-add reals (stand_ins 0 short) z no_slot
      ∙ stand_ins_at 0 z short (omega (arith, s.long, l)) ∙ ap (λ (y : ℕ). stand_in_of y (int_at short z)) zone ∙ ap (stand_in_of z) (sym (amount_at z))

  filled : AreFilled m (reals ++ stand_ins 0 short) (ys ++ short)
  filled = record {
    long = omega (arith, length-append reals (stand_ins 0 short), a.long, stand_ins_long 0 short, s.long);
    network = All-append (IsNetworkSlot m.zones) reals (stand_ins 0 short) (network_slots m.zones reals a.fine)
        (stand_ins_network m.zones 0 short (omega (arith, s.long)) (λ k d l. subst (λ (x : ℤ). IsNear 700000000 x) (get_or_default short k (pos 0) d l) (near k)));
    orders = λ k l. subst (λ (t : Slot). FitsOrder m.zones (order_at m k) t) (sym (get_or_append_left reals (stand_ins 0 short) no_slot k (omega (arith, a.long, l)))) (fits_order m reals k a l);
    stand_ins = stand_in_at;
    within = zip_append IsWithinSlot reals (stand_ins 0 short) ys short within (stand_ins_within 0 short);
  }

  started : AllZip IsWithinLimits m.borders fs → IsStarted m reals (reals ++ stand_ins 0 short) (ys ++ short) fs
  started limits = record {
    filled = filled;
    first = take_at reals (stand_ins 0 short) (length m.orders) a.long;
    near = λ z l. subst (λ (x : ℤ). IsNear 700000000 x) (sym (amount_at z)) (near z);
    even = (starts_running m.zones reals m.borders ys fs short within limits s).balance;
  }

-- the same of lists that are these
pub starts : (m : Market) (reals slots : List Slot) (ys xs fs short : List ℤ) → AreOrderSlots m.zones m.orders reals → AllZip IsWithinSlot reals ys → AllZip IsWithinLimits m.borders fs
    → AreShort m.zones reals m.borders ys fs short → ((z : ℕ) → IsNear 700000000 (int_at short z))
    → slots ≡ reals ++ stand_ins 0 short → xs ≡ ys ++ short → IsStarted m reals slots xs fs
starts m reals slots ys xs fs short a within limits s near e f =
    subst (λ (ss : List Slot). IsStarted m reals ss xs fs) (sym e)
    (subst (λ (zs : List ℤ). IsStarted m reals (reals ++ stand_ins 0 short) zs fs) (sym f) (started m reals ys fs short a within s near limits))

-- ---- what is filled is a network's, and of the orders' slots before others

pub filled_sides : (m : Market) (slots : List Slot) (xs : List ℤ) → AreFilled m slots xs → AllZip (λ o s. CanPut o.side s.low × CanPut o.side s.high) m.orders (take (length m.orders) slots)
filled_sides m slots xs a =
    let long : length m.orders ≡ length (take (length m.orders) slots) = sym (length-take-le (length m.orders) slots (omega (arith, a.long))) in
    zip_of (λ (o : Order) (s : Slot). CanPut o.side s.low × CanPut o.side s.high) m.orders (take (length m.orders) slots) no_order no_slot long
    (λ k l. subst (λ (s : Slot). CanPut (order_at m k).side s.low × CanPut (order_at m k).side s.high) (sym (get_or-take (length m.orders) slots k no_slot l))
    ((a.orders k l).low, (a.orders k l).high))

pub filled_runs : (m : Market) (slots : List Slot) (xs fs : List ℤ) → AreFilled m slots xs → AllZip IsWithinLimits m.borders fs → AreEven m slots xs fs → IsRunning m.zones slots m.borders xs fs
filled_runs m slots xs fs a limits even = record {
  amounts_long = sym (zip_long IsWithinSlot slots xs a.within);
  flows_long = sym (zip_long IsWithinLimits m.borders fs limits);
  amounts = a.within;
  flows = limits;
  balance = even;
}

pub filled_long : (m : Market) (slots : List Slot) (xs : List ℤ) → AreFilled m slots xs → length m.orders ≤ length xs
filled_long m slots xs a = omega (arith, a.long, zip_long IsWithinSlot slots xs a.within)

pub filled_slots : (spans : Order → Span) (m : Market) (slots : List Slot) (xs : List ℤ) → AreFilled m slots xs → take (length m.orders) slots ≡ slots_of spans m.orders
    → AreSlotsOf spans m (drop (length m.orders) slots) slots
filled_slots spans m slots xs a e = record {
  made = sym (take-append-drop (length m.orders) slots) ∙ ap (λ (ss : List Slot). ss ++ drop (length m.orders) slots) e;
  others = λ k d l.
      let there : length m.orders + k < length slots = omega (arith, length-drop (length m.orders) slots, l) in
      let is : get_or (drop (length m.orders) slots) k d ≡ stand_in_of k (int_at xs (length m.orders + k)) =
      get_or-drop (length m.orders) slots k d ∙ get_or_default slots (length m.orders + k) d no_slot there ∙ a.stand_ins k (omega (arith, a.long, there)) in
      subst (λ (s : Slot). IsStandIn BEYOND s) (sym is) (stands_in k (int_at xs (length m.orders + k))).kind;
}

-- what stands in for the zones comes after the orders, in order of the zones
pub filled_in_order : (m : Market) (slots : List Slot) (xs : List ℤ) → AreFilled m slots xs → AreInOrder (length m.orders) slots
filled_in_order m slots xs a k g l =
    let z = k - length m.orders in
    let at : length m.orders + (k - length m.orders) ≡ k = omega arith in
    let zone : zone_of slots (length m.orders + (k - length m.orders)) ≡ k - length m.orders =
    ap (λ (s : Slot). s.zone) (a.stand_ins z (omega (arith, a.long))) ∙ (stands_in z (int_at xs (length m.orders + z))).zone in
    omega (arith, zone, ap (zone_of slots) at, at)

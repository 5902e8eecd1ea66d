-- One order's slot changed, with its amount, and what stands in for its zone: two places of each list.
use Rattle.std.proofs.Common.{◌≡◌, ◌==◌, ◌≢◌, ◌&&◌, if◌then◌else◌, Bool, true, false, eqb, ℕ, zero, suc, ◌+◌, ◌*◌, ◌<◌, ℤ, pos, ◌+ℤ◌, ◌-ℤ◌, neg_ℤ, ◌≤ℤ◌, FitsSigned, List, [], ◌∷◌, length, set, get_or, arith, refl, sym, ap, ◌∙◌, subst, inl, inr, get_or-set_other}
use Rattle.std.proofs.lemmas.Int.{ints}
use Rattle.std.proofs.lemmas.Bool.{cases_eq, eqb-true, false≢true}
use Rattle.std.proofs.lemmas.Bool.Decides.{Decides-int_eq}
use Rattle.std.proofs.lemmas.List.{get_or-set_same, length-set}
use Rattle.std.proofs.lemmas.List.Elements.{All-set}
use Rattle.std.specs.List.{AllZip}
use Rattle.std.specs.Int.{w128}
use Rattle.std.specs.Ordering.{int_eq}
use Rattle.mari_market.specs.Market.{IsValid}
use Rattle.mari_market.specs.declared.market.Market.{Market}
use Rattle.mari_market.specs.Sums.{sum_along, int_at}
use Rattle.mari_market.proofs.Sums.{AllZip-at}
use Rattle.mari_network.specs.declared.slots.Slot.{Slot}
use Rattle.mari_network.specs.Fits.{IsNetworkSlot}
use Rattle.mari_network.specs.Orders.{stand_in_of}
use Rattle.mari_network.specs.Slots.{no_slot, slot_at, slot_gain, slot_into, zone_of, at_zone, IsWithinSlot}
use Rattle.mari_network.proofs.Fits.{slot_small}
use Rattle.mari_network.proofs.Lists.{zip_long}
use Rattle.mari_network.proofs.StandIns.{stands_in}
use Rattle.mari_network.proofs.Worths.{small_gain, worth_fits}
use Rattle.mari_paths.proofs.Shortages.{near_more, near_wider}
use Rattle.mari_paths.specs.Starts.{gain_at, joint_gain, order_at, AreFilled, FitsOrder, IsNear, StandInsNear}

-- ---- two places of a list

-- a list with other items at two places
abbrev pub set_two : {X : Type 0} → List X → (p q : ℕ) → (x y : X) → List X
set_two xs p q x y = set (set xs p x) q y

pub two_long : {X : Type 0} (xs : List X) (p q : ℕ) (x y : X) → length (set_two xs p q x y) ≡ length xs
two_long xs p q x y = length-set (set xs p x) q y ∙ length-set xs p x

pub two_first : {X : Type 0} (xs : List X) (p q : ℕ) (x y d : X) → p < length xs → p < q → get_or (set_two xs p q x y) p d ≡ x
two_first xs p q x y d l before = let apart : p ≢ q = omega arith in get_or-set_other (set xs p x) q p y d apart ∙ get_or-set_same xs p x d l

pub two_second : {X : Type 0} (xs : List X) (p q : ℕ) (x y d : X) → q < length xs → get_or (set_two xs p q x y) q d ≡ y
two_second xs p q x y d l = get_or-set_same (set xs p x) q y d (subst (λ (n : ℕ). q < n) (sym (length-set xs p x)) l)

pub two_others : {X : Type 0} (xs : List X) (p q k : ℕ) (x y d : X) → k ≢ p → k ≢ q → get_or (set_two xs p q x y) k d ≡ get_or xs k d
two_others xs p q k x y d first second = get_or-set_other (set xs p x) q k y d second ∙ get_or-set_other xs p k x d first

-- ---- an item of each of two lists

zip_set_both : {X Y : Type 0} (P : X → Y → Type 0) (xs : List X) (ys : List Y) (i : ℕ) (x : X) (y : Y) → P x y → AllZip P xs ys → AllZip P (set xs i x) (set ys i y)
zip_set_both P [] [] i x y h a = tt
zip_set_both P (u ∷ us) (v ∷ vs) zero x y h a = (h, a.1)
zip_set_both P (u ∷ us) (v ∷ vs) (suc i) x y h a = (a.0, zip_set_both P us vs i x y h a.1)
zip_set_both P [] (v ∷ vs) i x y h a = absurd a
zip_set_both P (u ∷ us) [] i x y h a = absurd a

sum_set_both : {X Y : Type 0} (f : X → Y → ℤ) (xs : List X) (ys : List Y) (i : ℕ) (x d : X) (y e : Y) → i < length xs → i < length ys
    → sum_along f (set xs i x) (set ys i y) +ℤ f (get_or xs i d) (get_or ys i e) ≡ sum_along f xs ys +ℤ f x y
sum_set_both f [] ys i x d y e h l = absurd (omega arith)
sum_set_both f (u ∷ us) [] i x d y e h l = absurd (omega arith)
sum_set_both f (u ∷ us) (v ∷ vs) zero x d y e h l = omega (arith, ints)
sum_set_both f (u ∷ us) (v ∷ vs) (suc i) x d y e h l = omega (arith, ints, sum_set_both f us vs i x d y e (omega arith) (omega arith))

-- ---- the sums of the zones

-- what a zone's slot loses, what stands in for the zone puts in
passed_on : (here : Bool) (x v y w less first mid last : ℤ) → v ≡ x -ℤ less → w ≡ y +ℤ less
    → mid +ℤ (if here then x else pos 0) ≡ first +ℤ (if here then v else pos 0)
    → last +ℤ (if here then y else pos 0) ≡ mid +ℤ (if here then w else pos 0) → last ≡ first
passed_on true x v y w less first mid last e f a b = omega (arith, ints, e, f, a, b)
passed_on false x v y w less first mid last e f a b = omega (arith, ints, a, b)

pub into_stays : (z : ℕ) (slots : List Slot) (xs : List ℤ) (p q : ℕ) (s t : Slot) (v w less : ℤ)
    → length xs ≡ length slots → p < q → q < length slots → s.zone ≡ zone_of slots p → zone_of slots q ≡ s.zone → t.zone ≡ s.zone
    → v ≡ int_at xs p -ℤ less → w ≡ int_at xs q +ℤ less
    → sum_along (slot_into z) (set_two slots p q s t) (set_two xs p q v w) ≡ sum_along (slot_into z) slots xs
into_stays z slots xs p q s t v w less long before there zone stand same e f =
    let apart : q ≢ p = omega arith in
    let mid = sum_along (slot_into z) (set slots p s) (set xs p v) in
    let last = sum_along (slot_into z) (set_two slots p q s t) (set_two xs p q v w) in
    let slot_q : zone_of (set slots p s) q ≡ s.zone = ap (λ (r : Slot). r.zone) (get_or-set_other slots p q s no_slot apart) ∙ stand in
    let x_q : int_at (set xs p v) q ≡ int_at xs q = get_or-set_other xs p q v (pos 0) apart in
    passed_on (s.zone == z) (int_at xs p) v (int_at xs q) w less (sum_along (slot_into z) slots xs) mid last e f
    (ap (λ (y : ℕ). mid +ℤ at_zone z y (int_at xs p)) zone ∙ sum_set_both (slot_into z) slots xs p s no_slot v (pos 0) (omega arith) (omega arith))
    (ap (λ (x : ℤ). last +ℤ at_zone z s.zone x) (sym x_q) ∙ ap (λ (y : ℕ). last +ℤ at_zone z y (int_at (set xs p v) q)) (sym slot_q)
    ∙ sum_set_both (slot_into z) (set slots p s) (set xs p v) q t no_slot w (pos 0) (omega (arith, length-set slots p s)) (omega (arith, length-set xs p v))
    ∙ ap (λ (y : ℕ). mid +ℤ at_zone z y w) same)

-- ---- the worth

worth_sums : (old mid new a b b_mid c d c_new d_new : ℤ) → mid +ℤ a ≡ old +ℤ c → new +ℤ b_mid ≡ mid +ℤ d → b_mid ≡ b → c_new ≡ c → d_new ≡ d → new +ℤ (a +ℤ b) ≡ old +ℤ (c_new +ℤ d_new)
worth_sums old mid new a b b_mid c d c_new d_new e f g h i = omega (arith, ints, e, f, g, h, i)

pub worth_moves : (slots : List Slot) (xs : List ℤ) (p q : ℕ) (s t : Slot) (v w : ℤ) → length xs ≡ length slots → p < q → q < length slots
    → sum_along slot_gain (set_two slots p q s t) (set_two xs p q v w) +ℤ (gain_at slots xs p +ℤ gain_at slots xs q)
    ≡ sum_along slot_gain slots xs +ℤ (gain_at (set_two slots p q s t) (set_two xs p q v w) p +ℤ gain_at (set_two slots p q s t) (set_two xs p q v w) q)
worth_moves slots xs p q s t v w long before there =
    let apart : q ≢ p = omega arith in
    let first = sum_set_both slot_gain slots xs p s no_slot v (pos 0) (omega arith) (omega arith) in
    let second = sum_set_both slot_gain (set slots p s) (set xs p v) q t no_slot w (pos 0) (omega (arith, length-set slots p s)) (omega (arith, length-set xs p v)) in
    let slot_q : slot_at (set slots p s) q ≡ slot_at slots q = get_or-set_other slots p q s no_slot apart in
    let x_q : int_at (set xs p v) q ≡ int_at xs q = get_or-set_other xs p q v (pos 0) apart in
    let stood : gain_at (set slots p s) (set xs p v) q ≡ gain_at slots xs q = ap (λ (r : Slot). slot_gain r (int_at (set xs p v) q)) slot_q ∙ ap (slot_gain (slot_at slots q)) x_q in
    let new_p : gain_at (set_two slots p q s t) (set_two xs p q v w) p ≡ slot_gain s v =
    ap (λ (r : Slot). slot_gain r (int_at (set_two xs p q v w) p)) (two_first slots p q s t no_slot (omega arith) before) ∙ ap (slot_gain s) (two_first xs p q v w (pos 0) (omega arith) before) in
    let new_q : gain_at (set_two slots p q s t) (set_two xs p q v w) q ≡ slot_gain t w =
    ap (λ (r : Slot). slot_gain r (int_at (set_two xs p q v w) q)) (two_second slots p q s t no_slot there) ∙ ap (slot_gain t) (two_second xs p q v w (pos 0) (omega arith)) in
    worth_sums (sum_along slot_gain slots xs) (sum_along slot_gain (set slots p s) (set xs p v)) (sum_along slot_gain (set_two slots p q s t) (set_two xs p q v w))
    (gain_at slots xs p) (gain_at slots xs q) _ _ _ _ _ first second stood new_p new_q

-- ---- what runs

-- the place of what stands in for a slot's zone
abbrev pub stand_at : Market → Slot → ℕ
stand_at m s = length m.orders + s.zone

abbrev pub slots_after : Market → List Slot → ℕ → Slot → ℤ → List Slot
slots_after m slots p s w = set_two slots p (stand_at m s) s (stand_in_of s.zone w)

abbrev pub amounts_after : Market → List ℤ → ℕ → Slot → (v w : ℤ) → List ℤ
amounts_after m xs p s v w = set_two xs p (stand_at m s) v w

-- an order's slot and amount, and what stands in for what the amount loses
pub record IsChange (m : Market) (slots : List Slot) (xs : List ℤ) (p : ℕ) (s : Slot) (v w less : ℤ) : Type 0 where
  pub there : p < length m.orders
  pub fits : FitsOrder m.zones (order_at m p) s
  pub zone : s.zone ≡ zone_of slots p
  pub within : IsWithinSlot s v
  pub lost : v ≡ int_at xs p -ℤ less
  pub stood_in : w ≡ int_at xs (stand_at m s) +ℤ less
  pub near : IsNear 1099511627776 w

module _ (m : Market) (slots : List Slot) (xs : List ℤ) (p : ℕ) (s : Slot) (v w less : ℤ) (a : AreFilled m slots xs) (c : IsChange m slots xs p s v w less) where
  before : p < stand_at m s
  before = omega (arith, c.there)

  there : stand_at m s < length slots
  there = omega (arith, a.long, c.fits.fine.zone)

  long : length xs ≡ length slots
  long = sym (zip_long IsWithinSlot slots xs a.within)

  stand_zone : zone_of slots (stand_at m s) ≡ s.zone
  stand_zone = ap (λ (t : Slot). t.zone) (a.stand_ins s.zone c.fits.fine.zone) ∙ (stands_in s.zone (int_at xs (stand_at m s))).zone

  pub here_after : slot_at (slots_after m slots p s w) p ≡ s
  here_after = two_first slots p (stand_at m s) s (stand_in_of s.zone w) no_slot (omega (arith, before, there)) before

  pub others_after : (k : ℕ) → k < length m.orders → k ≢ p → slot_at (slots_after m slots p s w) k ≡ slot_at slots k
  others_after k l other = let apart : k ≢ stand_at m s = omega arith in two_others slots p (stand_at m s) k s (stand_in_of s.zone w) no_slot other apart

  pub zones_after : (k : ℕ) → zone_of (slots_after m slots p s w) k ≡ zone_of slots k
  zones_after k = elim (cases_eq k p) [
    | inl e ↦ ap (zone_of (slots_after m slots p s w)) e ∙ ap (λ (t : Slot). t.zone) here_after ∙ c.zone ∙ sym (ap (zone_of slots) e)
    | inr other ↦ elim (cases_eq k (stand_at m s)) [
      | inl e ↦ ap (zone_of (slots_after m slots p s w)) e
          ∙ ap (λ (t : Slot). t.zone) (two_second slots p (stand_at m s) s (stand_in_of s.zone w) no_slot there) ∙ (stands_in s.zone w).zone ∙ sym stand_zone ∙ sym (ap (zone_of slots) e)
      | inr apart ↦ ap (λ (t : Slot). t.zone) (two_others slots p (stand_at m s) k s (stand_in_of s.zone w) no_slot other apart)
    ]
  ]

  pub into_after : (z : ℕ) → sum_along (slot_into z) (slots_after m slots p s w) (amounts_after m xs p s v w) ≡ sum_along (slot_into z) slots xs
  into_after z = into_stays z slots xs p (stand_at m s) s (stand_in_of s.zone w) v w less long before there c.zone stand_zone (stands_in s.zone w).zone c.lost c.stood_in

  pub worth_after : sum_along slot_gain (slots_after m slots p s w) (amounts_after m xs p s v w) +ℤ joint_gain m slots xs p
      ≡ sum_along slot_gain slots xs +ℤ joint_gain m (slots_after m slots p s w) (amounts_after m xs p s v w) p
  worth_after =
      let place : length m.orders + zone_of slots p ≡ stand_at m s = ap (λ (z : ℕ). length m.orders + z) (sym c.zone) in
      let place_new : length m.orders + zone_of (slots_after m slots p s w) p ≡ stand_at m s = ap (λ (t : Slot). length m.orders + t.zone) here_after in
      ap (λ (k : ℕ). sum_along slot_gain (slots_after m slots p s w) (amounts_after m xs p s v w) +ℤ (gain_at slots xs p +ℤ gain_at slots xs k)) place
      ∙ worth_moves slots xs p (stand_at m s) s (stand_in_of s.zone w) v w long before there
      ∙ ap (λ (k : ℕ). sum_along slot_gain slots xs +ℤ (gain_at (slots_after m slots p s w) (amounts_after m xs p s v w) p +ℤ gain_at (slots_after m slots p s w) (amounts_after m xs p s v w) k))
      (sym place_new)

  stand_ins_after : (z : ℕ) → z < m.zones → slot_at (slots_after m slots p s w) (length m.orders + z) ≡ stand_in_of z (int_at (amounts_after m xs p s v w) (length m.orders + z))
  stand_ins_after z l = elim (cases_eq z s.zone) [
    | inl e ↦ subst (λ (y : ℕ). slot_at (slots_after m slots p s w) (length m.orders + y) ≡ stand_in_of y (int_at (amounts_after m xs p s v w) (length m.orders + y))) (sym e)
        (two_second slots p (stand_at m s) s (stand_in_of s.zone w) no_slot there ∙ ap (stand_in_of s.zone) (sym (two_second xs p (stand_at m s) v w (pos 0) (omega (arith, long, there)))))
    | inr other ↦
        let first : length m.orders + z ≢ p = omega (arith, c.there) in
        let second : length m.orders + z ≢ stand_at m s = omega arith in
        two_others slots p (stand_at m s) (length m.orders + z) s (stand_in_of s.zone w) no_slot first second ∙ a.stand_ins z l
        ∙ ap (stand_in_of z) (sym (two_others xs p (stand_at m s) (length m.orders + z) v w (pos 0) first second))
  ]

  orders_after : (k : ℕ) → k < length m.orders → FitsOrder m.zones (order_at m k) (slot_at (slots_after m slots p s w) k)
  orders_after k l = elim (cases_eq k p) [
    | inl e ↦ subst (λ (j : ℕ). FitsOrder m.zones (order_at m j) (slot_at (slots_after m slots p s w) j)) (sym e) (subst (λ (t : Slot). FitsOrder m.zones (order_at m p) t) (sym here_after) c.fits)
    | inr other ↦ subst (λ (t : Slot). FitsOrder m.zones (order_at m k) t) (sym (others_after k l other)) (a.orders k l)
  ]

  pub filled_after : AreFilled m (slots_after m slots p s w) (amounts_after m xs p s v w)
  filled_after = record {
    long = two_long slots p (stand_at m s) s (stand_in_of s.zone w) ∙ a.long;
    network = All-set (IsNetworkSlot m.zones) (set slots p s) (stand_at m s) (stand_in_of s.zone w) ((stands_in s.zone w).network m.zones c.fits.fine.zone c.near.low c.near.high)
        (All-set (IsNetworkSlot m.zones) slots p s (record { zone = c.fits.fine.zone; small = slot_small s m.zones c.fits.fine }) a.network);
    orders = orders_after;
    stand_ins = stand_ins_after;
    within = zip_set_both IsWithinSlot (set slots p s) (set xs p v) (stand_at m s) (stand_in_of s.zone w) w (stands_in s.zone w).within (zip_set_both IsWithinSlot slots xs p s v c.within a.within);
  }

  pub near_after : (most : ℕ) → IsNear 200000 less → StandInsNear most m xs → StandInsNear (most + 200000) m (amounts_after m xs p s v w)
  near_after most small near z l = elim (cases_eq z s.zone) [
    | inl e ↦ subst (λ (y : ℕ). IsNear (most + 200000) (int_at (amounts_after m xs p s v w) (length m.orders + y))) (sym e)
        (subst (λ (x : ℤ). IsNear (most + 200000) x) (sym (two_second xs p (stand_at m s) v w (pos 0) (omega (arith, long, there))))
        (near_more most 200000 (most + 200000) (int_at xs (stand_at m s)) less w (near s.zone c.fits.fine.zone) small c.stood_in (omega arith)))
    | inr other ↦
        let first : length m.orders + z ≢ p = omega (arith, c.there) in
        let second : length m.orders + z ≢ stand_at m s = omega arith in
        subst (λ (x : ℤ). IsNear (most + 200000) x) (sym (two_others xs p (stand_at m s) (length m.orders + z) v w (pos 0) first second))
        (near_wider most (most + 200000) (int_at xs (length m.orders + z)) (near z l) (omega arith))
  ]

  pub amounts_after_others : (k : ℕ) → k < length m.orders → k ≢ p → int_at (amounts_after m xs p s v w) k ≡ int_at xs k
  amounts_after_others k l other = let apart : k ≢ stand_at m s = omega arith in two_others xs p (stand_at m s) k v w (pos 0) other apart

-- what an amount loses that goes from one slot of an order to another
pub small_loss : (m : Market) (slots : List Slot) (xs : List ℤ) (p : ℕ) (s : Slot) (less : ℤ) → AreFilled m slots xs → p < length m.orders → FitsOrder m.zones (order_at m p) s
    → IsWithinSlot s (int_at xs p -ℤ less) → IsNear 200000 less
small_loss m slots xs p s less a l fits w =
    let old = (a.orders p l).fine in
    let now = AllZip-at IsWithinSlot slots xs p no_slot (pos 0) (omega (arith, a.long, l)) a.within in
    record { low = omega (arith, ints, old.low, now.least, w.most, fits.fine.high); high = omega (arith, ints, old.high, now.most, w.least, fits.fine.low) }

pub small_order : (m : Market) (slots : List Slot) (xs : List ℤ) (p : ℕ) → AreFilled m slots xs → p < length m.orders → IsNear 200000 (int_at xs p)
small_order m slots xs p a l =
    let old = (a.orders p l).fine in
    let now = AllZip-at IsWithinSlot slots xs p no_slot (pos 0) (omega (arith, a.long, l)) a.within in
    record { low = omega (arith, ints, old.low, now.least); high = omega (arith, ints, old.high, now.most) }

-- where what stands in is not far from 0, the nearest amount makes such a change
pub change_is : (m : Market) (slots : List Slot) (xs mid : List ℤ) (p : ℕ) (s : Slot) (less : ℤ) → AreFilled m slots xs → StandInsNear 2000000000 m xs → p < length m.orders
    → FitsOrder m.zones (order_at m p) s → s.zone ≡ zone_of slots p → IsWithinSlot s (int_at xs p -ℤ less) → mid ≡ set xs p (int_at xs p -ℤ less)
    → IsChange m slots xs p s (int_at xs p -ℤ less) (int_at mid (stand_at m s) +ℤ less) less
change_is m slots xs mid p s less a near l fits zone within e =
    let apart : stand_at m s ≢ p = omega (arith, l) in
    let stood : int_at mid (stand_at m s) ≡ int_at xs (stand_at m s) = ap (λ (ys : List ℤ). int_at ys (stand_at m s)) e ∙ get_or-set_other xs p (stand_at m s) (int_at xs p -ℤ less) (pos 0) apart in
    let small = small_loss m slots xs p s less a l fits within in
    let before = near s.zone fits.fine.zone in
    record {
      there = l;
      fits = fits;
      zone = zone;
      within = within;
      lost = refl;
      stood_in = ap (λ (x : ℤ). x +ℤ less) stood;
      near = record { low = omega (arith, ints, stood, small.low, before.low); high = omega (arith, ints, stood, small.high, before.high) };
    }

-- ---- the gains are small

pub small_at : (m : Market) (slots : List Slot) (xs : List ℤ) (k : ℕ) → AreFilled m slots xs → k < length slots
    → (neg_ℤ (pos (20000000 * 1099511627776)) ≤ℤ gain_at slots xs k) × (gain_at slots xs k ≤ℤ pos (20000000 * 1099511627776))
small_at m slots xs k a l = small_gain (slot_at slots k) (int_at xs k) (a.network k no_slot l).small (AllZip-at IsWithinSlot slots xs k no_slot (pos 0) l a.within)

pub stand_there : (m : Market) (slots : List Slot) (xs : List ℤ) (k : ℕ) → AreFilled m slots xs → k < length m.orders → length m.orders + zone_of slots k < length slots
stand_there m slots xs k a l = omega (arith, a.long, (a.orders k l).fine.zone)

pub small_joint : (m : Market) (slots : List Slot) (xs : List ℤ) (k : ℕ) → AreFilled m slots xs → k < length m.orders
    → (neg_ℤ (pos (40000000 * 1099511627776)) ≤ℤ joint_gain m slots xs k) × (joint_gain m slots xs k ≤ℤ pos (40000000 * 1099511627776))
small_joint m slots xs k a l =
    let first = small_at m slots xs k a (omega (arith, a.long, l)) in
    let second = small_at m slots xs (length m.orders + zone_of slots k) a (stand_there m slots xs k a l) in
    (omega (arith, ints, first.0, second.0), omega (arith, ints, first.1, second.1))

-- what all is worth then fits
pub filled_worth : (m : Market) (slots : List Slot) (xs : List ℤ) → IsValid m → AreFilled m slots xs → FitsSigned w128 (sum_along slot_gain slots xs)
filled_worth m slots xs v a = worth_fits slots xs (λ k d l. (a.network k d l).small) a.within (omega (arith, a.long, v.few_orders, v.zones.1))

-- what runs after a change
pub record IsChanged (m : Market) (p : ℕ) (s : Slot) (slots new : List Slot) (xs ys : List ℤ) : Type 0 where
  pub filled : AreFilled m new ys
  pub near : (most : ℕ) → StandInsNear most m xs → StandInsNear (most + 200000) m ys
  pub into : (z : ℕ) → sum_along (slot_into z) new ys ≡ sum_along (slot_into z) slots xs
  pub worth : sum_along slot_gain new ys +ℤ joint_gain m slots xs p ≡ sum_along slot_gain slots xs +ℤ joint_gain m new ys p
  pub here : slot_at new p ≡ s
  pub others : (k : ℕ) → k < length m.orders → k ≢ p → slot_at new k ≡ slot_at slots k
  pub zones : (k : ℕ) → zone_of new k ≡ zone_of slots k
  pub amounts : (k : ℕ) → k < length m.orders → k ≢ p → int_at ys k ≡ int_at xs k

changed : (m : Market) (slots new : List Slot) (xs ys : List ℤ) (p : ℕ) (s : Slot) (v w less : ℤ) → AreFilled m slots xs → IsChange m slots xs p s v w less
    → IsNear 200000 less → new ≡ slots_after m slots p s w → ys ≡ amounts_after m xs p s v w
    → IsChanged m p s slots new xs ys
changed m slots new xs ys p s v w less a c small e f =
    subst (λ (ss : List Slot). IsChanged m p s slots ss xs ys) (sym e)
    (subst (λ (zs : List ℤ). IsChanged m p s slots (slots_after m slots p s w) xs zs) (sym f) (record {
      filled = filled_after m slots xs p s v w less a c;
      near = λ most near. near_after m slots xs p s v w less a c most small near;
      into = into_after m slots xs p s v w less a c;
      worth = worth_after m slots xs p s v w less a c;
      here = here_after m slots xs p s v w less a c;
      others = others_after m slots xs p s v w less a c;
      zones = zones_after m slots xs p s v w less a c;
      amounts = amounts_after_others m slots xs p s v w less a c;
    }))

-- the same of lists that were changed one after the other
pub change_made : (m : Market) (slots mid_slots new : List Slot) (xs mid ys : List ℤ) (p q : ℕ) (s : Slot) (less : ℤ) → AreFilled m slots xs → StandInsNear 2000000000 m xs
    → p < length m.orders → FitsOrder m.zones (order_at m p) s → s.zone ≡ zone_of slots p → IsWithinSlot s (int_at xs p -ℤ less)
    → q ≡ stand_at m s → mid_slots ≡ set slots p s → mid ≡ set xs p (int_at xs p -ℤ less)
    → new ≡ set mid_slots q (stand_in_of s.zone (int_at mid q +ℤ less)) → ys ≡ set mid q (int_at mid q +ℤ less)
    → IsChanged m p s slots new xs ys
change_made m slots mid_slots new xs mid ys p q s less a near l fits zone within e f g to_slots to_amounts =
    changed m slots new xs ys p s (int_at xs p -ℤ less) (int_at mid (stand_at m s) +ℤ less) less a (change_is m slots xs mid p s less a near l fits zone within g)
    (small_loss m slots xs p s less a l fits within)
    (subst (λ (j : ℕ). new ≡ set (set slots p s) j (stand_in_of s.zone (int_at mid j +ℤ less))) e (to_slots ∙ ap (λ (ss : List Slot). set ss q (stand_in_of s.zone (int_at mid q +ℤ less))) f))
    (subst (λ (j : ℕ). ys ≡ set (set xs p (int_at xs p -ℤ less)) j (int_at mid j +ℤ less)) e (to_amounts ∙ ap (λ (zs : List ℤ). set zs q (int_at mid q +ℤ less)) g))

-- what stands in is as before where the order's amount changed
pub stood_before : (m : Market) (xs mid : List ℤ) (p q most : ℕ) (s : Slot) (v : ℤ) → p < length m.orders → s.zone < m.zones → StandInsNear most m xs → q ≡ stand_at m s → mid ≡ set xs p v
    → IsNear most (int_at mid q)
stood_before m xs mid p q most s v l there near e f =
    let apart : stand_at m s ≢ p = omega (arith, l) in
    subst (λ (x : ℤ). IsNear most x) (sym (ap (int_at mid) e ∙ ap (λ (zs : List ℤ). int_at zs (stand_at m s)) f ∙ get_or-set_other xs p (stand_at m s) v (pos 0) apart)) (near s.zone there)

-- ---- two slots that are found to be the same

both : (a b : Bool) → (a && b) ≡ true → (a ≡ true) × (b ≡ true)
both true b e = (refl, e)
both false b e = absurd (false≢true e)

pub same_slot : (a b : Slot) → (eqb a.zone b.zone && (int_eq a.price b.price && (int_eq a.low b.low && int_eq a.high b.high))) ≡ true → a ≡ b
same_slot a b e =
    let first = both (eqb a.zone b.zone) (int_eq a.price b.price && (int_eq a.low b.low && int_eq a.high b.high)) e in
    let second = both (int_eq a.price b.price) (int_eq a.low b.low && int_eq a.high b.high) first.1 in
    let third = both (int_eq a.low b.low) (int_eq a.high b.high) second.1 in
    let by_zone : ℕ → Slot = λ z. record { zone = z; price = a.price; low = a.low; high = a.high } in
    let by_price : ℤ → Slot = λ p. record { zone = b.zone; price = p; low = a.low; high = a.high } in
    let by_low : ℤ → Slot = λ l. record { zone = b.zone; price = b.price; low = l; high = a.high } in
    let by_high : ℤ → Slot = λ h. record { zone = b.zone; price = b.price; low = b.low; high = h } in
    ap by_zone (eqb-true a.zone b.zone first.0)
    ∙ ap by_price ((Decides-int_eq a.price b.price).0 second.0) ∙ ap by_low ((Decides-int_eq a.low b.low).0 third.0) ∙ ap by_high ((Decides-int_eq a.high b.high).0 third.1)

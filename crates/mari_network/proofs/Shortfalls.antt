-- Where a zone can't be balanced, the zones of the least or greatest price are a cut.
use Rattle.std.proofs.Common.{◌&&◌, not, ◌≡◌, if◌then◌else◌, Bool, true, false, ℕ, zero, suc, ◌<◌, ℤ, pos, ◌+ℤ◌, ◌-ℤ◌, ◌*ℤ◌, neg_ℤ, ◌≤ℤ◌, ◌<ℤ◌, List, [], ◌∷◌, ◌++◌, length, get_or, arith, refl, sym, ap, ◌∙◌, inl, inr}
use Rattle.std.proofs.lemmas.Int.{ints, by_lt_z}
use Rattle.std.specs.List.{All, AllZip}
use Rattle.mari_market.specs.declared.market.Border.{Border}
use Rattle.mari_market.specs.Sums.{int_sum, sum_along}
use Rattle.mari_market.specs.Activation.{carried_out, IsWithinLimits}
use Rattle.mari_market.proofs.Sums.{sum_below-same, sum_below-place, spread, sum_along-same, AllZip-both, int_sum-neg, AllZip-at}
use Rattle.mari_network.specs.declared.slots.Slot.{Slot}
use Rattle.mari_network.specs.Slots.{slot_into, IsWithinSlot, IsTightSlot}
use Rattle.mari_market.specs.Consistent.{IsConsistentFlow}
use Rattle.mari_network.specs.Orders.{IsStandIn}
use Rattle.mari_market.proofs.Duality.{cost_at, cost_spread}

-- what slots are paid, where each zone has a number
abbrev pub paid_slot : (ℕ → ℤ) → Slot → ℤ → ℤ
paid_slot p s x = p s.zone *ℤ x

pub paid_is_cost : (p : ℕ → ℤ) (n : ℕ) (slots : List Slot) (xs : List ℤ) (bs : List Border) (fs : List ℤ)
    → All (λ (s : Slot). s.zone < n) slots → All (λ (b : Border). (b.from < n) × (b.to < n)) bs
    → ((z : ℕ) → z < n → sum_along (slot_into z) slots xs ≡ sum_along (carried_out z) bs fs)
    → sum_along (paid_slot p) slots xs ≡ sum_along (cost_at p) bs fs
paid_is_cost p n slots xs bs fs zones ends balance =
    spread p n (paid_slot p) slot_into (λ s. s.zone < n) (λ s x l. sym (sum_below-place p s.zone x n l)) slots xs zones
    ∙ sum_below-same n _ _ (λ z l. ap (λ (x : ℤ). p z *ℤ x) (balance z l))
    ∙ sym (cost_spread p n bs fs ends)

pub sum_along-append : {X Y : Type 0} (f : X → Y → ℤ) (ss rs : List X) (xs ys : List Y) → length ss ≡ length xs → sum_along f (ss ++ rs) (xs ++ ys) ≡ sum_along f ss xs +ℤ sum_along f rs ys
sum_along-append f [] rs [] ys e = omega (arith, ints)
sum_along-append f (s ∷ ss) rs (x ∷ xs) ys e = omega (arith, ints, sum_along-append f ss rs xs ys (omega arith))
sum_along-append f _ rs _ ys e = grind arith

-- 1 in the set, 0 elsewhere
abbrev pub counts : Bool → ℤ
counts b = if b then pos 1 else pos 0

-- where each term is at most 0, and one is less, so is the sum
sum_at_most : {X Y : Type 0} (f : X → Y → ℤ) (xs : List X) (ys : List Y) → AllZip (λ x y. f x y ≤ℤ pos 0) xs ys → sum_along f xs ys ≤ℤ pos 0
sum_at_most f (x ∷ xs) (y ∷ ys) a = omega (arith, ints, a.0, sum_at_most f xs ys a.1)
sum_at_most f _ _ a = omega (arith, ints)

sum_below_none : {X Y : Type 0} (f : X → Y → ℤ) (xs : List X) (ys : List Y) (k : ℕ) (d : X) (e : Y)
    → AllZip (λ x y. f x y ≤ℤ pos 0) xs ys → k < length xs → f (get_or xs k d) (get_or ys k e) <ℤ pos 0
    → sum_along f xs ys <ℤ pos 0
sum_below_none f (x ∷ xs) (y ∷ ys) zero d e a h l = omega (arith, ints, l, sum_at_most f xs ys a.1)
sum_below_none f (x ∷ xs) (y ∷ ys) (suc k) d e a h l = omega (arith, ints, a.0, sum_below_none f xs ys k d e a.1 (omega arith) l)
sum_below_none f _ _ k d e a h l = omega arith

sum_at_least : {X Y : Type 0} (f : X → Y → ℤ) (xs : List X) (ys : List Y) → AllZip (λ x y. pos 0 ≤ℤ f x y) xs ys → pos 0 ≤ℤ sum_along f xs ys
sum_at_least f (x ∷ xs) (y ∷ ys) a = omega (arith, ints, a.0, sum_at_least f xs ys a.1)
sum_at_least f _ _ a = omega (arith, ints)

sum_above_none : {X Y : Type 0} (f : X → Y → ℤ) (xs : List X) (ys : List Y) (k : ℕ) (d : X) (e : Y)
    → AllZip (λ x y. pos 0 ≤ℤ f x y) xs ys → k < length xs → pos 0 <ℤ f (get_or xs k d) (get_or ys k e)
    → pos 0 <ℤ sum_along f xs ys
sum_above_none f (x ∷ xs) (y ∷ ys) zero d e a h l = omega (arith, ints, l, sum_at_least f xs ys a.1)
sum_above_none f (x ∷ xs) (y ∷ ys) (suc k) d e a h l = omega (arith, ints, a.0, sum_above_none f xs ys k d e a.1 (omega arith) l)
sum_above_none f _ _ k d e a h l = omega arith

pub zip_map : {X Y : Type 0} (P Q : X → Y → Type 0) → ((x : X) (y : Y) → P x y → Q x y) → (xs : List X) (ys : List Y) → AllZip P xs ys → AllZip Q xs ys
zip_map P Q h (x ∷ xs) (y ∷ ys) a = (h x y a.0, zip_map P Q h xs ys a.1)
zip_map P Q h _ _ a = grind arith

-- what is known of a slot with its amount, and of a border with its flow
pub record RunsSlot (n : ℕ) (p : ℕ → ℤ) (s : Slot) (x : ℤ) : Type 0 where
  pub zone : s.zone < n
  pub within : IsWithinSlot s x
  pub tight : IsTightSlot p s x

pub record RunsFlow (n : ℕ) (p : ℕ → ℤ) (b : Border) (f : ℤ) : Type 0 where
  pub from : b.from < n
  pub to : b.to < n
  pub within : IsWithinLimits b f
  pub tight : IsConsistentFlow p b f

-- a slot of an order, dearer than the least price and cheaper than the greatest
pub record IsReal (m : ℤ) (s : Slot) : Type 0 where
  pub above : neg_ℤ m <ℤ s.price
  pub below : s.price <ℤ m

-- ---- the least prices

-- a set of zones is those of the least price
pub record AreLowest (n : ℕ) (m : ℤ) (p : ℕ → ℤ) (inside : ℕ → Bool) : Type 0 where
  pub yes : (z : ℕ) → z < n → inside z ≡ true → p z ≤ℤ neg_ℤ m
  pub no : (z : ℕ) → z < n → inside z ≡ false → neg_ℤ m <ℤ p z

abbrev pub least_in : (ℕ → Bool) → Slot → ℤ
least_in inside s = if inside s.zone then s.low else pos 0

abbrev pub out_of : (ℕ → Bool) → Border → ℤ
out_of inside b = (if inside b.from && not (inside b.to) then pos b.limit else pos 0) +ℤ (if not (inside b.from) && inside b.to then pos b.back else pos 0)

low_slot : (b : Bool) (m p low x price : ℤ) → (b ≡ true → p ≤ℤ neg_ℤ m) → neg_ℤ m <ℤ price → low ≤ℤ x → (low <ℤ x → price ≤ℤ p) → (counts b *ℤ x) ≡ (if b then low else pos 0)
low_slot b m p low x price i c w t = grind (arith, ints)

low_stand_in : (b : Bool) (m p x : ℤ) (s : Slot) → pos 0 <ℤ m → IsStandIn m s → (b ≡ true → p ≤ℤ neg_ℤ m) → IsWithinSlot s x → (s.low <ℤ x → s.price ≤ℤ p) → (counts b *ℤ x) ≤ℤ pos 0
low_stand_in true m p x s h e i w t = elim e [
  | inl d ↦ omega (arith, ints, d.1, w.most)
  | inr d ↦ by_lt_z (pos 0) x (λ l. absurd (omega (arith, ints, d.0, t (omega (arith, ints, d.1)), i refl))) (λ l. omega (arith, ints))
]
low_stand_in false m p x s h e i w t = omega (arith, ints)

low_short : (b : Bool) (m p x : ℤ) (s : Slot) → IsStandIn m s → (b ≡ false → neg_ℤ m <ℤ p) → IsWithinSlot s x → (x <ℤ s.high → p ≤ℤ s.price) → x <ℤ pos 0 → (counts b *ℤ x) <ℤ pos 0
low_short true m p x s e o w t l = omega (arith, ints)
low_short false m p x s e o w t l = elim e [
  | inl d ↦ absurd (omega (arith, ints, d.0, t (omega (arith, ints, d.1)), o refl))
  | inr d ↦ absurd (omega (arith, ints, d.1, w.least))
]

low_flow : (a b : Bool) (m pa pb f : ℤ) (limit back : ℕ) → (a ≡ true → pa ≤ℤ neg_ℤ m) → (a ≡ false → neg_ℤ m <ℤ pa)
    → (b ≡ true → pb ≤ℤ neg_ℤ m) → (b ≡ false → neg_ℤ m <ℤ pb) → neg_ℤ (pos back) ≤ℤ f → f ≤ℤ pos limit
    → (f <ℤ pos limit → pb ≤ℤ pa) → (neg_ℤ (pos back) <ℤ f → pa ≤ℤ pb)
    → ((counts a *ℤ f) -ℤ (counts b *ℤ f)) ≡ ((if a && not b then pos limit else pos 0) +ℤ (if not a && b then pos back else pos 0))
low_flow true false m pa pb f limit back ai ao bi bo l h more less = by_lt_z f (pos limit) (λ r. absurd (omega (arith, ints, more r, ai refl, bo refl))) (λ r. omega (arith, ints))
low_flow false true m pa pb f limit back ai ao bi bo l h more less = by_lt_z (neg_ℤ (pos back)) f (λ r. absurd (omega (arith, ints, less r, ao refl, bi refl))) (λ r. omega (arith, ints))
low_flow _ _ m pa pb f limit back ai ao bi bo l h more less = omega (arith, ints)

-- too much energy in these zones
pub shortfall_out : (n : ℕ) (m : ℤ) (p : ℕ → ℤ) (inside : ℕ → Bool) (reals stand_ins : List Slot) (xs ws : List ℤ) (bs : List Border) (fs : List ℤ) (k : ℕ) (d : Slot)
    → pos 0 <ℤ m → AreLowest n m p inside
    → AllZip (RunsSlot n p) reals xs → AllZip (λ s x. IsReal m s) reals xs → AllZip (RunsSlot n p) stand_ins ws → AllZip (λ s x. IsStandIn m s) stand_ins ws → AllZip (RunsFlow n p) bs fs
    → (sum_along (paid_slot (λ z. counts (inside z))) reals xs +ℤ sum_along (paid_slot (λ z. counts (inside z))) stand_ins ws) ≡ sum_along (cost_at (λ z. counts (inside z))) bs fs
    → k < length stand_ins → get_or ws k (pos 0) <ℤ pos 0
    → int_sum (out_of inside) bs <ℤ int_sum (least_in inside) reals
shortfall_out n m p inside reals stand_ins xs ws bs fs k d h low rs real es are flows paid there short =
    let zone : (s : Slot) (x : ℤ) → RunsSlot n p s x → IsReal m s → paid_slot (λ z. counts (inside z)) s x ≡ least_in inside s =
    λ s x r c. low_slot (inside s.zone) m (p s.zone) s.low x s.price (low.yes s.zone r.zone) c.above r.within.least r.tight.less in
    let a = sum_along-same (paid_slot (λ z. counts (inside z))) (least_in inside) reals xs (AllZip-both (RunsSlot n p) (λ s x. IsReal m s) _ zone reals xs rs real) in
    let b = sum_along-same (cost_at (λ z. counts (inside z))) (out_of inside) bs fs (zip_map (RunsFlow n p) _ (λ b f r. low_flow (inside b.from) (inside b.to) m (p b.from) (p b.to) f b.limit b.back
    (low.yes b.from r.from) (low.no b.from r.from) (low.yes b.to r.to) (low.no b.to r.to) r.within.back r.within.limit r.tight.more r.tight.less) bs fs flows) in
    let none : AllZip (λ s x. paid_slot (λ z. counts (inside z)) s x ≤ℤ pos 0) stand_ins ws =
    AllZip-both (RunsSlot n p) (λ s x. IsStandIn m s) _ (λ s x r e. low_stand_in (inside s.zone) m (p s.zone) x s h e (low.yes s.zone r.zone) r.within r.tight.less) stand_ins ws es are in
    let one = AllZip-at (RunsSlot n p) stand_ins ws k d (pos 0) there es in
    let kind = AllZip-at (λ (s : Slot) (x : ℤ). IsStandIn m s) stand_ins ws k d (pos 0) there are in
    let less = low_short (inside (get_or stand_ins k d).zone) m (p (get_or stand_ins k d).zone) (get_or ws k (pos 0)) (get_or stand_ins k d) kind
    (low.no (get_or stand_ins k d).zone one.zone) one.within one.tight.more short in
    omega (arith, ints, a, b, paid, sum_below_none (paid_slot (λ z. counts (inside z))) stand_ins ws k d (pos 0) none there less)

-- ---- the greatest prices

pub record AreHighest (n : ℕ) (m : ℤ) (p : ℕ → ℤ) (inside : ℕ → Bool) : Type 0 where
  pub yes : (z : ℕ) → z < n → inside z ≡ true → m ≤ℤ p z
  pub no : (z : ℕ) → z < n → inside z ≡ false → p z <ℤ m

abbrev pub most_in_slot : (ℕ → Bool) → Slot → ℤ
most_in_slot inside s = if inside s.zone then s.high else pos 0

abbrev pub into_of : (ℕ → Bool) → Border → ℤ
into_of inside b = (if inside b.from && not (inside b.to) then pos b.back else pos 0) +ℤ (if not (inside b.from) && inside b.to then pos b.limit else pos 0)

high_slot : (b : Bool) (m p high x price : ℤ) → (b ≡ true → m ≤ℤ p) → price <ℤ m → x ≤ℤ high → (x <ℤ high → p ≤ℤ price) → (counts b *ℤ x) ≡ (if b then high else pos 0)
high_slot b m p high x price i c w t = grind (arith, ints)

high_stand_in : (b : Bool) (m p x : ℤ) (s : Slot) → pos 0 <ℤ m → IsStandIn m s → (b ≡ true → m ≤ℤ p) → IsWithinSlot s x → (x <ℤ s.high → p ≤ℤ s.price) → pos 0 ≤ℤ (counts b *ℤ x)
high_stand_in true m p x s h e i w t = elim e [
  | inl d ↦ by_lt_z x (pos 0) (λ l. absurd (omega (arith, ints, d.0, t (omega (arith, ints, d.1)), i refl))) (λ l. omega (arith, ints))
  | inr d ↦ omega (arith, ints, d.1, w.least)
]
high_stand_in false m p x s h e i w t = omega (arith, ints)

high_short : (b : Bool) (m p x : ℤ) (s : Slot) → IsStandIn m s → (b ≡ false → p <ℤ m) → IsWithinSlot s x → (s.low <ℤ x → s.price ≤ℤ p) → pos 0 <ℤ x → pos 0 <ℤ (counts b *ℤ x)
high_short true m p x s e o w t l = omega (arith, ints)
high_short false m p x s e o w t l = elim e [
  | inl d ↦ absurd (omega (arith, ints, d.1, w.most))
  | inr d ↦ absurd (omega (arith, ints, d.0, t (omega (arith, ints, d.1)), o refl))
]

high_flow : (a b : Bool) (m pa pb f : ℤ) (limit back : ℕ) → (a ≡ true → m ≤ℤ pa) → (a ≡ false → pa <ℤ m)
    → (b ≡ true → m ≤ℤ pb) → (b ≡ false → pb <ℤ m) → neg_ℤ (pos back) ≤ℤ f → f ≤ℤ pos limit
    → (f <ℤ pos limit → pb ≤ℤ pa) → (neg_ℤ (pos back) <ℤ f → pa ≤ℤ pb)
    → ((counts a *ℤ f) -ℤ (counts b *ℤ f)) ≡ neg_ℤ ((if a && not b then pos back else pos 0) +ℤ (if not a && b then pos limit else pos 0))
high_flow true false m pa pb f limit back ai ao bi bo l h more less = by_lt_z (neg_ℤ (pos back)) f (λ r. absurd (omega (arith, ints, less r, ai refl, bo refl))) (λ r. omega (arith, ints))
high_flow false true m pa pb f limit back ai ao bi bo l h more less = by_lt_z f (pos limit) (λ r. absurd (omega (arith, ints, more r, ao refl, bi refl))) (λ r. omega (arith, ints))
high_flow _ _ m pa pb f limit back ai ao bi bo l h more less = omega (arith, ints)

-- too little energy in these zones
pub shortfall_in : (n : ℕ) (m : ℤ) (p : ℕ → ℤ) (inside : ℕ → Bool) (reals stand_ins : List Slot) (xs ws : List ℤ) (bs : List Border) (fs : List ℤ) (k : ℕ) (d : Slot)
    → pos 0 <ℤ m → AreHighest n m p inside
    → AllZip (RunsSlot n p) reals xs → AllZip (λ s x. IsReal m s) reals xs → AllZip (RunsSlot n p) stand_ins ws → AllZip (λ s x. IsStandIn m s) stand_ins ws → AllZip (RunsFlow n p) bs fs
    → (sum_along (paid_slot (λ z. counts (inside z))) reals xs +ℤ sum_along (paid_slot (λ z. counts (inside z))) stand_ins ws) ≡ sum_along (cost_at (λ z. counts (inside z))) bs fs
    → k < length stand_ins → pos 0 <ℤ get_or ws k (pos 0)
    → int_sum (most_in_slot inside) reals <ℤ neg_ℤ (int_sum (into_of inside) bs)
shortfall_in n m p inside reals stand_ins xs ws bs fs k d h high rs real es are flows paid there short =
    let zone : (s : Slot) (x : ℤ) → RunsSlot n p s x → IsReal m s → paid_slot (λ z. counts (inside z)) s x ≡ most_in_slot inside s =
    λ s x r c. high_slot (inside s.zone) m (p s.zone) s.high x s.price (high.yes s.zone r.zone) c.below r.within.most r.tight.more in
    let a = sum_along-same (paid_slot (λ z. counts (inside z))) (most_in_slot inside) reals xs (AllZip-both (RunsSlot n p) (λ s x. IsReal m s) _ zone reals xs rs real) in
    let b = sum_along-same (cost_at (λ z. counts (inside z))) (λ b. neg_ℤ (into_of inside b)) bs fs (zip_map (RunsFlow n p) _ (λ b f r. high_flow (inside b.from) (inside b.to) m (p b.from)
    (p b.to) f b.limit b.back (high.yes b.from r.from) (high.no b.from r.from) (high.yes b.to r.to) (high.no b.to r.to) r.within.back r.within.limit r.tight.more r.tight.less) bs fs flows) in
    let none : AllZip (λ s x. pos 0 ≤ℤ paid_slot (λ z. counts (inside z)) s x) stand_ins ws =
    AllZip-both (RunsSlot n p) (λ s x. IsStandIn m s) _ (λ s x r e. high_stand_in (inside s.zone) m (p s.zone) x s h e (high.yes s.zone r.zone) r.within r.tight.more) stand_ins ws es are in
    let one = AllZip-at (RunsSlot n p) stand_ins ws k d (pos 0) there es in
    let kind = AllZip-at (λ (s : Slot) (x : ℤ). IsStandIn m s) stand_ins ws k d (pos 0) there are in
    let more = high_short (inside (get_or stand_ins k d).zone) m (p (get_or stand_ins k d).zone) (get_or ws k (pos 0)) (get_or stand_ins k d) kind
    (high.no (get_or stand_ins k d).zone one.zone) one.within one.tight.less short in
    omega (arith, ints, a, b, paid, int_sum-neg (into_of inside) bs, sum_above_none (paid_slot (λ z. counts (inside z))) stand_ins ws k d (pos 0) none there more)

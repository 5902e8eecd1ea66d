-- The dual value by a survey: plain orders by levels, and orders of gates.
use Rattle.std.proofs.Common.{◌≡◌, ◌∙◌, ◌||◌, not, if◌then◌else◌, Bool, true, false, ℕ, suc, ◌+◌, ◌≤◌, ◌<◌, ℤ, pos, ◌+ℤ◌, ◌-ℤ◌, ◌*ℤ◌, ◌≤ℤ◌, ◌<ℤ◌, List, [], ◌∷◌, length, Option, Some, None, arith, ap, refl, sym, subst, inl, inr, w64, to_z, of_z, neg_ℤ, ◌*◌}
use Rattle.std.proofs.lemmas.Int.{ints, clamps, by_lt_z, fits_signed_from_abs, to_z-of_z}
use Rattle.std.proofs.lemmas.Bool.{cases_lt}
use Rattle.std.proofs.lemmas.List.Elements.{All-cons, All-nil, All-weaker}
use Rattle.std.specs.Int.{int_max, int_min}
use Rattle.std.specs.List.{All, filter}
use Rattle.std.specs.Option.{is_some}
use Rattle.std.specs.Prelude.{MatchOption}
use lib.Signed.{lt_z}
use Rattle.mari_units.specs.declared.numbers.Cents.{Cents}
use Rattle.mari_units.specs.declared.limits.TheConstants.{MOST_BORDERS}
use Rattle.mari_units.specs.declared.numbers.TheConstants.{CAP}
use Rattle.mari_market.specs.declared.limits.TheConstants.{MOST_ORDERS, MOST_WORTH}
use Rattle.mari_market.specs.declared.market.Order.{Order}
use Rattle.mari_market.specs.declared.market.Market.{Market}
use Rattle.mari_market.specs.declared.market.Side.{Side}
use Rattle.mari_market.specs.declared.market.Side.TheVariants.{Inject, Withdraw}
use Rattle.mari_market.specs.Dual.{best_order, gain_per_mw}
use Rattle.mari_market.specs.Market.{IsValid, IsValidOrder}
use Rattle.mari_market.specs.Price.{price_at}
use Rattle.mari_market.specs.Sums.{int_at, int_sum}
use Rattle.mari_market.proofs.Rising.{is_less, not_less}
use Rattle.mari_reach.specs.declared.levels.Levels.{Levels}
use Rattle.mari_reach.specs.declared.states.State.{State}
use Rattle.mari_reach.specs.Tables.{has_gate, is_plain, span_in}
use Rattle.mari_reach.specs.Values.{inject_below, runs_at, runs_best, withdraw_above, HasLevels}
use Rattle.mari_reach.proofs.Plain.{best_is, is_not_less}

-- ---- levels say where a plain order runs in full

or_not : (a : Bool) (x y : ℤ) → (a ≡ false → y ≤ℤ x) → (a || not (lt_z x y)) ≡ true
or_not true x y h = refl
or_not false x y h = ap not (is_not_less x y (h refl))

neither : (a : Bool) (x y : ℤ) → a ≡ false → x <ℤ y → (a || not (lt_z x y)) ≡ false
neither true x y e h = absurd (cc)
neither false x y e h = ap not (is_less x y h)

-- whether a price is at the better side of its side's level is whether it runs in full
pub level_says : (side : Side) (c p low high : ℤ) → runs_at side c (inject_below p low high) (withdraw_above p low high) ≡ runs_best side c p low high
level_says Inject c p low high =
    by_lt_z c (inject_below p low high)
    (λ l. is_less c (inject_below p low high) l ∙ sym (or_not (lt_z c low) (int_min p high) c (λ e. omega (arith, ints, clamps, l, not_less c low e))))
    (λ l. is_not_less c (inject_below p low high) l ∙ sym (neither (lt_z c low) (int_min p high) c (is_not_less c low (omega (arith, ints, clamps, l))) (omega (arith, ints, clamps, l))))
level_says Withdraw c p low high =
    by_lt_z (withdraw_above p low high) c
    (λ l. is_less (withdraw_above p low high) c l ∙ sym (or_not (lt_z high c) c (int_max p low) (λ e. omega (arith, ints, clamps, l, not_less high c e))))
    (λ l. is_not_less (withdraw_above p low high) c l ∙ sym (neither (lt_z high c) c (int_max p low) (is_not_less high c (omega (arith, ints, clamps, l))) (omega (arith, ints, clamps, l))))

-- what a plain order gains at most by levels
pub best_by_levels : (r : State) (ps : List Cents) (levels : Levels) (o : Order) (p x gap : ℤ) (mw : ℕ) → HasLevels r ps levels → o.zone < length ps → o.gate ≡ None
    → p ≡ price_at ps o.zone → gap ≡ gain_per_mw o.side o.price.0 p
    → mw ≡ (if runs_at o.side o.price.0 (int_at levels.injects o.zone) (int_at levels.withdraws o.zone) then o.greatest else 0)
    → x ≡ gap *ℤ pos mw → x ≡ best_order (span_in r) ps o
best_by_levels r ps levels o p x gap mw h there plain e g test k =
    let low = int_at r.prices.low o.zone in
    let high = int_at r.prices.high o.zone in
    let price = price_at ps o.zone in
    best_is r ps o p x gap mw plain e g
    (test
    ∙ ap (λ (y : ℤ). if runs_at o.side o.price.0 y (int_at levels.withdraws o.zone) then o.greatest else 0) (h.injects o.zone there)
    ∙ ap (λ (y : ℤ). if runs_at o.side o.price.0 (inject_below price low high) y then o.greatest else 0) (h.withdraws o.zone there)
    ∙ ap (λ (b : Bool). if b then o.greatest else 0) (level_says o.side o.price.0 price low high)
    ∙ ap (λ (y : ℤ). if runs_best o.side o.price.0 y low high then o.greatest else 0) (sym e))
    k

-- ---- levels that are set zone by zone

pub set_more : (want was new : ℕ → ℤ) (i : ℕ) → ((z : ℕ) → z < i → was z ≡ want z) → new i ≡ want i → ((z : ℕ) → (z ≡ i → ⊥) → new z ≡ was z) → (z : ℕ) → z < i + 1 → new z ≡ want z
set_more want was new i done here others z l = elim (cases_lt z i) [
  | inl k ↦ others z (λ e. omega (arith, e, k)) ∙ done z k
  | inr k ↦ let e : i ≡ z = omega arith in subst (λ (j : ℕ). new j ≡ want j) e here
]

-- ---- plain orders and orders of gates

split_one : (f : Order → ℤ) (o : Order) (os : List Order) (g : Option ℕ) → o.gate ≡ g → int_sum f (filter is_plain os) +ℤ int_sum f (filter has_gate os) ≡ int_sum f os
    → int_sum f (filter is_plain (o ∷ os)) +ℤ int_sum f (filter has_gate (o ∷ os)) ≡ int_sum f (o ∷ os)
split_one f o os None e more =
    let plain : filter is_plain (o ∷ os) ≡ o ∷ filter is_plain os = ap (λ (b : Bool). if not b then o ∷ filter is_plain os else filter is_plain os) (ap is_some e) in
    let gated : filter has_gate (o ∷ os) ≡ filter has_gate os = ap (λ (b : Bool). if b then o ∷ filter has_gate os else filter has_gate os) (ap is_some e) in
    let a = ap (int_sum f) plain in
    let b = ap (int_sum f) gated in
    omega (arith, ints, a, b, more)
split_one f o os (Some g) e more =
    let plain : filter is_plain (o ∷ os) ≡ filter is_plain os = ap (λ (b : Bool). if not b then o ∷ filter is_plain os else filter is_plain os) (ap is_some e) in
    let gated : filter has_gate (o ∷ os) ≡ o ∷ filter has_gate os = ap (λ (b : Bool). if b then o ∷ filter has_gate os else filter has_gate os) (ap is_some e) in
    let a = ap (int_sum f) plain in
    let b = ap (int_sum f) gated in
    omega (arith, ints, a, b, more)

split : (f : Order → ℤ) (os : List Order) → int_sum f (filter is_plain os) +ℤ int_sum f (filter has_gate os) ≡ int_sum f os
split f [] = refl
split f (o ∷ os) = split_one f o os o.gate refl (split f os)

-- a sum over both is one over all
pub split_sum : (f : Order → ℤ) (os plain gated : List Order) (a b : ℤ) → plain ≡ filter is_plain os → gated ≡ filter has_gate os → a ≡ int_sum f plain → b ≡ int_sum f gated → a +ℤ b ≡ int_sum f os
split_sum f os plain gated a b p g x y =
    let one = x ∙ ap (int_sum f) p in
    let two = y ∙ ap (int_sum f) g in
    omega (arith, ints, one, two, split f os)

no_gate : (gate : Option ℕ) → not (is_some gate) ≡ true → gate ≡ None
no_gate None e = refl
no_gate (Some g) e = absurd (cc)

kept_plain : (o : Order) (os : List Order) (b : Bool) → is_plain o ≡ b → All (λ (x : Order). x.gate ≡ None) (filter is_plain os)
    → All (λ (x : Order). x.gate ≡ None) (if b then o ∷ filter is_plain os else filter is_plain os)
kept_plain o os true e more = All-cons (λ (x : Order). x.gate ≡ None) o (filter is_plain os) (no_gate o.gate e) more
kept_plain o os false e more = more

pub all_plain : (os : List Order) → All (λ (o : Order). o.gate ≡ None) (filter is_plain os)
all_plain [] = All-nil (λ (o : Order). o.gate ≡ None)
all_plain (o ∷ os) = kept_plain o os (is_plain o) refl (all_plain os)

kept_few : (p : Order → Bool) (o : Order) (os : List Order) (b : Bool) → length (filter p os) ≤ length os → length (if b then o ∷ filter p os else filter p os) ≤ suc (length os)
kept_few p o os true l = omega (arith, l)
kept_few p o os false l = omega (arith, l)

pub few_kept : (p : Order → Bool) (os : List Order) → length (filter p os) ≤ length os
few_kept p [] = omega arith
few_kept p (o ∷ os) = kept_few p o os (p o) (few_kept p os)

gate_fits : (gates : ℕ) (gate : Option ℕ) (least : ℕ) → gates ≤ 512 → MatchOption gate (least ≡ 0) (λ g. (g < gates) × (1 ≤ least)) → MatchOption gate (least ≡ 0) (λ g. (g < 512) × (1 ≤ least))
gate_fits gates None least few h = h
gate_fits gates (Some g) least few h = let l = h.0 in (omega (arith, l, few), h.1)

-- the orders of a valid market are valid for as many zones as there are, and for as many gates as there may be
pub valid_wide : (m : Market) (zones : ℕ) → zones ≡ m.zones → IsValid m → All (IsValidOrder zones 512) m.orders
valid_wide m zones e v =
    subst (λ (n : ℕ). All (IsValidOrder n 512) m.orders) (sym e)
    (All-weaker (IsValidOrder m.zones (length m.gates)) (IsValidOrder m.zones 512)
    (λ o h. record { zone = h.zone; price = h.price; in_order = h.in_order; small = h.small; gate = gate_fits (length m.gates) o.gate o.least v.few_gates h.gate }) m.orders v.orders)

-- and for as many zones as there may be
pub valid_widest : (m : Market) → IsValid m → All (IsValidOrder 64 512) m.orders
valid_widest m v =
    All-weaker (IsValidOrder m.zones 512) (IsValidOrder 64 512)
    (λ o h. record { zone = omega (arith, h.zone, v.zones.1); price = h.price; in_order = h.in_order; small = h.small; gate = h.gate }) m.orders (valid_wide m m.zones refl v)

-- three numbers that are small enough are summed without a loss
pub sum_of_three : (p g b orders borders : ℤ) → neg_ℤ (pos (4 * (MOST_WORTH * MOST_ORDERS) * 64)) ≤ℤ p → p ≤ℤ pos (4 * (MOST_WORTH * MOST_ORDERS) * 64)
    → neg_ℤ (pos (MOST_ORDERS * MOST_WORTH)) ≤ℤ g → g ≤ℤ pos (MOST_ORDERS * MOST_WORTH)
    → neg_ℤ (pos (MOST_BORDERS * MOST_WORTH)) ≤ℤ b → b ≤ℤ pos (MOST_BORDERS * MOST_WORTH) → p +ℤ g ≡ orders → b ≡ borders
    → to_z w64 (of_z w64 (to_z w64 (of_z w64 (to_z w64 (of_z w64 p) +ℤ to_z w64 (of_z w64 g))) +ℤ to_z w64 (of_z w64 b))) ≡ orders +ℤ borders
sum_of_three p g b orders borders pl ph gl gh bl bh e k =
    let one = to_z-of_z w64 p (fits_signed_from_abs w64 p (omega (arith, ints, pl, ph))) in
    let two = to_z-of_z w64 g (fits_signed_from_abs w64 g (omega (arith, ints, gl, gh))) in
    let three = to_z-of_z w64 b (fits_signed_from_abs w64 b (omega (arith, ints, bl, bh))) in
    let first = to_z-of_z w64 (to_z w64 (of_z w64 p) +ℤ to_z w64 (of_z w64 g))
    (fits_signed_from_abs w64 (to_z w64 (of_z w64 p) +ℤ to_z w64 (of_z w64 g)) (omega (arith, ints, one, two, pl, ph, gl, gh))) in
    let whole = to_z w64 (of_z w64 (to_z w64 (of_z w64 p) +ℤ to_z w64 (of_z w64 g))) +ℤ to_z w64 (of_z w64 b) in
    let last = to_z-of_z w64 whole (fits_signed_from_abs w64 whole (omega (arith, ints, one, two, three, first, pl, ph, gl, gh, bl, bh))) in
    omega (arith, ints, one, two, three, first, last, e, k)

-- ---- levels without a loss

abbrev stored : ℤ → ℤ
stored x = to_z w64 (of_z w64 x)

pub below_is : (p low high least best : ℤ) → stored p ≡ p → stored low ≡ low → stored high ≡ high → stored least ≡ least → stored best ≡ best → neg_ℤ (pos 9223372036854775808) ≤ℤ least → p ≤ℤ CAP
    → least ≡ int_min (stored p) (stored high) → best ≡ int_max (stored low) (stored (stored least +ℤ pos 1)) → stored best ≡ inject_below p low high
below_is p low high least best pe le he ne be bound cap e k =
    let next = to_z-of_z w64 (stored least +ℤ pos 1) (fits_signed_from_abs w64 (stored least +ℤ pos 1) (omega (arith, ints, clamps, pe, he, ne, bound, cap, e))) in
    omega (arith, ints, clamps, pe, le, he, ne, be, next, e, k)

pub above_is : (p low high greatest best : ℤ) → stored p ≡ p → stored low ≡ low → stored high ≡ high → stored greatest ≡ greatest → stored best ≡ best
    → greatest ≤ℤ pos 9223372036854775807 → neg_ℤ CAP ≤ℤ p
    → greatest ≡ int_max (stored p) (stored low) → best ≡ int_min (stored high) (stored (stored greatest -ℤ pos 1)) → stored best ≡ withdraw_above p low high
above_is p low high greatest best pe le he ne be bound cap e k =
    let next = to_z-of_z w64 (stored greatest -ℤ pos 1) (fits_signed_from_abs w64 (stored greatest -ℤ pos 1) (omega (arith, ints, clamps, pe, le, ne, bound, cap, e))) in
    omega (arith, ints, clamps, pe, le, he, ne, be, next, e, k)

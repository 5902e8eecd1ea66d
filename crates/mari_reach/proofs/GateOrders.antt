-- Orders of gates alone leave the same prices as all orders, and close the same gates.
use Rattle.std.proofs.Common.{◌≡◌, ◌==◌, ◌&&◌, ◌||◌, if◌then◌else◌, Bool, true, false, ℕ, ◌+◌, ◌<◌, ℤ, neg_ℤ, ◌≤ℤ◌, List, [], ◌∷◌, ◌++◌, length, map, take, get_or, Option, Some, None, arith, refl, sym, ap, ◌∙◌, subst, Vec, Global}
use Rattle.std.specs.Prelude.{IfOk, Result, Ok, Err}
use Rattle.std.proofs.lemmas.Int.{ints, clamps}
use Rattle.std.proofs.lemmas.List.{take_more}
use Rattle.std.proofs.lemmas.List.Elements.{All-filter, filter-append}
use Rattle.std.specs.Int.{int_max, int_min}
use Rattle.std.specs.List.{filter, fold}
use Rattle.std.specs.Option.{is_some}
use Rattle.mari_units.specs.declared.numbers.TheConstants.{CAP}
use Rattle.mari_market.specs.declared.market.Order.{Order}
use Rattle.mari_market.specs.declared.market.Market.{Market}
use Rattle.mari_market.specs.Activation.{is_gate}
use Rattle.mari_market.specs.Market.{IsValid, IsValidOrder}
use Rattle.mari_reach.specs.declared.prices.PriceBox.{PriceBox}
use Rattle.mari_reach.specs.State.{ceiling_at, ceiling_of, ceiling_said, floor_at, floor_of, floor_said, high_said, is_opened, low_said}
use Rattle.mari_reach.specs.Tables.{SpeaksFor, has_gate, has_loss_in, loses_in}
use Rattle.mari_reach.proofs.Ranges.{and_none, max_from, min_to}

-- what is kept of a first item, and of the others
kept : (o : Order) (os : List Order) (b : Bool) → is_some o.gate ≡ b → filter has_gate (o ∷ os) ≡ (if b then o ∷ filter has_gate os else filter has_gate os)
kept o os b e = ap (λ (x : Bool). if x then o ∷ filter has_gate os else filter has_gate os) e

low_one : (on : ℕ → Bool) (z : ℕ) (a : ℤ) (o : Order) (os : List Order) (g : Option ℕ) → o.gate ≡ g → neg_ℤ CAP ≤ℤ a
    → ((b : ℤ) → neg_ℤ CAP ≤ℤ b → fold int_max b (map (floor_at on z) (filter has_gate os)) ≡ fold int_max b (map (floor_at on z) os))
    → fold int_max a (map (floor_at on z) (filter has_gate (o ∷ os))) ≡ fold int_max a (map (floor_at on z) (o ∷ os))
low_one on z a o os None e l more =
    let none : floor_at on z o ≡ neg_ℤ CAP = ap (λ (b : Bool). floor_of b o.side o.price.0) (and_none (o.zone == z) (is_opened on o.gate) (ap (is_opened on) e)) in
    let same : int_max a (floor_at on z o) ≡ a = omega (arith, ints, clamps, none, l) in
    ap (λ (xs : List Order). fold int_max a (map (floor_at on z) xs)) (kept o os false (ap is_some e)) ∙ more a l
    ∙ ap (λ (x : ℤ). fold int_max x (map (floor_at on z) os)) (sym same)
low_one on z a o os (Some g) e l more =
    ap (λ (xs : List Order). fold int_max a (map (floor_at on z) xs)) (kept o os true (ap is_some e)) ∙ more (int_max a (floor_at on z o)) (omega (arith, ints, clamps, l))

low_gated : (on : ℕ → Bool) (z : ℕ) (a : ℤ) (os : List Order) → neg_ℤ CAP ≤ℤ a → fold int_max a (map (floor_at on z) (filter has_gate os)) ≡ fold int_max a (map (floor_at on z) os)
low_gated on z a [] l = refl
low_gated on z a (o ∷ os) l = low_one on z a o os o.gate refl l (λ b k. low_gated on z b os k)

high_one : (on : ℕ → Bool) (z : ℕ) (a : ℤ) (o : Order) (os : List Order) (g : Option ℕ) → o.gate ≡ g → a ≤ℤ CAP
    → ((b : ℤ) → b ≤ℤ CAP → fold int_min b (map (ceiling_at on z) (filter has_gate os)) ≡ fold int_min b (map (ceiling_at on z) os))
    → fold int_min a (map (ceiling_at on z) (filter has_gate (o ∷ os))) ≡ fold int_min a (map (ceiling_at on z) (o ∷ os))
high_one on z a o os None e l more =
    let none : ceiling_at on z o ≡ CAP = ap (λ (b : Bool). ceiling_of b o.side o.price.0) (and_none (o.zone == z) (is_opened on o.gate) (ap (is_opened on) e)) in
    let same : int_min a (ceiling_at on z o) ≡ a = omega (arith, ints, clamps, none, l) in
    ap (λ (xs : List Order). fold int_min a (map (ceiling_at on z) xs)) (kept o os false (ap is_some e)) ∙ more a l
    ∙ ap (λ (x : ℤ). fold int_min x (map (ceiling_at on z) os)) (sym same)
high_one on z a o os (Some g) e l more =
    ap (λ (xs : List Order). fold int_min a (map (ceiling_at on z) xs)) (kept o os true (ap is_some e)) ∙ more (int_min a (ceiling_at on z o)) (omega (arith, ints, clamps, l))

high_gated : (on : ℕ → Bool) (z : ℕ) (a : ℤ) (os : List Order) → a ≤ℤ CAP → fold int_min a (map (ceiling_at on z) (filter has_gate os)) ≡ fold int_min a (map (ceiling_at on z) os)
high_gated on z a [] l = refl
high_gated on z a (o ∷ os) l = high_one on z a o os o.gate refl l (λ b k. high_gated on z b os k)

loss_one : (box : PriceBox) (h : ℕ) (o : Order) (os : List Order) (g : Option ℕ) → o.gate ≡ g → has_loss_in box (filter has_gate os) h ≡ has_loss_in box os h
    → has_loss_in box (filter has_gate (o ∷ os)) h ≡ has_loss_in box (o ∷ os) h
loss_one box h o os None e more =
    ap (λ (xs : List Order). has_loss_in box xs h) (kept o os false (ap is_some e)) ∙ more
    ∙ ap (λ (b : Bool). (b && loses_in box o) || has_loss_in box os h) (sym (ap (is_gate h) e))
loss_one box h o os (Some g) e more =
    ap (λ (xs : List Order). has_loss_in box xs h) (kept o os true (ap is_some e)) ∙ ap (λ (b : Bool). (is_gate h o.gate && loses_in box o) || b) more

losses_gated : (box : PriceBox) (h : ℕ) (os : List Order) → has_loss_in box (filter has_gate os) h ≡ has_loss_in box os h
losses_gated box h [] = refl
losses_gated box h (o ∷ os) = loss_one box h o os o.gate refl (losses_gated box h os)

-- all orders of a market speak for it
pub all_speak : (m : Market) (os : List Order) → IsValid m → os ≡ m.orders → SpeaksFor m os
all_speak m os v e = subst (SpeaksFor m) (sym e) (record { valid = v.orders; low = λ on ds z. refl; high = λ on ds z. refl; losses = λ box g. refl })

-- and so do those of gates
pub gated_speak : (m : Market) (os gated : List Order) → IsValid m → os ≡ m.orders → gated ≡ filter has_gate os → SpeaksFor m gated
gated_speak m os gated v same e = subst (SpeaksFor m) (sym (e ∙ ap (filter has_gate) same)) (record {
  valid = All-filter has_gate (IsValidOrder m.zones (length m.gates)) m.orders v.orders;
  low = λ on ds z. low_gated on z (low_said ds z) m.orders (max_from (floor_said z) (neg_ℤ CAP) (neg_ℤ CAP) ds (omega (arith, ints)));
  high = λ on ds z. high_gated on z (high_said ds z) m.orders (min_to (ceiling_said z) CAP CAP ds (omega (arith, ints)));
  losses = λ box g. losses_gated box g m.orders;
})

-- the same of orders that memory may not have been there for
pub gated_if_any : {E : Type 0} (m : Market) (os : List Order) (r : Result (Vec Order Global) E) → IsValid m → os ≡ m.orders → IfOk r (λ v. v.items ≡ filter has_gate os)
    → IfOk r (λ v. SpeaksFor m v.items)
gated_if_any m os (Ok v) valid e h = gated_speak m os v.items valid e h
gated_if_any m os (Err x) valid e h = tt

pub items_if_any : {E : Type 0} (m : Market) (os : List Order) (r : Result (Vec Order Global) E) → os ≡ m.orders → IfOk r (λ v. v.items ≡ filter has_gate os)
    → IfOk r (λ v. v.items ≡ filter has_gate m.orders)
items_if_any m os (Ok v) e h = h ∙ ap (filter has_gate) e
items_if_any m os (Err x) e h = tt

-- one item more of which those of gates are kept
pub gated_more : (os : List Order) (i : ℕ) (d : Order) (old new : List Order) → i < length os → old ≡ filter has_gate (take i os) → new ≡ old ++ filter has_gate (get_or os i d ∷ [])
    → new ≡ filter has_gate (take (i + 1) os)
gated_more os i d old new l e f =
    f ∙ ap (λ (xs : List Order). xs ++ filter has_gate (get_or os i d ∷ [])) e ∙ sym (filter-append has_gate (take i os) (get_or os i d ∷ [])) ∙ ap (filter has_gate) (sym (take_more os i d l))

-- What plain orders gain by ladders is what they gain at most.
use Rattle.std.proofs.Common.{◌≡◌, ◌∙◌, not, if◌then◌else◌, Bool, true, false, ℕ, ◌<◌, ℤ, pos, neg_ℤ, ◌+ℤ◌, ◌-ℤ◌, ◌*ℤ◌, List, [], ◌∷◌, length, Option, Some, None, arith, ap, refl, sym}
use Rattle.std.proofs.lemmas.Int.{ints, clamps, by_lt_z}
use Rattle.std.proofs.lemmas.List.Elements.{All-head, All-tail}
use Rattle.std.specs.List.{All, filter}
use Rattle.std.specs.Option.{is_some}
use lib.Signed.{lt_z}
use Rattle.mari_units.specs.declared.numbers.Cents.{Cents}
use Rattle.mari_market.specs.declared.market.Order.{Order}
use Rattle.mari_market.specs.declared.market.Side.{Side}
use Rattle.mari_market.specs.declared.market.Side.TheVariants.{Inject, Withdraw}
use Rattle.mari_market.specs.Dual.{best_order, gain_per_mw}
use Rattle.mari_market.specs.Market.{IsValidOrder}
use Rattle.mari_market.specs.Price.{IsPrice, price_at}
use Rattle.mari_market.specs.Sums.{int_at, int_sum}
use Rattle.mari_market.proofs.Rising.{is_less}
use Rattle.mari_proofs.specs.Tables.{level_of}
use Rattle.mari_reach.specs.declared.levels.Levels.{Levels}
use Rattle.mari_reach.specs.declared.states.State.{State}
use Rattle.mari_reach.specs.Ladders.{gain_by, of_offer, offer_by, offer_of, rung_of}
use Rattle.mari_reach.specs.Tables.{is_plain, span_in}
use Rattle.mari_reach.specs.Twins.{is_better}
use Rattle.mari_reach.specs.Values.{runs_at, HasLevels}
use Rattle.mari_reach.proofs.ByLevel.{best_by_levels}
use Rattle.mari_reach.proofs.Plain.{is_not_less}

-- a price is cheaper than a level on the ladder of a side exactly where it is better
pub by_rung : (side : Side) (c level : ℤ) → IsPrice c → lt_z (level_of side c) (rung_of side level) ≡ is_better side c level
by_rung Inject c level p =
    by_lt_z c level
    (λ l. is_less c (rung_of Inject level) (omega (arith, ints, clamps, l, p.low, p.high)) ∙ sym (is_less c level l))
    (λ l. is_not_less c (rung_of Inject level) (omega (arith, ints, clamps, l, p.low, p.high)) ∙ sym (is_not_less c level l))
by_rung Withdraw c level p =
    by_lt_z level c
    (λ l. is_less (neg_ℤ c) (rung_of Withdraw level) (omega (arith, ints, clamps, l, p.low, p.high)) ∙ sym (is_less level c l))
    (λ l. is_not_less (neg_ℤ c) (rung_of Withdraw level) (omega (arith, ints, clamps, l, p.low, p.high)) ∙ sym (is_not_less level c l))

if_times : (b : Bool) (gap : ℤ) (mw : ℕ) → (if b then gap *ℤ pos mw else pos 0) ≡ gap *ℤ pos (if b then mw else 0)
if_times true gap mw = refl
if_times false gap mw = omega (arith, ints)

same_gap : (p c : ℤ) → neg_ℤ p -ℤ neg_ℤ c ≡ c -ℤ p
same_gap p c = omega (arith, ints)

plus_none : (x y : ℤ) → x ≡ y → x +ℤ pos 0 ≡ y
plus_none x y e = omega (arith, ints, e)

none_plus : (x y : ℤ) → x ≡ y → pos 0 +ℤ x ≡ y
none_plus x y e = omega (arith, ints, e)

one_plain : (r : State) (ps : List Cents) (levels : Levels) (o : Order) (side : Side) → o.side ≡ side → o.gate ≡ None → HasLevels r ps levels → o.zone < length ps → IsPrice o.price.0
    → of_offer (gain_by Inject levels ps) (offer_by None Inject side o) +ℤ of_offer (gain_by Withdraw levels ps) (offer_by None Withdraw side o) ≡ best_order (span_in r) ps o
one_plain r ps levels o Inject e plain h there price =
    let c = o.price.0 in
    let p = price_at ps o.zone in
    let below = int_at levels.injects o.zone in
    let above = int_at levels.withdraws o.zone in
    let mw = if lt_z c below then o.greatest else 0 in
    plus_none _ _ (
    ap (λ (b : Bool). if b then (p -ℤ c) *ℤ pos o.greatest else pos 0) (by_rung Inject c below price) ∙ if_times (lt_z c below) (p -ℤ c) o.greatest
    ∙ best_by_levels r ps levels o p ((p -ℤ c) *ℤ pos mw) (p -ℤ c) mw h there plain refl (ap (λ (s : Side). gain_per_mw s c p) (sym e))
    (ap (λ (s : Side). if runs_at s c below above then o.greatest else 0) (sym e)) refl
    )
one_plain r ps levels o Withdraw e plain h there price =
    let c = o.price.0 in
    let p = price_at ps o.zone in
    let below = int_at levels.injects o.zone in
    let above = int_at levels.withdraws o.zone in
    let mw = if lt_z above c then o.greatest else 0 in
    none_plus _ _ (
    ap (λ (b : Bool). if b then (neg_ℤ p -ℤ neg_ℤ c) *ℤ pos o.greatest else pos 0) (by_rung Withdraw c above price)
    ∙ ap (λ (gap : ℤ). if lt_z above c then gap *ℤ pos o.greatest else pos 0) (same_gap p c) ∙ if_times (lt_z above c) (c -ℤ p) o.greatest
    ∙ best_by_levels r ps levels o p ((c -ℤ p) *ℤ pos mw) (c -ℤ p) mw h there plain refl (ap (λ (s : Side). gain_per_mw s c p) (sym e))
    (ap (λ (s : Side). if runs_at s c below above then o.greatest else 0) (sym e)) refl
    )

plain_more : (r : State) (ps : List Cents) (levels : Levels) (o : Order) (os : List Order) (g : Option ℕ) → o.gate ≡ g → HasLevels r ps levels → o.zone < length ps → IsPrice o.price.0
    → int_sum (λ (x : Order). of_offer (gain_by Inject levels ps) (offer_of Inject x)) os
    +ℤ int_sum (λ (x : Order). of_offer (gain_by Withdraw levels ps) (offer_of Withdraw x)) os ≡ int_sum (best_order (span_in r) ps) (filter is_plain os)
    → int_sum (λ (x : Order). of_offer (gain_by Inject levels ps) (offer_of Inject x)) (o ∷ os)
    +ℤ int_sum (λ (x : Order). of_offer (gain_by Withdraw levels ps) (offer_of Withdraw x)) (o ∷ os) ≡ int_sum (best_order (span_in r) ps) (filter is_plain (o ∷ os))
plain_more r ps levels o os None e h there price more =
    let kept : filter is_plain (o ∷ os) ≡ o ∷ filter is_plain os = ap (λ (b : Bool). if not b then o ∷ filter is_plain os else filter is_plain os) (ap is_some e) in
    let sum = ap (int_sum (best_order (span_in r) ps)) kept in
    let injects = ap (λ (g : Option ℕ). of_offer (gain_by Inject levels ps) (offer_by g Inject o.side o)) e in
    let withdraws = ap (λ (g : Option ℕ). of_offer (gain_by Withdraw levels ps) (offer_by g Withdraw o.side o)) e in
    let one = one_plain r ps levels o o.side refl e h there price in
    omega (arith, ints, sum, injects, withdraws, one, more)
plain_more r ps levels o os (Some g) e h there price more =
    let kept : filter is_plain (o ∷ os) ≡ filter is_plain os = ap (λ (b : Bool). if not b then o ∷ filter is_plain os else filter is_plain os) (ap is_some e) in
    let sum = ap (int_sum (best_order (span_in r) ps)) kept in
    let injects = ap (λ (g : Option ℕ). of_offer (gain_by Inject levels ps) (offer_by g Inject o.side o)) e in
    let withdraws = ap (λ (g : Option ℕ). of_offer (gain_by Withdraw levels ps) (offer_by g Withdraw o.side o)) e in
    omega (arith, ints, sum, injects, withdraws, more)

-- what the offers of both sides gain together
pub plain_sum : (r : State) (ps : List Cents) (levels : Levels) (gates : ℕ) (os : List Order) → HasLevels r ps levels → All (IsValidOrder (length ps) gates) os
    → int_sum (λ (x : Order). of_offer (gain_by Inject levels ps) (offer_of Inject x)) os
    +ℤ int_sum (λ (x : Order). of_offer (gain_by Withdraw levels ps) (offer_of Withdraw x)) os ≡ int_sum (best_order (span_in r) ps) (filter is_plain os)
plain_sum r ps levels gates [] h a = refl
plain_sum r ps levels gates (o ∷ os) h a =
    let own = All-head (IsValidOrder (length ps) gates) o os a in
    plain_more r ps levels o os o.gate refl h own.zone own.price (plain_sum r ps levels gates os h (All-tail (IsValidOrder (length ps) gates) o os a))

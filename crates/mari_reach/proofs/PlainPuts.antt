-- What a cut counts of plain orders by ladders is what they put in at least or at most.
use Rattle.std.proofs.Common.{◌≡◌, ◌∙◌, ◌||◌, not, if◌then◌else◌, Bool, true, false, ℕ, ℤ, pos, neg_ℤ, ◌-ℤ◌, List, [], ◌∷◌, Option, Some, None, arith, ap, refl, sym}
use Rattle.std.proofs.lemmas.Int.{ints, clamps, by_lt_z}
use Rattle.std.proofs.lemmas.List.Elements.{All-head, All-tail}
use Rattle.std.specs.Int.{int_max, int_min}
use Rattle.std.specs.List.{All, filter}
use Rattle.std.specs.Option.{is_some}
use lib.Signed.{lt_z}
use Rattle.mari_units.specs.declared.numbers.TheConstants.{CAP}
use Rattle.mari_market.specs.declared.certificate.CutSide.{CutSide}
use Rattle.mari_market.specs.declared.certificate.CutSide.TheVariants.{Out, In}
use Rattle.mari_market.specs.declared.market.Order.{Order}
use Rattle.mari_market.specs.declared.market.Side.{Side}
use Rattle.mari_market.specs.declared.market.Side.TheVariants.{Inject, Withdraw}
use Rattle.mari_market.specs.Cut.{is_in}
use Rattle.mari_market.specs.Market.{IsValidOrder}
use Rattle.mari_market.specs.Price.{IsPrice}
use Rattle.mari_market.specs.Sums.{int_at, int_sum}
use Rattle.mari_market.proofs.Rising.{is_less}
use Rattle.mari_proofs.specs.NetInjections.{net_put, put_of}
use Rattle.mari_reach.specs.declared.states.State.{State}
use Rattle.mari_reach.specs.Ladders.{mw_in, of_offer, offer_at, offer_by, offer_of}
use Rattle.mari_reach.specs.Values.{cut_level, put_by}
use Rattle.mari_reach.specs.State.{gains_within, loses_within, plain_span, reached_span}
use Rattle.mari_reach.specs.Tables.{gains_in, is_plain, loses_in, span_in, state_in}
use Rattle.mari_reach.proofs.ByLevel.{level_says}
use Rattle.mari_reach.proofs.Plain.{is_not_less}
use Rattle.mari_reach.proofs.PlainOrders.{by_rung}

least_of : (a b : Bool) (o : Order) → pos (plain_span a b o).lo ≡ (if a then pos o.greatest else pos 0)
least_of true b o = refl
least_of false true o = refl
least_of false false o = refl

most_of : (a b : Bool) (o : Order) → pos (plain_span a b o).hi ≡ (if a || not b then pos o.greatest else pos 0)
most_of true b o = refl
most_of false true o = refl
most_of false false o = refl

-- within the cap a price is above the lesser of the cap and a price exactly where it is above that price
under_cap : (c high : ℤ) → IsPrice c → lt_z (int_min CAP high) c ≡ lt_z high c
under_cap c high p = by_lt_z high c
    (λ l. is_less (int_min CAP high) c (omega (arith, ints, clamps, l)) ∙ sym (is_less high c l))
    (λ l. is_not_less (int_min CAP high) c (omega (arith, ints, clamps, l, p.high)) ∙ sym (is_not_less high c l))

over_cap : (c low : ℤ) → IsPrice c → lt_z c (int_max (neg_ℤ CAP) low) ≡ lt_z c low
over_cap c low p = by_lt_z c low
    (λ l. is_less c (int_max (neg_ℤ CAP) low) (omega (arith, ints, clamps, l)) ∙ sym (is_less c low l))
    (λ l. is_not_less c (int_max (neg_ℤ CAP) low) (omega (arith, ints, clamps, l, p.low)) ∙ sym (is_not_less c low l))

-- what a cut counts of an injection, and of a withdrawal
of_injection : (cut : CutSide) (low high : ℤ) (o : Order) → IsPrice o.price.0
    → (if lt_z o.price.0 (cut_level cut Inject low high) then pos o.greatest else pos 0)
    ≡ net_put cut Inject (plain_span (gains_within Inject o.price.0 low high) (loses_within Inject o.price.0 low high) o)
of_injection Out low high o p = sym (least_of (lt_z o.price.0 low) (lt_z high o.price.0) o)
of_injection In low high o p =
    ap (λ (b : Bool). if b then pos o.greatest else pos 0) (level_says Inject o.price.0 CAP low high)
    ∙ ap (λ (b : Bool). if lt_z o.price.0 low || not b then pos o.greatest else pos 0) (under_cap o.price.0 high p)
    ∙ sym (most_of (lt_z o.price.0 low) (lt_z high o.price.0) o)

of_withdrawal : (cut : CutSide) (low high : ℤ) (o : Order) → IsPrice o.price.0
    → neg_ℤ (if lt_z (cut_level cut Withdraw low high) o.price.0 then pos o.greatest else pos 0)
    ≡ net_put cut Withdraw (plain_span (gains_within Withdraw o.price.0 low high) (loses_within Withdraw o.price.0 low high) o)
of_withdrawal Out low high o p = ap neg_ℤ (
    ap (λ (b : Bool). if b then pos o.greatest else pos 0) (level_says Withdraw o.price.0 (neg_ℤ CAP) low high)
    ∙ ap (λ (b : Bool). if lt_z high o.price.0 || not b then pos o.greatest else pos 0) (over_cap o.price.0 low p)
    ∙ sym (most_of (lt_z high o.price.0) (lt_z o.price.0 low) o)
    )
of_withdrawal In low high o p = ap neg_ℤ (sym (least_of (lt_z high o.price.0) (lt_z o.price.0 low) o))

in_set : (t b : Bool) (v put : ℤ) → (if b then v else pos 0) ≡ put → (if b then (if t then v else pos 0) else pos 0) ≡ (if t then put else pos 0)
in_set true b v put e = e
in_set false true v put e = refl
in_set false false v put e = refl

in_set_less : (t b : Bool) (v put : ℤ) → neg_ℤ (if b then v else pos 0) ≡ put → neg_ℤ (if b then (if t then v else pos 0) else pos 0) ≡ (if t then put else pos 0)
in_set_less true b v put e = e
in_set_less false true v put e = refl
in_set_less false false v put e = refl

one_put : (cut : CutSide) (r : State) (zones : List ℕ) (o : Order) (side : Side) → o.side ≡ side → o.gate ≡ None → IsPrice o.price.0
    → of_offer (put_by cut Inject r.prices zones) (offer_by None Inject side o) -ℤ of_offer (put_by cut Withdraw r.prices zones) (offer_by None Withdraw side o) ≡ put_of cut (span_in r) zones o
one_put cut r zones o Inject e plain p =
    let c = o.price.0 in
    let low = int_at r.prices.low o.zone in
    let high = int_at r.prices.high o.zone in
    let own = ap (λ (b : Bool). if b then mw_in zones o.zone (offer_at o.zone c o.greatest) else pos 0) (by_rung Inject c (cut_level cut Inject low high) p) in
    let value = in_set (is_in zones o.zone) (lt_z c (cut_level cut Inject low high)) (pos o.greatest) _ (of_injection cut low high o p) in
    let sided = ap (λ (s : Side). if is_in zones o.zone then net_put cut s (plain_span (gains_within s c low high) (loses_within s c low high) o) else pos 0) (sym e) in
    let gated = ap (λ (g : Option ℕ). if is_in zones o.zone then net_put cut o.side (reached_span (state_in r) (gains_in r.prices o) (loses_in r.prices o) g o) else pos 0) (sym plain) in
    omega (arith, ints, own, value, sided, gated)
one_put cut r zones o Withdraw e plain p =
    let c = o.price.0 in
    let low = int_at r.prices.low o.zone in
    let high = int_at r.prices.high o.zone in
    let own = ap (λ (b : Bool). if b then mw_in zones o.zone (offer_at o.zone (neg_ℤ c) o.greatest) else pos 0) (by_rung Withdraw c (cut_level cut Withdraw low high) p) in
    let value = in_set_less (is_in zones o.zone) (lt_z (cut_level cut Withdraw low high) c) (pos o.greatest) _ (of_withdrawal cut low high o p) in
    let sided = ap (λ (s : Side). if is_in zones o.zone then net_put cut s (plain_span (gains_within s c low high) (loses_within s c low high) o) else pos 0) (sym e) in
    let gated = ap (λ (g : Option ℕ). if is_in zones o.zone then net_put cut o.side (reached_span (state_in r) (gains_in r.prices o) (loses_in r.prices o) g o) else pos 0) (sym plain) in
    omega (arith, ints, own, value, sided, gated)

put_more : (cut : CutSide) (r : State) (zones : List ℕ) (o : Order) (os : List Order) (g : Option ℕ) → o.gate ≡ g → IsPrice o.price.0
    → int_sum (λ (x : Order). of_offer (put_by cut Inject r.prices zones) (offer_of Inject x)) os
    -ℤ int_sum (λ (x : Order). of_offer (put_by cut Withdraw r.prices zones) (offer_of Withdraw x)) os ≡ int_sum (put_of cut (span_in r) zones) (filter is_plain os)
    → int_sum (λ (x : Order). of_offer (put_by cut Inject r.prices zones) (offer_of Inject x)) (o ∷ os)
    -ℤ int_sum (λ (x : Order). of_offer (put_by cut Withdraw r.prices zones) (offer_of Withdraw x)) (o ∷ os) ≡ int_sum (put_of cut (span_in r) zones) (filter is_plain (o ∷ os))
put_more cut r zones o os None e p more =
    let kept : filter is_plain (o ∷ os) ≡ o ∷ filter is_plain os = ap (λ (b : Bool). if not b then o ∷ filter is_plain os else filter is_plain os) (ap is_some e) in
    let sum = ap (int_sum (put_of cut (span_in r) zones)) kept in
    let injects = ap (λ (g : Option ℕ). of_offer (put_by cut Inject r.prices zones) (offer_by g Inject o.side o)) e in
    let withdraws = ap (λ (g : Option ℕ). of_offer (put_by cut Withdraw r.prices zones) (offer_by g Withdraw o.side o)) e in
    let one = one_put cut r zones o o.side refl e p in
    omega (arith, ints, sum, injects, withdraws, one, more)
put_more cut r zones o os (Some g) e p more =
    let kept : filter is_plain (o ∷ os) ≡ filter is_plain os = ap (λ (b : Bool). if not b then o ∷ filter is_plain os else filter is_plain os) (ap is_some e) in
    let sum = ap (int_sum (put_of cut (span_in r) zones)) kept in
    let injects = ap (λ (g : Option ℕ). of_offer (put_by cut Inject r.prices zones) (offer_by g Inject o.side o)) e in
    let withdraws = ap (λ (g : Option ℕ). of_offer (put_by cut Withdraw r.prices zones) (offer_by g Withdraw o.side o)) e in
    omega (arith, ints, sum, injects, withdraws, more)

-- what a cut counts of the offers of both sides
pub put_sum : (cut : CutSide) (r : State) (zones : List ℕ) (n gates : ℕ) (os : List Order) → All (IsValidOrder n gates) os
    → int_sum (λ (x : Order). of_offer (put_by cut Inject r.prices zones) (offer_of Inject x)) os
    -ℤ int_sum (λ (x : Order). of_offer (put_by cut Withdraw r.prices zones) (offer_of Withdraw x)) os ≡ int_sum (put_of cut (span_in r) zones) (filter is_plain os)
put_sum cut r zones n gates [] a = refl
put_sum cut r zones n gates (o ∷ os) a =
    let own = All-head (IsValidOrder n gates) o os a in
    put_more cut r zones o os o.gate refl own.price (put_sum cut r zones n gates os (All-tail (IsValidOrder n gates) o os a))

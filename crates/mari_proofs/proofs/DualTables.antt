-- A dual value by a table is the dual value.
use Rattle.std.proofs.Common.{◌≡◌, ℕ, ℤ, pos, neg_ℤ, ◌+ℤ◌, ◌-ℤ◌, ◌*ℤ◌, List, [], ◌∷◌, Option, Some, None, arith, ap, refl, ◌∙◌, sym}
use Rattle.std.specs.Int.{int_max}
use Rattle.std.proofs.lemmas.Int.{ints}
use Rattle.mari_units.specs.declared.Cents.{Cents}
use Rattle.mari_market.specs.declared.market.Side.{Side}
use Rattle.mari_market.specs.declared.market.Side.TheVariants.{Inject, Withdraw}
use Rattle.mari_market.specs.declared.market.Order.{Order}
use Rattle.mari_market.specs.declared.market.Market.{Market}
use Rattle.mari_market.specs.Bounds.{GateState, span_in, span_of}
use Rattle.mari_market.specs.Dual.{best_border, best_order, best_trade, dual_value_of}
use Rattle.mari_market.specs.Price.{price_at}
use Rattle.mari_market.specs.Sums.{int_sum}
use Rattle.mari_proofs.specs.declared.table.Offer.{Offer}
use Rattle.mari_proofs.specs.declared.table.DualTable.{DualTable}
use Rattle.mari_proofs.specs.Tables.{gain_at, gain_from, ladder_at, level_of, of_gated, of_offer, offer_by, offer_of, sum_below, IsTableOf}

-- what an order gains on the ladders of a side
abbrev pub side_gain : Side → List Cents → Order → ℤ
side_gain side ps o = of_offer (λ (x : Offer). gain_at (level_of side (price_at ps x.zone)) x) (offer_of side o)

no_mw : (gap : ℤ) → gap *ℤ pos 0 ≡ pos 0
no_mw gap = omega (arith, ints)

same_gap : (p c : ℤ) → neg_ℤ p -ℤ neg_ℤ c ≡ c -ℤ p
same_gap p c = omega (arith, ints)

at_order : (f : Order → ℤ) (gate : Option ℕ) (o : Order) → of_gated (λ (q : Order). f o) gate o ≡ of_gated f gate o
at_order f gate o = grind arith

parts_by : (state : ℕ → GateState) (ps : List Cents) (o : Order) (gate : Option ℕ) (side : Side)
    → best_trade side o.price.0 (price_at ps o.zone) (span_of state gate o)
    ≡ (of_offer (λ (x : Offer). gain_at (level_of Inject (price_at ps x.zone)) x) (offer_by gate Inject side o) +ℤ of_offer (λ (x : Offer). gain_at (level_of Withdraw (price_at ps x.zone)) x)
    (offer_by gate Withdraw side o))
    +ℤ of_gated (λ (q : Order). best_trade side o.price.0 (price_at ps o.zone) (span_of state gate o)) gate o
parts_by state ps o (Some g) side = omega (arith, ints)
parts_by state ps o None Inject =
    ap (λ (x : ℤ). int_max x ((price_at ps o.zone -ℤ o.price.0) *ℤ pos o.greatest)) (no_mw (price_at ps o.zone -ℤ o.price.0)) ∙ omega (arith, ints)
parts_by state ps o None Withdraw =
    ap (λ (x : ℤ). int_max x ((o.price.0 -ℤ price_at ps o.zone) *ℤ pos o.greatest)) (no_mw (o.price.0 -ℤ price_at ps o.zone))
    ∙ ap (λ (x : ℤ). int_max (pos 0) (x *ℤ pos o.greatest)) (sym (same_gap (price_at ps o.zone) o.price.0)) ∙ omega (arith, ints)

-- an order gains on the ladders of one side, or by its gate
pub parts : (state : ℕ → GateState) (ps : List Cents) (o : Order)
    → best_order (span_in state) ps o ≡ (side_gain Inject ps o +ℤ side_gain Withdraw ps o) +ℤ of_gated (best_order (span_in state) ps) o.gate o
parts state ps o = parts_by state ps o o.gate o.side ∙ ap (λ (x : ℤ). (side_gain Inject ps o +ℤ side_gain Withdraw ps o) +ℤ x) (at_order (best_order (span_in state) ps) o.gate o)

-- so a sum over all orders is the sum of three
pub three_sums : (f a b c : Order → ℤ) (os : List Order) → ((o : Order) → f o ≡ (a o +ℤ b o) +ℤ c o)
    → int_sum f os ≡ (int_sum a os +ℤ int_sum b os) +ℤ int_sum c os
three_sums f a b c [] e = refl
three_sums f a b c (o ∷ os) e = omega (arith, ints, e o, three_sums f a b c os e)

-- the value by a table
pub value_by : (state : ℕ → GateState) (m : Market) (t : DualTable) (ps : List Cents) (injecting withdrawing gated borders total : ℤ) → IsTableOf m t
    → injecting ≡ sum_below (λ (z : ℕ). gain_from (level_of Inject (price_at ps z)) (pos 0) (ladder_at t.injecting.items z)) m.zones
    → withdrawing ≡ sum_below (λ (z : ℕ). gain_from (level_of Withdraw (price_at ps z)) (pos 0) (ladder_at t.withdrawing.items z)) m.zones
    → gated ≡ int_sum (best_order (span_in state) ps) t.gated.items
    → borders ≡ int_sum (best_border ps) m.borders
    → total ≡ ((injecting +ℤ withdrawing) +ℤ gated) +ℤ borders
    → total ≡ dual_value_of (span_in state) m ps
value_by state m t ps injecting withdrawing gated borders total table i w g b e =
    omega (
      arith,
      ints,
      e,
      b,
      i ∙ table.injecting.gain (λ z. level_of Inject (price_at ps z)),
      w ∙ table.withdrawing.gain (λ z. level_of Withdraw (price_at ps z)),
      g ∙ table.gated.once (best_order (span_in state) ps),
      three_sums (best_order (span_in state) ps) (side_gain Inject ps) (side_gain Withdraw ps) (λ (o : Order). of_gated (best_order (span_in state) ps) o.gate o) m.orders (parts state ps),
    )

-- What a plain order gains at most.
use Rattle.std.proofs.Common.{◌≡◌, ◌∙◌, ◌||◌, not, if◌then◌else◌, Bool, true, false, ℕ, ℤ, pos, ◌-ℤ◌, ◌*ℤ◌, ◌≤ℤ◌, ◌<ℤ◌, ◌≤◌, Option, None, List, arith, ap, refl, sym}
use Rattle.std.proofs.lemmas.Int.{ints, clamps, by_lt_z}
use lib.Signed.{lt_z}
use Rattle.std.specs.Int.{int_max, int_min}
use Rattle.mari_units.specs.declared.numbers.Cents.{Cents}
use Rattle.mari_market.specs.declared.market.Order.{Order}
use Rattle.mari_market.specs.declared.market.Side.{Side}
use Rattle.mari_market.specs.declared.market.Side.TheVariants.{Inject, Withdraw}
use Rattle.mari_market.specs.Dual.{best_order, best_within, gain_per_mw}
use Rattle.mari_market.specs.Price.{price_at}
use Rattle.mari_market.specs.Sums.{int_at}
use Rattle.mari_market.proofs.Ints.{end_is_best}
use Rattle.mari_market.proofs.Rising.{less, not_less}
use Rattle.mari_reach.specs.declared.states.State.{State}
use Rattle.mari_reach.specs.State.{gains_within, loses_within, plain_span, reached_span}
use Rattle.mari_reach.specs.Tables.{gains_in, loses_in, span_in, state_in}
use Rattle.mari_reach.specs.Values.{runs_best}
use Rattle.mari_reach.proofs.Ranges.{opposite}

pub greatest_best : (gap : ℤ) (lo hi : ℕ) → lo ≤ hi → pos 0 <ℤ gap → gap *ℤ pos hi ≡ best_within gap (record { lo = lo; hi = hi })
greatest_best gap lo hi l h = end_is_best gap (pos lo) (pos hi) (pos hi) (omega (arith, ints)) (omega (arith, ints)) (λ _. omega (arith, ints)) (λ s. absurd (omega (arith, ints, s)))

pub least_best : (gap : ℤ) (lo hi : ℕ) → lo ≤ hi → gap ≤ℤ pos 0 → gap *ℤ pos lo ≡ best_within gap (record { lo = lo; hi = hi })
least_best gap lo hi l h = end_is_best gap (pos lo) (pos lo) (pos hi) (omega (arith, ints)) (omega (arith, ints)) (λ s. absurd (omega (arith, ints, s))) (λ _. omega (arith, ints))

-- what is worth nothing is so at any quantity
worth_nothing : (gap : ℤ) (mw : ℕ) → gap ≡ pos 0 → gap *ℤ pos mw ≡ gap *ℤ pos 0
worth_nothing gap mw e = let one : gap *ℤ pos mw ≡ pos 0 *ℤ pos mw = ap (λ (g : ℤ). g *ℤ pos mw) e in omega (arith, ints, one)

greatest_no_less : (gap : ℤ) (hi : ℕ) → pos 0 ≤ℤ gap → gap *ℤ pos hi ≡ best_within gap (record { lo = 0; hi = hi })
greatest_no_less gap hi h = by_lt_z (pos 0) gap (λ l. greatest_best gap 0 hi (omega arith) l) (λ l. worth_nothing gap hi (omega (arith, ints, h, l)) ∙ least_best gap 0 hi (omega arith) l)

-- by whether it always gains, always loses, and is worth running at the potential
by_cases : (gap : ℤ) (o : Order) (a b t : Bool) → (t ≡ true → (b ≡ false) × (pos 0 ≤ℤ gap)) → (t ≡ false → b ≡ false → gap ≤ℤ pos 0)
    → gap *ℤ pos (if a || t then o.greatest else 0) ≡ best_within gap (plain_span a b o)
by_cases gap o true b t up down = omega (arith, ints, clamps)
by_cases gap o false true true up down = absurd (cc ((up refl).0))
by_cases gap o false false true up down = greatest_no_less gap o.greatest ((up refl).1)
by_cases gap o false true false up down = omega (arith, ints, clamps)
by_cases gap o false false false up down = least_best gap 0 o.greatest (omega arith) (down refl refl)

not_false : (b : Bool) → not b ≡ false → b ≡ true
not_false true e = refl
not_false false e = absurd (cc)

pub is_not_less : (x y : ℤ) → y ≤ℤ x → lt_z x y ≡ false
is_not_less x y h = grind (arith, ints)

by_side : (side : Side) (c p low high : ℤ) (o : Order)
    → gain_per_mw side c p *ℤ pos (if runs_best side c p low high then o.greatest else 0)
    ≡ best_within (gain_per_mw side c p) (plain_span (gains_within side c low high) (loses_within side c low high) o)
by_side Inject c p low high o =
    by_cases (p -ℤ c) o (lt_z c low) (lt_z high c) (not (lt_z (int_min p high) c))
    (λ e. let l : c ≤ℤ int_min p high = not_less (int_min p high) c (opposite (lt_z (int_min p high) c) e) in (is_not_less high c (omega (arith, ints, clamps, l)), omega (arith, ints, clamps, l)))
    (λ e n. omega (arith, ints, clamps, less (int_min p high) c (not_false (lt_z (int_min p high) c) e), not_less high c n))
by_side Withdraw c p low high o =
    by_cases (c -ℤ p) o (lt_z high c) (lt_z c low) (not (lt_z c (int_max p low)))
    (λ e. let l : int_max p low ≤ℤ c = not_less c (int_max p low) (opposite (lt_z c (int_max p low)) e) in (is_not_less c low (omega (arith, ints, clamps, l)), omega (arith, ints, clamps, l)))
    (λ e n. omega (arith, ints, clamps, less c (int_max p low) (not_false (lt_z c (int_max p low)) e), not_less c low n))

-- what a plain order gains at most by the tables
pub best_is : (r : State) (ps : List Cents) (o : Order) (p x gap : ℤ) (mw : ℕ) → o.gate ≡ None → p ≡ price_at ps o.zone → gap ≡ gain_per_mw o.side o.price.0 p
    → mw ≡ (if runs_best o.side o.price.0 p (int_at r.prices.low o.zone) (int_at r.prices.high o.zone) then o.greatest else 0)
    → x ≡ gap *ℤ pos mw → x ≡ best_order (span_in r) ps o
best_is r ps o p x gap mw plain e g test k =
    k ∙ ap (λ (y : ℤ). y *ℤ pos mw) g ∙ ap (λ (n : ℕ). gain_per_mw o.side o.price.0 p *ℤ pos n) test
    ∙ by_side o.side o.price.0 p (int_at r.prices.low o.zone) (int_at r.prices.high o.zone) o
    ∙ ap (λ (y : ℤ). best_within (gain_per_mw o.side o.price.0 y) (plain_span (gains_in r.prices o) (loses_in r.prices o) o)) e
    ∙ ap (λ (g : Option ℕ). best_within (gain_per_mw o.side o.price.0 (price_at ps o.zone)) (reached_span (state_in r) (gains_in r.prices o) (loses_in r.prices o) g o)) (sym plain)

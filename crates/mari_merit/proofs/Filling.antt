-- What the orders run at the marginal price.
use Rattle.std.proofs.Common.{◌≡◌, ℕ, ◌+◌, ◌-◌, ◌<◌, ◌≤◌, ℤ, pos, ◌+ℤ◌, ◌-ℤ◌, ◌≤ℤ◌, List, [], ◌∷◌, None, map, arith, refl, min}
use Rattle.std.proofs.lemmas.Int.{ints}
use Rattle.std.proofs.lemmas.List.Sums.{sum_by-cons}
use Rattle.std.proofs.lemmas.List.Elements.{All-head, All-tail}
use Rattle.std.specs.List.{All, AllZip}
use Rattle.mari_market.specs.declared.market.Side.{Side}
use Rattle.mari_market.specs.declared.market.Side.TheVariants.{Inject, Withdraw}
use Rattle.mari_market.specs.declared.market.Order.{Order}
use Rattle.mari_market.specs.Activation.{put_in, put_into}
use Rattle.mari_market.specs.Dual.{IsTightTrade}
use Rattle.mari_market.specs.Sums.{sum_along}
use Rattle.mari_merit.specs.declared.marginal.Rung.{Rung}
use Rattle.mari_merit.specs.Merit.{rung_of, by_price, room_below, room_at, withdrawn_by, withdrawn_in, met_by, left_after, run_by, quantities_at}

met_within : (p c : ℤ) (greatest left : ℕ) → by_price p c greatest 0 (min greatest left) ≤ greatest
met_within p c greatest left = grind (arith, ints)

-- what is met is what is taken off, below the price or at it
met_parts : (p c : ℤ) (greatest left : ℕ) → by_price p c greatest 0 (min greatest left) + by_price p c left left (left - greatest) ≡ by_price p c greatest 0 0 + left
met_parts p c greatest left = grind (arith, ints)

run_within : (side : Side) (greatest met : ℕ) → met ≤ greatest → run_by side greatest met ≤ greatest
run_within Inject greatest met h = h
run_within Withdraw greatest met h = omega arith

run_put : (side : Side) (greatest met : ℕ) → met ≤ greatest → put_in side (run_by side greatest met) +ℤ pos (withdrawn_by side greatest) ≡ pos met
run_put Inject greatest met h = omega (arith, ints)
run_put Withdraw greatest met h = omega (arith, ints)

-- a plain order of the one zone
pub record IsPlain (o : Order) : Type 0 where
  pub gate : o.gate ≡ None
  pub zone : o.zone ≡ 0

-- what a plain order of the one zone runs at the marginal price: no more than its greatest, and it is tight
pub record Fills (p : ℤ) (o : Order) (q : ℕ) : Type 0 where
  pub plain : IsPlain o
  pub within : q ≤ o.greatest
  pub tight : IsTightTrade o.side o.price.0 p (record { lo = 0; hi = o.greatest }) q

met_if_cheaper : (p c : ℤ) (g left : ℕ) → 0 < by_price p c g 0 (min g left) → c ≤ℤ p
met_if_cheaper p c g left h = grind (arith, ints)

all_met_unless_no_cheaper : (p c : ℤ) (g left : ℕ) → by_price p c g 0 (min g left) < g → p ≤ℤ c
all_met_unless_no_cheaper p c g left h = grind (arith, ints)

tight_run : (side : Side) (p c : ℤ) (g met : ℕ) → met ≤ g → (0 < met → c ≤ℤ p) → (met < g → p ≤ℤ c) → IsTightTrade side c p (record { lo = 0; hi = g }) (run_by side g met)
tight_run Inject p c g met w low high = (low, high)
tight_run Withdraw p c g met w low high = (λ l. high (omega arith), λ l. low (omega arith))

-- each order fills its part
pub fills : (p : ℤ) (left : ℕ) (os : List Order) → All IsPlain os → AllZip (Fills p) os (quantities_at p left os)
fills p left [] all = tt
fills p left (o ∷ os) all =
    let w = met_within p o.price.0 o.greatest left in (
      record {
        plain = All-head IsPlain o os all;
        within = run_within o.side o.greatest (met_by p left o) w;
        tight = tight_run o.side p o.price.0 o.greatest (met_by p left o) w (met_if_cheaper p o.price.0 o.greatest left) (all_met_unless_no_cheaper p o.price.0 o.greatest left);
      },
      fills p (left_after p left o) os (All-tail IsPlain o os all),
    )

left_parts : (p c : ℤ) (left g more : ℕ) → by_price p c left left (left - g) - more ≡ left - (by_price p c 0 0 g + more)
left_parts p c left g more = grind (arith, ints)

put_here : (z : ℕ) (o : Order) (q : ℕ) → o.zone ≡ 0 → z ≡ 0 → put_into z o q ≡ put_in o.side q
put_here z o q e f = rw (e, f) refl

-- what all orders put in, and what the withdrawals take, is what the cheaper orders and those at the price meet
pub put_in_all : (p : ℤ) (k : ℕ) (left : ℕ) (os : List Order) → k ≡ 0 → All IsPlain os
    → sum_along (put_into k) os (quantities_at p left os) +ℤ pos (withdrawn_in os) ≡ pos (room_below p (map rung_of os)) +ℤ (pos left -ℤ pos (left - room_at p (map rung_of os)))
put_in_all p k left [] e all = omega (arith, ints)
put_in_all p k left (o ∷ os) e all =
    let left' = left_after p left o in
    let met = met_by p left o in
    let w = met_within p o.price.0 o.greatest left in
    let here = put_here k o (run_by o.side o.greatest met) (All-head IsPlain o os all).zone e in
    omega (
      arith,
      ints,
      here,
      run_put o.side o.greatest met w,
      met_parts p o.price.0 o.greatest left,
      left_parts p o.price.0 left o.greatest (room_at p (map rung_of os)),
      put_in_all p k left' os e (All-tail IsPlain o os all),
      sum_by-cons (λ (o : Order). withdrawn_by o.side o.greatest) o os,
      sum_by-cons (λ (r : Rung). by_price p r.price r.room 0 0) (rung_of o) (map rung_of os),
      sum_by-cons (λ (r : Rung). by_price p r.price 0 0 r.room) (rung_of o) (map rung_of os),
    )

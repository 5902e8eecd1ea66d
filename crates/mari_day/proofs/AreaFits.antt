-- The numbers of areas, and the prices of intervals, are in range.
use Rattle.std.proofs.Common.{◌≡◌, ◌≢◌, ap, ℕ, zero, suc, ◌+◌, ◌-◌, ◌<◌, ◌≤◌, inl, inr, List, subst, arith}
use Rattle.std.specs.List.{All}
use Rattle.std.proofs.lemmas.Bool.{cases_lt}
use Rattle.std.proofs.lemmas.List.Elements.{All-from_get_or}
use Rattle.mari_units.specs.declared.numbers.Cents.{Cents}
use Rattle.mari_market.specs.declared.activation.Activation.{Activation}
use Rattle.mari_market.specs.declared.market.Market.{Market}
use Rattle.mari_market.specs.Area.{AreAreas, area_at}
use Rattle.mari_market.specs.Interval.{AreLeastPrices, AreGreatestPrices}
use Rattle.mari_market.specs.Price.{IsCapped, IsPrice}
use Rattle.mari_market.proofs.Conflicts.{price_in_cap}
use Rattle.mari_lines.specs.Ranges.{Between}

module _ (m : Market) (a : Activation) where
  -- a zone whose area isn't the first stands after one of the area before
  after : (areas : List ℕ) → AreAreas m a areas → (z : ℕ) → z < m.zones → 1 < area_at areas z → (y : ℕ) × (y < z) × (area_at areas z ≡ area_at areas y + 1)
  after areas is z there more =
      let before = (is.numbered z there).by_first (area_at areas z - 1) (omega arith) (omega arith) in
      let other : before.0 ≢ z = λ same. let e : area_at areas before.0 ≡ area_at areas z = ap (area_at areas) same in omega (arith, before.2) in
      (before.0, omega (arith, before.1, other), omega (arith, before.2))

  -- so the area of a zone is at most its place, counted from 1
  area-most : (areas : List ℕ) → AreAreas m a areas → (bound z : ℕ) → z ≤ bound → z < m.zones → area_at areas z ≤ z + 1
  area-most areas is zero z within there = elim (cases_lt 1 (area_at areas z)) [
    | inl more ↦ (let b = after areas is z there more in absurd (omega (arith, b.1)))
    | inr one ↦ omega arith
  ]
  area-most areas is (suc bound) z within there = elim (cases_lt 1 (area_at areas z)) [
    | inl more ↦ (let b = after areas is z there more in omega (arith, b.1, b.2, area-most areas is bound b.0 (omega (arith, b.1)) (omega (arith, b.1))))
    | inr one ↦ omega arith
  ]

  pub areas-fit : (areas : List ℕ) → AreAreas m a areas → m.zones ≤ 64 → All (Between 1 64) areas
  areas-fit areas is few = All-from_get_or (Between 1 64) areas 0 (λ z l.
      let there : z < m.zones = omega (arith, is.one_each) in
      ((is.numbered z there).from_one, omega (arith, area-most areas is z z (omega arith) there)))

  pub least-fit : (ps : List Cents) → AreLeastPrices m a ps → All IsCapped ps
  least-fit ps is = All-from_get_or IsCapped ps _ (λ z l.
      let there : z < m.zones = omega (arith, is.one_each) in
      let at = (is.each z there).reached in
      subst IsPrice at.2 (price_in_cap m at.0 at.1.prices z))

  pub greatest-fit : (ps : List Cents) → AreGreatestPrices m a ps → All IsCapped ps
  greatest-fit ps is = All-from_get_or IsCapped ps _ (λ z l.
      let there : z < m.zones = omega (arith, is.one_each) in
      let at = (is.each z there).reached in
      subst IsPrice at.2 (price_in_cap m at.0 at.1.prices z))

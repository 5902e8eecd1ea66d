use Rattle.std.proofs.Common.{◌≡◌, ◌⊎◌, inr, ◌/◌, ◌-◌, ◌≤◌, ℕ, ℤ, pos, ◌+ℤ◌, ◌≤ℤ◌, ◌<ℤ◌, arith, ap, subst, ◌∙◌, to_z, of_z, to_z-of_z, FitsSigned, w64, rules}
use Rattle.std.proofs.lemmas.Int.{ints}
use Rattle.mari_network.specs.declared.slots.TheConstants.{BEYOND}
use Rattle.mari_paths.specs.Merit.{supplied_by_all}
use Rattle.mari_paths.proofs.curves.balancing_price.Goals as goal

-- what is above the middle's part of the range is above the range
above_all : (P : ℤ → Type 0) (price middle : ℤ) (width half : ℕ) → middle ≡ price +ℤ pos half → half ≤ width → P (price +ℤ pos width) → P (middle +ℤ pos (width - half))
above_all P price middle width half e l h = subst P (omega (arith, ints, e, l)) h

pub loop-width-preserved : goal.loop-width-preserved
loop-width-preserved c =
    let half : c.from.result ≡ pos (c.loop-width.width / 2) = search rules in
    let less : c.loop-width.width / 2 ≤ c.loop-width.width = omega (arith, c.loop-width-test.true) in
    let one : FitsSigned w64 c.from.result = search rules in
    let low : pos 0 ≤ℤ (to_z w64 c.loop-width.price-bits +ℤ BEYOND) = omega (arith, ints, c.loop-width.invariant.low) in
    let both : FitsSigned w64 (to_z w64 c.loop-width.price-bits +ℤ c.from.result) = omega (arith, ints, half, less, low, c.loop-width.invariant.low, c.loop-width.invariant.high) in
    let middle : to_z w64 (of_z w64 (to_z w64 c.loop-width.price-bits +ℤ to_z w64 (of_z w64 c.from.result))) ≡ to_z w64 c.loop-width.price-bits +ℤ pos (c.loop-width.width / 2) =
    ap (λ (x : ℤ). to_z w64 (of_z w64 (to_z w64 c.loop-width.price-bits +ℤ x))) (to_z-of_z one) ∙ to_z-of_z both ∙ ap (λ (x : ℤ). to_z w64 c.loop-width.price-bits +ℤ x) half in
    record {
      some = omega (arith, c.loop-width-test.true);
      low = omega (arith, ints, middle, c.loop-width.invariant.low);
      high = omega (arith, ints, middle, less, c.loop-width.invariant.high);
      here = inr (search rules);
      above = above_all (λ x. (x ≡ BEYOND) ⊎ (pos 0 <ℤ supplied_by_all c.args.curves.now x)) (to_z w64 c.loop-width.price-bits) _ c.loop-width.width
          (c.loop-width.width / 2) middle less c.loop-width.invariant.above;
    }

use Rattle.std.proofs.Common.{◌≡◌, ℕ, ℤ, List, get_or, ap, subst}
use Rattle.std.proofs.lemmas.List.{take_all}
use Rattle.mari_market.specs.declared.market.Order.{Order}
use Rattle.mari_market.specs.Sums.{int_at}
use Rattle.mari_network.specs.Orders.{no_order}
use Rattle.mari_paths.specs.Starts.{order_at}
use Rattle.mari_prices.specs.declared.bounds.End.{End}
use Rattle.mari_prices.specs.declared.bounds.End.TheVariants.{Least, Greatest}
use Rattle.mari_prices.specs.Tightest.{IsRaised}
use Rattle.mari_node.specs.Running.{quantity_at}
use Rattle.mari_node.proofs.Gated.{quantity_small}
use Rattle.mari_node.proofs.Plain.{AreBoundsOver, bounds_more, tightest_over}
use Rattle.mari_node.proofs.bounds.bounds_from.Goals as goal

raised_as : (end : End) (order order' : Order) (q q' : ℕ) (old new : List ℤ) → order ≡ order' → q ≡ q' → ((z : ℕ) → IsRaised end order q z (int_at old z) (int_at new z))
    → (z : ℕ) → IsRaised end order' q' z (int_at old z) (int_at new z)
raised_as end order order' q q' old new e f h z =
    subst (λ (k : ℕ). IsRaised end order' k z (int_at old z) (int_at new z)) f (subst (λ (o : Order). IsRaised end o q z (int_at old z) (int_at new z)) e (h z))

pub quantity-requires-clause-small : goal.quantity-requires-clause-small
quantity-requires-clause-small c =
    quantity_small c.args.market.now c.args.optimum.now (get_or c.args.gated.now c.loop-place.place-index 0) c.requires.fits (c.requires.gated.there c.loop-place.place-index 0 c.loop-place-test.true)

pub loop-place-preserved : goal.loop-place-preserved
loop-place-preserved c =
    let m = c.args.market.now in
    let o = c.args.optimum.now in
    let gated = c.args.gated.now in
    let i = c.loop-place.place-index in
    let k = get_or gated i 0 in
    let there = c.requires.gated.there i 0 c.loop-place-test.true in
    let order : get_or c.as_slice-orders.result.now k no_order ≡ order_at m k = ap (λ (os : List Order). get_or os k no_order) c.as_slice-orders.ensures in
    let old = c.loop-place.bounds in
    let new = c.raise.new.self in
    let low = raised_as Least (get_or c.as_slice-orders.result.now k no_order) (order_at m k) c.quantity.result
    (quantity_at o k) old.least.items new.least.items order c.quantity.ensures c.raise.ensures.least in
    let high = raised_as Greatest (get_or c.as_slice-orders.result.now k no_order) (order_at m k) c.quantity.result
    (quantity_at o k) old.greatest.items new.greatest.items order c.quantity.ensures c.raise.ensures.greatest in
    record {
      least = bounds_more Least m o gated i old.least.items new.least.items c.loop-place-test.true there c.loop-place.invariant.least c.raise.ensures.lows low;
      greatest = bounds_more Greatest m o gated i old.greatest.items new.greatest.items c.loop-place-test.true there c.loop-place.invariant.greatest c.raise.ensures.highs high;
    }

pub returns : goal.returns
returns c = λ a w f.
    let m = c.args.market.now in
    let o = c.args.optimum.now in
    let gated = c.args.gated.now in
    let all = take_all c.loop-place.place-index gated c.loop-place-test.false in
    let bounds = c.loop-place.bounds in
    record {
      feasible = f;
      flows = w.flow;
      least = tightest_over Least m o a gated bounds.least.items w c.requires.gated (subst (λ (ks : List ℕ). AreBoundsOver Least m o ks bounds.least.items) all c.loop-place.invariant.least);
      greatest = tightest_over Greatest m o a gated bounds.greatest.items w c.requires.gated
          (subst (λ (ks : List ℕ). AreBoundsOver Greatest m o ks bounds.greatest.items) all c.loop-place.invariant.greatest);
    }

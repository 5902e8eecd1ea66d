use Rattle.std.proofs.Common.{◌≡◌, ℤ, ◌+ℤ◌, ◌-ℤ◌, neg_ℤ, arith, ap, ◌∙◌, to_z, of_z, to_z-of_z, FitsSigned, w64, rules}
use Rattle.std.specs.Int.{int_max, int_min}
use Rattle.std.proofs.lemmas.Int.{clamps, ints}
use Rattle.mari_market.specs.Sums.{int_sum}
use Rattle.mari_paths.specs.Merit.{into_over, supplied}
use Rattle.mari_paths.proofs.merit.more_at.Goals as goal

pub returns : goal.returns
returns c = λ bs z r.
    let fits : FitsSigned w64 c.args.price = search rules in
    let supply : c.supply_at.result ≡ supplied c.args.price c.args.curve.now = rw (to_z-of_z fits) at c.supply_at.ensures.supply in
    let is : c.args.curve.now.least +ℤ to_z w64 (of_z w64 (to_z w64 (of_z w64 c.clamp.result) -ℤ to_z w64 (of_z w64 c.args.curve.now.least)))
    ≡ int_max (neg_ℤ c.args.reach.into) (int_min c.args.reach.out c.supply_at.result) =
    omega (
      arith,
      ints,
      clamps,
      c.clamp.ensures.value,
      c.supply_at.ensures.near.low,
      c.supply_at.ensures.near.high,
      c.requires.curve.least.low,
      c.requires.curve.least.high,
      c.requires.reach.out.0,
      c.requires.reach.out.1,
      c.requires.reach.into.0,
      c.requires.reach.into.1,
    ) in
    is ∙ ap (λ (x : ℤ). int_max (neg_ℤ c.args.reach.into) (int_min c.args.reach.out x)) supply
    ∙ ap (λ (x : ℤ). int_max (neg_ℤ x) (int_min c.args.reach.out (supplied c.args.price c.args.curve.now))) r.into
    ∙ ap (λ (x : ℤ). int_max (neg_ℤ (int_sum (into_over z) bs)) (int_min x (supplied c.args.price c.args.curve.now))) r.out

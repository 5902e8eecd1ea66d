use Rattle.std.proofs.Common.{◌∙◌, ℤ, arith, ap, rules, to_z-of_z, FitsSigned, w64}
use Rattle.std.proofs.lemmas.Int.{ints}
use Rattle.mari_market.specs.Sums.{int_at, int_sum}
use Rattle.mari_reach.specs.Ladders.{mw_of, rung_of, up_to}
use Rattle.mari_reach.specs.Values.{cut_level}
use Rattle.mari_reach.proofs.Offers.{put_in, put_out}
use Rattle.mari_reach.proofs.ladders.Ladder.put_at.Goals as goal

pub returns-then-not-has-clause-value : goal.returns-then-not-has-clause-value
returns-then-not-has-clause-value c =
    let level : ℤ = rung_of c.args.side (cut_level c.args.cut c.args.side (int_at c.args.prices.now.low c.args.zone) (int_at c.args.prices.now.high c.args.zone)) in
    put_out c.args.zone level c.args.set.now.zones.now c.args.self.now.offers.items c.has.result c.has.ensures c.if-not-has.true

pub returns-clause-value : goal.returns-clause-value
returns-clause-value c =
    let xs = c.args.self.now.offers.items in
    let zone = c.args.zone in
    let level : ℤ = rung_of c.args.side (cut_level c.args.cut c.args.side (int_at c.args.prices.now.low zone) (int_at c.args.prices.now.high zone)) in
    let cut_fits : FitsSigned w64 c.cut_level.result = search rules in
    let low_fits : FitsSigned w64 (int_at c.args.prices.now.low zone) = search rules in
    let high_fits : FitsSigned w64 (int_at c.args.prices.now.high zone) = search rules in
    let rung_fits : FitsSigned w64 c.rung_of.result = search rules in
    let fits : FitsSigned w64 c.up_to.result.mw = omega (arith, ints, c.up_to.ensures.small.least, c.up_to.ensures.small.most) in
    let same = to_z-of_z rung_fits ∙ c.rung_of.ensures.value ∙ ap (rung_of c.args.side) (to_z-of_z cut_fits ∙ rw (to_z-of_z low_fits, to_z-of_z high_fits) at c.cut_level.ensures) in
    put_in zone level c.args.set.now.zones.now xs c.has.result _ c.has.ensures c.if-not-has.false
    (to_z-of_z fits ∙ c.up_to.ensures.sums.mw ∙ ap (λ (l : ℤ). int_sum (up_to mw_of zone l) xs) same)

use Rattle.std.proofs.Common.{◌∙◌, ℤ, ◌-ℤ◌, ◌*ℤ◌, ap, rules, to_z-of_z, FitsSigned, w64}
use Rattle.mari_market.specs.Sums.{int_sum}
use Rattle.mari_reach.specs.Ladders.{mw_of, up_to}
use Rattle.mari_reach.proofs.Offers.{gain_sum}
use Rattle.mari_reach.proofs.ladders.Ladder.gain_at.Goals as goal

pub returns-clause-value : goal.returns-clause-value
returns-clause-value c =
    let xs = c.args.self.now.offers.items in
    let level_fits : FitsSigned w64 c.args.level = search rules in
    let price_fits : FitsSigned w64 c.args.price = search rules in
    let fits : FitsSigned w64 c.gain_of.result = search rules in
    to_z-of_z fits ∙ rw (to_z-of_z price_fits) at c.gain_of.ensures.value
    ∙ ap (λ (x : ℤ). c.args.price *ℤ x -ℤ c.up_to.result.worth) (rw (to_z-of_z level_fits) at c.up_to.ensures.sums.mw)
    ∙ ap (λ (x : ℤ). c.args.price *ℤ int_sum (up_to mw_of c.args.zone c.args.level) xs -ℤ x) (rw (to_z-of_z level_fits) at c.up_to.ensures.sums.worth)
    ∙ gain_sum c.args.price c.args.zone c.args.level xs

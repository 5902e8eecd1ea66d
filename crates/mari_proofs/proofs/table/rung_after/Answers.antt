use Rattle.std.proofs.Common.{◌≡◌, ◌∙◌, ℤ, pos, ◌+ℤ◌, ◌*ℤ◌, ap, arith, rules, to_z, of_z, to_z-of_z, FitsSigned, w64}
use Rattle.std.proofs.lemmas.Int.{ints}
use Rattle.mari_market.specs.declared.limits.TheConstants.{MOST_ORDERS}
use Rattle.mari_proofs.specs.Tables.{last_rung, IsSmallRung}
use Rattle.mari_proofs.proofs.Ladders.{last_is, last_small, rung_is}
use Rattle.mari_proofs.proofs.table.rung_after.Goals as goal

pub returns-in-Some : goal.returns-in-Some
returns-in-Some c =
    let fits : FitsSigned w64 c.args.offer.now.price = search rules in
    let same : c.in-Some.last.now ≡ last_rung c.args.ladder.now = last_is c.args.ladder.now c.in-Some.last.now c.in-Some.ensures.item.0 c.in-Some.ensures.item.1 in
    let small : IsSmallRung MOST_ORDERS (last_rung c.args.ladder.now) = last_small MOST_ORDERS c.args.ladder.now c.requires.ladder in
    let worth : c.in-Some.last.now.worth ≡ (last_rung c.args.ladder.now).worth = ap (λ r. r.worth) same in
    let more : c.amount-worth.result ≡ c.args.offer.now.price *ℤ pos c.args.offer.now.mw = c.amount-worth.ensures.value ∙ ap (λ (x : ℤ). x *ℤ pos c.args.offer.now.mw) (to_z-of_z fits) in
    let sum : to_z w64 (of_z w64 (to_z w64 (of_z w64 c.in-Some.last.now.worth) +ℤ to_z w64 (of_z w64 c.amount-worth.result))) ≡ c.in-Some.last.now.worth +ℤ c.amount-worth.result =
    omega (arith, ints, worth, small.low, small.high, c.amount-worth.ensures.low, c.amount-worth.ensures.high) in
    rung_is c.args.offer.now c.in-Some.last.now (last_rung c.args.ladder.now) _ _ (to_z-of_z fits) same (sum ∙ ap (λ (x : ℤ). c.in-Some.last.now.worth +ℤ x) more)

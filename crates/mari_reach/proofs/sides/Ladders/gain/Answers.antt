use Rattle.std.proofs.Common.{◌≡◌, ◌∙◌, ◌+ℤ◌, length, arith, to_z, of_z, w64}
use Rattle.std.proofs.lemmas.Int.{ints}
use Rattle.mari_market.specs.declared.market.Side.TheVariants.{Inject, Withdraw}
use Rattle.mari_reach.specs.Ladders.{gain_by}
use Rattle.mari_reach.proofs.ByLevel.{valid_wide}
use Rattle.mari_reach.proofs.PlainOrders.{plain_sum}
use Rattle.mari_reach.proofs.sides.Ladders.gain.Goals as goal

pub returns-clause-value : goal.returns-clause-value
returns-clause-value c = λ r h.
    let m = c.args.market.now in
    let ps = c.args.potentials.now in
    let levels = c.args.levels.now in
    let new : to_z w64 (of_z w64 (to_z w64 (of_z w64 c.gain.result) +ℤ to_z w64 (of_z w64 c.gain-2.result))) ≡ c.gain.result +ℤ c.gain-2.result =
    omega (arith, ints, c.gain.ensures.low, c.gain.ensures.high, c.gain-2.ensures.low, c.gain-2.ensures.high) in
    let injects = c.gain.ensures.value ∙ c.requires.ladders.injecting.once (gain_by Inject levels ps) in
    let withdraws = c.gain-2.ensures.value ∙ c.requires.ladders.withdrawing.once (gain_by Withdraw levels ps) in
    omega (arith, ints, new, injects, withdraws, plain_sum r ps levels 512 m.orders h (valid_wide m (length ps) c.requires.one_each c.requires.market))

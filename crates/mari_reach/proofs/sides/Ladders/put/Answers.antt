use Rattle.std.proofs.Common.{◌≡◌, ◌∙◌, ◌-ℤ◌, length, arith, to_z, of_z, w64}
use Rattle.std.proofs.lemmas.Int.{ints}
use Rattle.mari_market.specs.declared.market.Side.TheVariants.{Inject, Withdraw}
use Rattle.mari_reach.specs.Values.{put_by}
use Rattle.mari_reach.proofs.PlainPuts.{put_sum}
use Rattle.mari_reach.proofs.sides.Ladders.put.Goals as goal

pub returns-clause-value : goal.returns-clause-value
returns-clause-value c =
    let m = c.args.market.now in
    let r = c.args.state.now in
    let set = c.args.set.now.zones.now in
    let cut = c.args.cut in
    let new : to_z w64 (of_z w64 (to_z w64 (of_z w64 c.put.result) -ℤ to_z w64 (of_z w64 c.put-2.result))) ≡ c.put.result -ℤ c.put-2.result =
    omega (arith, ints, c.put.ensures.least, c.put.ensures.most, c.put-2.ensures.least, c.put-2.ensures.most) in
    let injects = c.put.ensures.value ∙ c.requires.ladders.injecting.once (put_by cut Inject r.prices set) in
    let withdraws = c.put-2.ensures.value ∙ c.requires.ladders.withdrawing.once (put_by cut Withdraw r.prices set) in
    omega (arith, ints, new, injects, withdraws, put_sum cut r set m.zones (length m.gates) m.orders c.requires.market.orders)

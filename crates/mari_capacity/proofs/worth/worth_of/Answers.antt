use Rattle.std.proofs.Common.{◌≡◌, pos, ◌-ℤ◌, arith, rules, sym, to_z, of_z, Fits, w64}
use Rattle.std.specs.Int.{w128}
use Rattle.std.proofs.lemmas.Int.{ints}
use Rattle.mari_capacity.proofs.Worths.{no-gain, published-best, some-gain}
use Rattle.mari_capacity.proofs.worth.worth_of.Goals as goal

pub returns-then-rise-eq0 : goal.returns-then-rise-eq0
returns-then-rise-eq0 c =
    no-gain c.args.market.now c.requires.valid c.args.published.now c.requires.published c.args.raise c.requires.border c.rise-rise.result
    (rw c.as_slice.ensures at c.rise-rise.ensures.value) (omega (arith, ints))

pub gain_from-requires-clause-welfare : goal.gain_from-requires-clause-welfare
gain_from-requires-clause-welfare c = published-best c.args.market.now c.requires.valid c.args.published.now c.requires.published

pub returns : goal.returns
returns c =
    let p = c.requires.published in
    let value = rw c.as_slice.ensures at c.rise-rise.ensures.value in
    let f : Fits w64 c.in_ok-raised.raised.welfare = search rules in
    let g : Fits w64 c.args.published.now.welfare = search rules in
    let e : to_z w128 (of_z w128 (to_z w128 (of_z w128 c.from.result) -ℤ to_z w128 (of_z w128 c.from-2.result)))
    ≡ pos c.in_ok-raised.raised.welfare -ℤ pos c.args.published.now.welfare = omega (arith, ints) in
    let most = c.in_ok-raised.ensures.at_most c.args.published.now.activation c.args.published.now.prices.cents p.feasible (sym p.word) p.consistent in
    some-gain c.args.market.now c.requires.valid c.args.published.now p c.args.raise c.requires.border c.rise-rise.result value
    c.in_ok-raised.raised.welfare _ e c.in_ok-raised.ensures.relaxed c.in_ok-raised.ensures.at_least
    (omega (arith, ints, most, value))

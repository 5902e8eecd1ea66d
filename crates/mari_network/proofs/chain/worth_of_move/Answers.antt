use Rattle.std.proofs.Common.{◌≡◌, ◌-ℤ◌, to_z, of_z, to_z-of_z, rules, FitsSigned, w64, arith}
use Rattle.std.specs.Int.{w128}
use Rattle.std.proofs.lemmas.Int.{ints}
use Rattle.mari_network.proofs.chain.worth_of_move.Goals as goal

pub returns : goal.returns
returns c =
    let fits : FitsSigned w128 c.worth.result = search rules in
    let more : FitsSigned w64 c.args.more = search rules in
    let gap : to_z w64 (of_z w64 (to_z w64 (of_z w64 c.args.sink.price) -ℤ to_z w64 (of_z w64 c.args.source.price))) ≡ c.args.sink.price -ℤ c.args.source.price =
    omega (arith, ints, c.requires.sink.cheap, c.requires.sink.dear, c.requires.source.cheap, c.requires.source.dear) in
    rw (to_z-of_z fits) (rw (to_z-of_z more, gap) at c.worth.ensures.value)

use Rattle.mari_reach.proofs.Needs.{needed_is}
use Rattle.mari_reach.proofs.laws.needed.Goals as goal

pub returns : goal.returns
returns c = λ w ds potentials g e. needed_is c.args.market.now w ds potentials g e

use Rattle.mari_prices.specs.Ends.{AreUncontradicted}
use Rattle.mari_prices.proofs.ends.contradicted.Given as goal

abbrev pub invariant-loop-zone : goal.invariant-loop-zone
invariant-loop-zone l = AreUncontradicted l.zone l.settled l.uppers

use Rattle.std.proofs.Common.{[], refl}
use Rattle.mari_day_tests.proofs.generated.market_of.Goals as goal

pub market_of-made-requires-clause-stands : goal.market_of-made-requires-clause-stands
market_of-made-requires-clause-stands c = ([], c.in_ok-remaining.ensures, refl)

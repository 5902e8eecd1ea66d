use Rattle.std.specs.Prelude.{MatchOption}
use Rattle.mari_market.specs.Sums.{int_at}
use Rattle.mari_prices.specs.Spread.{NoneFreeBefore, IsGreatestBefore}
use Rattle.mari_prices.proofs.spread.greatest_free.Given as goal

abbrev pub invariant-loop-zone : goal.invariant-loop-zone
invariant-loop-zone l = MatchOption l.best (NoneFreeBefore l.zone l.settled) (IsGreatestBefore l.zone (int_at l.values) l.settled)

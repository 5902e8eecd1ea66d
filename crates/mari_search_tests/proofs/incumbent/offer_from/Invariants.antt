use Rattle.std.proofs.Common.{◌≡◌}
use Rattle.mari_search_tests.proofs.incumbent.offer_from.Given as goal

abbrev pub invariant-loop-k : goal.invariant-loop-k
invariant-loop-k l = (l.seat.incumbent ≡ l.initial.seat.incumbent) × (l.seat.parts ≡ l.initial.seat.parts)

use Rattle.std.proofs.Common.{◌≡◌, [], length}
use Rattle.mari_market.specs.declared.market.Market.{Market}
use Rattle.mari_reach.specs.Places.{waiting_after}
use Rattle.mari_reach.specs.State.{AreDecisions}
use Rattle.mari_reach.proofs.walk.go_on.Given as goal

abbrev pub invariant-loop-last : goal.invariant-loop-last
invariant-loop-last l = record {
  next : waiting_after [] l.path.items ≡ waiting_after [] l.fn.path.items;
  decisions : (m : Market) → AreDecisions m l.fn.path.items → AreDecisions m l.path.items;
}

abbrev pub decreases-loop-last : goal.decreases-loop-last
decreases-loop-last l = length l.path.items

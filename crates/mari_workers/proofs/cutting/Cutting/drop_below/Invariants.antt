use Rattle.std.proofs.Common.{◌≡◌, ◌≤◌, length}
use Rattle.mari_market.specs.Prefix.{word_of}
use Rattle.mari_workers.specs.Cutting.{IsBelow}
use Rattle.mari_workers.proofs.cutting.Cutting.drop_below.Given as goal

abbrev pub invariant-loop-self : goal.invariant-loop-self
invariant-loop-self l = record {
  below : IsBelow l.market l.welfare (word_of l.above) l.self.left.items l.self.next;
  fewer : length l.self.left.items ≤ length l.initial.self.left.items;
  done : l.self.done ≡ l.initial.self.done;
}

abbrev pub decreases-loop-self : goal.decreases-loop-self
decreases-loop-self l = length l.self.left.items

use Rattle.std.proofs.Common.{◌≡◌, ◌+◌, ◌≤◌, ℕ, length, take, get_or}
use Rattle.mari_reach.specs.Ladders.{AreSumsOf}
use Rattle.mari_reach.proofs.ladders.sums_of.Given as goal

abbrev pub invariant-loop-offer : goal.invariant-loop-offer
invariant-loop-offer l = record {
  long : length l.sums.items ≡ l.offer-index + 1;
  last : AreSumsOf (take l.offer-index l.offers) l.last;
  sums : (k : ℕ) (d : _) → k ≤ l.offer-index → AreSumsOf (take k l.offers) (get_or l.sums.items k d);
}

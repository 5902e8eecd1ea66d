use Rattle.std.proofs.Common.{◌≡◌, ◌<◌, ℕ, length}
use Rattle.mari_market.specs.Sums.{int_at}
use Rattle.mari_prices.specs.declared.bounds.End.TheVariants.{Least, Greatest}
use Rattle.mari_node.specs.Plain.{IsPlainBound}
use Rattle.mari_node.proofs.bounds.plain_bounds.Given as goal

abbrev pub invariant-loop-zone : goal.invariant-loop-zone
invariant-loop-zone l = record {
  lows : length l.least.items ≡ l.zone;
  highs : length l.greatest.items ≡ l.zone;
  least : (z : ℕ) → z < l.zone → IsPlainBound Least l.market l.optimum z (int_at l.least.items z);
  greatest : (z : ℕ) → z < l.zone → IsPlainBound Greatest l.market l.optimum z (int_at l.greatest.items z);
}

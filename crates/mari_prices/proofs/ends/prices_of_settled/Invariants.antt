use Rattle.std.proofs.Common.{◌≡◌, ℕ, ◌<◌, length, Some}
use Rattle.mari_market.specs.Price.{price_at}
use Rattle.mari_prices.specs.declared.spread.SettledZone.{SettledZone}
use Rattle.mari_prices.specs.Spread.{entry_at}
use Rattle.mari_prices.specs.Tightest.{signed}
use Rattle.mari_prices.proofs.ends.prices_of_settled.Given as goal

abbrev pub invariant-loop-entry : goal.invariant-loop-entry
invariant-loop-entry l = record {
  long : length l.cents.items ≡ l.entry-index;
  each : (z : ℕ) (s : SettledZone) → z < l.entry-index → entry_at l.settled z ≡ Some s → price_at l.cents.items z ≡ signed l.end s.value;
}

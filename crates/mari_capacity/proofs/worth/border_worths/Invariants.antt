use Rattle.std.proofs.Common.{◌≡◌, ◌<◌, ℕ, length}
use Rattle.std.specs.Prelude.{slice_index_or}
use Rattle.mari_capacity.specs.Worth.{IsBorderWorth, no_worth}
use Rattle.mari_capacity.proofs.worth.border_worths.Given as goal

-- what the borders before this one are worth
abbrev pub invariant-loop-border : goal.invariant-loop-border
invariant-loop-border l = record {
  one_each : length l.worths.items ≡ l.border;
  each : (k : ℕ) → k < l.border → IsBorderWorth l.market l.published.activation l.published.prices.cents l.more k (slice_index_or l.worths.items k no_worth);
}

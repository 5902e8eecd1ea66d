use Rattle.std.proofs.Common.{◌≡◌, ◌<◌, ℕ, neg_ℤ, ◌≤ℤ◌, take}
use Rattle.mari_units.specs.declared.numbers.TheConstants.{CAP}
use Rattle.mari_market.specs.Sums.{int_at}
use Rattle.mari_reach.specs.State.{high_said, low_said}
use Rattle.mari_reach.proofs.prices.PriceBox.heed_all.Given as goal

abbrev pub invariant-loop-decision : goal.invariant-loop-decision
invariant-loop-decision l = record {
  low : (z : ℕ) → z < 64 → int_at l.self.low z ≡ low_said (take l.decision-index l.decisions) z;
  high : (z : ℕ) → z < 64 → int_at l.self.high z ≡ high_said (take l.decision-index l.decisions) z;
  low_kept : (z : ℕ) → neg_ℤ CAP ≤ℤ int_at l.self.low z;
  high_kept : (z : ℕ) → int_at l.self.high z ≤ℤ CAP;
}

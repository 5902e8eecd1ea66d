use Rattle.std.proofs.Common.{◌≡◌, ℕ, ◌<◌, true, false}
use Rattle.mari_market.specs.Sums.{int_at}
use Rattle.mari_network.specs.Spread.{is_marked}
use Rattle.mari_network.proofs.search.level_rest.Given as goal

abbrev pub invariant-loop-z : goal.invariant-loop-z
invariant-loop-z l = record {
  keep : (z : ℕ) → is_marked l.marked z ≡ true → int_at l.prices z ≡ int_at l.fn.prices z;
  level : (z : ℕ) → is_marked l.marked z ≡ false → z < l.z → int_at l.prices z ≡ l.price;
}

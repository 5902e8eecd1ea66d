use Rattle.std.proofs.Common.{◌≡◌, ◌*◌, ◌≤◌, ℕ, take}
use Rattle.std.specs.Prelude.{slice_get, unsigned_abs}
use Rattle.mari_market.specs.Sums.{sum_along}
use Rattle.mari_settle.specs.Ledger.{bid_amount}
use Rattle.mari_settle.specs.Lines.{amount_at}
use Rattle.mari_settle.proofs.providers.pay_all.Given as goal

abbrev pub invariant-loop-i : goal.invariant-loop-i
invariant-loop-i l = record {
  paid : (k : ℕ) → amount_at l.amounts k ≡ sum_along (λ number q. bid_amount l.prices l.scheduled k (slice_get l.bids.bids number) q) (take l.i l.numbers) (take l.i l.mw);
  small : (k : ℕ) → unsigned_abs (amount_at l.amounts k) ≤ 1000000000000 * l.i;
}

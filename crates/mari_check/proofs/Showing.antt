-- A block without faults shows its run.
use Rattle.std.proofs.Common.{ℕ, pos, List, Option, refl}
use Rattle.mari_units.specs.declared.numbers.Cents.{Cents}
use Rattle.mari_market.specs.Activation.{gate_word_of}
use Rattle.mari_publish.specs.declared.publication.FullBlock.{FullBlock}
use Rattle.mari_remain.specs.Accepted.{IsAccepted}
use Rattle.mari_remain.specs.declared.books.Books.{Books}
use Rattle.mari_remain.specs.declared.market.RunMarket.{RunMarket}
use Rattle.mari_proofs.proofs.TreeLaws.{first_for}
use Rattle.mari_progress.specs.Reported.{activation_of, prices_of}
use Rattle.mari_progress.proofs.Keeping.{balances}
use Rattle.mari_check.specs.declared.fault.Fault.{Fault}
use Rattle.mari_check.specs.declared.fault.Fault.TheVariants as fault
use Rattle.mari_check.specs.Faults.{IsFreeOf}
use Rattle.mari_check.specs.Markets.{IsMadeFor}
use Rattle.mari_check.specs.Shown.{ShowsRun}
use Rattle.mari_check.proofs.Made.{made-is}

module _ (books : Books) (ok : IsAccepted books) (run : ℕ) (made : RunMarket) (also : Option (List Cents)) (budget : Option ℕ) (b : FullBlock) (is : IsMadeFor books run made) where
  pub shows-run : ((any : Fault) → IsFreeOf books run made also budget b any) → ShowsRun books made also b
  shows-run free =
      let m = made.market in
      let a = activation_of b in
      let own = made-is books run made ok is in
      let feasible = free fault.Infeasible in
      let consistent = free fault.Inconsistent in
      let ledger = free fault.Ledger in
      let balance = balances books ok made also b own consistent ledger in
      record {
        first = first_for m (pos b.welfare) (gate_word_of m a) b.tree a own.valid (free fault.Leaf) (record { feasible = feasible; consistent = (prices_of b, consistent) }) (free fault.Welfare) refl;
        welfare = free fault.Welfare;
        prices = record { published = free fault.Price; consistent = consistent; intervals = free fault.Interval; areas = free fault.Area };
        ledger = ledger;
        sums = balance.to_zero;
      }

-- A block without faults shows its run.
use Rattle.std.proofs.Common.{ℕ, ℤ, pos, ◌+ℤ◌, ◌≤ℤ◌, ◌≡◌, List, Option, refl, subst, sym}
use Rattle.mari_units.specs.declared.numbers.Cents.{Cents}
use Rattle.mari_market.specs.declared.activation.Activation.{Activation}
use Rattle.mari_market.specs.Activation.{gate_word_of, welfare_of}
use Rattle.mari_market.specs.Optimal.{IsAdmissible}
use Rattle.mari_market.specs.Market.{IsValid}
use Rattle.mari_market.specs.declared.market.Market.{Market}
use Rattle.mari_remain.specs.Accepted.{IsAccepted}
use Rattle.mari_remain.specs.declared.books.Books.{Books}
use Rattle.mari_remain.specs.declared.market.RunMarket.{RunMarket}
use Rattle.mari_reach.specs.declared.decisions.ReachItem.{ReachItem}
use Rattle.mari_reach.specs.Tree.{ReachHolds}
use Rattle.mari_reach.proofs.TreeLaws.{tree_bounds, tree_first}
use Rattle.mari_progress.specs.Reported.{activation_of, prices_of}
use Rattle.mari_progress.proofs.Keeping.{balances}
use Rattle.mari_check.specs.declared.fault.Fault.{Fault}
use Rattle.mari_check.specs.declared.fault.Fault.TheVariants as fault
use Rattle.mari_check.specs.Markets.{IsMadeFor}
use Rattle.mari_check.proofs.Made.{made-is}
use Rattle.mari_reach_lines.specs.declared.line.Claim.{Claim}
use Rattle.mari_reach_lines.specs.declared.line.Claim.TheVariants.{First, Within}
use Rattle.mari_reach_text.specs.declared.named.NamedBlock.{NamedBlock}
use Rattle.mari_reach_check.specs.Faults.{IsReachFreeOf, cutoff_of, word_claimed}
use Rattle.mari_reach_check.specs.Shown.{IsSoOf, ShowsReach}

-- what a tree shows of an activation, by what is said of it
shows-claim : (m : Market) (a : Activation) (w : ℕ) (claim : Claim) (tree : List ReachItem) → IsValid m → IsAdmissible m a → welfare_of m a ≡ pos w
    → ReachHolds m (cutoff_of w claim) (word_claimed m a claim) tree → IsSoOf m a claim
shows-claim m a w First tree valid admissible e holds = tree_first m (pos w) (gate_word_of m a) tree a valid holds admissible e refl
shows-claim m a w (Within gap) tree valid admissible e holds =
    λ other also.
    let P : ℤ → Type 0 = λ x. welfare_of m other ≤ℤ (x +ℤ gap.0) in
    subst P (sym e) (tree_bounds m (pos w +ℤ gap.0) _ tree other valid holds also)

module _ (books : Books) (ok : IsAccepted books) (run : ℕ) (made : RunMarket) (also : Option (List Cents)) (budget : ℕ) (b : NamedBlock) (is : IsMadeFor books run made) where
  pub shows-reach : ((any : Fault) → IsReachFreeOf books run made also budget b any) → ShowsReach books made also b
  shows-reach free =
      let m = made.market in
      let a = activation_of b.block in
      let own = made-is books run made ok is in
      let consistent = free fault.Inconsistent in
      let ledger = free fault.Ledger in
      let holding = free fault.Leaf in
      let admissible : IsAdmissible m a = record { feasible = free fault.Infeasible; consistent = (prices_of b.block, consistent) } in
      let balance = balances books ok made also b.block own consistent ledger in
      record {
        admissible = admissible;
        claim = shows-claim m a b.block.welfare b.claim holding.tree own.valid admissible (free fault.Welfare) holding.holds;
        welfare = free fault.Welfare;
        prices = record { published = free fault.Price; consistent = consistent; intervals = free fault.Interval; areas = free fault.Area };
        ledger = ledger;
        sums = balance.to_zero;
      }

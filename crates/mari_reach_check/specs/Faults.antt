-- The faults of a block of the second form, and which of them is reported. Read this file first.
use Rattle.std.specs.Prelude.{◌≤◌, ℕ, ℤ, pos, ◌+ℤ◌, Bool, List, Option, Some, None, length, ⊤}
use Rattle.mari_units.specs.declared.numbers.Cents.{Cents}
use Rattle.mari_market.specs.declared.activation.Activation.{Activation}
use Rattle.mari_market.specs.declared.market.Market.{Market}
use Rattle.mari_market.specs.Activation.{gate_word_of}
use Rattle.mari_market.specs.Relaxation.{all_closed}
use Rattle.mari_remain.specs.declared.books.Books.{Books}
use Rattle.mari_remain.specs.declared.market.RunMarket.{RunMarket}
use Rattle.mari_progress.specs.Reported.{activation_of}
use Rattle.mari_progress.specs.Runs.{IsRunOf}
use Rattle.mari_check.specs.declared.block.Examined.{Examined}
use Rattle.mari_check.specs.declared.block.Examined.TheVariants.{Faulty, Sound}
use Rattle.mari_check.specs.declared.fault.Fault.{Fault}
use Rattle.mari_check.specs.declared.fault.Fault.TheVariants as fault
use Rattle.mari_check.specs.Faults.{IsFreeOf, IsLeast}
use Rattle.mari_reach.specs.declared.decisions.ReachItem.{ReachItem}
use Rattle.mari_reach.specs.Tree.{HasShape, ReachHolds}
use Rattle.mari_reach_check.specs.declared.tree.TreeFound.{TreeFound}
use Rattle.mari_reach_check.specs.declared.tree.TreeFound.TheVariants as found
use Rattle.mari_reach_lines.specs.declared.line.Claim.{Claim}
use Rattle.mari_reach_lines.specs.declared.line.Claim.TheVariants.{First, Within}
use Rattle.mari_reach_text.specs.declared.named.NamedBlock.{NamedBlock}
use Rattle.mari_reach_text.specs.declared.named.NamedItem.{NamedItem}
use Rattle.mari_reach_text.specs.Numbers.{IsNumbered, gated_of}

-- the number of quarter-cents that a block's tree is to hold at
abbrev pub cutoff_of : (welfare : ℕ) → Claim → ℤ
cutoff_of welfare First = pos welfare
cutoff_of welfare (Within gap) = pos welfare +ℤ gap.0

-- the gate word that it is to hold for
abbrev pub word_claimed : Market → Activation → Claim → List Bool
word_claimed m a First = gate_word_of m a
word_claimed m a (Within gap) = all_closed m

-- a tree has the shape of one of states of the market, and no more items than the budget
pub record IsWholeTree (m : Market) (budget : ℕ) (tree : List ReachItem) : Type 0 where
  pub shape : HasShape m tree
  pub few : length tree ≤ budget

-- the named items are those of such a tree
pub record NamesTree (books : Books) (made : RunMarket) (budget : ℕ) (items : List NamedItem) : Type 0 where
  pub tree : List ReachItem
  pub numbered : IsNumbered books (gated_of books made) items tree
  pub whole : IsWholeTree made.market budget tree

-- the named items are those of a tree that holds at a cutoff for a gate word
pub record NamesHolding (books : Books) (made : RunMarket) (cutoff : ℤ) (word : List Bool) (items : List NamedItem) : Type 0 where
  pub tree : List ReachItem
  pub numbered : IsNumbered books (gated_of books made) items tree
  pub holds : ReachHolds made.market cutoff word tree

-- what is so where a fault isn't there: of the block of a run, counted from 1, with this market, where the run's quarter has
-- these scheduled prices, or none, and the day this budget. All but the tree's two are those of a block of the first form
abbrev pub IsReachFreeOf : Books → (run : ℕ) → RunMarket → (also : Option (List Cents)) → (budget : ℕ) → NamedBlock → Fault → Type 0
IsReachFreeOf books run made also budget b fault.Heading = IsFreeOf books run made also None b.block fault.Heading
IsReachFreeOf books run made also budget b fault.Lines = IsFreeOf books run made also None b.block fault.Lines
IsReachFreeOf books run made also budget b fault.Infeasible = IsFreeOf books run made also None b.block fault.Infeasible
IsReachFreeOf books run made also budget b fault.Welfare = IsFreeOf books run made also None b.block fault.Welfare
IsReachFreeOf books run made also budget b fault.Inconsistent = IsFreeOf books run made also None b.block fault.Inconsistent
IsReachFreeOf books run made also budget b fault.Interval = IsFreeOf books run made also None b.block fault.Interval
IsReachFreeOf books run made also budget b fault.Price = IsFreeOf books run made also None b.block fault.Price
IsReachFreeOf books run made also budget b fault.Area = IsFreeOf books run made also None b.block fault.Area
IsReachFreeOf books run made also budget b fault.Tree = NamesTree books made budget b.tree
IsReachFreeOf books run made also budget b fault.Leaf =
    NamesHolding books made (cutoff_of b.block.welfare b.claim) (word_claimed made.market (activation_of b.block) b.claim) b.tree
IsReachFreeOf books run made also budget b fault.Ledger = IsFreeOf books run made also None b.block fault.Ledger
IsReachFreeOf books run made also budget b fault.Totals = ⊤

-- the least fault is reported, or that there is none and what the block adds to its day, beside the market
abbrev pub ExaminesReach : Books → (run : ℕ) → RunMarket → (also : Option (List Cents)) → (budget : ℕ) → NamedBlock → Examined → Type 0
ExaminesReach books run made also budget b (Faulty least) = IsLeast (IsReachFreeOf books run made also budget b) least
ExaminesReach books run made also budget b (Sound a ps ledger) =
    ((any : Fault) → IsReachFreeOf books run made also budget b any)
    × IsRunOf books made also b.block (record { made = made; activation = a; prices = ps; ledger = ledger })

-- what is found of a tree, and of one by names
abbrev pub FindsTree : Market → (cutoff : ℤ) → (word : List Bool) → (budget : ℕ) → List ReachItem → TreeFound → Type 0
FindsTree m cutoff word budget tree found.Sound = IsWholeTree m budget tree × ReachHolds m cutoff word tree
FindsTree m cutoff word budget tree found.BadTree = IsWholeTree m budget tree → ⊥
FindsTree m cutoff word budget tree found.BadLeaf = IsWholeTree m budget tree × (ReachHolds m cutoff word tree → ⊥)

abbrev pub FindsNamed : Books → RunMarket → (cutoff : ℤ) → (word : List Bool) → (budget : ℕ) → List NamedItem → TreeFound → Type 0
FindsNamed books made cutoff word budget items found.Sound = NamesTree books made budget items × NamesHolding books made cutoff word items
FindsNamed books made cutoff word budget items found.BadTree = NamesTree books made budget items → ⊥
FindsNamed books made cutoff word budget items found.BadLeaf = NamesTree books made budget items × (NamesHolding books made cutoff word items → ⊥)

-- the fault that it is, if it is one
abbrev pub fault_of : TreeFound → Option Fault
fault_of found.Sound = None
fault_of found.BadTree = Some fault.Tree
fault_of found.BadLeaf = Some fault.Leaf

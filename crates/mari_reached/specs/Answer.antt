-- What an answer of the second form says of a market.
use Rattle.std.specs.Prelude.{◌≡◌, ℕ, ◌≤◌, ℤ, pos, ◌+ℤ◌, ◌≤ℤ◌, List, length}
use Rattle.mari_market.specs.declared.market.Market.{Market}
use Rattle.mari_market.specs.declared.activation.Activation.{Activation}
use Rattle.mari_market.specs.Activation.{gate_word_of, welfare_of}
use Rattle.mari_market.specs.First.{IsFirst}
use Rattle.mari_market.specs.Optimal.{IsAdmissible}
use Rattle.mari_market.specs.Relaxation.{all_closed}
use Rattle.mari_reach.specs.declared.decisions.ReachItem.{ReachItem}
use Rattle.mari_reach.specs.declared.dual.TheConstants.{MOST_VALUE}
use Rattle.mari_reach.specs.Tree.{ReachHolds}
use Rattle.mari_reached.specs.declared.answer.Answer.{Answer}
use Rattle.mari_reached.specs.declared.answer.Answer.TheVariants.{First, Within}
use Rattle.mari_reached.specs.declared.answer.Found.{Found}

-- a tree has an item at least, and no more than the budget
pub record IsWithinBudget (budget : ℕ) (tree : List ReachItem) : Type 0 where
  pub some : 1 ≤ length tree
  pub few : length tree ≤ budget

-- the first activation, its welfare, and a tree within the budget that holds at that welfare for its gate word
pub record IsFirstFound (m : Market) (budget : ℕ) (f : Found) : Type 0 where
  pub first : IsFirst m f.activation
  pub welfare : welfare_of m f.activation ≡ pos f.welfare
  pub tree : ReachHolds m (pos f.welfare) (gate_word_of m f.activation) f.tree
  pub items : IsWithinBudget budget f.tree

-- an admissible activation, its welfare, a gap that is small enough to be written as money, and a tree within the budget
-- that holds at the welfare and the gap for the word that closes every gate, so that no other is better by more
pub record IsFoundWithin (m : Market) (budget : ℕ) (f : Found) (gap : ℤ) : Type 0 where
  pub admissible : IsAdmissible m f.activation
  pub welfare : welfare_of m f.activation ≡ pos f.welfare
  pub least : pos 0 ≤ℤ gap
  pub most : gap ≤ℤ pos MOST_VALUE
  pub tree : ReachHolds m (pos f.welfare +ℤ gap) (all_closed m) f.tree
  pub items : IsWithinBudget budget f.tree
  pub bounds : (b : Activation) → IsAdmissible m b → welfare_of m b ≤ℤ (pos f.welfare +ℤ gap)

-- an answer within a budget of nodes says what holds of the market
abbrev pub IsAnswer : Market → ℕ → Answer → Type 0
IsAnswer m budget (First f) = IsFirstFound m budget f
IsAnswer m budget (Within f gap) = IsFoundWithin m budget f gap.0

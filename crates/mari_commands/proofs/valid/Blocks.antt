-- A block of a day has none of the faults.
use Rattle.std.proofs.Common.{ℕ, ◌≤◌, Bool, true, false, pos, List, [], ◌∷◌, ◌++◌, length, Option, Some, arith}
use Rattle.std.specs.Prelude.{if◌then◌else◌}
use Rattle.mari_units.specs.declared.numbers.Cents.{Cents}
use Rattle.mari_market.specs.Activation.{gate_word_of}
use Rattle.mari_market.specs.Tree.{LeafHoldsFor}
use Rattle.mari_market.proofs.Search.{AreParts-map}
use Rattle.mari_publish.specs.declared.publication.Block.{Block}
use Rattle.mari_publish.specs.declared.publication.Block.TheVariants as block
use Rattle.mari_publish.specs.declared.publication.FullBlock.{FullBlock}
use Rattle.mari_lines.specs.declared.line.Heading.{Heading}
use Rattle.mari_remain.specs.declared.books.Books.{Books}
use Rattle.mari_remain.specs.declared.market.RunMarket.{RunMarket}
use Rattle.mari_progress.specs.After.{run_after}
use Rattle.mari_day.specs.Published.{IsBlock, IsPublishedOf, IsUnpublishedRun}
use Rattle.mari_progress.specs.Reported.{activation_of}
use Rattle.mari_check.specs.declared.fault.Fault.{Fault}
use Rattle.mari_check.specs.declared.fault.Fault.TheVariants as fault
use Rattle.mari_check.specs.Day.{FillsBudget, IsFreeIn, IsUnpublishedFree}
use Rattle.mari_check.specs.Faults.{IsFreeOf}
use Rattle.mari_check.specs.Shapes.{AnyLeaf}

-- a published block of a market
free-of : (books : Books) (budget run : ℕ) (made : RunMarket) (also : Option (List Cents)) (b : FullBlock) → IsPublishedOf books budget run made also b
    → (any : Fault) → IsFreeOf books run made also (Some budget) b any
free-of books budget run made also b is fault.Heading = is.heading
free-of books budget run made also b is fault.Lines = is.names
free-of books budget run made also b is fault.Infeasible = is.clearing.first.optimal.admissible.feasible
free-of books budget run made also b is fault.Welfare = is.clearing.welfare
free-of books budget run made also b is fault.Inconsistent = is.prices.consistent
free-of books budget run made also b is fault.Interval = is.prices.intervals
free-of books budget run made also b is fault.Price = is.prices.published
free-of books budget run made also b is fault.Area = is.prices.areas
free-of books budget run made also b is fault.Tree = record {
  shape = AreParts-map made.market (LeafHoldsFor made.market (pos b.welfare) (gate_word_of made.market (activation_of b))) AnyLeaf (λ word leaf holds. tt) ([] ∷ []) b.tree is.clearing.tree;
  within_budget = is.clearing.within_budget;
}
free-of books budget run made also b is fault.Leaf = is.clearing.tree
free-of books budget run made also b is fault.Ledger = is.ledger
free-of books budget run made also b is fault.Totals = tt

-- a word has at most two children
two-children : (word : List Bool) (may : Bool) → length ((word ++ false ∷ []) ∷ (if may then (word ++ true ∷ []) ∷ [] else [])) ≤ 2
two-children word true = omega arith
two-children word false = omega arith

-- so two nodes more would be above the budget
fills-budget : (books : Books) (budget : ℕ) (before : List Block) (heading : Heading) (count : ℕ) → IsUnpublishedRun books budget before heading count → FillsBudget budget count
fills-budget books budget before heading count is = grind (arith, two-children)

unpublished-free : (books : Books) (budget : ℕ) (before : List Block) (heading : Heading) (count : ℕ) → run_after before ≤ length books.runs.runs → IsUnpublishedRun books budget before heading count
    → (any : Fault) → IsUnpublishedFree books budget before heading count any
unpublished-free books budget before heading count there is fault.Heading = record { there = there; is_of = is.is_of }
unpublished-free books budget before heading count there is fault.Lines = tt
unpublished-free books budget before heading count there is fault.Infeasible = tt
unpublished-free books budget before heading count there is fault.Welfare = tt
unpublished-free books budget before heading count there is fault.Inconsistent = tt
unpublished-free books budget before heading count there is fault.Interval = tt
unpublished-free books budget before heading count there is fault.Price = tt
unpublished-free books budget before heading count there is fault.Area = tt
unpublished-free books budget before heading count there is fault.Tree = fills-budget books budget before heading count is
unpublished-free books budget before heading count there is fault.Leaf = tt
unpublished-free books budget before heading count there is fault.Ledger = tt
unpublished-free books budget before heading count there is fault.Totals = tt

pub block-is-free : (books : Books) (budget : ℕ) (before : List Block) (b : Block)
    → run_after before ≤ length books.runs.runs → IsBlock books budget before b → (any : Fault)
    → IsFreeIn books budget before b any
block-is-free books budget before (block.Published b) there is any = (there, free-of books budget _ _ _ b is any)
block-is-free books budget before (block.Unpublished heading count) there is any = unpublished-free books budget before heading count there is any

-- The faults of a published block, and which of them is reported. Read this file first.
use Rattle.std.specs.Prelude.{◌≡◌, ◌<◌, ◌≤◌, ℕ, pos, List, Option, Some, None, IfSome, length, ⊤}
use Rattle.mari_units.specs.declared.numbers.Cents.{Cents}
use Rattle.mari_market.specs.declared.certificate.TreeItem.{TreeItem}
use Rattle.mari_market.specs.declared.market.Market.{Market}
use Rattle.mari_market.specs.Activation.{gate_word_of, welfare_of}
use Rattle.mari_market.specs.Area.{AreAreas}
use Rattle.mari_market.specs.Interval.{AreIntervals, ArePublishedPrices}
use Rattle.mari_market.specs.Optimal.{IsConsistent, IsFeasible}
use Rattle.mari_market.specs.Tree.{TreeHoldsFor}
use Rattle.mari_publish.specs.declared.publication.FullBlock.{FullBlock}
use Rattle.mari_remain.specs.declared.books.Books.{Books}
use Rattle.mari_remain.specs.declared.market.RunMarket.{RunMarket}
use Rattle.mari_check.specs.declared.fault.Fault.{Fault}
use Rattle.mari_check.specs.declared.fault.Fault.TheVariants as fault
use Rattle.mari_progress.specs.Money.{HasLedger}
use Rattle.mari_check.specs.Shapes.{HasShape}
use Rattle.mari_progress.specs.Reported.{NamesMarket, activation_of, areas_of, greatest_reported, heading_of, least_reported, prices_of}

-- the faults in their order, from 1
abbrev pub fault_number : Fault → ℕ
fault_number fault.Heading = 1
fault_number fault.Lines = 2
fault_number fault.Infeasible = 3
fault_number fault.Welfare = 4
fault_number fault.Inconsistent = 5
fault_number fault.Interval = 6
fault_number fault.Price = 7
fault_number fault.Area = 8
fault_number fault.Tree = 9
fault_number fault.Leaf = 10
fault_number fault.Ledger = 11
fault_number fault.Totals = 12

-- each zone's least and greatest price are the least and the greatest of its consistent prices
abbrev pub HasIntervals : Market → FullBlock → Type 0
HasIntervals m b = AreIntervals m (activation_of b) (least_reported b) (greatest_reported b)

-- a tree has the shape, and no more items than the budget, where there is one
pub record IsWholeWithin (m : Market) (budget : Option ℕ) (items : List TreeItem) : Type 0 where
  pub shape : HasShape m items
  pub within_budget : IfSome budget (λ most. length items ≤ most)

-- what is so where a fault isn't there: of a block of a run, counted from 1, with this market, where the run's quarter
-- has these scheduled prices, or none, and the day this budget, where one is given. The totals are no matter of one
-- block
abbrev pub IsFreeOf : Books → (run : ℕ) → RunMarket → (also : Option (List Cents)) → (budget : Option ℕ) → FullBlock → Fault → Type 0
IsFreeOf books run made also budget b fault.Heading = b.heading ≡ heading_of books run
IsFreeOf books run made also budget b fault.Lines = NamesMarket books made b
IsFreeOf books run made also budget b fault.Infeasible = IsFeasible made.market (activation_of b)
IsFreeOf books run made also budget b fault.Welfare = welfare_of made.market (activation_of b) ≡ pos b.welfare
IsFreeOf books run made also budget b fault.Inconsistent = IsConsistent made.market (activation_of b) (prices_of b)
IsFreeOf books run made also budget b fault.Interval = HasIntervals made.market b
IsFreeOf books run made also budget b fault.Price = ArePublishedPrices made.market (activation_of b) (prices_of b)
IsFreeOf books run made also budget b fault.Area = AreAreas made.market (activation_of b) (areas_of b)
IsFreeOf books run made also budget b fault.Tree = IsWholeWithin made.market budget b.tree
IsFreeOf books run made also budget b fault.Leaf = TreeHoldsFor made.market (pos b.welfare) (gate_word_of made.market (activation_of b)) b.tree
IsFreeOf books run made also budget b fault.Ledger = HasLedger books made also b
IsFreeOf books run made also budget b fault.Totals = ⊤

-- the fault is there, and none of a lower number is
pub record IsLeast (free_of : Fault → Type 0) (least : Fault) : Type 0 where
  pub there : free_of least → ⊥
  pub none_lower : (other : Fault) → fault_number other < fault_number least → free_of other

-- the fault that is reported is the least one, and none is reported where none is there
abbrev pub Finds : (Fault → Type 0) → Option Fault → Type 0
Finds free_of None = (any : Fault) → free_of any
Finds free_of (Some least) = IsLeast free_of least

-- and where it is reported by its number
abbrev pub FindsNumber : (Fault → Type 0) → Option ℕ → Type 0
FindsNumber free_of None = (any : Fault) → free_of any
FindsNumber free_of (Some number) = (least : Fault) × IsLeast free_of least × (number ≡ fault_number least)

-- none of the faults below this number is there
abbrev pub NoneBelow : (Fault → Type 0) → ℕ → Type 0
NoneBelow free_of number = (any : Fault) → fault_number any < number → free_of any

-- of the faults from one number to another, where none of a lower one is there, the least is reported, or that none of them
-- is there either
abbrev pub FindsUpTo : (Fault → Type 0) → ℕ → Option Fault → Type 0
FindsUpTo free_of number None = NoneBelow free_of number
FindsUpTo free_of number (Some least) = IsLeast free_of least × (fault_number least < number)

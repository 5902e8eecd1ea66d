-- What is found of a published block: its least fault, or what it states of its run.
use Rattle.std.specs.Prelude.{◌≡◌, ◌<◌, ℕ, List, Option, Some, None}
use Rattle.mari_units.specs.declared.numbers.Cents.{Cents}
use Rattle.mari_market.specs.declared.activation.Activation.{Activation}
use Rattle.mari_market.specs.declared.activation.Prices.{Prices}
use Rattle.mari_publish.specs.declared.publication.FullBlock.{FullBlock}
use Rattle.mari_remain.specs.declared.books.Books.{Books}
use Rattle.mari_remain.specs.declared.market.RunMarket.{RunMarket}
use Rattle.mari_settle.specs.declared.ledger.Ledger.{Ledger}
use Rattle.mari_progress.specs.Money.{HasLedger}
use Rattle.mari_progress.specs.Runs.{IsRunOf}
use Rattle.mari_progress.specs.Reported.{activation_of, prices_of}
use Rattle.mari_check.specs.declared.block.BeforeTree.{BeforeTree}
use Rattle.mari_check.specs.declared.block.BeforeTree.TheVariants as before
use Rattle.mari_check.specs.declared.block.Examined.{Examined}
use Rattle.mari_check.specs.declared.block.Examined.TheVariants.{Faulty, Sound}
use Rattle.mari_check.specs.declared.fault.Fault.{Fault}
use Rattle.mari_check.specs.declared.fault.Fault.TheVariants as fault
use Rattle.mari_check.specs.Faults.{IsFreeOf, IsLeast, NoneBelow, fault_number}

-- a ledger is given exactly where the block states its run's, and is then the one that its day adds, with this
-- activation and these prices
abbrev pub IsReportedLedger : Books → RunMarket → (also : Option (List Cents)) → FullBlock → Activation → Prices → Option Ledger → Type 0
IsReportedLedger books made also b a ps None = HasLedger books made also b → ⊥
IsReportedLedger books made also b a ps (Some ledger) =
    HasLedger books made also b × IsRunOf books made also b (record { made = made; activation = a; prices = ps; ledger = ledger })

-- before the tree is looked at, the least fault is reported where it is one of those before the tree's; or that none of these
-- is there, with the activation and the prices that the block states
abbrev pub FindsBeforeTree : Books → (run : ℕ) → RunMarket → (also : Option (List Cents)) → (budget : Option ℕ) → FullBlock → BeforeTree → Type 0
FindsBeforeTree books run made also budget b (before.Faulty least) =
    IsLeast (IsFreeOf books run made also budget b) least × (fault_number least < fault_number fault.Tree)
FindsBeforeTree books run made also budget b (before.Sound a ps) =
    NoneBelow (IsFreeOf books run made also budget b) (fault_number fault.Tree) × (a ≡ activation_of b) × (ps.cents ≡ prices_of b)

-- the least fault is reported, or that there is none and what the block adds to its day, beside the market
abbrev pub ExaminesBlock : Books → (run : ℕ) → RunMarket → (also : Option (List Cents)) → (budget : Option ℕ) → FullBlock → Examined → Type 0
ExaminesBlock books run made also budget b (Faulty least) = IsLeast (IsFreeOf books run made also budget b) least
ExaminesBlock books run made also budget b (Sound a ps ledger) =
    ((any : Fault) → IsFreeOf books run made also budget b any)
    × IsRunOf books made also b (record { made = made; activation = a; prices = ps; ledger = ledger })

-- The run after the blocks that were checked.
use Rattle.std.proofs.Common.{◌≡◌, ◌≤◌, ◌<◌, ℕ, List, Option, Some, length, sym, subst, arith}
use Rattle.mari_units.specs.declared.numbers.Cents.{Cents}
use Rattle.mari_publish.specs.declared.publication.Block.{Block}
use Rattle.mari_publish.specs.declared.publication.Block.TheVariants as block
use Rattle.mari_publish.specs.declared.publication.FullBlock.{FullBlock}
use Rattle.mari_remain.specs.declared.books.Books.{Books}
use Rattle.mari_remain.specs.declared.market.RunMarket.{RunMarket}
use Rattle.mari_progress.specs.After.{also_after, market_after, run_after}
use Rattle.mari_check.specs.declared.fault.Fault.{Fault}
use Rattle.mari_check.specs.declared.fault.Fault.TheVariants as fault
use Rattle.mari_check.specs.Day.{IsFreeIn}
use Rattle.mari_check.specs.Faults.{IsFreeOf, IsLeast, fault_number}

-- a published block whose run isn't there
pub past-last : (books : Books) (budget : ℕ) (blocks : List Block) (b : FullBlock)
    → length books.runs.runs < run_after blocks
    → IsLeast (IsFreeIn books budget blocks (block.Published b)) fault.Heading
past-last books budget blocks b past = record { there = λ h. omega (arith, h.0, past); none_lower = λ other less. absurd (below other less) }
  where
    below : (other : Fault) → fault_number other < 1 → ⊥
    below fault.Heading l = omega (arith, l)
    below fault.Lines l = omega (arith, l)
    below fault.Infeasible l = omega (arith, l)
    below fault.Welfare l = omega (arith, l)
    below fault.Inconsistent l = omega (arith, l)
    below fault.Interval l = omega (arith, l)
    below fault.Price l = omega (arith, l)
    below fault.Area l = omega (arith, l)
    below fault.Tree l = omega (arith, l)
    below fault.Leaf l = omega (arith, l)
    below fault.Ledger l = omega (arith, l)
    below fault.Totals l = omega (arith, l)

module _ (books : Books) (budget : ℕ) (blocks : List Block) (run : ℕ) (is : run ≡ run_after blocks) (last : run ≤ length books.runs.runs) where
  module _ (made : RunMarket) (e : made ≡ market_after books blocks) (also : Option (List Cents)) (f : also ≡ also_after books blocks) (b : FullBlock) where
    free-after : (any : Fault) → IsFreeOf books run made also (Some budget) b any → IsFreeIn books budget blocks (block.Published b) any
    free-after any h =
        let R : ℕ → Type 0 = λ r. IsFreeOf books r made also (Some budget) b any in
        let M : RunMarket → Type 0 = λ m. IsFreeOf books (run_after blocks) m also (Some budget) b any in
        let A : Option (List Cents) → Type 0 = λ a. IsFreeOf books (run_after blocks) (market_after books blocks) a (Some budget) b any in
        (omega (arith, is, last), subst A f (subst M e (subst R is h)))

    after-free : (any : Fault) → IsFreeIn books budget blocks (block.Published b) any → IsFreeOf books run made also (Some budget) b any
    after-free any h =
        let R : ℕ → Type 0 = λ r. IsFreeOf books r made also (Some budget) b any in
        let M : RunMarket → Type 0 = λ m. IsFreeOf books (run_after blocks) m also (Some budget) b any in
        let A : Option (List Cents) → Type 0 = λ a. IsFreeOf books (run_after blocks) (market_after books blocks) a (Some budget) b any in
        subst R (sym is) (subst M (sym e) (subst A (sym f) h.1))

    pub least-after : (least : Fault) → IsLeast (IsFreeOf books run made also (Some budget) b) least → IsLeast (IsFreeIn books budget blocks (block.Published b)) least
    least-after least l = record { there = λ h. l.there (after-free least h); none_lower = λ other less. free-after other (l.none_lower other less) }

    pub all-after : ((any : Fault) → IsFreeOf books run made also (Some budget) b any) → (any : Fault) → IsFreeIn books budget blocks (block.Published b) any
    all-after h any = free-after any (h any)

-- The ranges of the numbers in a line of the second form, and which lines of the first form it has.
use Rattle.std.specs.Prelude.{◌≡◌, ◌≤ℤ◌, Bool, true, false, pos, ⊤}
use Rattle.mari_units.specs.Names.{IsName}
use Rattle.mari_units.specs.declared.limits.TheConstants.{MOST_QUARTERS}
use Rattle.mari_units.specs.declared.numbers.Quarters.{Quarters}
use Rattle.mari_market.specs.Clearing.{IsBudget}
use Rattle.mari_market.specs.Price.{IsCapped}
use Rattle.mari_lines.specs.Ranges.{Between, InRange, IsDate, IsHeading, IsMoney}
use Rattle.mari_lines.specs.declared.line.Line.{Line}
use Rattle.mari_lines.specs.declared.line.Line.TheVariants as line
use Rattle.mari_reach_lines.specs.declared.line.Claim.{Claim}
use Rattle.mari_reach_lines.specs.declared.line.Claim.TheVariants.{First, Within}
use Rattle.mari_reach_lines.specs.declared.line.ReachLine.{ReachLine}
use Rattle.mari_reach_lines.specs.declared.line.ReachLine.TheVariants as reach

-- the lines of the first form that the second has too
abbrev pub is_shared : Line → Bool
is_shared (line.Head date quarters budget) = false
is_shared (line.Run heading) = false
is_shared (line.Unpublished heading count) = false
is_shared line.Branch = false
is_shared (line.Conflict zones) = false
is_shared (line.At prices) = false
is_shared (line.Flows flows) = false
is_shared (line.Mws mws) = false
is_shared _ = true

-- a gap is an amount of money from 0 on
abbrev pub IsGap : Quarters → Type 0
IsGap gap = IsMoney gap × (pos 0 ≤ℤ gap.0)

-- what a run's line says of the activation
abbrev pub IsClaim : Claim → Type 0
IsClaim First = ⊤
IsClaim (Within gap) = IsGap gap

-- the ranges of the numbers in a line
abbrev pub ReachInRange : ReachLine → Type 0
ReachInRange (reach.Head date quarters budget) = IsDate date × Between 1 MOST_QUARTERS quarters × IsBudget budget
ReachInRange (reach.Run heading claim) = IsHeading heading × IsClaim claim
ReachInRange (reach.Branch bid) = IsName bid
ReachInRange (reach.Price zone price) = IsName zone × IsCapped price
ReachInRange reach.Void = ⊤
ReachInRange (reach.Shared l) = InRange l × (is_shared l ≡ true)

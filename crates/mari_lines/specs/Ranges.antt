-- The ranges of the numbers in a line.
use Rattle.std.specs.Prelude.{◌≡◌, ◌≤◌, ◌<◌, ℕ, ◌^◌, Bool, true, ◌&&◌, ◌==◌, List, length, take, drop, slice_index, ⊤}
use Rattle.std.specs.Char.{is_ascii_digit}
use Rattle.std.specs.List.{All, list_all}
use Rattle.mari_units.specs.Names.{IsName}
use Rattle.mari_units.specs.Numbers.{Within}
use Rattle.mari_units.specs.declared.limits.TheConstants.{MOST_BORDERS, MOST_DEMANDS, MOST_FLOW, MOST_MW, MOST_QUARTERS, MOST_RUNS, MOST_ZONES}
use Rattle.mari_units.specs.declared.numbers.Quarters.{Quarters}
use Rattle.mari_market.specs.declared.limits.TheConstants.{MOST_ORDERS}
use Rattle.mari_market.specs.Clearing.{IsBudget}
use Rattle.mari_market.specs.Cut.{IsRising}
use Rattle.mari_market.specs.Price.{IsCapped}
use Rattle.mari_lines.specs.declared.line.TheConstants.{MOST_MONEY}
use Rattle.mari_lines.specs.declared.line.Heading.{Heading}
use Rattle.mari_lines.specs.declared.line.MoneyLine.{MoneyLine}
use Rattle.mari_lines.specs.declared.line.AmountLine.{AmountLine}
use Rattle.mari_lines.specs.declared.line.Line.{Line}
use Rattle.mari_lines.specs.declared.line.Line.TheVariants as line

-- a number from the first to the second
abbrev pub Between : ℕ → ℕ → ℕ → Type 0
Between least greatest n = (least ≤ n) × (n ≤ greatest)

-- a date: four digits, a hyphen, two digits, a hyphen, and two digits, whether or not there is such a day
abbrev pub is_date : List ℕ → Bool
is_date text =
    length text == 10 && list_all is_ascii_digit (take 4 text) && slice_index text 4 == 45 && list_all is_ascii_digit (take 2 (drop 5 text)) &&
    slice_index text 7 == 45 && list_all is_ascii_digit (drop 8 text)

abbrev pub IsDate : List ℕ → Type 0
IsDate text = IsName text × (is_date text ≡ true)

-- an amount of money within the greatest of a line
abbrev pub IsMoney : Quarters → Type 0
IsMoney q = Within MOST_MONEY q.0

-- a zone's number from 0
abbrev pub IsZone : ℕ → Type 0
IsZone zone = zone < MOST_ZONES

-- a run's number, and its quarter
abbrev pub IsHeading : Heading → Type 0
IsHeading h = Between 1 MOST_RUNS h.run × Between 1 MOST_QUARTERS h.quarter

-- the numbers of a line of an operator are in range
abbrev pub IsMoneyLine : MoneyLine → Type 0
IsMoneyLine m = IsName m.name × IsMoney m.payment × IsMoney m.rent × IsMoney m.net

-- the numbers of a line of a provider are in range
abbrev pub IsAmountLine : AmountLine → Type 0
IsAmountLine a = IsName a.name × IsMoney a.amount

-- from `least` to `greatest` items, and P holds of each
abbrev pub Listed : {X : Type 0} → ℕ → ℕ → (X → Type 0) → List X → Type 0
Listed least greatest P xs = Between least greatest (length xs) × All P xs

-- the ranges of the numbers in a line, and how many it may have
abbrev pub InRange : Line → Type 0
InRange (line.Head date quarters budget) = IsDate date × Between 1 MOST_QUARTERS quarters × IsBudget budget
InRange (line.Run heading) = IsHeading heading
InRange (line.Unpublished heading count) = IsHeading heading × IsBudget count
InRange (line.Welfare welfare) = welfare < 2 ^ 63
InRange (line.Zone z) = IsName z.name × IsCapped z.price × IsCapped z.least × IsCapped z.greatest × Between 1 MOST_ZONES z.area
InRange (line.Border b) = IsName b.from × IsName b.to × Within MOST_FLOW b.flow × IsMoney b.rent
InRange (line.Bid b) = IsName b.id × (b.mw ≤ MOST_MW)
InRange (line.Demand place mw) = Between 1 MOST_DEMANDS place × (mw ≤ MOST_MW)
InRange (line.Tree count) = IsBudget count
InRange line.Branch = ⊤
InRange (line.Bound prices) = Listed 1 MOST_ZONES IsCapped prices
InRange (line.Cut cut) = Between 1 MOST_ZONES (length cut.zones) × IsRising 0 MOST_ZONES cut.zones
InRange (line.Conflict zones) = Listed 1 MOST_ZONES IsZone zones
InRange (line.At prices) = Listed 1 MOST_ZONES IsCapped prices
InRange (line.Flows flows) = Listed 0 MOST_BORDERS (λ flow. Within MOST_FLOW flow) flows
InRange (line.Mws mws) = Listed 0 MOST_ORDERS (λ mw. mw ≤ MOST_MW) mws
InRange (line.Operator operator) = IsMoneyLine operator
InRange (line.Provider provider) = IsAmountLine provider
InRange (line.End run) = Between 1 MOST_RUNS run
InRange (line.TotalOperator operator) = IsMoneyLine operator
InRange (line.TotalProvider provider) = IsAmountLine provider
InRange (line.Done published unpublished) = (published ≤ MOST_RUNS) × (unpublished ≤ MOST_RUNS)

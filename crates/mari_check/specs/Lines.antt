-- Lines of a block beside what they are to state, one beside the other.
use Rattle.std.specs.Prelude.{◌≡◌, ◌≤ℤ◌, ℕ, List}
use Rattle.mari_units.specs.declared.numbers.Cents.{Cents}
use Rattle.mari_units.specs.declared.numbers.Quarters.{Quarters}
use Rattle.mari_rows.specs.Names.{name_at}
use Rattle.mari_zones.specs.declared.borders.BorderEnds.{BorderEnds}
use Rattle.mari_market.specs.Interval.{IsNearest}
use Rattle.mari_lines.specs.declared.line.AmountLine.{AmountLine}
use Rattle.mari_lines.specs.declared.line.BidLine.{BidLine}
use Rattle.mari_lines.specs.declared.line.BorderLine.{BorderLine}
use Rattle.mari_lines.specs.declared.line.MoneyLine.{MoneyLine}
use Rattle.mari_lines.specs.declared.line.ZoneLine.{ZoneLine}

-- the line of a zone has the name
abbrev pub NamesZone : ZoneLine → List ℕ → Type 0
NamesZone l name = l.name ≡ name

-- the line of a border has the names of its zones
pub record NamesEnds (zones : List (List ℕ)) (l : BorderLine) (ends : BorderEnds) : Type 0 where
  pub from : l.from ≡ name_at zones ends.from
  pub to : l.to ≡ name_at zones ends.to

-- the line of a bid has the name of the bid of this number
abbrev pub NamesBid : List (List ℕ) → BidLine → ℕ → Type 0
NamesBid ids l number = l.id ≡ name_at ids number

-- the least price of a zone's line is at most its greatest
abbrev pub IsInOrder : ZoneLine → Type 0
IsInOrder l = l.least.0 ≤ℤ l.greatest.0

-- its price is the one between them that is nearest to the reference
abbrev pub IsNearestLine : Cents → ZoneLine → Type 0
IsNearestLine reference l = IsNearest l.least.0 l.greatest.0 reference.0 l.price.0

-- one price beside another, of two lists
abbrev pub IsSamePrice : Cents → Cents → Type 0
IsSamePrice c own = c ≡ own

-- the line of a border has the rent
abbrev pub StatesRent : BorderLine → Quarters → Type 0
StatesRent l rent = l.rent ≡ rent

-- a line is the one that it is to be, of two lists: of operators, and of providers
abbrev pub IsSameMoneyLine : MoneyLine → MoneyLine → Type 0
IsSameMoneyLine l own = l ≡ own

abbrev pub IsSameAmountLine : AmountLine → AmountLine → Type 0
IsSameAmountLine l own = l ≡ own

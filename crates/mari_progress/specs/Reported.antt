-- What a printed block states of its run.
use Rattle.std.specs.Prelude.{◌≡◌, ℕ, List, ◌++◌, length, map}
use Rattle.mari_units.specs.declared.numbers.Cents.{Cents}
use Rattle.mari_units.specs.declared.numbers.Quarters.{Quarters}
use Rattle.mari_rows.specs.Names.{name_at}
use Rattle.mari_zones.specs.declared.borders.BorderEnds.{BorderEnds}
use Rattle.mari_market.specs.declared.activation.Activation.{Activation}
use Rattle.mari_lines.specs.declared.line.BidLine.{BidLine}
use Rattle.mari_lines.specs.declared.line.BorderLine.{BorderLine}
use Rattle.mari_lines.specs.declared.line.Heading.{Heading}
use Rattle.mari_lines.specs.declared.line.ZoneLine.{ZoneLine}
use Rattle.mari_publish.specs.declared.publication.FullBlock.{FullBlock}
use Rattle.mari_remain.specs.declared.books.Books.{Books}
use Rattle.mari_remain.specs.declared.market.RunMarket.{RunMarket}
use Rattle.mari_remain.specs.Lists.{run_numbered}

-- the activation: the MW of the bids and then of the demands, and the flows of the borders
abbrev pub activation_of : FullBlock → Activation
activation_of b = record {
  mw = map (λ (l : BidLine). l.mw) b.bids ++ b.demands;
  flow = map (λ (l : BorderLine). l.flow) b.borders;
}

-- zone by zone the price, the least and the greatest price, and the number of the area
abbrev pub prices_of : FullBlock → List Cents
prices_of b = map (λ (l : ZoneLine). l.price) b.zones

abbrev pub least_reported : FullBlock → List Cents
least_reported b = map (λ (l : ZoneLine). l.least) b.zones

abbrev pub greatest_reported : FullBlock → List Cents
greatest_reported b = map (λ (l : ZoneLine). l.greatest) b.zones

abbrev pub areas_of : FullBlock → List ℕ
areas_of b = map (λ (l : ZoneLine). l.area) b.zones

-- the rents of the borders
abbrev pub rents_reported : FullBlock → List Quarters
rents_reported b = map (λ (l : BorderLine). l.rent) b.borders

-- the heading of a run, counted from 1
abbrev pub heading_of : Books → ℕ → Heading
heading_of books run = record { run = run; quarter = (run_numbered books run).quarter; direct = (run_numbered books run).direct }

-- lines name the zones, the borders and the bids of these numbers, in their order
pub record NameLines (books : Books) (numbers : List ℕ) (zone_lines : List ZoneLine) (border_lines : List BorderLine) (bid_lines : List BidLine) : Type 0 where
  pub zones : map (λ (l : ZoneLine). l.name) zone_lines ≡ books.zones.zones
  pub from : map (λ (l : BorderLine). l.from) border_lines ≡ map (λ (ends : BorderEnds). name_at books.zones.zones ends.from) books.borders.borders
  pub to : map (λ (l : BorderLine). l.to) border_lines ≡ map (λ (ends : BorderEnds). name_at books.zones.zones ends.to) books.borders.borders
  pub bids : map (λ (l : BidLine). l.id) bid_lines ≡ map (name_at books.bids.ids) numbers

-- so do those of a block
abbrev pub NamesLines : Books → (numbers : List ℕ) → FullBlock → Type 0
NamesLines books numbers b = NameLines books numbers b.zones b.borders b.bids

-- so they name those of the run's market, and there is a line for each of its demands
pub record NamesMarket (books : Books) (made : RunMarket) (b : FullBlock) : Type 0 where
  pub lines : NamesLines books made.bids b
  pub demands : length b.demands ≡ made.demands

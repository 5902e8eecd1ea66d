-- The two sides of a cut read by one word.
use Rattle.std.specs.Prelude.{if◌then◌else◌, ℕ, ℤ, pos, neg_ℤ, ◌<ℤ◌, List}
use Rattle.mari_market.specs.declared.market.Side.{Side}
use Rattle.mari_market.specs.declared.market.Order.{Order}
use Rattle.mari_market.specs.declared.market.Border.{Border}
use Rattle.mari_market.specs.declared.certificate.CutSide.{CutSide}
use Rattle.mari_market.specs.declared.certificate.CutSide.TheVariants.{Out, In}
use Rattle.mari_market.specs.Bounds.{Span}
use Rattle.mari_market.specs.Cut.{is_in, least_put, most_put, most_out, most_in}

-- the least net injection of an order within its bounds, for a cut of side Out, and the greatest, for one of side In
abbrev pub net_put : CutSide → Side → Span → ℤ
net_put Out side s = least_put side s
net_put In side s = most_put side s

-- the same of an order of the zones, and 0 of any other
abbrev pub put_of : CutSide → (Order → Span) → List ℕ → Order → ℤ
put_of side bounds zones o = if is_in zones o.zone then net_put side o.side (bounds o) else pos 0

-- the most that a border carries out of the zones, for a cut of side Out, and into them, for one of side In
abbrev pub carried_of : CutSide → List ℕ → Border → ℤ
carried_of Out zones b = most_out zones b
carried_of In zones b = most_in zones b

-- what is put in is more than what can be carried out, or less than the negative of what can be carried in
abbrev pub Exceeds : CutSide → (put carried : ℤ) → Type 0
Exceeds Out put carried = carried <ℤ put
Exceeds In put carried = put <ℤ neg_ℤ carried

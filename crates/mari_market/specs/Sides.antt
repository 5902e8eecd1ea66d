-- The side of an order.
use Rattle.std.specs.Prelude.{if◌then◌else◌, Bool}
use Rattle.mari_market.specs.declared.market.Side.{Side}
use Rattle.mari_market.specs.declared.market.Side.TheVariants.{Inject, Withdraw}

-- what goes up, as an upward bid, injects; what goes down withdraws
abbrev pub side_of : (up : Bool) → Side
side_of up = if up then Inject else Withdraw

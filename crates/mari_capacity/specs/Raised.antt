-- A market with one limit of one border raised.
use Rattle.std.specs.Prelude.{ℕ, ◌+◌, min, Bool, true, false, slice_set}
use Rattle.mari_units.specs.declared.limits.TheConstants.{MOST_FLOW}
use Rattle.mari_market.specs.declared.market.Border.{Border}
use Rattle.mari_market.specs.declared.market.Market.{Market}
use Rattle.mari_network.specs.Network.{border_at}
use Rattle.mari_capacity.specs.declared.raising.Raise.{Raise}

-- a limit that is raised by `more` MW, to at most the greatest that a run may have
abbrev pub raised_limit : (limit more : ℕ) → ℕ
raised_limit limit more = min (limit + more) MOST_FLOW

-- a border whose limit is raised, or its limit back
abbrev pub raised_border : (forth : Bool) → (more : ℕ) → Border → Border
raised_border true more b = record b { limit = raised_limit b.limit more }
raised_border false more b = record b { back = raised_limit b.back more }

-- the market with that one limit raised, and nothing else changed
abbrev pub raised_market : Market → Raise → Market
raised_market m r = record m { borders = slice_set m.borders r.border (raised_border r.forth r.more (border_at m.borders r.border)) }

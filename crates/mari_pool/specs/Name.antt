-- What a name is where no search has picked it.
use Rattle.std.specs.Prelude.{[], pos}
use Rattle.mari_market.specs.declared.market.Market.{Market}
use Rattle.mari_incumbent.specs.Incumbent.{IncumbentId}

-- the incumbent's identity there
abbrev pub no_incumbent : IncumbentId
no_incumbent = record { table = record { words = 0; slots = 0; views_name = 0; atom = 0; block = 0; offset = 0; slot_names = [] }; first = 0; all = 0 }

-- the market there
abbrev pub no_market : Market
no_market = record { zones = 1; borders = []; orders = []; gates = []; reference = record { 0 = pos 0 } }

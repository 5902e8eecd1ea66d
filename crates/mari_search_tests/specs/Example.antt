-- A search on an indivisible bid of 40 MW that is too large for a demand of 30 MW, beside a plain bid of 100 MW.
use Rattle.std.specs.Prelude.{List, [], ◌∷◌, Some, None, pos}
use Rattle.mari_market.specs.declared.market.Side.TheVariants.{Inject, Withdraw}
use Rattle.mari_market.specs.declared.market.Market.{Market}
use Rattle.mari_market.specs.declared.finding.Attained.{Attained}
use Rattle.mari_market.specs.declared.finding.Finding.{Finding}
use Rattle.mari_market.specs.declared.finding.Finding.TheVariants.{Empty, Relaxed}
use Rattle.mari_market.specs.declared.certificate.CutSide.TheVariants.{Out}
use Rattle.mari_core.specs.declared.event.Event.{Event}
use Rattle.mari_core.specs.declared.event.Event.TheVariants.{Look, Take, Settle}

-- the large bid, the other one, and the demand
abbrev pub oversized : Market
oversized = record {
  zones = 1;
  borders = [];
  orders = record { zone = 0; side = Inject; price = record { 0 = pos 3000 }; least = 40; greatest = 40; gate = Some 0 }
      ∷ record { zone = 0; side = Inject; price = record { 0 = pos 5000 }; least = 0; greatest = 100; gate = None }
      ∷ record { zone = 0; side = Withdraw; price = record { 0 = pos 9999900 }; least = 0; greatest = 30; gate = None }
      ∷ [];
  gates = record { group = None; parent = None } ∷ [];
  reference = record { 0 = pos 4000 };
}

-- the best activation without the large bid
abbrev pub first : Attained
first = record { activation = record { mw = 0 ∷ 30 ∷ 30 ∷ []; flow = [] }; welfare = 299847000 }

-- what is found of the three nodes
abbrev pub at_root : Finding
at_root = Relaxed (record { potentials = record { cents = record { 0 = pos 3000 } ∷ [] }; bound = 299907000; best = None; conflict = None })

abbrev pub at_closed : Finding
at_closed = Relaxed (record { potentials = record { cents = record { 0 = pos 5000 } ∷ [] }; bound = 299847000; best = Some first; conflict = None })

abbrev pub at_open : Finding
at_open = Empty (record { side = Out; zones = 0 ∷ [] })

-- two actors close the search tree
abbrev pub all_events : List Event
all_events = Take 0 0 ∷ Settle 0 0 at_root ∷ Take 1 1 ∷ Take 0 2 ∷ Look 1 ∷ Settle 1 1 at_closed ∷ Settle 0 2 at_open ∷ []

-- a node is taken twice
abbrev pub taken_twice : List Event
taken_twice = Take 0 0 ∷ Settle 0 0 at_root ∷ Take 1 1 ∷ Take 0 1 ∷ Look 1 ∷ []

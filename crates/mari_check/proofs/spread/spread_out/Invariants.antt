use Rattle.mari_check.specs.Spread.{Spreads, room_of}
use Rattle.mari_market.specs.Along.{LeadsTo}
use Rattle.mari_check.proofs.spread.spread_out.Given as goal

abbrev pub invariant-rounds : goal.invariant-rounds
invariant-rounds l = Spreads (LeadsTo l.along l.borders l.flow) l.initial.values l.values

abbrev pub decreases-rounds : goal.decreases-rounds
decreases-rounds l = room_of l.values

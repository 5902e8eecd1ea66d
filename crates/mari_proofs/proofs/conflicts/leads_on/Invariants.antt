use Rattle.std.proofs.Common.{◌↔◌, drop}
use Rattle.mari_market.specs.Conflict.{IsChainOf}
use Rattle.mari_proofs.proofs.conflicts.leads_on.Given as goal

-- the chain leads on where the rest of it does from here
abbrev pub invariant-loop-to : goal.invariant-loop-to
invariant-loop-to l = IsChainOf l.borders l.flow l.first l.rest ↔ IsChainOf l.borders l.flow l.from (drop l.to-index l.rest)

use Rattle.std.proofs.Common.{take}
use Rattle.std.specs.List.{All}
use Rattle.mari_market.specs.Prefix.{opens_in}
use Rattle.mari_node.specs.Running.{quantity_at, RunsWhereOpen}
use Rattle.mari_paths.specs.Starts.{order_at}
use Rattle.mari_node.proofs.gates.run_together.Given as goal

abbrev pub invariant-loop-place : goal.invariant-loop-place
invariant-loop-place l = All (λ k. RunsWhereOpen (opens_in l.runs) (order_at l.market k) (quantity_at l.optimum k)) (take l.place-index l.gated)

use Rattle.std.proofs.Common.{◌≡◌, ℕ, take}
use Rattle.std.specs.List.{All}
use Rattle.mari_market.specs.Prefix.{opens_in}
use Rattle.mari_node.specs.Running.{quantity_at, runs_among, IsNotPartial}
use Rattle.mari_paths.specs.Starts.{order_at}
use Rattle.mari_node.proofs.gates.running.Given as goal

abbrev pub invariant-loop-place : goal.invariant-loop-place
invariant-loop-place l = record {
  runs : (g : ℕ) → opens_in l.runs g ≡ runs_among g l.market l.optimum (take l.place-index l.gated);
  whole : All (λ k. IsNotPartial (order_at l.market k) (quantity_at l.optimum k)) (take l.place-index l.gated);
}

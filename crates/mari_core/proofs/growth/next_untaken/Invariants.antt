use Rattle.std.proofs.Common.{◌≡◌, ℕ, ◌-◌, ◌<◌, ◌≤◌, length, Some}
use Rattle.mari_core.specs.declared.node.NodeState.TheVariants.{Untaken}
use Rattle.mari_core.specs.Nodes.{state_at}
use Rattle.mari_core.proofs.growth.next_untaken.Given as goal

abbrev pub invariant-loop-at : goal.invariant-loop-at
invariant-loop-at l = record {
  within : l.at ≤ length l.nodes;
  none_before : (y : ℕ) → y < l.at → state_at l.nodes y ≡ Some Untaken → ⊥;
}

abbrev pub decreases-loop-at : goal.decreases-loop-at
decreases-loop-at l = length l.nodes - l.at

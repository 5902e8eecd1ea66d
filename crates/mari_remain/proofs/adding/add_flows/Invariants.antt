use Rattle.std.proofs.Common.{◌≡◌, ◌<◌, ◌≤◌, ℕ, get_or, pos}
use Rattle.std.specs.Prelude.{◌+ℤ◌}
use Rattle.mari_remain.proofs.adding.add_flows.Given as goal

-- those so far are added, and the others are as they were
abbrev pub invariant-loop-k : goal.invariant-loop-k
invariant-loop-k l = record {
  added : (i : ℕ) → i < l.k → get_or l.flow i (pos 0) ≡ get_or l.initial.flow i (pos 0) +ℤ get_or l.more i (pos 0);
  left : (i : ℕ) → l.k ≤ i → get_or l.flow i (pos 0) ≡ get_or l.initial.flow i (pos 0);
}

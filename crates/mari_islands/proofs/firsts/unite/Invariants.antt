use Rattle.std.proofs.Common.{◌≡◌, ◌<◌, ◌≤◌, ℕ, slice_index}
use Rattle.mari_islands.specs.Uniting.{lowered}
use Rattle.mari_islands.proofs.firsts.unite.Given as goal

-- those so far are lowered, and the others are as they were
abbrev pub invariant-loop-first : goal.invariant-loop-first
invariant-loop-first l = record {
  done : (z : ℕ) → z < l.first-index → slice_index l.firsts z ≡ lowered l.low l.high (slice_index l.initial.firsts z);
  left : (z : ℕ) → l.first-index ≤ z → slice_index l.firsts z ≡ slice_index l.initial.firsts z;
}

use Rattle.std.proofs.Common.{◌≡◌, ◌≤◌, ◌+◌, ◌*◌, ◌^◌, drop}
use Rattle.mari_commands.specs.Summary.{welfare_sum}
use Rattle.mari_commands.proofs.summary.sum_of.Given as goal

-- with the welfares still to come it is the whole, and each is a number of 64 bits
abbrev pub invariant-loop-block : goal.invariant-loop-block
invariant-loop-block l = record {
  rest : l.sum + welfare_sum (drop l.block-index l.blocks) ≡ welfare_sum l.blocks;
  small : l.sum ≤ l.block-index * 2 ^ 64;
}

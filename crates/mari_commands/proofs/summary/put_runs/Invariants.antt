use Rattle.std.proofs.Common.{◌≡◌, ◌++◌, drop}
use Rattle.std.specs.List.{flat_map}
use Rattle.mari_commands.specs.Summary.{run_line}
use Rattle.mari_commands.proofs.summary.put_runs.Given as goal

-- with the lines of those still to come it is the whole
abbrev pub invariant-loop-block : goal.invariant-loop-block
invariant-loop-block l = l.text.items ++ flat_map run_line (drop l.block-index l.blocks) ≡ l.fn.text.items ++ flat_map run_line l.blocks

use Rattle.std.proofs.Common.{◌≡◌, ◌++◌, drop, map}
use Rattle.std.specs.Fmt.{signed_decimal}
use Rattle.mari_lines.specs.Spelling.{spaced}
use Rattle.mari_lines.proofs.writing.tree.put_flows.Given as goal

-- with the texts of those still to come it is the whole
abbrev pub invariant-loop-flow : goal.invariant-loop-flow
invariant-loop-flow l = l.out.items ++ spaced (map signed_decimal (drop l.flow-index l.flows)) ≡ l.fn.out.items ++ spaced (map signed_decimal l.flows)

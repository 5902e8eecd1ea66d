use Rattle.std.proofs.Common.{◌≡◌, ◌++◌, drop, map}
use Rattle.std.specs.Fmt.{decimal}
use Rattle.mari_lines.specs.Spelling.{spaced}
use Rattle.mari_lines.proofs.writing.tree.put_mws.Given as goal

-- with the texts of those still to come it is the whole
abbrev pub invariant-loop-mw : goal.invariant-loop-mw
invariant-loop-mw l = l.out.items ++ spaced (map decimal (drop l.mw-index l.mws)) ≡ l.fn.out.items ++ spaced (map decimal l.mws)

use Rattle.std.proofs.Common.{sym, ◌∙◌}
use Rattle.mari_gates.proofs.Decisions.{opens-decisions}
use Rattle.mari_proofs.proofs.conflicts.is_open.Goals as goal

pub returns : goal.returns
returns c = c.opens.ensures ∙ sym (opens-decisions c.args.prefix.now c.args.prefix.now.length c.args.gate c.requires.gate)

use Rattle.std.proofs.Common.{Some}
use Rattle.mari_commands.specs.Splits.{command_by}
use Rattle.mari_commands.proofs.Folder.{folder_by, says-day}
use Rattle.mari_commands.proofs.clearing.to_clear.Goals as goal

pub returns-in-Ok-clause-reported : goal.returns-in-Ok-clause-reported
returns-in-Ok-clause-reported g c = λ reported e.
    says-day c.args.way reported c.args.folder.now c.in-Ok.books c.args.nodes c.args.workers
    (c.in-Ok.ensures.reported (Some (command_by c.args.way c.args.folder.now c.args.nodes c.args.workers)) reported (folder_by c.args.way c.args.folder.now c.args.nodes c.args.workers) e)

pub returns-in-Err-clause-reported : goal.returns-in-Err-clause-reported
returns-in-Err-clause-reported g c = λ reported e.
    c.in-Err.ensures.reported (Some (command_by c.args.way c.args.folder.now c.args.nodes c.args.workers)) reported
    (folder_by c.args.way c.args.folder.now c.args.nodes c.args.workers) e

pub returns-in-Err-clause-words : goal.returns-in-Err-clause-words
returns-in-Err-clause-words g c =
    c.in-Err.ensures.words (Some (command_by c.args.way c.args.folder.now c.args.nodes c.args.workers))
    (folder_by c.args.way c.args.folder.now c.args.nodes c.args.workers)

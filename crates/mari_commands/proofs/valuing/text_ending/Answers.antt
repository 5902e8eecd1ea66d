use Rattle.std.proofs.Common.{◌∙◌, sym}
use Rattle.mari_answers.proofs.Naming.{text-named}
use Rattle.mari_commands.proofs.valuing.text_ending.Goals as goal

pub refused_line-requires-clause-name : goal.refused_line-requires-clause-name
refused_line-requires-clause-name c = (text-named c.args.fault c.in-Some.refusal (sym c.in-Some.is ∙ c.text_refusal.ensures)).1

use Rattle.std.proofs.Common.{ap, arith}
use Rattle.mari_io.specs.declared.shelf.Fetch.TheVariants as fetch
use Rattle.mari_answers.proofs.Causes.{fault_of}
use Rattle.mari_commands.proofs.Causes.{quarters-fault}
use Rattle.mari_commands.proofs.Naming.{quarters-sayable}
use Rattle.mari_commands.proofs.joining.join_by.Goals as goal

pub say_quarters-requires : goal.say_quarters-requires
say_quarters-requires g c = quarters-sayable c.clear_quarters-given.result c.clear_quarters-given.ensures.file c.clear_quarters-given.ensures.check

pub returns-clause-reported : goal.returns-clause-reported
returns-clause-reported g c = grind (arith, quarters-sayable)

pub returns-clause-read_fault : goal.returns-clause-read_fault
returns-clause-read_fault g c = record {
  later = c.clear_quarters-given.ensures.failed.later;
  rose = λ e. c.clear_quarters-given.ensures.failed.rose (quarters-fault fetch.Failed c.say_quarters.result (ap fault_of e) _ _ c.clear_quarters-given.result c.say_quarters.ensures.reports);
}

pub returns-clause-missing : goal.returns-clause-missing
returns-clause-missing g c = record {
  later = c.clear_quarters-given.ensures.missing.later;
  rose = λ e. c.clear_quarters-given.ensures.missing.rose (quarters-fault fetch.Missing c.say_quarters.result (ap fault_of e) _ _ c.clear_quarters-given.result c.say_quarters.ensures.reports);
}

pub returns-clause-too_long : goal.returns-clause-too_long
returns-clause-too_long g c = record {
  later = c.clear_quarters-given.ensures.too_long.later;
  rose = λ e. c.clear_quarters-given.ensures.too_long.rose (quarters-fault fetch.TooLong c.say_quarters.result (ap fault_of e) _ _ c.clear_quarters-given.result c.say_quarters.ensures.reports);
}

use Rattle.mari_commands.proofs.clearing.clear_by.Goals as goal

pub returns-in-Whole-clause-reports : goal.returns-in-Whole-clause-reports
returns-in-Whole-clause-reports g c = record { ended = c.run_day.result; ends = rw c.in-Whole.is c.run_day.ensures.day; status = c.status_of.ensures }

pub returns-in-Islands-clause-reports : goal.returns-in-Islands-clause-reports
returns-in-Islands-clause-reports g c = record { ended = c.split_day.result; ends = rw c.in-Islands.is c.split_day.ensures.day; status = c.status_of-in-Islands.ensures }

use Rattle.std.proofs.Common.{sym}
use Rattle.mari_day.proofs.Digits.{quarters-date}
use Rattle.mari_day.proofs.calendar_page.calendar_day_of.Goals as goal

pub kept-requires : goal.kept-requires
kept-requires c = quarters-date c.field-date.result.now c.field.result.now c.in-Ok.quarters (sym c.in-Ok.ensures.quarters)

pub returns-in_ok-kept-in-Ok-clause-facts : goal.returns-in_ok-kept-in-Ok-clause-facts
returns-in_ok-kept-in-Ok-clause-facts c = record {
  date = rw c.in_ok-kept-in-Ok.ensures.date (quarters-date c.field-date.result.now c.field.result.now c.in-Ok.quarters (sym c.in-Ok.ensures.quarters));
  quarters = c.in-Ok.ensures.range;
}

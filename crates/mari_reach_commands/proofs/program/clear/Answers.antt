use Rattle.std.proofs.Common.{◌∙◌, ap, sym}
use Rattle.mari_io.specs.declared.shelf.Fetch.TheVariants as fetch
use Rattle.mari_remain.specs.declared.books.Books.{Books}
use Rattle.mari_reach_accept.specs.Named.{publication_of}
use Rattle.mari_answers.proofs.Causes.{books-fault, fault_of}
use Rattle.mari_reach_commands.specs.Answers.ReportsFolder.{OfDay, OfNoBooks}
use Rattle.mari_reach_commands.proofs.Causes.{no-long, no-missing, no-read, write-end}
use Rattle.mari_reach_commands.proofs.Promised.{of-day, of-no-books}
use Rattle.mari_reach_commands.proofs.program.clear.Goals as goal

pub returns-in-Ok-clause-reports : goal.returns-in-Ok-clause-reports
returns-in-Ok-clause-reports g c = OfDay c.in-Ok.books (λ reported e. c.in-Ok.ensures.reported reported e) c.reach_day.result c.reach_day.ensures.day c.status_of.ensures

pub returns-in-Ok-clause-read_fault : goal.returns-in-Ok-clause-read_fault
returns-in-Ok-clause-read_fault g c = record { later = c.in-Ok.ensures.failed.later; rose = λ e. absurd (no-read c.reach_day.result (sym c.status_of.ensures ∙ e)) }

pub returns-in-Ok-clause-missing : goal.returns-in-Ok-clause-missing
returns-in-Ok-clause-missing g c = record { later = c.in-Ok.ensures.missing.later; rose = λ e. absurd (no-missing c.reach_day.result (sym c.status_of.ensures ∙ e)) }

pub returns-in-Ok-clause-too_long : goal.returns-in-Ok-clause-too_long
returns-in-Ok-clause-too_long g c = record { later = c.in-Ok.ensures.too_long.later; rose = λ e. absurd (no-long c.reach_day.result (sym c.status_of.ensures ∙ e)) }

pub returns-in-Ok-clause-write_fault : goal.returns-in-Ok-clause-write_fault
returns-in-Ok-clause-write_fault g c = record { later = c.reach_day.ensures.cause.later; rose = λ e. c.reach_day.ensures.cause.rose (write-end c.reach_day.result (sym c.status_of.ensures ∙ e)) }

pub returns-in-Err-clause-reports : goal.returns-in-Err-clause-reports
returns-in-Err-clause-reports g c = OfNoBooks (record {
  fault = c.in-Err.fault;
  states = λ reported e. c.in-Err.ensures.reported reported e;
  file = c.in-Err.ensures.file;
  check = c.in-Err.ensures.check;
  cause = λ e. c.in-Err.ensures.failed.rose e;
  said = c.say_no_books.ensures.reports;
})

pub returns-in-Err-clause-read_fault : goal.returns-in-Err-clause-read_fault
returns-in-Err-clause-read_fault g c = record {
  later = c.in-Err.ensures.failed.later;
  rose = λ e. c.in-Err.ensures.failed.rose (books-fault fetch.Failed _ (ap fault_of e) _ _ Books c.in-Err.fault c.say_no_books.ensures.reports);
}

pub returns-in-Err-clause-missing : goal.returns-in-Err-clause-missing
returns-in-Err-clause-missing g c = record {
  later = c.in-Err.ensures.missing.later;
  rose = λ e. c.in-Err.ensures.missing.rose (books-fault fetch.Missing _ (ap fault_of e) _ _ Books c.in-Err.fault c.say_no_books.ensures.reports);
}

pub returns-in-Err-clause-too_long : goal.returns-in-Err-clause-too_long
returns-in-Err-clause-too_long g c = record {
  later = c.in-Err.ensures.too_long.later;
  rose = λ e. c.in-Err.ensures.too_long.rose (books-fault fetch.TooLong _ (ap fault_of e) _ _ Books c.in-Err.fault c.say_no_books.ensures.reports);
}

pub returns-in-Ok-clause-promise : goal.returns-in-Ok-clause-promise
returns-in-Ok-clause-promise g c = λ reported e.
    of-day _ reported c.in-Ok.books (c.in-Ok.ensures.reported reported e) _ _ c.reach_days_keep.ensures.offers c.reach_days_keep.ensures.blocks c.reach_days_keep.ensures.totals
    (λ first within text is. record {
      publication = publication_of c.in-Ok.books _ is.blocks;
      spelled = c.printed_texts_are_accepted.ensures.text _ first within text is c.requires;
      valid = c.printed_days_are_valid.ensures _ is.blocks is.day;
      verdict = c.printed_texts_are_accepted.ensures.verdict _ first within text is;
    })
    c.reach_day.result _ c.reach_day.ensures.day c.status_of.ensures

pub returns-in-Err-clause-promise : goal.returns-in-Err-clause-promise
returns-in-Err-clause-promise g c = λ reported e. of-no-books _ reported _ _ _ c.in-Err.fault c.say_no_books.ensures.reports

use Rattle.std.proofs.Common.{◌≡◌, Global, Option, Some, map, subst, arith, inl, refl}
use Rattle.std.specs.Prelude.{string_bytes}
use Rattle.mari_reach_commands.proofs.Budgets.{budget-asked}
use Rattle.mari_reach_commands.specs.Answers.Answers.{OfCheck, OfFeed, OfFolder, OfUsage, Starved}
use Rattle.mari_reach_commands.specs.Promise.{KeepsPromise}
use Rattle.mari_reach_commands.specs.Words.{Job, Task}
use Rattle.mari_reach_commands.specs.Words.Task.{Clears}
use Rattle.mari_reach_commands.proofs.Causes.{no-page-of-usage}
use Rattle.mari_reach_commands.proofs.program.run_reach.Goals as goal

-- one job is asked for
one-job : (asked : Option Task) (own job : Job) → asked ≡ Some (Clears own) → asked ≡ Some (Clears job) → own ≡ job
one-job asked own job e f = let task : Clears own ≡ Clears job = cc in cc

pub returns-in-Ok-Clear-clause-answers : goal.returns-in-Ok-Clear-clause-answers
returns-in-Ok-Clear-clause-answers g c = OfFolder _ (rw c.in-Ok-Clear.field-0-is at c.in-Ok-Clear.ensures) (rw c.deref.ensures at c.clear.ensures.reports)

pub returns-in-Ok-Clear-clause-promise : goal.returns-in-Ok-Clear-clause-promise
returns-in-Ok-Clear-clause-promise g c = λ job reported is e.
    let same = one-job _ _ job (rw c.in-Ok-Clear.field-0-is at c.in-Ok-Clear.ensures) is in
    let P : Job → Type 0 = λ j. KeepsPromise j reported (g.K.Sink.taken c.args.sink.now) (g.K.Sink.taken c.clear.new.sink) c.clear.result in
    subst P same (rw c.deref.ensures at (c.clear.ensures.promise reported e))

pub returns-in-Ok-Clear-clause-untouched : goal.returns-in-Ok-Clear-clause-untouched
returns-in-Ok-Clear-clause-untouched g c = λ none. let there = rw c.in-Ok-Clear.field-0-is at c.in-Ok-Clear.ensures in absurd cc

pub returns-in-Ok-Check-clause-answers : goal.returns-in-Ok-Check-clause-answers
returns-in-Ok-Check-clause-answers g c = OfCheck _ (rw c.in-Ok-Check.field-0-is at c.in-Ok-Check.ensures) (rw c.deref-in-Ok-Check.ensures at c.check.ensures.reports)

pub returns-in-Ok-Check-clause-promise : goal.returns-in-Ok-Check-clause-promise
returns-in-Ok-Check-clause-promise g c = λ job reported is e. let there = rw c.in-Ok-Check.field-0-is at c.in-Ok-Check.ensures in absurd cc

pub returns-in-Ok-Check-clause-untouched : goal.returns-in-Ok-Check-clause-untouched
returns-in-Ok-Check-clause-untouched g c = λ none. let there = rw c.in-Ok-Check.field-0-is at c.in-Ok-Check.ensures in absurd cc

pub returns-in-Ok-Feed-clause-answers : goal.returns-in-Ok-Feed-clause-answers
returns-in-Ok-Feed-clause-answers g c = OfFeed _ (rw c.in-Ok-Feed.field-0-is at c.in-Ok-Feed.ensures) (rw c.deref-in-Ok-Feed.ensures at c.feed.ensures.reports)

pub returns-in-Ok-Feed-clause-promise : goal.returns-in-Ok-Feed-clause-promise
returns-in-Ok-Feed-clause-promise g c = λ job reported is e. let there = rw c.in-Ok-Feed.field-0-is at c.in-Ok-Feed.ensures in absurd cc

pub returns-in-Ok-Feed-clause-untouched : goal.returns-in-Ok-Feed-clause-untouched
returns-in-Ok-Feed-clause-untouched g c = λ none. let there = rw c.in-Ok-Feed.field-0-is at c.in-Ok-Feed.ensures in absurd cc

pub returns-in-Ok-Clear-clause-named : goal.returns-in-Ok-Clear-clause-named
returns-in-Ok-Clear-clause-named g c = λ folder is. let there = rw c.in-Ok-Clear.field-0-is at c.in-Ok-Clear.ensures in absurd cc

pub returns-in-Ok-Check-clause-named : goal.returns-in-Ok-Check-clause-named
returns-in-Ok-Check-clause-named g c = λ folder is. let there = rw c.in-Ok-Check.field-0-is at c.in-Ok-Check.ensures in absurd cc

pub returns-in-Ok-Feed-clause-named : goal.returns-in-Ok-Feed-clause-named
returns-in-Ok-Feed-clause-named g c = λ folder is. c.feed.ensures.named

pub returns-in-Err-Usage-clause-named : goal.returns-in-Err-Usage-clause-named
returns-in-Err-Usage-clause-named g c = λ folder is. let none = rw c.in-Err-Usage.field-0-is at c.in-Err-Usage.ensures in absurd cc

pub returns-in-Err-Memory-clause-named : goal.returns-in-Err-Memory-clause-named
returns-in-Err-Memory-clause-named g c = λ folder is. omega arith

pub returns-in-Err-Usage-clause-answers : goal.returns-in-Err-Usage-clause-answers
returns-in-Err-Usage-clause-answers g c = OfUsage (rw c.in-Err-Usage.field-0-is at c.in-Err-Usage.ensures) (rw c.usage_line.ensures at c.say.ensures.reports)

pub returns-in-Err-Usage-clause-promise : goal.returns-in-Err-Usage-clause-promise
returns-in-Err-Usage-clause-promise g c = λ job reported is e. let none = rw c.in-Err-Usage.field-0-is at c.in-Err-Usage.ensures in absurd cc

pub returns-in-Err-Usage-clause-read_fault : goal.returns-in-Err-Usage-clause-read_fault
returns-in-Err-Usage-clause-read_fault g c = record { later = omega arith; rose = λ e. absurd ((no-page-of-usage _ _ _ _ c.say.ensures.reports).0 e) }

pub returns-in-Err-Usage-clause-missing : goal.returns-in-Err-Usage-clause-missing
returns-in-Err-Usage-clause-missing g c = record { later = omega arith; rose = λ e. absurd ((no-page-of-usage _ _ _ _ c.say.ensures.reports).1 e) }

pub returns-in-Err-Usage-clause-too_long : goal.returns-in-Err-Usage-clause-too_long
returns-in-Err-Usage-clause-too_long g c = record { later = omega arith; rose = λ e. absurd ((no-page-of-usage _ _ _ _ c.say.ensures.reports).2 e) }

pub clear-requires : goal.clear-requires
clear-requires g c = budget-asked (map (string_bytes {Z = Global}) c.args.words.now) _ (rw c.in-Ok-Clear.field-0-is at c.in-Ok-Clear.ensures)

pub returns-in-Err-Memory-clause-answers : goal.returns-in-Err-Memory-clause-answers
returns-in-Err-Memory-clause-answers g c = Starved refl refl

pub returns-in-Ok-Clear-clause-alone : goal.returns-in-Ok-Clear-clause-alone
returns-in-Ok-Clear-clause-alone g c = λ folder is. let there = rw c.in-Ok-Clear.field-0-is at c.in-Ok-Clear.ensures in absurd cc

pub returns-in-Ok-Check-clause-alone : goal.returns-in-Ok-Check-clause-alone
returns-in-Ok-Check-clause-alone g c = λ folder is. let there = rw c.in-Ok-Check.field-0-is at c.in-Ok-Check.ensures in absurd cc

pub returns-in-Ok-Feed-clause-alone : goal.returns-in-Ok-Feed-clause-alone
returns-in-Ok-Feed-clause-alone g c = λ folder is. c.feed.ensures.fetched

pub returns-in-Err-Usage-clause-alone : goal.returns-in-Err-Usage-clause-alone
returns-in-Err-Usage-clause-alone g c = λ folder is. inl refl

pub returns-in-Err-Memory-clause-alone : goal.returns-in-Err-Memory-clause-alone
returns-in-Err-Memory-clause-alone g c = λ folder is. inl refl

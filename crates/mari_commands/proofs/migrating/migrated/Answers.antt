use Rattle.std.proofs.Common.{Some, refl}
use Rattle.mari_words.specs.Asked.Asked.{Migrate}
use Rattle.mari_commands.specs.Outcome.SaysOfFolder.{OfBooks}
use Rattle.mari_commands.proofs.Naming.{migrated-reportable}
use Rattle.mari_commands.proofs.Stating.{words-of-migrated}
use Rattle.mari_commands.proofs.migrating.migrated.Goals as goal

pub returns-in-Ok-clause-reported : goal.returns-in-Ok-clause-reported
returns-in-Ok-clause-reported g c = λ reported e.
    OfBooks c.in-Ok.books (c.in-Ok.ensures.reported (Some (Migrate c.args.folder.now c.args.part)) reported refl e) c.migrated_books.ensures

pub returns-in-Err-clause-reported : goal.returns-in-Err-clause-reported
returns-in-Err-clause-reported g c = λ reported e. c.in-Err.ensures.reported (Some (Migrate c.args.folder.now c.args.part)) reported refl e

pub returns-in-Err-clause-words : goal.returns-in-Err-clause-words
returns-in-Err-clause-words g c = c.in-Err.ensures.words (Some (Migrate c.args.folder.now c.args.part)) refl

pub returns-in-Ok-clause-words : goal.returns-in-Ok-clause-words
returns-in-Ok-clause-words g c = words-of-migrated c.args.folder.now c.args.part c.in-Ok.books c.migrated_books.result c.migrated_books.ensures

pub returns-in-Ok-clause-reportable : goal.returns-in-Ok-clause-reportable
returns-in-Ok-clause-reportable g c = migrated-reportable c.in-Ok.books c.args.part c.migrated_books.result c.migrated_books.ensures

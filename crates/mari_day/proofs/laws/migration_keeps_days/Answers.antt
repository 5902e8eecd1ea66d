use Rattle.mari_remain.proofs.ShortPages.{short-borders, short-limits}
use Rattle.mari_day.proofs.Migrated.{days-same, parts-same}
use Rattle.mari_day.proofs.MigratedFolder.{folder-read}
use Rattle.mari_day.proofs.laws.migration_keeps_days.Goals as goal

pub returns-clause-parts : goal.returns-clause-parts
returns-clause-parts c = λ borders limits is budget blocks. parts-same c.args.books.now c.requires.accepted c.requires.read.0 c.requires.read.1 borders limits is budget blocks

pub returns-clause-days : goal.returns-clause-days
returns-clause-days c = λ borders limits is budget p. days-same c.args.books.now c.requires.accepted c.requires.read.0 c.requires.read.1 borders limits is budget p

pub returns-clause-folder : goal.returns-clause-folder
returns-clause-folder c = λ folder before after books is borders limits read.
    folder-read folder before after c.args.books.now is borders limits read (short-borders c.args.books.now c.requires.accepted, short-limits c.args.books.now c.requires.accepted) books

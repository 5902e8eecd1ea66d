use Rattle.mari_zones.proofs.BookFacts.{border-facts}
use Rattle.mari_zones.proofs.borders.BorderBook.read.Goals as goal

pub returns-clause-borders : goal.returns-clause-borders
returns-clause-borders c = border-facts c.args.zones.now c.in_ok-version.version c.args.borders.now c.read_book.result c.read_book.ensures

use Rattle.mari_remain.proofs.MigratedBooks.{accepted, are-read, bare_book, blocks-same, limit_table, limits-same, markets-same}
use Rattle.mari_remain.proofs.ShortPages.{short-borders, short-limits}
use Rattle.mari_remain.proofs.laws.migration_keeps_markets.Goals as goal

pub returns-clause-read : goal.returns-clause-read
returns-clause-read c =
    let books = c.args.books.now in
    let own = c.requires.read in
    (bare_book books c.requires.accepted own.0 own.1, limit_table books c.requires.accepted own.0 own.1, are-read books c.requires.accepted own.0 own.1)

pub returns-clause-accepted : goal.returns-clause-accepted
returns-clause-accepted c = λ borders limits is. accepted c.args.books.now c.requires.accepted c.requires.read.0 c.requires.read.1 borders limits is

pub returns-clause-limits : goal.returns-clause-limits
returns-clause-limits c = λ borders limits is. limits-same c.args.books.now c.requires.accepted c.requires.read.0 c.requires.read.1 borders limits is

pub returns-clause-markets : goal.returns-clause-markets
returns-clause-markets c = λ borders limits is. markets-same c.args.books.now c.requires.accepted c.requires.read.0 c.requires.read.1 borders limits is

pub returns-clause-blocks : goal.returns-clause-blocks
returns-clause-blocks c = λ borders limits is. blocks-same c.args.books.now c.requires.accepted c.requires.read.0 c.requires.read.1 borders limits is

pub returns-clause-short : goal.returns-clause-short
returns-clause-short c = (short-borders c.args.books.now c.requires.accepted, short-limits c.args.books.now c.requires.accepted)

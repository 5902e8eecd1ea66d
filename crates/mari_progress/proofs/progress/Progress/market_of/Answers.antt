use Rattle.std.proofs.Common.{arith, subst, sym}
use Rattle.mari_progress.specs.After.{before_of}
use Rattle.mari_progress.specs.Runs.{IsMarketOf}
use Rattle.mari_progress.proofs.Progressing.{made-after, next, of-books}
use Rattle.mari_progress.proofs.progress.Progress.market_of.Goals as goal

pub market_of-requires-clause-stands : goal.market_of-requires-clause-stands
market_of-requires-clause-stands c =
    let books = c.args.books.now in
    let s = c.requires.after in
    (before_of books s.0, s.1.stands, next books c.requires.accepted s.0 c.args.self.now s.1 c.args.run s.2)

pub returns-clause-market : goal.returns-clause-market
returns-clause-market c = λ blocks progress is.
    let books = c.args.books.now in
    let e = next books c.requires.accepted blocks c.args.self.now progress c.args.run is in
    made-after books c.requires.accepted blocks c.args.self.now progress c.args.run is c.in_ok-made.made (c.in_ok-made.ensures.market (before_of books blocks) progress.stands e)

pub returns-clause-of_books : goal.returns-clause-of_books
returns-clause-of_books c =
    let books = c.args.books.now in
    let s = c.requires.after in
    let e = next books c.requires.accepted s.0 c.args.self.now s.1 c.args.run s.2 in
    let made = made-after books c.requires.accepted s.0 c.args.self.now s.1 c.args.run s.2 c.in_ok-made.made (c.in_ok-made.ensures.market (before_of books s.0) s.1.stands e) in
    subst (IsMarketOf books) (sym made) (of-books books c.requires.accepted s.0 c.args.self.now s.1 (omega (arith, s.2, c.requires.last)))

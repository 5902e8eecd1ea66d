use Rattle.std.proofs.Common.{length, refl}
use Rattle.mari_demands.proofs.LimitLemmas.{limit-facts}
use Rattle.mari_demands.specs.Limits.{limit_columns}
use Rattle.mari_demands.proofs.limits.LimitBook.read.Goals as goal

pub returns-clause-limits : goal.returns-clause-limits
returns-clause-limits c = limit-facts c.args.zones.now c.args.borders.now (length c.args.runs.now.runs) c.args.limits.now c.read_book.result
    (rw (c.in_ok-none.ensures.zones, c.in_ok-none.ensures.borders, c.in_ok-none.ensures.runs, c.as_slice.ensures) at c.read_book.ensures)

pub read_book-requires-clause-columns : goal.read_book-requires-clause-columns
unfolding limit_columns
read_book-requires-clause-columns c κs = refl

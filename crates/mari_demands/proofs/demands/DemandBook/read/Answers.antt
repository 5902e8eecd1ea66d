use Rattle.std.proofs.Common.{length, refl}
use Rattle.mari_demands.proofs.BookFacts.{demand-facts}
use Rattle.mari_demands.specs.Demands.{demand_columns}
use Rattle.mari_demands.proofs.demands.DemandBook.read.Goals as goal

pub returns-clause-demands : goal.returns-clause-demands
returns-clause-demands c = demand-facts c.args.zones.now (length c.args.runs.now.runs) c.args.demands.now c.read_book.result
    (rw (c.in_ok-none.ensures.zones, c.in_ok-none.ensures.runs, c.as_slice.ensures) at c.read_book.ensures)

pub read_book-requires-clause-columns : goal.read_book-requires-clause-columns
unfolding demand_columns
read_book-requires-clause-columns c κs = refl

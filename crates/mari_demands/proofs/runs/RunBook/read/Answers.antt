use Rattle.std.proofs.Common.{refl}
use Rattle.mari_demands.proofs.BookFacts.{run-facts}
use Rattle.mari_demands.specs.Runs.{run_columns}
use Rattle.mari_demands.proofs.runs.RunBook.read.Goals as goal

pub returns-clause-runs : goal.returns-clause-runs
returns-clause-runs c = run-facts c.args.quarters c.args.runs.now c.read_book.result c.read_book.ensures

pub read_book-requires-clause-columns : goal.read_book-requires-clause-columns
unfolding run_columns
read_book-requires-clause-columns c κs = refl

use Rattle.std.proofs.Common.{refl}
use Rattle.mari_day.specs.declared.files.TheConstants.{BLOCKS}
use Rattle.mari_quarters.proofs.Checking.{of-page}
use Rattle.mari_quarters.proofs.quarters.read_blocks.Goals as goal

pub returns-in-Err-At-clause-check : goal.returns-in-Err-At-clause-check
returns-in-Err-At-clause-check c =
    of-page c.args.books.now c.args.first c.args.last c.args.page.now (record { file = BLOCKS; line = c.in-Err-At.line; number = c.in-Err-At.number }) refl
    (rw c.in-Err-At.field-0-is at c.in-Err-At.ensures.book)

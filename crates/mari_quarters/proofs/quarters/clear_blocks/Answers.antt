use Rattle.mari_quarters.proofs.Checking.{market-check, market-file, of-market}
use Rattle.mari_quarters.proofs.quarters.clear_blocks.Goals as goal

pub returns-in-Err-Refused-clause-check : goal.returns-in-Err-Refused-clause-check
returns-in-Err-Refused-clause-check g c =
    market-check c.in-Err-Refused.refusal
    (of-market c.args.books.now c.args.blocks.now c.args.first c.args.last c.in-Err-Refused.refusal (rw c.in-Err-Refused.field-0-is at c.in-Err-Refused.ensures.text))

pub returns-in-Err-Refused-clause-file : goal.returns-in-Err-Refused-clause-file
returns-in-Err-Refused-clause-file g c =
    market-file c.in-Err-Refused.refusal
    (of-market c.args.books.now c.args.blocks.now c.args.first c.args.last c.in-Err-Refused.refusal (rw c.in-Err-Refused.field-0-is at c.in-Err-Refused.ensures.text))

use Rattle.mari_quarters.proofs.Passing.{market-late, market-no-fetch, market-states, unread-check, unread-late, unread-named, unread-no-fetch, unread-states}
use Rattle.mari_quarters.proofs.quarters.clear_books.Goals as goal

pub returns-in-Err-clause-reported : goal.returns-in-Err-clause-reported
returns-in-Err-clause-reported g c = unread-states c.args.books.now c.args.first c.args.last c.args.budget c.args.page.now c.in-Err.fault c.in-Err.ensures.read

pub returns-in-Err-clause-fetch : goal.returns-in-Err-clause-fetch
returns-in-Err-clause-fetch g c = unread-no-fetch c.args.books.now c.args.first c.args.last c.args.budget c.args.page.now c.in-Err.fault c.in-Err.ensures.read

pub returns-in-Err-clause-file : goal.returns-in-Err-clause-file
returns-in-Err-clause-file g c = unread-named c.args.books.now c.args.first c.args.last c.args.budget c.args.page.now c.in-Err.fault c.in-Err.ensures.file

pub returns-in-Err-clause-check : goal.returns-in-Err-clause-check
returns-in-Err-clause-check g c = unread-check c.args.books.now c.args.first c.args.last c.args.budget c.args.page.now c.in-Err.fault c.in-Err.ensures.check

pub returns-in-Ok-clause-reported : goal.returns-in-Ok-clause-reported
returns-in-Ok-clause-reported g c =
    market-states c.args.books.now c.args.first c.args.last c.args.budget c.args.page.now c.in-Ok.blocks c.in-Ok.ensures.read c.clear_blocks.result c.clear_blocks.ensures.text

pub returns-in-Ok-clause-fetch : goal.returns-in-Ok-clause-fetch
returns-in-Ok-clause-fetch g c =
    market-no-fetch c.args.books.now c.args.first c.args.last c.args.budget c.args.page.now c.in-Ok.blocks c.in-Ok.ensures.read c.clear_blocks.result c.clear_blocks.ensures.text

pub returns-in-Err-clause-late : goal.returns-in-Err-clause-late
returns-in-Err-clause-late g c = unread-late c.args.books.now c.args.first c.args.last c.args.budget c.args.page.now c.in-Err.fault c.in-Err.ensures.read

pub returns-in-Ok-clause-late : goal.returns-in-Ok-clause-late
returns-in-Ok-clause-late g c =
    market-late c.args.books.now c.args.first c.args.last c.args.budget c.args.page.now c.in-Ok.blocks c.in-Ok.ensures.read c.clear_blocks.result c.clear_blocks.ensures.text

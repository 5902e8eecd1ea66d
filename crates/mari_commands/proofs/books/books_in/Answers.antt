use Rattle.mari_commands.proofs.Naming.{fault-reportable}
use Rattle.mari_commands.proofs.Stating.{says-fault, words-of-fault}
use Rattle.mari_commands.proofs.books.books_in.Goals as goal

pub returns-in-Err-clause-reported : goal.returns-in-Err-clause-reported
returns-in-Err-clause-reported g c = λ asked reported reads e. rw c.no_books.ensures (says-fault asked reported c.args.folder.now c.in-Err.fault reads (c.in-Err.ensures.reported reported e))

pub returns-in-Err-clause-words : goal.returns-in-Err-clause-words
returns-in-Err-clause-words g c = λ asked reads. rw c.no_books.ensures (words-of-fault asked c.args.folder.now c.in-Err.fault reads c.in-Err.ensures.file)

pub returns-in-Err-clause-reportable : goal.returns-in-Err-clause-reportable
returns-in-Err-clause-reportable g c = rw c.no_books.ensures (fault-reportable c.in-Err.fault c.in-Err.ensures.file c.in-Err.ensures.check)

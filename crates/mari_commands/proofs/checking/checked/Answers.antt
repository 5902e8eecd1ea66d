use Rattle.std.proofs.Common.{◌∙◌, Some, refl}
use Rattle.mari_words.specs.Asked.Asked.{Check}
use Rattle.mari_commands.specs.Outcome.SaysOfFolder.{OfBooks}
use Rattle.mari_commands.proofs.checking.checked.Goals as goal

pub returns-in-Ok-clause-reported : goal.returns-in-Ok-clause-reported
returns-in-Ok-clause-reported g c = λ reported e.
    OfBooks c.in-Ok.books (c.in-Ok.ensures.reported (Some (Check c.args.folder.now)) reported refl e) (c.checked_books.ensures.reported reported (c.in-Ok.ensures.same ∙ e))

pub returns-in-Err-clause-reported : goal.returns-in-Err-clause-reported
returns-in-Err-clause-reported g c = λ reported e. c.in-Err.ensures.reported (Some (Check c.args.folder.now)) reported refl e

pub returns-in-Err-clause-words : goal.returns-in-Err-clause-words
returns-in-Err-clause-words g c = c.in-Err.ensures.words (Some (Check c.args.folder.now)) refl

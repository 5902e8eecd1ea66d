use Rattle.std.proofs.Common.{inl, inr, refl}
use Rattle.mari_commands.proofs.Naming.{text-reportable}
use Rattle.mari_commands.proofs.Stating.{check-no-lines, words-of-text}
use Rattle.mari_commands.proofs.checking.checked_books.Goals as goal

pub returns-in-Err-Fetch-clause-words : goal.returns-in-Err-Fetch-clause-words
returns-in-Err-Fetch-clause-words g c = ((c.args.folder.now, refl), inr (inl (c.args.folder.now, refl), refl), λ lines. absurd (check-no-lines c.args.folder.now lines))

pub returns-in-Err-Text-clause-words : goal.returns-in-Err-Text-clause-words
returns-in-Err-Text-clause-words g c = rw c.text_outcome.ensures (words-of-text _ _)

pub returns-in-Err-Text-clause-reportable : goal.returns-in-Err-Text-clause-reportable
returns-in-Err-Text-clause-reportable g c = rw c.text_outcome.ensures (text-reportable _)

-- What an outcome says of the words and the pages, by how it came.
use Rattle.std.proofs.Common.{ℕ, List, Option, Some, inl, refl, arith}
use Rattle.std.specs.Prelude.{Err}
use Rattle.mari_io.specs.declared.shelf.Fetch.TheVariants as fetch
use Rattle.mari_io.specs.Outside.{Pages}
use Rattle.mari_publish.specs.declared.fault.TextFault.{TextFault}
use Rattle.mari_publish.specs.declared.fault.TextFault.TheVariants as text_fault
use Rattle.mari_remain.specs.declared.books.Books.{Books}
use Rattle.mari_day.specs.Files.Gap.{NotHeld, OverLimit}
use Rattle.mari_day.specs.Reading.{BooksReport, NamesAFile}
use Rattle.mari_day.specs.declared.reading.BooksFault.{BooksFault}
use Rattle.mari_day.specs.declared.reading.BooksFault.TheVariants as why
use Rattle.mari_words.specs.Asked.{Asked}
use Rattle.mari_words.specs.Asked.Asked.{Check, Generate, Migrate}
use Rattle.mari_words.specs.declared.command.FilePart.{FilePart}
use Rattle.mari_commands.specs.declared.outcome.Outcome.{Outcome}
use Rattle.mari_commands.specs.declared.outcome.Outcome.TheVariants.{Text, Refused, Memory as NoMemory}
use Rattle.mari_commands.specs.Commands.{AsksForLines, ReadsFolder}
use Rattle.mari_commands.specs.Outcome.{IsMigrated, IsOfWords, IsSummarised, Says, SaysOfFolder, no_books, text_outcome}
use Rattle.mari_commands.specs.Outcome.SaysOfFolder.{OfRefusal, OfGap, Fails, Starves}
use Rattle.mari_commands.proofs.Folder.{says-folder}

pub says-fault : (asked : Option Asked) (pages : Pages) (folder : List ℕ) (fault : BooksFault) → ReadsFolder asked folder → BooksReport pages folder (Err fault) → Says asked pages (no_books fault)
says-fault asked pages folder fault r states = says-folder asked pages (no_books fault) folder r (by fault states)
  where
    by : (fault : BooksFault) → BooksReport pages folder (Err fault) → SaysOfFolder asked pages folder (no_books fault)
    by (why.Fetch n fetch.Failed) states = Fails n refl
    by (why.Fetch n fetch.Missing) states = OfGap n NotHeld states refl
    by (why.Fetch n fetch.TooLong) states = OfGap n OverLimit states refl
    by (why.Fetch n fetch.Memory) states = absurd states
    by (why.Refused refusal) states = OfRefusal refusal states refl
    by why.Memory states = Starves refl

-- whatever the words ask for there may be no memory
pub says-memory : (asked : Option Asked) (pages : Pages) → Says asked pages NoMemory
says-memory asked pages = grind arith

-- words that ask for no lines of a publication
pub check-no-lines : (folder : List ℕ) → AsksForLines (Some (Check folder)) → ⊥
check-no-lines folder h = grind arith

migrate-no-lines : (folder : List ℕ) (part : FilePart) → AsksForLines (Some (Migrate folder part)) → ⊥
migrate-no-lines folder part h = grind arith

-- what the words ask for, by the outcome
pub words-of-fault : (asked : Option Asked) (folder : List ℕ) (fault : BooksFault) → ReadsFolder asked folder → NamesAFile {T = Books} (Err fault) → IsOfWords asked (no_books fault)
words-of-fault asked folder (why.Fetch n w) r named = ((folder, r), inl ((folder, r), named), λ lines. named.other)
words-of-fault asked folder (why.Refused refusal) r named = ((folder, r), λ lines. named.other)
words-of-fault asked folder why.Memory r named = tt

pub words-of-migrated : (folder : List ℕ) (part : FilePart) (books : Books) (o : Outcome) → IsMigrated books part o → IsOfWords (Some (Migrate folder part)) o
words-of-migrated folder part books (Text t) is = tt
words-of-migrated folder part books (Refused refusal) is = ((folder, refl), λ lines. absurd (migrate-no-lines folder part lines))
words-of-migrated folder part books NoMemory is = tt
words-of-migrated folder part books _ is = absurd is

pub words-of-summary : (number : ℕ) (o : Outcome) → IsSummarised number o → IsOfWords (Some (Generate number)) o
words-of-summary number o is = grind arith

pub words-of-text : (folder : List ℕ) (f : TextFault) → IsOfWords (Some (Check folder)) (text_outcome f)
words-of-text folder (text_fault.BadLine n) = ((folder, refl), λ lines. absurd (check-no-lines folder lines))
words-of-text folder (text_fault.BadOrder n) = ((folder, refl), λ lines. absurd (check-no-lines folder lines))
words-of-text folder (text_fault.Truncated n) = ((folder, refl), λ lines. absurd (check-no-lines folder lines))
words-of-text folder text_fault.Memory = tt

-- What the words and the pages decide: which folder is read, what is refused, which page can't be had, and what is
-- printed.
use Rattle.std.specs.Prelude.{ℕ, ◌≡◌, ◌≢◌, ◌≤◌, ◌⊎◌, List, length, Option, Some, None, option_and_then}
use Rattle.mari_units.specs.declared.faults.Refusal.{Refusal}
use Rattle.mari_io.specs.Outside.{Pages, page_of, most_given}
use Rattle.mari_io.specs.declared.shelf.Fetch.{Fetch}
use Rattle.mari_io.specs.declared.shelf.Fetch.TheVariants as fetch
use Rattle.mari_publish.specs.declared.fault.TextFault.{TextFault}
use Rattle.mari_publish.specs.declared.fault.TextFault.TheVariants as text_fault
use Rattle.mari_publish.specs.declared.publication.Publication.{Publication}
use Rattle.mari_publish.specs.Faults.{IsText}
use Rattle.mari_publish.specs.Lines.{published_in, unpublished_in}
use Rattle.mari_remain.specs.declared.books.Books.{Books}
use Rattle.mari_remain.specs.Migrated.{borders_page, limits_page}
use Rattle.mari_day.specs.declared.files.File.TheVariants as file
use Rattle.mari_day.specs.declared.files.TheConstants.{PUBLICATION}
use Rattle.mari_day.specs.Files.{Gap, file_number}
use Rattle.mari_day.specs.Files.Gap.{NotHeld, OverLimit}
use Rattle.mari_day.specs.Reading.{HasBooks, HasGap, HasRefusal}
use Rattle.mari_check.specs.Day.{IsFirstFault, IsValidPublication}
use Rattle.mari_publish.specs.Paged.{IsReportedFault, IsTooLong}
use Rattle.mari_capacity.specs.declared.ending.ValueEnd.{ValueEnd}
use Rattle.mari_capacity.specs.declared.ending.ValueEnd.TheVariants as values
use Rattle.mari_capacity.specs.Ends.{IsEndOf}
use Rattle.mari_capacity.specs.Streams.{ValueStates}
use Rattle.mari_words.specs.Asked.{Asked}
use Rattle.mari_words.specs.Asked.Asked.{Blocks, Clear, Check, Generate, Migrate, Feed, Split, Value}
use Rattle.mari_words.specs.declared.command.FilePart.{FilePart}
use Rattle.mari_words.specs.declared.command.FilePart.TheVariants.{Borders, Limits}
use Rattle.mari_answers.specs.declared.checks.MigrationCheck.TheVariants.{AlreadyTwo}
use Rattle.mari_answers.specs.Checks.{migration_check_number}
use Rattle.mari_answers.specs.Reports.{publication_path}
use Rattle.mari_answers.specs.Texts.{text_refusal}
use Rattle.mari_answers.specs.Lines.{valid_line}
use Rattle.mari_commands.specs.Summary.{IsGenerated}

-- the folder whose market files a command reads; quarters that are cleared as one market have their own definitions
abbrev pub folder_of : Asked → Option (List ℕ)
folder_of (Clear folder nodes workers) = Some folder
folder_of (Check folder) = Some folder
folder_of (Generate number) = None
folder_of (Migrate folder part) = Some folder
folder_of (Feed folder) = None
folder_of (Split folder nodes workers) = Some folder
folder_of (Value folder more) = Some folder
folder_of (Blocks folder first last nodes workers) = None

-- the words ask for what reads the market files of this folder
abbrev pub ReadsFolder : Option Asked → List ℕ → Type 0
ReadsFolder asked folder = option_and_then folder_of asked ≡ Some folder

-- the words ask to clear a folder, or to check its publication, or for what reads its market files
abbrev pub AsksToClear : Option Asked → Type 0
AsksToClear asked = (folder : List ℕ) × (nodes : ℕ) × (workers : ℕ) × (asked ≡ Some (Clear folder nodes workers))

abbrev pub AsksToCheck : Option Asked → Type 0
AsksToCheck asked = (folder : List ℕ) × (asked ≡ Some (Check folder))

abbrev pub AsksForFiles : Option Asked → Type 0
AsksForFiles asked = (folder : List ℕ) × ReadsFolder asked folder

-- the words ask for the feed of a folder's publication
abbrev pub AsksForFeed : Option Asked → Type 0
AsksForFeed asked = (folder : List ℕ) × (asked ≡ Some (Feed folder))

-- the words ask for the values of a folder's limits
abbrev pub AsksForValues : Option Asked → Type 0
AsksForValues asked = (folder : List ℕ) × (more : ℕ) × (asked ≡ Some (Value folder more))

-- the words ask for lines of what a publication says, which stand before the line of a status
abbrev pub AsksForLines : Option Asked → Type 0
AsksForLines asked = AsksForFeed asked ⊎ AsksForValues asked

-- before a line that names this file none of these stand
abbrev pub IsAlone : Option Asked → (file : ℕ) → Type 0
IsAlone asked file = AsksForLines asked → file ≢ PUBLICATION

-- the words ask for quarters of a folder as one market
abbrev pub AsksForBlocks : Option Asked → Type 0
AsksForBlocks asked = (folder : List ℕ) × (first : ℕ) × (last : ℕ) × (nodes : ℕ) × (workers : ℕ) × (asked ≡ Some (Blocks folder first last nodes workers))

-- the words ask for what reads pages: a folder's market files, its publication alone, or its market files and
-- blocks.csv
abbrev pub AsksForPages : Option Asked → Type 0
AsksForPages asked = AsksForFiles asked ⊎ (AsksForFeed asked ⊎ AsksForBlocks asked)

-- the folder's publication is checked: its market files give these books, and it is this page
pub record HasPublication (asked : Option Asked) (pages : Pages) (books : Books) (page : List ℕ) : Type 0 where
  pub folder : List ℕ
  pub check : asked ≡ Some (Check folder)
  pub gives : HasBooks pages folder books
  pub held : page_of pages (publication_path folder) ≡ Some page

-- the publication that is checked is read: its page may be given whole, and is the text of this one
pub record IsReadable (asked : Option Asked) (pages : Pages) : Type 0 where
  pub books : Books
  pub page : List ℕ
  pub publication : Publication
  pub checked : HasPublication asked pages books page
  pub short : length page ≤ most_given
  pub read : IsText page publication

-- the folder's publication is printed as a feed: it is this page
pub record HasFeed (asked : Option Asked) (pages : Pages) (page : List ℕ) : Type 0 where
  pub folder : List ℕ
  pub feed : asked ≡ Some (Feed folder)
  pub held : page_of pages (publication_path folder) ≡ Some page

-- its page may be given whole, and is the text of this publication
pub record IsFeedable (asked : Option Asked) (pages : Pages) : Type 0 where
  pub page : List ℕ
  pub publication : Publication
  pub fed : HasFeed asked pages page
  pub short : length page ≤ most_given
  pub read : IsText page publication

-- the limits of the folder's borders are valued: its market files give books, and the valuing of its publication ends
-- so
pub record EndsValues (asked : Option Asked) (pages : Pages) (end : ValueEnd) : Type 0 where
  pub folder : List ℕ
  pub more : ℕ
  pub value : asked ≡ Some (Value folder more)
  pub books : Books
  pub gives : HasBooks pages folder books
  pub ends : IsEndOf books (page_of pages (publication_path folder)) end

-- and these are the lines that are printed where it ends so
pub record StatesValues (asked : Option Asked) (pages : Pages) (end : ValueEnd) (lines : List ℕ) : Type 0 where
  pub folder : List ℕ
  pub more : ℕ
  pub value : asked ≡ Some (Value folder more)
  pub books : Books
  pub gives : HasBooks pages folder books
  pub states : ValueStates books more (page_of pages (publication_path folder)) lines end

-- the refusal of borders that leave their limits to limits.csv already
abbrev pub already_two : Refusal
already_two = record { file = file_number file.Borders; line = 1; number = migration_check_number AlreadyTwo }

-- the market files are refused: the first refusal of the folder's; or the folder is migrated though it has limits.csv
-- already
pub data RefusesFiles (asked : Option Asked) (pages : Pages) (refusal : Refusal) : Type 0 where
  OfBooks : (folder : List ℕ) → ReadsFolder asked folder → HasRefusal pages folder refusal → RefusesFiles asked pages refusal
  OfVersion : (folder : List ℕ) (part : FilePart) (books : Books) → asked ≡ Some (Migrate folder part) → HasBooks pages folder books
      → books.limits ≢ None → refusal ≡ already_two → RefusesFiles asked pages refusal

-- the text of the publication that is checked has a fault, which is reported
pub record RefusesText (asked : Option Asked) (pages : Pages) (page : List ℕ) (fault : TextFault) : Type 0 where
  pub books : Books
  pub checked : HasPublication asked pages books page
  pub reported : IsReportedFault page fault

-- the text of the publication that is printed as a feed has a fault, which is reported
pub record RefusesFeed (asked : Option Asked) (pages : Pages) (page : List ℕ) (fault : TextFault) : Type 0 where
  pub fed : HasFeed asked pages page
  pub reported : IsReportedFault page fault

-- what is refused: the market files, or the text of the publication that is checked, printed as a feed or valued
pub data IsRefused (asked : Option Asked) (pages : Pages) (refusal : Refusal) : Type 0 where
  OfFiles : RefusesFiles asked pages refusal → IsRefused asked pages refusal
  OfText : (page : List ℕ) (fault : TextFault) → RefusesText asked pages page fault → refusal ≡ text_refusal fault → IsRefused asked pages refusal
  OfFeed : (page : List ℕ) (fault : TextFault) → RefusesFeed asked pages page fault → refusal ≡ text_refusal fault → IsRefused asked pages refusal
  OfValues : (fault : TextFault) → EndsValues asked pages (values.Text fault) → refusal ≡ text_refusal fault → IsRefused asked pages refusal

-- the answer of a fetch of a page that can't be had
abbrev pub fetch_of : Gap → Fetch
fetch_of NotHeld = fetch.Missing
fetch_of OverLimit = fetch.TooLong

-- the first file whose page can't be had, by its number, and why: a market file of the folder; or the publication that
-- is checked, printed as a feed or valued, which isn't held, or is longer than may be given in pieces
pub data LacksPage (asked : Option Asked) (pages : Pages) (file : ℕ) (gap : Gap) : Type 0 where
  OfBooks : (folder : List ℕ) → ReadsFolder asked folder → HasGap pages folder file gap → LacksPage asked pages file gap
  NoPublication : (folder : List ℕ) (books : Books) → asked ≡ Some (Check folder) → HasBooks pages folder books → page_of pages (publication_path folder) ≡ None
      → file ≡ PUBLICATION → gap ≡ NotHeld → LacksPage asked pages file gap
  LongPublication : (books : Books) (page : List ℕ) → HasPublication asked pages books page → IsTooLong page → file ≡ PUBLICATION → gap ≡ OverLimit
      → LacksPage asked pages file gap
  NoFeed : (folder : List ℕ) → asked ≡ Some (Feed folder) → page_of pages (publication_path folder) ≡ None → file ≡ PUBLICATION → gap ≡ NotHeld
      → LacksPage asked pages file gap
  LongFeed : (page : List ℕ) → HasFeed asked pages page → IsTooLong page → file ≡ PUBLICATION → gap ≡ OverLimit → LacksPage asked pages file gap
  OfValues : EndsValues asked pages (values.Fetch (fetch_of gap)) → file ≡ PUBLICATION → LacksPage asked pages file gap

-- the new form of a file
abbrev pub page_of_part : FilePart → Books → List ℕ
page_of_part Borders books = borders_page books
page_of_part Limits books = limits_page books

-- the folder that is migrated has borders that state their limits
pub record IsMigratable (asked : Option Asked) (pages : Pages) : Type 0 where
  pub folder : List ℕ
  pub part : FilePart
  pub migrate : asked ≡ Some (Migrate folder part)
  pub books : Books
  pub gives : HasBooks pages folder books
  pub first : books.limits ≡ None

-- a text that is printed whole, where all is well: that the publication that is checked is valid, with the numbers of
-- its published and of its other blocks; the new form of a file of a folder whose borders state their limits; the
-- summary of a generated day; or the values of the limits of a valid publication
pub data Prints (asked : Option Asked) (pages : Pages) (text : List ℕ) : Type 0 where
  Valid : (is : IsReadable asked pages) → IsValidPublication is.books is.publication
      → text ≡ valid_line (published_in is.publication.blocks) (unpublished_in is.publication.blocks) → Prints asked pages text
  Migrated : (is : IsMigratable asked pages) → text ≡ page_of_part is.part is.books → Prints asked pages text
  Generated : (number : ℕ) → asked ≡ Some (Generate number) → IsGenerated number text → Prints asked pages text
  Valued : (published unpublished : ℕ) → StatesValues asked pages (values.Valid published unpublished) text → Prints asked pages text

-- the publication that is checked has a fault: the first run that has one, and its least; or the one that is valued has
-- it, and its text has none before
pub data IsInvalid (asked : Option Asked) (pages : Pages) (run fault : ℕ) : Type 0 where
  OfCheck : (is : IsReadable asked pages) → IsFirstFault is.books is.publication run fault → IsInvalid asked pages run fault
  OfValues : EndsValues asked pages (values.Invalid run fault) → IsInvalid asked pages run fault

-- the books of the folder that the words ask to clear, and its budget of nodes
pub record AreCleared (asked : Option Asked) (pages : Pages) (books : Books) (nodes : ℕ) : Type 0 where
  pub folder : List ℕ
  pub workers : ℕ
  pub clear : asked ≡ Some (Clear folder nodes workers)
  pub gives : HasBooks pages folder books

-- the folder's pages give books, whose runs the words ask to clear within a budget of nodes
pub record HasBooksToClear (asked : Option Asked) (pages : Pages) : Type 0 where
  pub books : Books
  pub nodes : ℕ
  pub cleared : AreCleared asked pages books nodes

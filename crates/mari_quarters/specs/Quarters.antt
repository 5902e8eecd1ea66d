-- What the pages of a folder give where some of its quarters are cleared as one market: the text that is printed, the
-- first refusal, or the first page that can't be had.
use Rattle.std.specs.Prelude.{ℕ, ◌≡◌, ◌+◌, Bool, List, Option, Some, None, Result, Ok, Err, ◌⊎◌, min, ⊤}
use Rattle.mari_units.specs.declared.faults.Refusal.{Refusal}
use Rattle.mari_io.specs.Outside.{Pages, counted_by, page_of}
use Rattle.mari_io.specs.declared.shelf.Fetch.TheVariants as fetch
use Rattle.mari_rows.specs.Books.{book_in}
use Rattle.mari_rows.specs.Checks.{row_check_number}
use Rattle.mari_rows.specs.declared.checks.RowCheck.{RowCheck}
use Rattle.mari_rows.specs.declared.faults.BookFault.{BookFault}
use Rattle.mari_rows.specs.declared.faults.BookFault.TheVariants as refused
use Rattle.mari_remain.specs.declared.books.Books.{Books}
use Rattle.mari_day.specs.Fetching.{HasFiles, SomeFetched}
use Rattle.mari_day.specs.Files.{Gap, IsFileNumber, file_named, gap_of, path_in}
use Rattle.mari_day.specs.Files.Gap.{NotHeld, OverLimit}
use Rattle.mari_day.specs.Reading.{HasBooks, HasGap, HasRefusal}
use Rattle.mari_day.specs.Refusals.{IsByCheck}
use Rattle.mari_day.specs.declared.files.TheConstants.{BLOCKS}
use Rattle.mari_day.specs.declared.reading.BooksFault.{BooksFault}
use Rattle.mari_day.specs.declared.reading.BooksFault.TheVariants as why
use Rattle.mari_blocks.specs.BlockChecks.{block_check_number}
use Rattle.mari_blocks.specs.Blocks.{block_grammar}
use Rattle.mari_blocks.specs.Joint.{joint_in}
use Rattle.mari_blocks.specs.JointChecks.{refusal_by}
use Rattle.mari_blocks.specs.Printed.{IsJointText}
use Rattle.mari_blocks.specs.declared.blocks.BlockBook.{BlockBook}
use Rattle.mari_blocks.specs.declared.blocks.BlockCheck.{BlockCheck}
use Rattle.mari_blocks.specs.declared.checks.JointCheck.{JointCheck}
use Rattle.mari_blocks.specs.declared.clearing.JointText.{JointText}

-- the page of a folder's blocks.csv, where it is held
abbrev pub blocks_page : Pages → (folder : List ℕ) → Option (List ℕ)
blocks_page pages folder = page_of pages (path_in folder (file_named BLOCKS))

-- the book of blocks of these quarters that a page gives, or its first refusal
abbrev pub blocks_in : Books → (first last : ℕ) → (page : List ℕ) → Result BlockBook BookFault
blocks_in books first last page = book_in (block_grammar books.bids books.links first last) page

-- the market files of a folder give these books, and its blocks.csv is this page, which may be given whole
pub record HasPage (pages : Pages) (folder : List ℕ) (books : Books) (page : List ℕ) : Type 0 where
  pub gives : HasBooks pages folder books
  pub held : blocks_page pages folder ≡ Some page
  pub short : gap_of (Some page) ≡ None

-- and this page is this book of blocks
pub record HasBlocks (pages : Pages) (folder : List ℕ) (first last : ℕ) (books : Books) (blocks : BlockBook) : Type 0 where
  pub page : List ℕ
  pub has : HasPage pages folder books page
  pub read : blocks_in books first last page ≡ Ok blocks

-- the first refusal: of the market files; of a line of blocks.csv; or of what can't be one market, after all lines
pub data HasQuartersRefusal (pages : Pages) (folder : List ℕ) (first last : ℕ) (refusal : Refusal) : Type 0 where
  OfFiles : HasRefusal pages folder refusal → HasQuartersRefusal pages folder first last refusal
  OfBlocks : (books : Books) (page : List ℕ) (line number : ℕ) → HasPage pages folder books page
      → blocks_in books first last page ≡ Err (refused.At line number)
      → refusal ≡ record { file = BLOCKS; line = line; number = number } → HasQuartersRefusal pages folder first last refusal
  OfMarket : (books : Books) (blocks : BlockBook) → HasBlocks pages folder first last books blocks → joint_in books blocks first last ≡ Err refusal
      → HasQuartersRefusal pages folder first last refusal

-- the first file whose page can't be had, by its number, and why: a market file; or blocks.csv, which is fetched after
-- they are read
pub data HasQuartersGap (pages : Pages) (folder : List ℕ) (number : ℕ) (gap : Gap) : Type 0 where
  OfFiles : HasGap pages folder number gap → HasQuartersGap pages folder number gap
  OfBlocks : (books : Books) → HasBooks pages folder books → gap_of (blocks_page pages folder) ≡ Some gap → number ≡ BLOCKS
      → HasQuartersGap pages folder number gap

-- the text of the quarters' joint market, by whether it is published within this budget of nodes
pub record HasQuartersText (pages : Pages) (folder : List ℕ) (first last budget : ℕ) (published : Bool) (text : List ℕ) : Type 0 where
  pub books : Books
  pub blocks : BlockBook
  pub has : HasBlocks pages folder first last books blocks
  pub is_text : IsJointText books blocks first last budget published text

-- what clearing the quarters says of the pages, where they are reported
abbrev pub QuartersReport : Pages → (folder : List ℕ) → (first last budget : ℕ) → Result JointText BooksFault → Type 0
QuartersReport pages folder first last budget (Ok printed) = HasQuartersText pages folder first last budget printed.published printed.text
QuartersReport pages folder first last budget (Err (why.Refused refusal)) = HasQuartersRefusal pages folder first last refusal
QuartersReport pages folder first last budget (Err why.Memory) = ⊤
QuartersReport pages folder first last budget (Err (why.Fetch number fetch.Failed)) = ⊤
QuartersReport pages folder first last budget (Err (why.Fetch number fetch.Missing)) = HasQuartersGap pages folder number NotHeld
QuartersReport pages folder first last budget (Err (why.Fetch number fetch.TooLong)) = HasQuartersGap pages folder number OverLimit
QuartersReport pages folder first last budget (Err (why.Fetch number fetch.Memory)) = ⊥

-- the number of a file that is read where quarters are cleared: a market file, or blocks.csv
abbrev pub IsQuartersFile : ℕ → Type 0
IsQuartersFile number = IsFileNumber number ⊎ (number ≡ BLOCKS)

-- a fault of a fetch and a refusal are of such a file
abbrev pub NamesQuartersFile : {T : Type 0} → Result T BooksFault → Type 0
NamesQuartersFile (Ok x) = ⊤
NamesQuartersFile (Err (why.Fetch number f)) = IsQuartersFile number
NamesQuartersFile (Err (why.Refused refusal)) = IsQuartersFile refusal.file
NamesQuartersFile (Err why.Memory) = ⊤

-- a refusal is by a check of its file: of a market file; of a record of blocks.csv, or of its own; or of what can't be
-- one market
pub data IsQuartersCheck (refusal : Refusal) : Type 0 where
  OfFiles : IsByCheck refusal → IsQuartersCheck refusal
  OfRows : refusal.file ≡ BLOCKS → (check : RowCheck) → refusal.number ≡ row_check_number check → IsQuartersCheck refusal
  OfBlocks : refusal.file ≡ BLOCKS → (check : BlockCheck) → refusal.number ≡ block_check_number check → IsQuartersCheck refusal
  OfMarket : (check : JointCheck) → refusal ≡ refusal_by check → IsQuartersCheck refusal

-- where something is refused, it is by such a check
abbrev pub RefusesQuartersByCheck : {T : Type 0} → Result T BooksFault → Type 0
RefusesQuartersByCheck (Ok x) = ⊤
RefusesQuartersByCheck (Err (why.Fetch number f)) = ⊤
RefusesQuartersByCheck (Err (why.Refused refusal)) = IsQuartersCheck refusal
RefusesQuartersByCheck (Err why.Memory) = ⊤

-- a refusal of what is read after the market files: of blocks.csv, or of what can't be one market
abbrev pub IsAfterFiles : Refusal → Type 0
IsAfterFiles refusal = (refusal.file ≡ BLOCKS) ⊎ ((check : JointCheck) × (refusal ≡ refusal_by check))

-- where something is refused, it is such a refusal
abbrev pub RefusesAfterFiles : {T : Type 0} → Result T BooksFault → Type 0
RefusesAfterFiles (Ok x) = ⊤
RefusesAfterFiles (Err (why.Fetch number f)) = ⊤
RefusesAfterFiles (Err (why.Refused refusal)) = IsAfterFiles refusal
RefusesAfterFiles (Err why.Memory) = ⊤

-- how many fetches clearing the quarters takes of a folder of `count` market files: one for each of them, and one for
-- blocks.csv once they give books; and where a page can't be had, one for it and each before it
abbrev pub FetchesText : (count before now : ℕ) → Result JointText BooksFault → Type 0
FetchesText count before now (Ok printed) = now ≡ counted_by (count + 1) before
FetchesText count before now (Err (why.Fetch number f)) =
    (IsFileNumber number × (now ≡ counted_by (min number 8) before)) ⊎ ((number ≡ BLOCKS) × (now ≡ counted_by (count + 1) before))
FetchesText count before now (Err (why.Refused refusal)) =
    (IsByCheck refusal × (now ≡ counted_by count before)) ⊎ (IsAfterFiles refusal × (now ≡ counted_by (count + 1) before))
FetchesText count before now (Err why.Memory) = SomeFetched (count + 1) before now

-- how many fetches clearing the quarters of a folder takes
pub record FetchesQuarters (pages : Option Pages) (folder : List ℕ) (before now : ℕ) (result : Result JointText BooksFault) : Type 0 where
  pub count : ℕ
  pub files : HasFiles pages folder count
  pub fetched : FetchesText count before now result

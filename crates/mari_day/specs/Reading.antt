-- The books of a folder, or its first refusal.
use Rattle.std.specs.Prelude.{ℕ, ◌==◌, ◌≡◌, List, length, min, Result, Ok, Err, Option, None, Some, is_some, if◌then◌else◌, ⊤}
use Rattle.mari_units.specs.declared.faults.Refusal.{Refusal}
use Rattle.mari_io.specs.declared.shelf.Fetch.{Fetch}
use Rattle.mari_io.specs.declared.shelf.Fetch.TheVariants as fetch
use Rattle.mari_io.specs.Outside.{Pages, counted_by}
use Rattle.mari_rows.specs.Books.{book_in}
use Rattle.mari_rows.specs.declared.faults.BookFault.{BookFault}
use Rattle.mari_rows.specs.declared.faults.BookFault.TheVariants as refused
use Rattle.mari_zones.specs.Zones.{zone_grammar}
use Rattle.mari_zones.specs.Borders.{borders_in, version_in}
use Rattle.mari_zones.specs.declared.borders.BorderBook.{BorderBook}
use Rattle.mari_zones.specs.declared.zones.ZoneBook.{ZoneBook}
use Rattle.mari_bids.specs.Bids.{bid_grammar}
use Rattle.mari_links.specs.Links.{link_grammar}
use Rattle.mari_demands.specs.Demands.{demand_grammar}
use Rattle.mari_demands.specs.Limits.{limit_grammar}
use Rattle.mari_demands.specs.Runs.{run_grammar}
use Rattle.mari_demands.specs.declared.limits.Limits.{Limits as BorderLimits}
use Rattle.mari_remain.specs.declared.books.Books.{Books}
use Rattle.mari_day.specs.declared.files.File.{File}
use Rattle.mari_day.specs.declared.files.File.TheVariants.{Day, Zones, Borders, Bids, Links, Runs, Demands, Limits}
use Rattle.mari_day.specs.declared.reading.BooksFault.{BooksFault}
use Rattle.mari_day.specs.declared.reading.BooksFault.TheVariants as why
use Rattle.mari_calendar.specs.Midnights.{◌>>>◌}
use Rattle.mari_day.specs.CalendarPage.{calendar_day_in}
use Rattle.mari_day.specs.Fetching.{HasFiles, SomeFetched}
use Rattle.mari_day.specs.Files.{files_in, file_number, page_among, first_gap, AreHeld, Gap, IsFileNumber}
use Rattle.mari_day.specs.Files.Gap.{NotHeld, OverLimit}

-- the refusal of a file at a line, by the number of the check that fails
abbrev pub file_refusal : File → (line number : ℕ) → Refusal
file_refusal file line number = record { file = file_number file; line = line; number = number }

-- the book of a file, or its refusal, which names the file; no page's book is out of memory
abbrev pub of_file : {Book : Type 0} → File → Result Book BookFault → Result Book Refusal
of_file file (Ok book) = Ok book
of_file file (Err (refused.At line number)) = Err (file_refusal file line number)
of_file file (Err refused.Memory) = Err (file_refusal file 0 0)

-- the limits that limits.csv states for each run, in the version that has it
abbrev pub limits_of_pages : ZoneBook → BorderBook → (runs : ℕ) → List (List ℕ) → Result (Option (List (List BorderLimits))) Refusal
limits_of_pages zones borders runs pages =
    if version_in (page_among pages Borders) == 2
    then (of_file Limits (book_in (limit_grammar zones borders runs) (page_among pages Limits)) >>> λ limits. Ok (Some limits))
    else Ok None

-- the books of the pages, read in the order of the files, or the first refusal
unfoldable pub books_at : List (List ℕ) → Result Books Refusal
books_at pages =
    of_file Day (calendar_day_in (page_among pages Day)) >>> λ day.
    of_file Zones (book_in zone_grammar (page_among pages Zones)) >>> λ zones.
    of_file Borders (borders_in zones (page_among pages Borders)) >>> λ borders.
    of_file Bids (book_in (bid_grammar zones day.quarters) (page_among pages Bids)) >>> λ bids.
    of_file Links (book_in (link_grammar bids) (page_among pages Links)) >>> λ links.
    of_file Runs (book_in (run_grammar day.quarters) (page_among pages Runs)) >>> λ runs.
    of_file Demands (book_in (demand_grammar zones (length runs.runs)) (page_among pages Demands)) >>> λ demands.
    limits_of_pages zones borders (length runs.runs) pages >>> λ limits.
    Ok (record {
      date = day.date;
      quarters = day.quarters;
      zones = zones;
      borders = borders;
      bids = bids;
      links = links;
      runs = runs;
      demands = demands;
      limits = limits;
    })

-- this is what was to be read, or its refusal, unless memory ran out
abbrev pub ReadsAs : {X : Type 0} → Result X BooksFault → Result X Refusal → Type 0
ReadsAs (Ok x) read = read ≡ Ok x
ReadsAs (Err (why.Refused refusal)) read = read ≡ Err refusal
ReadsAs (Err why.Memory) read = ⊤
ReadsAs (Err (why.Fetch file fault)) read = ⊥

-- the books of the folder's pages, which are held
pub record HasBooks (pages : Pages) (folder : List ℕ) (books : Books) : Type 0 where
  pub texts : List (List ℕ)
  pub held : AreHeld pages folder texts
  pub read : books_at texts ≡ Ok books

-- the first refusal of the folder's pages, which are held
pub record HasRefusal (pages : Pages) (folder : List ℕ) (refusal : Refusal) : Type 0 where
  pub texts : List (List ℕ)
  pub held : AreHeld pages folder texts
  pub read : books_at texts ≡ Err refusal

-- the page of the file of this number is the first of the folder that can't be had, and this is why
pub record HasGap (pages : Pages) (folder : List ℕ) (number : ℕ) (gap : Gap) : Type 0 where
  pub file : File
  pub numbered : number ≡ file_number file
  pub first : first_gap pages folder (files_in pages folder) ≡ Some (record { file = file; gap = gap })

-- what reading says of the pages, where they are reported
abbrev pub BooksReport : Pages → List ℕ → Result Books BooksFault → Type 0
BooksReport pages folder (Ok books) = HasBooks pages folder books
BooksReport pages folder (Err (why.Refused refusal)) = HasRefusal pages folder refusal
BooksReport pages folder (Err why.Memory) = ⊤
BooksReport pages folder (Err (why.Fetch number fetch.Failed)) = ⊤
BooksReport pages folder (Err (why.Fetch number fetch.Missing)) = HasGap pages folder number NotHeld
BooksReport pages folder (Err (why.Fetch number fetch.TooLong)) = HasGap pages folder number OverLimit
BooksReport pages folder (Err (why.Fetch number fetch.Memory)) = ⊥

-- the fetch of some file gave this answer
abbrev pub IsFetchFault : {T : Type 0} → Fetch → Result T BooksFault → Type 0
IsFetchFault fault (Ok x) = ⊥
IsFetchFault fault (Err (why.Fetch number f)) = f ≡ fault
IsFetchFault fault (Err (why.Refused refusal)) = ⊥
IsFetchFault fault (Err why.Memory) = ⊥

-- how many fetches reading `count` files takes: one for each, and where a file's page can't be had one for it and each
-- before it; limits.csv, the ninth by its number, is the eighth that is fetched
abbrev pub FetchesBooks : (count before now : ℕ) → Result Books BooksFault → Type 0
FetchesBooks count before now (Ok books) = (count ≡ (if is_some books.limits then 8 else 7)) × (now ≡ counted_by count before)
FetchesBooks count before now (Err (why.Fetch number f)) = now ≡ counted_by (min number 8) before
FetchesBooks count before now (Err (why.Refused refusal)) = now ≡ counted_by count before
FetchesBooks count before now (Err why.Memory) = SomeFetched count before now

-- how many fetches reading the files of a folder takes
pub record FetchesFiles (pages : Option Pages) (folder : List ℕ) (before now : ℕ) (result : Result Books BooksFault) : Type 0 where
  pub count : ℕ
  pub files : HasFiles pages folder count
  pub fetched : FetchesBooks count before now result

-- a fault of a fetch and a refusal are of a market file, by its number
abbrev pub NamesAFile : {T : Type 0} → Result T BooksFault → Type 0
NamesAFile (Ok x) = ⊤
NamesAFile (Err (why.Fetch number f)) = IsFileNumber number
NamesAFile (Err (why.Refused refusal)) = IsFileNumber refusal.file
NamesAFile (Err why.Memory) = ⊤

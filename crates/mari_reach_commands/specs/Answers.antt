-- What each answer of the program says of the words, of the pages where they are reported, and of what the sink has taken.
use Rattle.std.specs.Prelude.{ℕ, ◌≡◌, ◌==◌, if◌then◌else◌, List, Option, Some, None, Result, Ok, Err}
use Rattle.mari_io.specs.Outside.{Pages, page_of}
use Rattle.mari_io.specs.declared.shelf.Fetch.TheVariants as fetch
use Rattle.mari_remain.specs.declared.books.Books.{Books}
use Rattle.mari_day.specs.declared.files.TheConstants.{PUBLICATION}
use Rattle.mari_day.specs.Reading.{BooksReport, HasBooks, IsFetchFault, NamesAFile}
use Rattle.mari_day.specs.Refusals.{RefusesByCheck}
use Rattle.mari_day.specs.declared.reading.BooksFault.{BooksFault}
use Rattle.mari_reach_day.specs.Days.{EndsReach}
use Rattle.mari_reach_day.specs.declared.writing.ReachEnd.{ReachEnd}
use Rattle.mari_reach_day.specs.declared.writing.ReachEnd.TheVariants as end
use Rattle.mari_check.specs.Streams.{IsStreamFetch}
use Rattle.mari_check.specs.declared.stream.StreamFault.{StreamFault}
use Rattle.mari_check.specs.declared.stream.StreamFault.TheVariants as stream
use Rattle.mari_reach_text.specs.Texts.{IsReachText, ReachPublication}
use Rattle.mari_reach_check.specs.Streams.{SaysOf, StreamStates}
use Rattle.mari_reach_check.specs.declared.verdict.ReachVerdict.{ReachVerdict}
use Rattle.mari_reach_check.specs.declared.verdict.ReachVerdict.TheVariants as verdict
use Rattle.mari_feed.specs.Streams.{IsFeedFetch}
use Rattle.mari_feed.specs.declared.stream.FeedStop.{FeedStop}
use Rattle.mari_reach_feed.specs.Streams.{FeedStates}
use Rattle.mari_answers.specs.Lines.{invalid_line, valid_line}
use Rattle.mari_answers.specs.Reports.{Reports, ReportsNoBooks, ReportsNoPage, ReportsStop, ReportsText, WhereReported, publication_path}
use Rattle.mari_answers.specs.declared.status.Status.{Status}
use Rattle.mari_answers.specs.declared.status.Status.TheVariants as status
use Rattle.mari_reach_commands.specs.Words.{Job, Task, usage_line}
use Rattle.mari_reach_commands.specs.Words.Task.{Checks, Clears, Feeds}

-- the status of a day, by how it ended
abbrev pub status_of : ReachEnd → Status
status_of (end.Done first within) = if within == 0 then status.Done else status.Unpublished
status_of end.WriteFault = status.WriteFault
status_of end.Memory = status.Memory

-- how a folder is reported that has no books: the line that says why is written, which names a file of the folder's books, and
-- of a refusal a check of that file. That a fetch failed is said only where one did
pub record LacksBooks (pages : Option Pages) (failed : Type 0) (folder : List ℕ) (before after : Option (List ℕ)) (result : Status) : Type 0 where
  pub fault : BooksFault
  pub states : WhereReported pages (λ reported. BooksReport reported folder (Err fault))
  pub file : NamesAFile {T = Books} (Err fault)
  pub check : RefusesByCheck {T = Books} (Err fault)
  pub cause : IsFetchFault {T = Books} fetch.Failed (Err fault) → failed
  pub said : ReportsNoBooks fault before after result

-- how a folder is reported whose day is to be answered: it has books, and their day is written as far as it ended; or it has
-- none
pub data ReportsFolder (pages : Option Pages) (failed : Type 0) (folder : List ℕ) (nodes : ℕ) (before after : Option (List ℕ)) (result : Status) : Type 0 where
  OfDay : (books : Books) → WhereReported pages (λ reported. HasBooks reported folder books) → (ended : ReachEnd)
      → EndsReach books nodes before after ended → result ≡ status_of ended
      → ReportsFolder pages failed folder nodes before after result
  OfNoBooks : LacksBooks pages failed folder before after result → ReportsFolder pages failed folder nodes before after result

-- how an answer of the check is reported; the line of a valid day says how many runs have the first activation, and how many one
-- within a gap
abbrev pub ReportsAnswer : Result ReachVerdict StreamFault → (before after : Option (List ℕ)) → Status → Type 0
ReportsAnswer (Ok (verdict.Valid first within)) before after result = Reports (valid_line first within) status.Done before after result
ReportsAnswer (Ok (verdict.Invalid run fault)) before after result = Reports (invalid_line run fault) (status.Invalid run fault) before after result
ReportsAnswer (Err (stream.Fetch why)) before after result = ReportsNoPage PUBLICATION why before after result
ReportsAnswer (Err (stream.Text fault)) before after result = ReportsText fault before after result
ReportsAnswer (Err stream.Memory) before after result = (result ≡ status.Memory) × (after ≡ before)

-- the page of a folder's publication
abbrev pub publication_page : Pages → (folder : List ℕ) → Option (List ℕ)
publication_page pages folder = page_of pages (publication_path folder)

-- how a publication is reported that is checked by these books: what is answered is so of its page, of the
-- text of a day it is the verdict on that day, and it is reported
pub record ReportsPage (pages : Option Pages) (failed : Type 0) (books : Books) (folder : List ℕ)
    (before after : Option (List ℕ)) (result : Status) : Type 0 where
  pub answer : Result ReachVerdict StreamFault
  pub states : WhereReported pages (λ reported. StreamStates books (publication_page reported folder) answer)
  pub whole : WhereReported pages (λ reported. (page : List ℕ) (p : ReachPublication)
      → publication_page reported folder ≡ Some page → IsReachText page p → SaysOf books p answer)
  pub cause : IsStreamFetch fetch.Failed answer → failed
  pub said : ReportsAnswer answer before after result

-- how a folder is reported whose publication is to be checked: it has books, and the publication is checked by them; or it has
-- none
pub data ReportsCheck (pages : Option Pages) (failed : Type 0) (folder : List ℕ) (before after : Option (List ℕ)) (result : Status) : Type 0 where
  OfPage : (books : Books) → WhereReported pages (λ reported. HasBooks reported folder books) → ReportsPage pages failed books folder before after result
      → ReportsCheck pages failed folder before after result
  OfNoPage : LacksBooks pages failed folder before after result → ReportsCheck pages failed folder before after result

-- how the feed of a folder is reported: lines of the publication's parts are printed, as its printing ended, and then the line
-- of the status; that a call of the shelf failed is reported only where one did
pub record ReportsFeed (pages : Option Pages) (failed : Type 0) (folder : List ℕ) (before after : Option (List ℕ)) (result : Status) : Type 0 where
  pub between : Option (List ℕ)
  pub end : Result (Unit {0}) FeedStop
  pub cause : IsFeedFetch fetch.Failed end → failed
  pub states : WhereReported pages (λ reported. FeedStates (publication_page reported folder) before between end)
  pub reports : ReportsStop end between after result

-- what an answer says: the words are no command, and the usage line is written; or the folder is reported whose day is to be
-- answered, or whose publication is to be checked or printed as a feed; or there was no memory for the words
pub data Answers (asked : Option Task) (pages : Option Pages) (failed : Type 0) (before after : Option (List ℕ)) (result : Status) : Type 0 where
  OfUsage : asked ≡ None → Reports usage_line status.Usage before after result → Answers asked pages failed before after result
  OfFolder : (job : Job) → asked ≡ Some (Clears job) → ReportsFolder pages failed job.folder job.nodes before after result
      → Answers asked pages failed before after result
  OfCheck : (folder : List ℕ) → asked ≡ Some (Checks folder) → ReportsCheck pages failed folder before after result
      → Answers asked pages failed before after result
  OfFeed : (folder : List ℕ) → asked ≡ Some (Feeds folder) → ReportsFeed pages failed folder before after result
      → Answers asked pages failed before after result
  Starved : result ≡ status.Memory → after ≡ before → Answers asked pages failed before after result

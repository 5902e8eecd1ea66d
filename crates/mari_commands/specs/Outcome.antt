-- What the words and the pages come to, and how it is reported.
use Rattle.std.specs.Prelude.{ℕ, ◌≡◌, ◌≢◌, ◌⊎◌, ◌≤◌, ◌==◌, ◌++◌, List, Option, Some, None, Result, Ok, Err, ⊤, option_and_then, string_bytes, if◌then◌else◌}
use Rattle.std.specs.Option.{option_map_or}
use Rattle.mari_io.specs.declared.shelf.Fetch.{Fetch}
use Rattle.mari_io.specs.declared.shelf.Fetch.TheVariants as fetch
use Rattle.mari_io.specs.Outside.{Pages, page_of}
use Rattle.mari_units.specs.declared.faults.Refusal.{Refusal}
use Rattle.mari_publish.specs.declared.fault.TextFault.{TextFault}
use Rattle.mari_publish.specs.declared.fault.TextFault.TheVariants as text_fault
use Rattle.mari_remain.specs.declared.books.Books.{Books}
use Rattle.mari_remain.specs.Accepted.{IsAccepted}
use Rattle.mari_day.specs.Dated.{IsDated}
use Rattle.mari_day.specs.declared.day.DayEnd.{DayEnd}
use Rattle.mari_day.specs.declared.day.DayEnd.TheVariants as end
use Rattle.mari_day.specs.declared.files.TheConstants.{PUBLICATION}
use Rattle.mari_day.specs.Files.{Gap, IsFileNumber, IsNamed}
use Rattle.mari_day.specs.Reading.{HasBooks, HasGap, HasRefusal, IsFetchFault}
use Rattle.mari_day.specs.declared.reading.BooksFault.{BooksFault}
use Rattle.mari_day.specs.declared.reading.BooksFault.TheVariants as why
use Rattle.mari_blocks.specs.declared.clearing.JointText.{JointText}
use Rattle.mari_quarters.specs.Quarters.{NamesQuartersFile, QuartersReport}
use Rattle.mari_units.specs.declared.limits.TheConstants.{MOST_QUARTERS}
use Rattle.mari_check.specs.declared.verdict.Verdict.{Verdict}
use Rattle.mari_check.specs.declared.verdict.Verdict.TheVariants as verdict
use Rattle.mari_check.specs.Streams.{StreamStates}
use Rattle.mari_check.specs.declared.stream.StreamFault.TheVariants as stream
use Rattle.mari_feed.specs.Streams.{FeedStates, IsFeedFetch}
use Rattle.mari_feed.specs.declared.stream.FeedStop.{FeedStop}
use Rattle.mari_words.specs.Asked.{Asked}
use Rattle.mari_words.specs.Asked.Asked.{Blocks, Clear, Check, Generate, Migrate, Feed, Split, Value}
use Rattle.mari_capacity.specs.declared.ending.ValueEnd.{ValueEnd}
use Rattle.mari_capacity.specs.declared.ending.Valued.{Valued}
use Rattle.mari_capacity.specs.Ends.{IsEndOf}
use Rattle.mari_capacity.specs.Streams.{EndsAs, IsPageEnd, IsWrapped, ValueStates}
use Rattle.mari_market.specs.Clearing.{IsBudget, IsWorkerCount}
use Rattle.mari_commands.specs.declared.outcome.Job.{Job}
use Rattle.mari_commands.specs.declared.outcome.JointJob.{JointJob}
use Rattle.mari_commands.specs.declared.outcome.Way.{Way}
use Rattle.mari_commands.specs.declared.outcome.Way.TheVariants.{Whole, Islands}
use Rattle.mari_commands.specs.declared.outcome.Outcome.{Outcome}
use Rattle.mari_commands.specs.declared.outcome.Outcome.TheVariants.{NoCommand, Day, Feed as Feeds, Blocks as Joins, Values, Text, Invalid, NoPage, Refused, Memory as NoMemory}
use Rattle.mari_answers.specs.declared.status.Status.{Status}
use Rattle.mari_answers.specs.declared.status.Status.TheVariants as status
use Rattle.mari_words.specs.declared.command.FilePart.{FilePart}
use Rattle.mari_commands.specs.Commands.{AsksForFiles, AsksForLines, AsksForValues, AsksToCheck, IsAlone, already_two, fetch_of, folder_of, page_of_part}
use Rattle.mari_commands.specs.Splits.{EndsBy, command_by}
use Rattle.mari_commands.specs.Summary.{IsGenerated}
use Rattle.mari_commands.specs.Printing.{usage_line}
use Rattle.mari_answers.specs.Lines.{invalid_line, valid_line}
use Rattle.mari_answers.specs.Reports.{Reports, ReportsNoPage, ReportsRefusal, ReportsStop, WhereReported, publication_path}
use Rattle.mari_answers.specs.Refusals.{HasName}
use Rattle.mari_answers.specs.Texts.{refusal_of, text_refusal}
use Rattle.mari_commands.specs.Values.{value_line, value_status}

-- the line of a publication that is valid
abbrev pub IsValidLine : List ℕ → Type 0
IsValidLine text = (published : ℕ) × (unpublished : ℕ) × (text ≡ valid_line published unpublished)

-- the words ask for a text: for the check of a folder, and it is the line of a valid publication; for a new file of a
-- folder; or for the summary of a generated day, and it is that
abbrev pub AsksForText : Option Asked → List ℕ → Type 0
AsksForText None text = ⊥
AsksForText (Some (Clear folder nodes workers)) text = ⊥
AsksForText (Some (Check folder)) text = IsValidLine text
AsksForText (Some (Migrate folder part)) text = ⊤
AsksForText (Some (Feed folder)) text = ⊥
AsksForText (Some (Split folder nodes workers)) text = ⊥
AsksForText (Some (Value folder more)) text = ⊥
AsksForText (Some (Blocks folder first last nodes workers)) text = ⊥
AsksForText (Some (Generate number)) text = IsGenerated number text

-- a file whose page may be wanted: a market file of the folder, where the words read these; or its publication, where
-- that is checked, printed as a feed or valued
abbrev pub MayWant : Option Asked → (file : ℕ) → Type 0
MayWant asked file = (AsksForFiles asked × IsFileNumber file) ⊎ ((AsksToCheck asked ⊎ AsksForLines asked) × (file ≡ PUBLICATION))

-- the command that clears these quarters as one market
abbrev pub joint_command : JointJob → Asked
joint_command quarters = Blocks (string_bytes quarters.folder) quarters.first quarters.last quarters.nodes quarters.workers

-- the words ask for what may come to this outcome, whatever the pages are
abbrev pub IsOfWords : Option Asked → Outcome → Type 0
IsOfWords asked NoCommand = asked ≡ None
IsOfWords asked (Day job) = (folder : List ℕ) × (asked ≡ Some (command_by job.way folder job.nodes job.workers))
IsOfWords asked (Feeds folder) = asked ≡ Some (Feed (string_bytes folder))
IsOfWords asked (Joins quarters) = asked ≡ Some (joint_command quarters)
IsOfWords asked (Values v) = AsksForValues asked × (IsWrapped v.end → ⊥)
IsOfWords asked (Text text) = AsksForText asked text.items
IsOfWords asked (Invalid run number) = AsksToCheck asked
IsOfWords asked (NoPage file why) = AsksForFiles asked × MayWant asked file × IsAlone asked file
IsOfWords asked (Refused refusal) = AsksForFiles asked × IsAlone asked refusal.file
IsOfWords asked NoMemory = ⊤

-- the fetch of some file gave this answer
abbrev pub IsNoPage : Fetch → Outcome → Type 0
IsNoPage why (NoPage file w) = w ≡ why
IsNoPage why (Values v) = IsPageEnd why v.end
IsNoPage why _ = ⊥

-- whoever reports the outcome still asks the shelf for a page
abbrev pub IsOwn : Outcome → Type 0
IsOwn (Feeds folder) = ⊤
IsOwn (Joins quarters) = ⊤
IsOwn _ = ⊥

-- quarters are to be cleared as one market
abbrev pub AreQuarters : Outcome → Type 0
AreQuarters (Joins quarters) = ⊤
AreQuarters _ = ⊥

-- a job that can be done: its books are a folder's, and its numbers are within their limits
pub record IsReady (job : Job) : Type 0 where
  pub accepted : IsAccepted job.books
  pub dated : IsDated job.books
  pub nodes : IsBudget job.nodes
  pub workers : IsWorkerCount job.workers

-- quarters that can be cleared as one market, if their folder's pages let them: none comes after the day's last, and
-- the other numbers are within their limits
pub record AreJoinable (quarters : JointJob) : Type 0 where
  pub in_order : quarters.first ≤ quarters.last
  pub last : quarters.last ≤ MOST_QUARTERS
  pub nodes : IsBudget quarters.nodes
  pub workers : IsWorkerCount quarters.workers

-- an outcome that can be reported
abbrev pub IsReportable : Outcome → Type 0
IsReportable (Day job) = IsReady job
IsReportable (Joins quarters) = AreJoinable quarters
IsReportable (NoPage file why) = IsNamed file
IsReportable (Refused refusal) = IsNamed refusal.file × HasName refusal
IsReportable _ = ⊤

-- the status of a day, by how it ended
abbrev pub day_status : DayEnd → Status
day_status (end.Done published unpublished) = if unpublished == 0 then status.Done else status.Unpublished
day_status end.WriteFault = status.WriteFault
day_status end.Memory = status.Memory

-- how a job is reported: its day is written as it is made
pub record ReportsDay (job : Job) (before after : Option (List ℕ)) (result : Status) : Type 0 where
  pub ended : DayEnd
  pub ends : EndsBy job.way job.books job.nodes before after ended
  pub status : result ≡ day_status ended

-- how the feed of a folder is reported: lines of the publication's parts are printed, as its printing ended, and then
-- the line of the status; that a call of the shelf failed is reported only where one did
pub record ReportsParts (pages : Option Pages) (failed : Type 0) (folder : List ℕ) (before after : Option (List ℕ)) (result : Status) : Type 0 where
  pub between : Option (List ℕ)
  pub end : Result (Unit {0}) FeedStop
  pub cause : IsFeedFetch fetch.Failed end → failed
  pub states : WhereReported pages (λ reported. FeedStates (page_of reported (publication_path folder)) before between end)
  pub reports : ReportsStop end between after result

-- how the values of limits are reported by how they end: the lines are printed, and then the line of the status
abbrev pub ReportsValues : (lines : List ℕ) → ValueEnd → (before after : Option (List ℕ)) → Status → Type 0
ReportsValues lines end before after result = Reports (lines ++ value_line end) (value_status end) before after result

-- of what clearing quarters gives, the file of a fault has a name, and the check of a refusal
abbrev pub IsSayable : {T : Type 0} → Result T BooksFault → Type 0
IsSayable (Ok printed) = ⊤
IsSayable (Err (why.Fetch file fault)) = IsNamed file
IsSayable (Err (why.Refused refusal)) = IsNamed refusal.file × HasName refusal
IsSayable (Err why.Memory) = ⊤

-- how it is reported: the text is printed; or the line of a refusal, or of a page that can't be had
abbrev pub ReportsQuarters : Result JointText BooksFault → (before after : Option (List ℕ)) → Status → Type 0
ReportsQuarters (Ok printed) before after result = Reports printed.text (if printed.published then status.Done else status.Unpublished) before after result
ReportsQuarters (Err (why.Fetch file fault)) before after result = ReportsNoPage file fault before after result
ReportsQuarters (Err (why.Refused refusal)) before after result = ReportsRefusal refusal before after result
ReportsQuarters (Err why.Memory) before after result = (result ≡ status.Memory) × (after ≡ before)

-- how quarters are reported that are cleared as one market, by what that gives; that a call of the shelf failed is said
-- only where one did
pub record ReportsBlocks (pages : Option Pages) (failed : Type 0) (quarters : JointJob) (before after : Option (List ℕ)) (result : Status) : Type 0 where
  pub given : Result JointText BooksFault
  pub states : WhereReported pages (λ reported. QuartersReport reported (string_bytes quarters.folder) quarters.first quarters.last quarters.nodes given)
  pub file : NamesQuartersFile given
  pub sayable : IsSayable given
  pub cause : IsFetchFault fetch.Failed given → failed
  pub reports : ReportsQuarters given before after result

-- how an outcome is reported
abbrev pub Reported : Option Pages → (failed : Type 0) → Outcome → (before after : Option (List ℕ)) → Status → Type 0
Reported pages failed NoCommand before after result = Reports usage_line status.Usage before after result
Reported pages failed (Day job) before after result = ReportsDay job before after result
Reported pages failed (Feeds folder) before after result = ReportsParts pages failed (string_bytes folder) before after result
Reported pages failed (Joins quarters) before after result = ReportsBlocks pages failed quarters before after result
Reported pages failed (Values v) before after result = ReportsValues v.text v.end before after result
Reported pages failed (Text text) before after result = Reports text.items status.Done before after result
Reported pages failed (Invalid run fault) before after result = Reports (invalid_line run fault) (status.Invalid run fault) before after result
Reported pages failed (NoPage file why) before after result = ReportsNoPage file why before after result
Reported pages failed (Refused refusal) before after result = ReportsRefusal refusal before after result
Reported pages failed NoMemory before after result = (result ≡ status.Memory) × (after ≡ before)

-- the fetch of some file gave this answer, and there are no books
abbrev pub IsNoBooks : Fetch → Result Books Outcome → Type 0
IsNoBooks why (Ok books) = ⊥
IsNoBooks why (Err outcome) = IsNoPage why outcome

-- what comes of a folder that has no books
abbrev pub no_books : BooksFault → Outcome
no_books (why.Fetch file fault) = NoPage file fault
no_books (why.Refused refusal) = Refused refusal
no_books why.Memory = NoMemory

-- what comes of books whose file is asked for in its new form
abbrev pub IsMigrated : Books → FilePart → Outcome → Type 0
IsMigrated books part (Text text) = (books.limits ≡ None) × (text.items ≡ page_of_part part books)
IsMigrated books part (Refused refusal) = (books.limits ≢ None) × (refusal ≡ already_two)
IsMigrated books part NoMemory = ⊤
IsMigrated books part _ = ⊥

-- what comes of a number whose day is generated
abbrev pub IsSummarised : ℕ → Outcome → Type 0
IsSummarised number (Text text) = IsGenerated number text.items
IsSummarised number NoMemory = ⊤
IsSummarised number _ = ⊥

-- what comes of a publication whose text has a fault
abbrev pub text_outcome : TextFault → Outcome
text_outcome fault = option_map_or Refused (refusal_of fault) NoMemory

-- what comes of the verdict on a publication
abbrev pub IsReportedVerdict : Verdict → Outcome → Type 0
IsReportedVerdict (verdict.Valid published unpublished) (Text text) = text.items ≡ valid_line published unpublished
IsReportedVerdict (verdict.Valid published unpublished) NoMemory = ⊤
IsReportedVerdict (verdict.Invalid run fault) (Invalid r f) = (r ≡ run) × (f ≡ fault)
IsReportedVerdict _ _ = ⊥

-- what is said of the page of a publication that is checked against these books: what its check states of it
abbrev pub CheckStates : Books → Option (List ℕ) → Outcome → Type 0
CheckStates books page NoCommand = ⊥
CheckStates books page (Day job) = ⊥
CheckStates books page (Feeds folder) = ⊥
CheckStates books page (Joins quarters) = ⊥
CheckStates books page (Values v) = ⊥
CheckStates books page (Text text) =
    (published : ℕ) × (unpublished : ℕ) × StreamStates books page (Ok (verdict.Valid published unpublished))
    × (text.items ≡ valid_line published unpublished)
CheckStates books page (Invalid run fault) = StreamStates books page (Ok (verdict.Invalid run fault))
CheckStates books page (NoPage file why) = StreamStates books page (Err (stream.Fetch why)) × (file ≡ PUBLICATION)
CheckStates books page (Refused refusal) =
    (fault : TextFault) × StreamStates books page (Err (stream.Text fault)) × (refusal ≡ text_refusal fault)
CheckStates books page NoMemory = ⊤

-- what is said of the page of a publication that is valued against these books, and how that ends
abbrev pub ValuesReport : Books → (more : ℕ) → Option (List ℕ) → Valued → Type 0
ValuesReport books more page v = ValueStates books more page v.text v.end × ((end : ValueEnd) → IsEndOf books page end → EndsAs end v)

-- what comes of a publication that is valued against these books
abbrev pub IsReportedValues : Books → (more : ℕ) → Option (List ℕ) → Outcome → Type 0
IsReportedValues books more page (Values v) = ValuesReport books more page v
IsReportedValues books more page NoMemory = ⊤
IsReportedValues books more page _ = ⊥

-- what comes of words that are no command
abbrev pub IsUsage : Outcome → Type 0
IsUsage NoCommand = ⊤
IsUsage NoMemory = ⊤
IsUsage _ = ⊥

-- what comes of a folder whose publication is printed as a feed
abbrev pub IsFeedOf : (folder : List ℕ) → Outcome → Type 0
IsFeedOf folder (Feeds name) = string_bytes name ≡ folder
IsFeedOf folder NoMemory = ⊤
IsFeedOf folder _ = ⊥

-- what comes of a command that clears quarters as one market
abbrev pub IsJointOf : (command : Asked) → Outcome → Type 0
IsJointOf command (Joins quarters) = joint_command quarters ≡ command
IsJointOf command NoMemory = ⊤
IsJointOf command _ = ⊥

-- what comes of words that read no market files
abbrev pub ComesAtOnce : Option Asked → Outcome → Type 0
ComesAtOnce None o = IsUsage o
ComesAtOnce (Some (Generate number)) o = IsSummarised number o
ComesAtOnce (Some (Feed folder)) o = IsFeedOf folder o
ComesAtOnce (Some (Blocks folder first last nodes workers)) o = IsJointOf (Blocks folder first last nodes workers) o
ComesAtOnce _ o = ⊥

-- what comes of books whose runs are cleared in this way
abbrev pub IsDayOf : Way → Books → (nodes workers : ℕ) → Outcome → Type 0
IsDayOf way books nodes workers (Day job) = job ≡ record { books = books; way = way; nodes = nodes; workers = workers }
IsDayOf way books nodes workers _ = ⊥

-- what comes of the books of the folder whose market files the words read: a day to clear, what the check of its
-- publication states, the new form of a file, or the values of its limits
abbrev pub ComesOfBooks : Option Asked → Pages → (folder : List ℕ) → Books → Outcome → Type 0
ComesOfBooks (Some (Clear _ nodes workers)) pages folder books o = IsDayOf Whole books nodes workers o
ComesOfBooks (Some (Check _)) pages folder books o = CheckStates books (page_of pages (publication_path folder)) o
ComesOfBooks (Some (Migrate _ part)) pages folder books o = IsMigrated books part o
ComesOfBooks (Some (Split _ nodes workers)) pages folder books o = IsDayOf Islands books nodes workers o
ComesOfBooks (Some (Value _ more)) pages folder books o = IsReportedValues books more (page_of pages (publication_path folder)) o
ComesOfBooks _ pages folder books o = ⊥

-- what an outcome says of the folder whose market files the words read: they are refused, or a page of them can't be
-- had; or they give books, of which the outcome comes; or a fetch failed, or there was no memory
pub data SaysOfFolder (asked : Option Asked) (pages : Pages) (folder : List ℕ) (o : Outcome) : Type 0 where
  OfRefusal : (refusal : Refusal) → HasRefusal pages folder refusal → o ≡ Refused refusal → SaysOfFolder asked pages folder o
  OfGap : (file : ℕ) (gap : Gap) → HasGap pages folder file gap → o ≡ NoPage file (fetch_of gap) → SaysOfFolder asked pages folder o
  OfBooks : (books : Books) → HasBooks pages folder books → ComesOfBooks asked pages folder books o → SaysOfFolder asked pages folder o
  Fails : (file : ℕ) → o ≡ NoPage file fetch.Failed → SaysOfFolder asked pages folder o
  Starves : o ≡ NoMemory → SaysOfFolder asked pages folder o

-- the same where the words may read none
abbrev pub SaysBy : Option Asked → Pages → (folder : Option (List ℕ)) → Outcome → Type 0
SaysBy asked pages None o = ComesAtOnce asked o
SaysBy asked pages (Some folder) o = SaysOfFolder asked pages folder o

-- what an outcome says of what the words ask for and of the pages
abbrev pub Says : Option Asked → Pages → Outcome → Type 0
Says asked pages o = SaysBy asked pages (option_and_then folder_of asked) o

-- books, or the outcome of a folder that has none
abbrev pub Found : Option Asked → Pages → List ℕ → Result Books Outcome → Type 0
Found asked pages folder (Ok books) = HasBooks pages folder books
Found asked pages folder (Err outcome) = Says asked pages outcome

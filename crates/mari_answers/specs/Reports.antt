-- How a text, a refusal, a page that can't be had, the end of a feed and a folder without books are reported: what a
-- sink takes, and the status.
use Rattle.std.specs.Prelude.{ℕ, ◌≡◌, ◌⊎◌, List, Option, Some, Result, Ok, Err}
use Rattle.mari_units.specs.declared.faults.Refusal.{Refusal}
use Rattle.mari_io.specs.Outside.{Pages}
use Rattle.mari_io.specs.Taken.{TookPart, then_took}
use Rattle.mari_io.specs.declared.shelf.Fetch.{Fetch}
use Rattle.mari_io.specs.declared.shelf.Fetch.TheVariants as fetch
use Rattle.mari_day.specs.Files.{file_named, path_in}
use Rattle.mari_day.specs.declared.files.TheConstants.{PUBLICATION}
use Rattle.mari_day.specs.declared.reading.BooksFault.{BooksFault}
use Rattle.mari_day.specs.declared.reading.BooksFault.TheVariants as why
use Rattle.mari_answers.specs.declared.status.Status.{Status}
use Rattle.mari_answers.specs.declared.status.Status.TheVariants as status
use Rattle.mari_publish.specs.declared.fault.TextFault.{TextFault}
use Rattle.mari_publish.specs.declared.fault.TextFault.TheVariants as text_fault
use Rattle.mari_publish.specs.Streams.{AsksForPage}
use Rattle.mari_feed.specs.declared.stream.FeedStop.{FeedStop}
use Rattle.mari_feed.specs.declared.stream.FeedStop.TheVariants as stop
use Rattle.mari_answers.specs.Lines.{file_line, page_status, page_word, refused_line}
use Rattle.mari_answers.specs.Texts.{text_refusal}

-- where the pages are reported, this is so of them
abbrev pub WhereReported : Option Pages → (Pages → Type 0) → Type 0
WhereReported pages IsSo = (reported : Pages) → pages ≡ Some reported → IsSo reported

-- the name of a folder's publication
abbrev pub publication_path : List ℕ → List ℕ
publication_path folder = path_in folder (file_named PUBLICATION)

-- so many calls that they may be for one page in pieces: none; or one, and then at most one for each byte that was
-- given, and one
abbrev pub AsksForOne : (before now given : ℕ) → Type 0
AsksForOne before now given = (now ≡ before) ⊎ AsksForPage ⊥ before now given

-- how a text is reported with a status: it is printed whole; or a write failed, and a first part of it was taken; or
-- memory ran out, and nothing was taken
pub data Reports (text : List ℕ) (wanted : Status) (before after : Option (List ℕ)) (result : Status) : Type 0 where
  Printed : result ≡ wanted → after ≡ then_took before text → Reports text wanted before after result
  CutOff : result ≡ status.WriteFault → TookPart before after text → Reports text wanted before after result
  Starved : result ≡ status.Memory → after ≡ before → Reports text wanted before after result

-- how a refusal is reported
abbrev pub ReportsRefusal : Refusal → (before after : Option (List ℕ)) → Status → Type 0
ReportsRefusal refusal before after result = Reports (refused_line refusal) (status.Refused refusal) before after result

-- how a publication is reported whose text has a fault
abbrev pub ReportsText : TextFault → (before after : Option (List ℕ)) → Status → Type 0
ReportsText text_fault.Memory before after result = (result ≡ status.Memory) × (after ≡ before)
ReportsText fault before after result = ReportsRefusal (text_refusal fault) before after result

-- how a page that can't be had is reported
abbrev pub ReportsNoPage : ℕ → Fetch → (before after : Option (List ℕ)) → Status → Type 0
ReportsNoPage file fetch.Memory before after result = (result ≡ status.Memory) × (after ≡ before)
ReportsNoPage file why before after result = Reports (file_line (page_word why) file) (page_status why) before after result

-- how the printing of a feed is reported by how it ended: nothing more is printed; or the line of its status is
abbrev pub ReportsStop : {T : Type 0} → Result T FeedStop → (before after : Option (List ℕ)) → Status → Type 0
ReportsStop (Ok done) before after result = (result ≡ status.Done) × (after ≡ before)
ReportsStop (Err (stop.Fetch why)) before after result = ReportsNoPage PUBLICATION why before after result
ReportsStop (Err (stop.Text fault)) before after result = ReportsText fault before after result
ReportsStop (Err stop.Sink) before after result = (result ≡ status.WriteFault) × (after ≡ before)
ReportsStop (Err stop.Memory) before after result = (result ≡ status.Memory) × (after ≡ before)

-- the line of a file whose page can't be had, and its status; there is none where the page was given up out of memory
abbrev pub IsPageLine : (file : ℕ) → Fetch → (line : List ℕ) → Status → Type 0
IsPageLine file fetch.Memory line s = ⊥
IsPageLine file why line s = (line ≡ file_line (page_word why) file) × (s ≡ page_status why)

-- how a folder is reported that has no books
abbrev pub ReportsNoBooks : BooksFault → (before after : Option (List ℕ)) → Status → Type 0
ReportsNoBooks (why.Fetch file fault) before after result = ReportsNoPage file fault before after result
ReportsNoBooks (why.Refused refusal) before after result = ReportsRefusal refusal before after result
ReportsNoBooks why.Memory before after result = (result ≡ status.Memory) × (after ≡ before)

-- What fetching a folder's pages gives.
use Rattle.std.specs.Prelude.{◌≡◌, ◌≤◌, ◌+◌, ◌⊎◌, ℕ, List, length, Result, Ok, Err, Option, Some, None, ⊤}
use Rattle.mari_io.specs.declared.shelf.Fetch.{Fetch}
use Rattle.mari_io.specs.declared.shelf.Fetch.TheVariants.{Failed, Missing, TooLong, Memory}
use Rattle.mari_io.specs.Outside.{Pages, counted, counted_by}
use Rattle.mari_day.specs.declared.files.File.{File}
use Rattle.mari_day.specs.declared.pages.PagesFault.{PagesFault}
use Rattle.mari_day.specs.declared.pages.PagesFault.TheVariants.{Fetch as OfFetch, Memory as NoMemory}
use Rattle.mari_day.specs.Files.{files_in, place_of, gap_of, first_gap, ArePages}
use Rattle.mari_day.specs.Files.Gap.{NotHeld, OverLimit}

-- the fetch of some file gave this answer
abbrev pub IsFault : {T : Type 0} → Fetch → Result T PagesFault → Type 0
IsFault fetch (Ok x) = ⊥
IsFault fetch (Err NoMemory) = ⊥
IsFault fetch (Err (OfFetch file f)) = f ≡ fetch

-- a page that can't be had is of this file
abbrev pub IsFaultOfFile : File → PagesFault → Type 0
IsFaultOfFile file NoMemory = ⊤
IsFaultOfFile file (OfFetch f why) = f ≡ file

abbrev pub IsOfFile : {T : Type 0} → File → Result T PagesFault → Type 0
IsOfFile file (Ok x) = ⊤
IsOfFile file (Err fault) = IsFaultOfFile file fault

-- the number of fetches that the page of one file takes: one, and when out of memory one at most
abbrev pub FetchedOne : (before now : ℕ) → PagesFault → Type 0
FetchedOne before now NoMemory = (now ≡ before) ⊎ (now ≡ counted before)
FetchedOne before now (OfFetch file why) = now ≡ counted before

abbrev pub FetchesPage : {T : Type 0} → (before now : ℕ) → Result T PagesFault → Type 0
FetchesPage before now (Ok x) = now ≡ counted before
FetchesPage before now (Err fault) = FetchedOne before now fault

-- at most `most` files were fetched, each once
pub record SomeFetched (most before now : ℕ) : Type 0 where
  pub count : ℕ
  pub within : count ≤ most
  pub fetched : now ≡ counted_by count before

-- how many fetches the pages of `count` files take: one for each, and where a file's page can't be had one for it and
-- each before it
abbrev pub FetchedUpTo : (count before now : ℕ) → PagesFault → Type 0
FetchedUpTo count before now NoMemory = SomeFetched count before now
FetchedUpTo count before now (OfFetch file why) = now ≡ counted_by (place_of file + 1) before

abbrev pub FetchesPages : (count before now : ℕ) → Result (List (List ℕ)) PagesFault → Type 0
FetchesPages count before now (Ok texts) = (length texts ≡ count) × (now ≡ counted_by count before)
FetchesPages count before now (Err fault) = FetchedUpTo count before now fault

-- a folder has `count` files: seven, or eight with limits.csv; where its pages are reported, they state which
pub record HasFiles (pages : Option Pages) (folder : List ℕ) (count : ℕ) : Type 0 where
  pub seven_or_eight : (count ≡ 7) ⊎ (count ≡ 8)
  pub reported : (reported : Pages) → pages ≡ Some reported → count ≡ length (files_in reported folder)

-- how many fetches the pages of all files of a folder take
pub record FetchesFolder (pages : Option Pages) (folder : List ℕ) (before now : ℕ) (result : Result (List (List ℕ)) PagesFault) : Type 0 where
  pub count : ℕ
  pub files : HasFiles pages folder count
  pub fetched : FetchesPages count before now result

-- what fetching one file says of its page, where that is known
abbrev pub PageStates : File → Option (List ℕ) → Result (List ℕ) PagesFault → Type 0
PageStates file page (Ok bytes) = (page ≡ Some bytes) × (gap_of page ≡ None)
PageStates file page (Err NoMemory) = ⊤
PageStates file page (Err (OfFetch f Failed)) = f ≡ file
PageStates file page (Err (OfFetch f Missing)) = (f ≡ file) × (gap_of page ≡ Some NotHeld)
PageStates file page (Err (OfFetch f TooLong)) = (f ≡ file) × (gap_of page ≡ Some OverLimit)
PageStates file page (Err (OfFetch f Memory)) = f ≡ file

-- what fetching these files says of the pages, where they are reported: all of them, or the first that isn't held or is
-- too long
abbrev pub FetchingStates : Pages → List ℕ → List File → Result (List (List ℕ)) PagesFault → Type 0
FetchingStates pages folder fs (Ok texts) = ArePages pages folder fs texts
FetchingStates pages folder fs (Err NoMemory) = ⊤
FetchingStates pages folder fs (Err (OfFetch file Failed)) = ⊤
FetchingStates pages folder fs (Err (OfFetch file Missing)) = first_gap pages folder fs ≡ Some (record { file = file; gap = NotHeld })
FetchingStates pages folder fs (Err (OfFetch file TooLong)) = first_gap pages folder fs ≡ Some (record { file = file; gap = OverLimit })
FetchingStates pages folder fs (Err (OfFetch file Memory)) = ⊤

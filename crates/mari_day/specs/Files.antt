-- The market files of a folder, and which of them are missing or too long.
use Rattle.std.specs.Prelude.{slice_index_or, ℕ, nat_lt, ◌==◌, ◌≡◌, ◌≢◌, ◌≤◌, List, [], ◌∷◌, ◌++◌, length, map, Option, Some, None, if◌then◌else◌}
use lib.Chars.{codes}
use Rattle.mari_units.specs.declared.limits.TheConstants.{MOST_PAGE}
use Rattle.mari_io.specs.Outside.{Pages, page_of}
use Rattle.mari_zones.specs.Borders.{version_in}
use Rattle.mari_day.specs.declared.files.File.{File}
use Rattle.mari_day.specs.declared.files.TheConstants.{BLOCKS, PUBLICATION}
use Rattle.mari_day.specs.declared.files.File.TheVariants.{Day, Zones, Borders, Bids, Links, Runs, Demands, Limits}

-- a file's name in its folder
abbrev pub name_of : File → List ℕ
name_of Day = codes "day.csv"
name_of Zones = codes "zones.csv"
name_of Borders = codes "borders.csv"
name_of Bids = codes "bids.csv"
name_of Links = codes "links.csv"
name_of Runs = codes "runs.csv"
name_of Demands = codes "demands.csv"
name_of Limits = codes "limits.csv"

-- a file's place among those of its folder, from 0
abbrev pub place_of : File → ℕ
place_of Day = 0
place_of Zones = 1
place_of Borders = 2
place_of Bids = 3
place_of Links = 4
place_of Runs = 5
place_of Demands = 6
place_of Limits = 7

-- the number by which a file is named: one is left out, that of the publication, which is no market file
abbrev pub file_number : File → ℕ
file_number Day = 1
file_number Zones = 2
file_number Borders = 3
file_number Bids = 4
file_number Links = 5
file_number Runs = 6
file_number Demands = 7
file_number Limits = 9

-- the number of a file, which a market file, the publication or the file of blocks has
abbrev pub IsNamed : ℕ → Type 0
IsNamed number = (1 ≤ number) × (number ≤ BLOCKS)

-- the number of a market file
pub record IsFileNumber (number : ℕ) : Type 0 where
  pub from_one : 1 ≤ number
  pub to_last : number ≤ file_number Limits
  pub other : number ≢ PUBLICATION

-- the market file of a number, if it is that of one
abbrev pub file_with : ℕ → Option File
file_with number =
    if number == file_number Day then Some Day else
    if number == file_number Zones then Some Zones else
    if number == file_number Borders then Some Borders else
    if number == file_number Bids then Some Bids else
    if number == file_number Links then Some Links else
    if number == file_number Runs then Some Runs else
    if number == file_number Demands then Some Demands else
    if number == file_number Limits then Some Limits else
    None

-- the seven files that every folder has, in the order in which they are fetched and read
abbrev pub files : List File
files = Day ∷ Zones ∷ Borders ∷ Bids ∷ Links ∷ Runs ∷ Demands ∷ []

-- the files of a folder whose page of borders is of this version: in version 2 limits.csv stands after the seven
abbrev pub files_of : (version : ℕ) → List File
files_of version = if version == 2 then files ++ Limits ∷ [] else files

-- the name of a market file, or of the publication
abbrev pub name_or_publication : Option File → List ℕ
name_or_publication (Some file) = name_of file
name_or_publication None = codes "publication.txt"

-- the name of the file of a number
abbrev pub file_named : ℕ → List ℕ
file_named number = if number == BLOCKS then codes "blocks.csv" else name_or_publication (file_with number)

-- a file's page among the pages of its folder
abbrev pub page_among : List (List ℕ) → File → List ℕ
page_among pages file = slice_index_or pages (place_of file) []

-- the path in a folder of the file of this name
abbrev pub path_in : (folder name : List ℕ) → List ℕ
path_in folder name = folder ++ 47 ∷ name

-- the path of a market file
abbrev pub path_of : List ℕ → File → List ℕ
path_of folder file = path_in folder (name_of file)

-- the page of a folder's file
abbrev pub page_in : Pages → List ℕ → File → Option (List ℕ)
page_in pages folder file = page_of pages (path_of folder file)

-- the version of a folder's files, which its page of borders states
abbrev pub version_by : Option (List ℕ) → ℕ
version_by None = 1
version_by (Some borders) = version_in borders

-- the files of a folder whose pages are reported
abbrev pub files_in : Pages → List ℕ → List File
files_in pages folder = files_of (version_by (page_in pages folder Borders))

-- why a page can't be had: it isn't held, or it is longer than a page may be
pub data Gap : Type 0 where
  NotHeld : Gap
  OverLimit : Gap

-- what is wrong with a page, if anything is
abbrev pub gap_of : Option (List ℕ) → Option Gap
gap_of None = Some NotHeld
gap_of (Some page) = if nat_lt MOST_PAGE (length page) then Some OverLimit else None

-- a file and why its page can't be had
pub record FileGap : Type 0 where
  pub file : File
  pub gap : Gap

-- the gap of this file if it has one, or else that of a later one
abbrev pub gap_or : File → Option Gap → Option FileGap → Option FileGap
gap_or file None later = later
gap_or file (Some gap) later = Some (record { file = file; gap = gap })

-- the first of these files whose page can't be had
abbrev pub first_gap : Pages → List ℕ → List File → Option FileGap
first_gap pages folder [] = None
first_gap pages folder (file ∷ more) = gap_or file (gap_of (page_in pages folder file)) (first_gap pages folder more)

-- the pages of these files of a folder: each of them is held, and none is longer than a page may be
pub record ArePages (pages : Pages) (folder : List ℕ) (fs : List File) (texts : List (List ℕ)) : Type 0 where
  pub held : map (page_in pages folder) fs ≡ map Some texts
  pub no_gap : first_gap pages folder fs ≡ None

-- the pages of all files of a folder
abbrev pub AreHeld : Pages → List ℕ → List (List ℕ) → Type 0
AreHeld pages folder texts = ArePages pages folder (files_in pages folder) texts

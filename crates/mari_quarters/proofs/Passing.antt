-- What a stage says passes to the whole.
use Rattle.std.proofs.Common.{◌≡◌, inl, inr, ℕ, List, Option, None, Result, Ok, Err, refl, subst, sym}
use Rattle.mari_units.specs.declared.faults.Refusal.{Refusal}
use Rattle.mari_io.specs.Outside.{Pages}
use Rattle.mari_io.specs.declared.shelf.Fetch.{Fetch}
use Rattle.mari_io.specs.declared.shelf.Fetch.TheVariants as fetch
use Rattle.mari_remain.specs.declared.books.Books.{Books}
use Rattle.mari_day.specs.Files.{gap_of}
use Rattle.mari_day.specs.Reading.{BooksReport, HasBooks, IsFetchFault, NamesAFile}
use Rattle.mari_day.specs.Refusals.{RefusesByCheck}
use Rattle.mari_day.specs.declared.files.TheConstants.{BLOCKS}
use Rattle.mari_day.specs.declared.reading.BooksFault.{BooksFault}
use Rattle.mari_day.specs.declared.reading.BooksFault.TheVariants as why
use Rattle.mari_blocks.specs.declared.blocks.BlockBook.{BlockBook}
use Rattle.mari_blocks.specs.declared.clearing.JointText.{JointText}
use Rattle.mari_quarters.specs.Quarters.{HasPage, NamesQuartersFile, QuartersReport, RefusesAfterFiles, RefusesQuartersByCheck, blocks_in, blocks_page}
use Rattle.mari_quarters.specs.Quarters.{HasQuartersGap as gaps}
use Rattle.mari_quarters.specs.Quarters.{HasQuartersRefusal as refusals}
use Rattle.mari_quarters.specs.Quarters.{IsQuartersCheck as checks}
use Rattle.mari_quarters.specs.Stages.{ClearsQuarters, IsOfBlocks, PageStates, ReadsBlocks}
use Rattle.mari_quarters.proofs.Checking.{of-market}

-- ---- without books

pub files-named : (fault : BooksFault) → NamesAFile {T = Books} (Err fault) → NamesQuartersFile {T = JointText} (Err fault)
files-named (why.Fetch number f) named = inl named
files-named (why.Refused refusal) named = inl named
files-named why.Memory named = tt

pub files-check : (fault : BooksFault) → RefusesByCheck {T = Books} (Err fault) → RefusesQuartersByCheck {T = JointText} (Err fault)
files-check (why.Fetch number f) by = tt
files-check (why.Refused refusal) by = checks.OfFiles by
files-check why.Memory by = tt

pub files-report : (reported : Pages) (folder : List ℕ) (first last budget : ℕ) (fault : BooksFault)
    → BooksReport reported folder (Err fault) → QuartersReport reported folder first last budget (Err fault)
files-report reported folder first last budget (why.Fetch number fetch.Failed) states = tt
files-report reported folder first last budget (why.Fetch number fetch.Missing) states = gaps.OfFiles states
files-report reported folder first last budget (why.Fetch number fetch.TooLong) states = gaps.OfFiles states
files-report reported folder first last budget (why.Fetch number fetch.Memory) states = states
files-report reported folder first last budget (why.Refused refusal) states = refusals.OfFiles states
files-report reported folder first last budget why.Memory states = tt

-- ---- without a page

pub page-states : (reported : Pages) (folder : List ℕ) (first last budget : ℕ) (books : Books) → HasBooks reported folder books → (fault : BooksFault)
    → PageStates (blocks_page reported folder) (Err fault) → IsOfBlocks {T = List ℕ} (Err fault) → QuartersReport reported folder first last budget (Err fault)
page-states reported folder first last budget books has (why.Fetch number fetch.Failed) states file = tt
page-states reported folder first last budget books has (why.Fetch number fetch.Missing) states file = gaps.OfBlocks books has states file
page-states reported folder first last budget books has (why.Fetch number fetch.TooLong) states file = gaps.OfBlocks books has states file
page-states reported folder first last budget books has why.Memory states file = tt
page-states reported folder first last budget books has _ states file = absurd states

-- the page of blocks.csv, which was had
pub has-page : (reported : Pages) (folder : List ℕ) (books : Books) (page : List ℕ) → HasBooks reported folder books
    → PageStates (blocks_page reported folder) (Ok page) → HasPage reported folder books page
has-page reported folder books page has held = record { gives = has; held = held.0; short = subst (λ (p : Option (List ℕ)). gap_of p ≡ None) held.0 held.1 }

-- ---- without a book of blocks, and with one

module _ (books : Books) (first last budget : ℕ) (page : List ℕ) where
  pub unread-no-fetch : (fault : BooksFault) → ReadsBlocks (Err fault) (blocks_in books first last page) → (f : Fetch) → IsFetchFault {T = JointText} f (Err fault) → ⊥
  unread-no-fetch (why.Fetch number g) read f e = read
  unread-no-fetch (why.Refused refusal) read f e = e
  unread-no-fetch why.Memory read f e = e

  pub unread-named : (fault : BooksFault) → NamesQuartersFile {T = BlockBook} (Err fault) → NamesQuartersFile {T = JointText} (Err fault)
  unread-named (why.Fetch number f) named = named
  unread-named (why.Refused refusal) named = named
  unread-named why.Memory named = tt

  pub unread-check : (fault : BooksFault) → RefusesQuartersByCheck {T = BlockBook} (Err fault) → RefusesQuartersByCheck {T = JointText} (Err fault)
  unread-check (why.Fetch number f) by = tt
  unread-check (why.Refused refusal) by = by
  unread-check why.Memory by = tt

  pub unread-states : (fault : BooksFault) → ReadsBlocks (Err fault) (blocks_in books first last page) → (reported : Pages) (folder : List ℕ) → HasPage reported folder books page
      → QuartersReport reported folder first last budget (Err fault)
  unread-states (why.Fetch number fault) read reported folder has = absurd read
  unread-states (why.Refused refusal) read reported folder has = refusals.OfBlocks books page refusal.line refusal.number has read.0 (file refusal read.1)
    where
      file : (r : Refusal) → r.file ≡ BLOCKS → r ≡ record { file = BLOCKS; line = r.line; number = r.number }
      file r e = rw (sym e) refl
  unread-states why.Memory read reported folder has = tt

  pub unread-late : (fault : BooksFault) → ReadsBlocks (Err fault) (blocks_in books first last page) → RefusesAfterFiles {T = JointText} (Err fault)
  unread-late (why.Fetch number f) read = tt
  unread-late (why.Refused refusal) read = inl read.1
  unread-late why.Memory read = tt

  module _ (blocks : BlockBook) (read : blocks_in books first last page ≡ Ok blocks) where
    pub market-late : (result : Result JointText BooksFault) → ClearsQuarters books blocks first last budget result → RefusesAfterFiles result
    market-late (Ok printed) clears = tt
    market-late (Err (why.Fetch number f)) clears = tt
    market-late (Err (why.Refused refusal)) clears = inr (of-market books blocks first last refusal clears)
    market-late (Err why.Memory) clears = tt

    pub market-no-fetch : (result : Result JointText BooksFault) → ClearsQuarters books blocks first last budget result → (f : Fetch) → IsFetchFault f result → ⊥
    market-no-fetch (Ok printed) clears f e = e
    market-no-fetch (Err (why.Fetch number g)) clears f e = clears
    market-no-fetch (Err (why.Refused refusal)) clears f e = e
    market-no-fetch (Err why.Memory) clears f e = e

    pub market-states : (result : Result JointText BooksFault) → ClearsQuarters books blocks first last budget result → (reported : Pages) (folder : List ℕ) → HasPage reported folder books page
        → QuartersReport reported folder first last budget result
    market-states (Ok printed) clears reported folder has = record {
      books = books;
      blocks = blocks;
      has = record { page = page; has = has; read = read };
      is_text = clears;
    }
    market-states (Err (why.Refused refusal)) clears reported folder has = refusals.OfMarket books blocks (record { page = page; has = has; read = read }) clears
    market-states (Err why.Memory) clears reported folder has = tt
    market-states (Err (why.Fetch number fault)) clears reported folder has = absurd clears

-- A publication whose limits are valued as it is read in pieces: what is said of its page, by how that ends.
use Rattle.std.specs.Prelude.{◌≡◌, ◌⊎◌, ℕ, List, [], ◌++◌, take, Option, Some, None, Result, Ok, Err}
use Rattle.mari_io.specs.Outside.{most_given}
use Rattle.mari_io.specs.declared.shelf.Fetch.{Fetch}
use Rattle.mari_io.specs.declared.shelf.Fetch.TheVariants as fetch
use Rattle.mari_publish.specs.Paged.{IsReportedFault, IsTooLong}
use Rattle.mari_publish.specs.Pieces.{HasPart, HoldsParts, NoPart}
use Rattle.mari_publish.specs.declared.fault.TextFault.{TextFault}
use Rattle.mari_publish.specs.declared.fault.TextFault.TheVariants as fault
use Rattle.mari_publish.specs.declared.publication.Part.{Part}
use Rattle.mari_publish.specs.declared.publication.Publication.{Publication}
use Rattle.mari_remain.specs.declared.books.Books.{Books}
use Rattle.mari_check.specs.declared.verdict.Verdict.TheVariants as verdict
use Rattle.mari_check.specs.Verdicts.{IsVerdict}
use Rattle.mari_capacity.specs.declared.ending.ValueEnd.{ValueEnd}
use Rattle.mari_capacity.specs.declared.ending.ValueEnd.TheVariants.{Valid, Invalid, Text as OfText, Fetch as OfFetch}
use Rattle.mari_capacity.specs.declared.ending.Valued.{Valued}
use Rattle.mari_capacity.specs.Ends.{AreChecked, HasEndFault, HasFault, IsValidPage, blocks_in}
use Rattle.mari_capacity.specs.Lines.{closing_line}
use Rattle.mari_capacity.specs.Values.{IsValueText}

-- the lines are those of the blocks among parts that were checked
pub record StatesChecked (books : Books) (more : ℕ) (parts : List Part) (text : List ℕ) : Type 0 where
  pub checked : AreChecked books parts
  pub lines : IsValueText books more (blocks_in parts) text

-- and a page begins with these parts
pub record StatesPage (books : Books) (more : ℕ) (page : List ℕ) (parts : List Part) (text : List ℕ) : Type 0 where
  pub holds : HoldsParts page parts
  pub states : StatesChecked books more parts text

-- ---- how it ends

-- the page is the text of a valid publication: there are the lines of all its blocks, and after them their numbers
pub record EndsValid (books : Books) (more : ℕ) (page text : List ℕ) (published unpublished : ℕ) : Type 0 where
  pub valid : IsValidPage books page published unpublished
  pub front : List ℕ
  pub lines : IsValueText books more valid.publication.blocks front
  pub text_is : text ≡ front ++ closing_line published unpublished

-- the first fault is one of the check: of a head or a block that is given whole, so that no line up to its last has a
-- fault; or one that the end of a publication shows. There are the lines of the blocks before it
pub data EndsInvalid (books : Books) (more : ℕ) (page text : List ℕ) (run number : ℕ) : Type 0 where
  AtPart : (parts : List Part) (x : Part) → HasPart (take most_given page) parts x → HasFault books parts x run number
      → StatesChecked books more parts text → EndsInvalid books more page text run number
  AtEnd : (f : HasEndFault books page run number) → IsValueText books more f.publication.blocks text → EndsInvalid books more page text run number

-- the first fault is one of the text, and there are the lines of all blocks before it, which were checked
pub record EndsRefused (books : Books) (more : ℕ) (page text : List ℕ) (f : TextFault) : Type 0 where
  pub reported : IsReportedFault page f
  pub parts : List Part
  pub no_more : NoPart page parts
  pub states : StatesPage books more page parts text

-- the page has more bytes than are given in pieces, and as far as it is given neither a line nor a part has a fault;
-- there are the lines of all blocks so far
pub record EndsOverlong (books : Books) (more : ℕ) (page text : List ℕ) : Type 0 where
  pub too_long : IsTooLong page
  pub parts : List Part
  pub no_more : NoPart (take most_given page) parts
  pub states : StatesPage books more (take most_given page) parts text

-- no piece more was given: there are the lines of blocks that were checked, or nothing
pub data EndsFailed (books : Books) (more : ℕ) (page text : List ℕ) : Type 0 where
  Unopened : text ≡ [] → EndsFailed books more page text
  Midway : (parts : List Part) → StatesPage books more page parts text → EndsFailed books more page text

-- how what is said of a page that is held ends
abbrev pub EndsPage : Books → (more : ℕ) → (page text : List ℕ) → ValueEnd → Type 0
EndsPage books more page text (Valid published unpublished) = EndsValid books more page text published unpublished
EndsPage books more page text (Invalid run number) = EndsInvalid books more page text run number
EndsPage books more page text (OfText f) = EndsRefused books more page text f
EndsPage books more page text (OfFetch fetch.Failed) = EndsFailed books more page text
EndsPage books more page text (OfFetch fetch.Missing) = ⊥
EndsPage books more page text (OfFetch fetch.TooLong) = EndsOverlong books more page text
EndsPage books more page text (OfFetch fetch.Memory) = ⊥

-- and of one that isn't
abbrev pub EndsUnheld : (text : List ℕ) → ValueEnd → Type 0
EndsUnheld text (OfFetch fetch.Failed) = text ≡ []
EndsUnheld text (OfFetch fetch.Missing) = text ≡ []
EndsUnheld text (OfFetch fetch.TooLong) = ⊥
EndsUnheld text (OfFetch fetch.Memory) = ⊥
EndsUnheld text (Valid published unpublished) = ⊥
EndsUnheld text (Invalid run number) = ⊥
EndsUnheld text (OfText f) = ⊥

-- what is said of the page of a name, where pages are reported
abbrev pub ValueStates : Books → (more : ℕ) → Option (List ℕ) → (text : List ℕ) → ValueEnd → Type 0
ValueStates books more None text end = EndsUnheld text end
ValueStates books more (Some page) text end = EndsPage books more page text end

-- it ends so, or since a call of the shelf failed
abbrev pub EndsAs : ValueEnd → Valued → Type 0
EndsAs end v = (v.end ≡ end) ⊎ (v.end ≡ OfFetch fetch.Failed)

-- ---- on any shelf

-- the lines are those of some blocks that begin a publication, each of which was checked
abbrev pub StatesSome : Books → (more : ℕ) → List ℕ → Type 0
StatesSome books more text = (parts : List Part) × StatesChecked books more parts text

-- the lines are those of a valid publication with these numbers of published blocks and of others, which stand last
pub record StatesValid (books : Books) (more : ℕ) (text : List ℕ) (published unpublished : ℕ) : Type 0 where
  pub publication : Publication
  pub valid : IsVerdict books publication (verdict.Valid published unpublished)
  pub front : List ℕ
  pub lines : IsValueText books more publication.blocks front
  pub text_is : text ≡ front ++ closing_line published unpublished

-- where a publication is valid there are all its lines and the last one, and else the lines of blocks that were
-- checked, or nothing where no page was opened
abbrev pub LinesReport : Books → (more : ℕ) → (text : List ℕ) → ValueEnd → Type 0
LinesReport books more text (Valid published unpublished) = StatesValid books more text published unpublished
LinesReport books more text (Invalid run number) = StatesSome books more text
LinesReport books more text (OfText f) = StatesSome books more text
LinesReport books more text (OfFetch why) = (text ≡ []) ⊎ StatesSome books more text

-- it ends since the shelf gave this fault
abbrev pub IsPageEnd : Fetch → ValueEnd → Type 0
IsPageEnd why (OfFetch w) = w ≡ why
IsPageEnd why (Valid published unpublished) = ⊥
IsPageEnd why (Invalid run number) = ⊥
IsPageEnd why (OfText f) = ⊥

-- the values end by this answer of the shelf
abbrev pub IsPageFault : {E : Type 0} → Fetch → Result Valued E → Type 0
IsPageFault why (Ok v) = IsPageEnd why v.end
IsPageFault why (Err e) = ⊥

-- out of memory is reported as a fault of the shelf or of the text
abbrev pub IsWrapped : ValueEnd → Type 0
IsWrapped (OfFetch why) = why ≡ fetch.Memory
IsWrapped (OfText f) = f ≡ fault.Memory
IsWrapped (Valid published unpublished) = ⊥
IsWrapped (Invalid run number) = ⊥

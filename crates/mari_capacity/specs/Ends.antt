-- Where the first fault of a publication stands, of its text or of its check, and how the valuing of its page ends.
use Rattle.std.specs.Prelude.{◌≡◌, ◌≤◌, ◌⊎◌, ℕ, List, [], ◌∷◌, length, take, Option, Some, None, ⊤}
use Rattle.mari_io.specs.Outside.{most_given}
use Rattle.mari_io.specs.declared.shelf.Fetch.TheVariants as fetch
use Rattle.mari_publish.specs.Faults.{IsText}
use Rattle.mari_publish.specs.Paged.{IsReportedFault, IsTooLong}
use Rattle.mari_publish.specs.Pieces.{HasPart}
use Rattle.mari_publish.specs.declared.publication.Block.{Block}
use Rattle.mari_publish.specs.declared.publication.Part.{Part}
use Rattle.mari_publish.specs.declared.publication.Part.TheVariants as part
use Rattle.mari_publish.specs.declared.publication.Publication.{Publication}
use Rattle.mari_remain.specs.declared.books.Books.{Books}
use Rattle.mari_progress.specs.After.{run_after}
use Rattle.mari_progress.specs.Totals.{HasHead}
use Rattle.mari_check.specs.declared.fault.Fault.TheVariants as of_check
use Rattle.mari_check.specs.declared.verdict.Verdict.TheVariants as verdict
use Rattle.mari_check.specs.Day.{AreFree, IsFirstFault, IsFreeIn}
use Rattle.mari_check.specs.Faults.{FindsNumber, fault_number}
use Rattle.mari_check.specs.Verdicts.{IsVerdict}
use Rattle.mari_capacity.specs.declared.ending.ValueEnd.{ValueEnd}
use Rattle.mari_capacity.specs.declared.ending.ValueEnd.TheVariants.{Valid, Invalid, Text as OfText, Fetch as OfFetch}

-- ---- parts of a publication

-- the blocks among parts
abbrev pub blocks_in : List Part → List Block
blocks_in [] = []
blocks_in (part.Head date quarters budget ∷ parts) = blocks_in parts
blocks_in (part.Block b ∷ parts) = b ∷ blocks_in parts
blocks_in (part.Totals operators providers ∷ parts) = blocks_in parts

-- the budget that the first part states
abbrev pub budget_in : List Part → ℕ
budget_in [] = 0
budget_in (part.Head date quarters budget ∷ parts) = budget
budget_in (part.Block b ∷ parts) = 0
budget_in (part.Totals operators providers ∷ parts) = 0

-- parts that begin a publication were checked: its head is that of the books, and none of its blocks has a fault. The
-- totals, which are checked last, are no matter here
abbrev pub AreChecked : Books → List Part → Type 0
AreChecked books [] = ⊤
AreChecked books (part.Head date quarters budget ∷ parts) = HasHead books date quarters × AreFree books budget (blocks_in parts)
AreChecked books (part.Block b ∷ parts) = ⊥
AreChecked books (part.Totals operators providers ∷ parts) = ⊥

-- the part after these has a fault of the check: a head that isn't that of the books has the first fault, as run 0, and
-- a block the least of its own. The totals have theirs only where the text has none
abbrev pub HasFault : Books → List Part → Part → (run number : ℕ) → Type 0
HasFault books parts (part.Head date quarters budget) run number =
    (parts ≡ []) × (HasHead books date quarters → ⊥) × (run ≡ 0) × (number ≡ fault_number of_check.Heading)
HasFault books parts (part.Block b) run number =
    (run ≡ run_after (blocks_in parts)) × FindsNumber (IsFreeIn books (budget_in parts) (blocks_in parts) b) (Some number)
HasFault books parts (part.Totals operators providers) run number = ⊥

-- ---- the first fault

-- a text holds a part whole that has a fault of the check, and none of the parts before it has one
pub record HasPartFault (books : Books) (text : List ℕ) (run number : ℕ) : Type 0 where
  pub parts : List Part
  pub part : Part
  pub there : HasPart text parts part
  pub checked : AreChecked books parts
  pub fault : HasFault books parts part run number

-- no part that it holds whole has one
abbrev pub NoPartFault : Books → List ℕ → Type 0
NoPartFault books text = (run number : ℕ) → HasPartFault books text run number → ⊥

-- a page is the text of a publication whose head and blocks have no fault, and its end shows one: a block is missing,
-- or a line of the totals is wrong
pub record HasEndFault (books : Books) (page : List ℕ) (run number : ℕ) : Type 0 where
  pub publication : Publication
  pub short : length page ≤ most_given
  pub is_text : IsText page publication
  pub head : HasHead books publication.date publication.quarters
  pub free : AreFree books publication.budget publication.blocks
  pub first : IsFirstFault books publication run number

-- a page is the text of a valid publication, with these numbers of published blocks and of others
pub record IsValidPage (books : Books) (page : List ℕ) (published unpublished : ℕ) : Type 0 where
  pub publication : Publication
  pub short : length page ≤ most_given
  pub is_text : IsText page publication
  pub valid : IsVerdict books publication (verdict.Valid published unpublished)

-- ---- how the valuing of a page ends

-- that a publication is valid; that its first fault is one of the check, of a part that is given whole or of its end; or
-- that it is one of the text, which stands before any of the check; or that the page is too long, and as far as it is
-- given neither a line nor a part has a fault. A page that isn't held is missing. No page has two such ends
abbrev pub IsEndOf : Books → Option (List ℕ) → ValueEnd → Type 0
IsEndOf books None (OfFetch fetch.Failed) = ⊥
IsEndOf books None (OfFetch fetch.Missing) = ⊤
IsEndOf books None (OfFetch fetch.TooLong) = ⊥
IsEndOf books None (OfFetch fetch.Memory) = ⊥
IsEndOf books None (Valid published unpublished) = ⊥
IsEndOf books None (Invalid run number) = ⊥
IsEndOf books None (OfText f) = ⊥
IsEndOf books (Some page) (Valid published unpublished) = IsValidPage books page published unpublished
IsEndOf books (Some page) (Invalid run number) = HasPartFault books (take most_given page) run number ⊎ HasEndFault books page run number
IsEndOf books (Some page) (OfText f) = IsReportedFault page f × NoPartFault books page
IsEndOf books (Some page) (OfFetch fetch.Failed) = ⊥
IsEndOf books (Some page) (OfFetch fetch.Missing) = ⊥
IsEndOf books (Some page) (OfFetch fetch.TooLong) = IsTooLong page × NoPartFault books (take most_given page)
IsEndOf books (Some page) (OfFetch fetch.Memory) = ⊥

-- A text that is a page of a shelf and is given in pieces, up to `MOST_GIVEN` bytes: which of its faults is reported.
use Rattle.std.specs.Prelude.{◌<◌, ◌≤◌, ℕ, List, length, take}
use Rattle.mari_io.specs.Outside.{most_given}
use Rattle.mari_publish.specs.Faults.{IsTextFault, BadLineAt, BadOrderAt}
use Rattle.mari_publish.specs.Pieces.{NoFault}
use Rattle.mari_publish.specs.declared.fault.TextFault.{TextFault}
use Rattle.mari_publish.specs.declared.fault.TextFault.TheVariants as fault

-- a fault of a whole line
abbrev pub IsLineFault : List ℕ → TextFault → Type 0
IsLineFault text (fault.BadLine n) = BadLineAt text n
IsLineFault text (fault.BadOrder n) = BadOrderAt text n
IsLineFault text (fault.Truncated n) = ⊥
IsLineFault text fault.Memory = ⊥

-- the fault that is reported of a page: the first of its text, where the page may be given whole; of a longer page that of
-- a whole line of the bytes that are given, and never that the text is cut off
pub data IsReportedFault (page : List ℕ) (fault : TextFault) : Type 0 where
  OfPage : length page ≤ most_given → IsTextFault page fault → IsReportedFault page fault
  OfGiven : most_given < length page → IsLineFault (take most_given page) fault → IsReportedFault page fault

-- a page has more bytes than are given in pieces, and as far as they are given no whole line has a fault
pub record IsTooLong (page : List ℕ) : Type 0 where
  pub longer : most_given < length page
  pub no_fault : NoFault (take most_given page)

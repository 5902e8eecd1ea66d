-- The parts of a day that have come, and what is known of the verdict after them.
use Rattle.std.specs.Prelude.{◌≡◌, ℕ, List, [], ◌∷◌, ◌++◌, map, Option, Some, None}
use Rattle.mari_remain.specs.declared.books.Books.{Books}
use Rattle.mari_progress.specs.Totals.{HasHead}
use Rattle.mari_reach_text.specs.Texts.{ReachPublication, reach_parts_of}
use Rattle.mari_reach_text.specs.declared.kept.ReachPart.{ReachPart}
use Rattle.mari_reach_text.specs.declared.kept.ReachPart.TheVariants as part
use Rattle.mari_reach_text.specs.declared.named.NamedBlock.{NamedBlock}
use Rattle.mari_reach_check.specs.Day.{IsReachChecked}
use Rattle.mari_reach_check.specs.Verdict.{IsReachVerdict}
use Rattle.mari_reach_check.specs.declared.day.ReachDayCheck.{ReachDayCheck}
use Rattle.mari_reach_check.specs.declared.verdict.ReachVerdict.{ReachVerdict}

-- after these parts this one may come: they begin a day together
pub record Comes (parts : List ReachPart) (x : ReachPart) : Type 0 where
  pub whole : ReachPublication
  pub more : List ReachPart
  pub are : reach_parts_of whole ≡ parts ++ x ∷ more

-- the head that was given is that of the books, and the blocks after it have no fault
pub record IsFaultlessSoFar (books : Books) (date : List ℕ) (quarters budget : ℕ) (rest : List ReachPart) (day : ReachDayCheck) : Type 0 where
  pub head : HasHead books date quarters
  pub budget_is : budget ≡ day.budget
  pub blocks : List NamedBlock
  pub are : rest ≡ map part.Block blocks
  pub checked : IsReachChecked books blocks day

-- the parts so far settle no verdict: there are none, or a head and blocks that have no fault
abbrev pub IsOpen : Books → List ReachPart → ReachDayCheck → Type 0
IsOpen books [] day = IsReachChecked books [] day
IsOpen books (part.Head date quarters budget ∷ rest) day = IsFaultlessSoFar books date quarters budget rest day
IsOpen books (part.Block b ∷ rest) day = ⊥
IsOpen books (part.Totals operators providers ∷ rest) day = ⊥

-- the parts so far settle the verdict on each day that begins with them
abbrev pub SettlesVerdict : Books → List ReachPart → ReachVerdict → Type 0
SettlesVerdict books parts verdict = (p : ReachPublication) (more : List ReachPart) → reach_parts_of p ≡ parts ++ more → IsReachVerdict books p verdict

-- what is known of the verdict after these parts: it is open, or settled
abbrev pub IsVerdictSoFar : Books → List ReachPart → ReachDayCheck → Option ReachVerdict → Type 0
IsVerdictSoFar books parts day None = IsOpen books parts day
IsVerdictSoFar books parts day (Some verdict) = SettlesVerdict books parts verdict

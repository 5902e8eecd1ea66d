-- What keeps the verdict on the parts of a day that have come.
use Rattle.std.specs.Prelude.{◌≡◌, List}
use Rattle.mari_remain.specs.Accepted.{IsAccepted}
use Rattle.mari_remain.specs.declared.books.Books.{Books}
use Rattle.mari_reach_text.specs.declared.kept.ReachPart.{ReachPart}
use Rattle.mari_reach_check.specs.Parts.{IsVerdictSoFar}
use Rattle.mari_reach_check.specs.declared.stream.VerdictSoFar.{VerdictSoFar}

-- it is what these parts make, by these books
pub record KeepsVerdict (books : Books) (parts : List ReachPart) (s : VerdictSoFar) : Type 0 where
  pub accepted : IsAccepted books
  pub books_are : s.books.now ≡ books
  pub found : IsVerdictSoFar books parts s.day s.found

-- What keeps the verdict on the parts of a publication that have come.
use Rattle.std.specs.Prelude.{◌≡◌, List}
use Rattle.mari_publish.specs.declared.publication.Part.{Part}
use Rattle.mari_remain.specs.Accepted.{IsAccepted}
use Rattle.mari_remain.specs.declared.books.Books.{Books}
use Rattle.mari_check.specs.declared.stream.VerdictSoFar.{VerdictSoFar}
use Rattle.mari_check.specs.Streams.{IsVerdictSoFar}

-- it is what these parts make, by these books
pub record KeepsVerdict (books : Books) (parts : List Part) (s : VerdictSoFar) : Type 0 where
  pub accepted : IsAccepted books
  pub books_are : s.books.now ≡ books
  pub found : IsVerdictSoFar books parts s.day s.found

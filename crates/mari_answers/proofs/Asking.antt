-- What is asked of the shelf.
use Rattle.std.proofs.Common.{ℕ, inr}
use Rattle.mari_publish.specs.Streams.{AsksForPage}
use Rattle.mari_answers.specs.Reports.{AsksForOne}

-- one page alone
pub one_page : (unopened : Type 0) (before now given : ℕ) → AsksForPage unopened before now given → AsksForOne before now given
one_page unopened before now given a = inr (record { pieces = a.pieces; few = a.few; none = λ e. absurd e; asked = a.asked })

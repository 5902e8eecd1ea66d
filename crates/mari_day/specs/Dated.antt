-- Books of a date that a text may state.
use Rattle.std.specs.Prelude.{ℕ, List}
use Rattle.mari_lines.specs.Ranges.{Between, IsDate}
use Rattle.mari_remain.specs.declared.books.Books.{Books}
use Rattle.mari_units.specs.declared.limits.TheConstants.{MOST_QUARTERS}

-- a date in digits, and 1 to `MOST_QUARTERS` quarter hours
-- Two of the ranges that `InRange` has for a head line; the third is that of its budget, which books don't have.
pub record IsDatedBy (date_text : List ℕ) (quarter_count : ℕ) : Type 0 where
  pub date : IsDate date_text
  pub quarters : Between 1 MOST_QUARTERS quarter_count

-- so are books
abbrev pub IsDated : Books → Type 0
IsDated books = IsDatedBy books.date books.quarters

-- Prices within the cap.
use Rattle.std.specs.Prelude.{ℤ, neg_ℤ, ◌≤ℤ◌}
use Rattle.mari_units.specs.declared.numbers.Cents.{Cents}
use Rattle.mari_units.specs.declared.numbers.TheConstants.{CAP}

-- a price from the negative of the cap to the cap
pub record IsPrice (c : ℤ) : Type 0 where
  pub low : neg_ℤ CAP ≤ℤ c
  pub high : c ≤ℤ CAP

-- cents that are a price
abbrev pub IsCapped : Cents → Type 0
IsCapped c = IsPrice c.0

-- What the numbers and words of a line say.
use Rattle.std.specs.Prelude.{◌≡◌, ℕ, is_some}
use Rattle.std.specs.Result.{result_ok}
use Rattle.mari_units.specs.Numbers.{price_of, whole_of}
use Rattle.mari_rows.specs.Fields.{is_written}
use Rattle.mari_rows.specs.Rows.{field_of}
use Rattle.mari_rows.specs.declared.rows.Row.{Row}
use Rattle.mari_bids.specs.Bids.{greatest_in, is_both, is_up, least_in, price_in, quarter_in}
use Rattle.mari_bids.specs.declared.bids.Columns.{Columns}

-- they are those of the line's fields, and numbers are written exactly where the fields write some
pub record AreColumnsOf (quarters : ℕ) (row : Row) (c : Columns) : Type 0 where
  pub quarter : result_ok c.quarter ≡ quarter_in quarters row
  pub up : c.up ≡ is_up row
  pub price : result_ok c.price ≡ price_in row
  pub least : result_ok c.least ≡ least_in row
  pub greatest : result_ok c.greatest ≡ greatest_in row
  pub both : c.both ≡ is_both row
  pub writes_quarter : is_written c.quarter ≡ is_some (whole_of (field_of row 3))
  pub writes_price : is_written c.price ≡ is_some (price_of (field_of row 5))
  pub writes_least : is_written c.least ≡ is_some (whole_of (field_of row 6))
  pub writes_greatest : is_written c.greatest ≡ is_some (whole_of (field_of row 7))

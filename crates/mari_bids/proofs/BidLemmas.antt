-- The names of a line.
use Rattle.std.proofs.Common.{◌≡◌, Bool, true, false, refl}
use Rattle.std.specs.Prelude.{◌&&◌, not}
use Rattle.mari_units.specs.Names.{is_name}
use Rattle.mari_rows.specs.declared.rows.Row.{Row}
use Rattle.mari_bids.specs.Bids.{has_bad_field, id_of, provider_of}

-- the first two of eight tests that all hold
first-two : (a b c d e f g h : Bool) → not (a && b && c && d && e && f && g && h) ≡ false → (a ≡ true) × (b ≡ true)
first-two true true c d e f g h all = (refl, refl)
first-two true false c d e f g h all = cc all
first-two false b c d e f g h all = cc all

pub good-names : (row : Row) → has_bad_field row ≡ false → (is_name (id_of row) ≡ true) × (is_name (provider_of row) ≡ true)
good-names row good = first-two _ _ _ _ _ _ _ _ good

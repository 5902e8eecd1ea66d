-- What stands in memory while a page of zones, or of borders, is read.
use Rattle.std.specs.Prelude.{◌≡◌, List, map}
use Rattle.mari_rows.specs.Names.{place_in}
use Rattle.mari_rows.specs.declared.rows.Row.{Row}
use Rattle.mari_zones.specs.Borders.{border_of}
use Rattle.mari_zones.specs.Zones.{operator_of, operators_of, zones_of}
use Rattle.mari_zones.specs.declared.borders.BordersSoFar.{BordersSoFar}
use Rattle.mari_zones.specs.declared.zones.ZonesSoFar.{ZonesSoFar}

-- the zones and operators of these lines, and the operator of each zone
pub record HoldsZones (rows : List Row) (so_far : ZonesSoFar) : Type 0 where
  pub zones : so_far.zones ≡ zones_of rows
  pub operators : so_far.operators ≡ operators_of rows
  pub operator_of : so_far.operator_of.items ≡ map (λ row. place_in so_far.operators (operator_of row)) rows

-- the borders of these lines
abbrev pub HoldsBorders : List Row → BordersSoFar → Type 0
HoldsBorders rows so_far = so_far.borders.items ≡ map (border_of so_far.zones.now so_far.version) rows

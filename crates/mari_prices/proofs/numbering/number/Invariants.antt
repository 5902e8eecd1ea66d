use Rattle.std.proofs.Common.{◌≡◌, length}
use Rattle.mari_market.specs.Area.{area_at}
use Rattle.mari_prices.specs.Firsts.{IsNumbering, first_at}
use Rattle.mari_prices.proofs.numbering.number.Given as goal

abbrev pub invariant-loop-zone : goal.invariant-loop-zone
invariant-loop-zone l = record {
  long : length l.areas.items ≡ l.zone;
  numbering : IsNumbering (first_at l.settled) (area_at l.areas.items) l.zone l.count;
}

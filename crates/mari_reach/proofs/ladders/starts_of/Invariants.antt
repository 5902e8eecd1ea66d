use Rattle.std.proofs.Common.{◌≡◌, ◌<◌, ℕ, neg_ℤ, length, get_or}
use Rattle.mari_units.specs.declared.numbers.TheConstants.{CAP}
use Rattle.mari_reach.specs.Ladders.{place_of, AreSumsBefore}
use Rattle.mari_reach.proofs.ladders.starts_of.Given as goal

abbrev pub invariant-loop-zone : goal.invariant-loop-zone
invariant-loop-zone l = record {
  long : length l.starts.items ≡ l.zone;
  starts : (z : ℕ) (d : _) → z < l.zone → AreSumsBefore l.offers (place_of z (neg_ℤ CAP)) (get_or l.starts.items z d);
}

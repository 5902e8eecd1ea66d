use Rattle.std.proofs.Common.{◌≡◌, ◌<◌, ℕ, length, take, get_or}
use Rattle.mari_proofs.specs.Tables.{IsLadderOf}
use Rattle.mari_proofs.proofs.table.ladders_of.Given as goal

abbrev pub invariant-loop-offer : goal.invariant-loop-offer
invariant-loop-offer l = record {
  long : length l.ladders.items ≡ l.zones;
  ladders : (z : ℕ) (d : _) → z < l.zones → IsLadderOf z (take l.offer-index l.offers) (get_or l.ladders.items z d).items;
}

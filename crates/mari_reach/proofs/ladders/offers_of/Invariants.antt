use Rattle.std.proofs.Common.{◌≤◌, length, take}
use Rattle.std.specs.List.{All}
use Rattle.mari_reach.specs.Ladders.{AreOffersOf, IsOffer}
use Rattle.mari_reach.proofs.ladders.offers_of.Given as goal

abbrev pub invariant-loop-order : goal.invariant-loop-order
invariant-loop-order l = record {
  few : length l.offers.items ≤ l.order-index;
  offers : All (IsOffer l.market.zones) l.offers.items;
  once : AreOffersOf l.side (take l.order-index l.market.orders) l.offers.items;
}

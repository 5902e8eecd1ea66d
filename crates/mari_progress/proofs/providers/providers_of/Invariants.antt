use Rattle.std.proofs.Common.{◌≡◌, drop, fold, map}
use Rattle.mari_bids.specs.Bids.{bid_numbered}
use Rattle.mari_progress.specs.Money.{AreMarked, providers_among, with_number}
use Rattle.mari_progress.proofs.providers.providers_of.Given as goal

-- with the providers of those still to come it is the whole
abbrev pub invariant-loop-number : goal.invariant-loop-number
invariant-loop-number l = record {
  marked : AreMarked l.listed.places.items l.listed.marks.items;
  whole : fold with_number l.listed.places.items (map (λ i. (bid_numbered l.bids i).provider) (drop l.number-index l.numbers)) ≡ providers_among l.bids l.numbers;
}

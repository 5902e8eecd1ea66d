use Rattle.std.proofs.Common.{◌≡◌, ℕ, ◌+◌, ◌<◌, List, length, map, drop, fold, get_or, refl, add-one, drop-cons, ◌∙◌}
use Rattle.mari_bids.specs.Bids.{bid_numbered}
use Rattle.mari_bids.specs.declared.bids.Bid.{Bid}
use Rattle.mari_progress.specs.Money.{with_number}
use Rattle.mari_progress.proofs.providers.providers_of.Goals as goal

-- one number on
step : (bids : List Bid) (numbers places : List ℕ) (i : ℕ) → i < length numbers
    → fold with_number (with_number places (bid_numbered bids (get_or numbers i 0)).provider)
    (map (λ k. (bid_numbered bids k).provider) (drop (i + 1) numbers)) ≡ fold with_number places
    (map (λ k. (bid_numbered bids k).provider) (drop i numbers))
step bids numbers places i l = rw (add-one, drop-cons numbers i 0) refl

pub loop-number-preserved : goal.loop-number-preserved
loop-number-preserved c = record {
  marked = c.in_ok-add.ensures.marked;
  whole = rw (c.in_ok-add.ensures.places, c.bid_of.ensures)
      (step c.args.bids.now c.args.numbers.now c.loop-number.listed.places.items c.loop-number.number-index c.loop-number-test.true ∙ c.loop-number.invariant.whole);
}

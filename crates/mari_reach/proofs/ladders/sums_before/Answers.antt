use Rattle.std.proofs.Common.{◌<◌, ◌≤◌, ◌∙◌, ◌<ℤ◌, ◌≤ℤ◌, ℕ, pos, length, arith, rules, get_or}
use Rattle.std.proofs.lemmas.List.Sorted.{IsPartitionPoint-from_clause}
use lib.Signed.{lt_z}
use Rattle.mari_market.proofs.Rising.{less, not_less, parts_below}
use Rattle.mari_reach.specs.declared.ladders.Offer.{Offer}
use Rattle.mari_reach.specs.Ladders.{mw_of, worth_of}
use Rattle.mari_reach.proofs.Offers.{first_before}
use Rattle.mari_reach.proofs.ladders.sums_before.Goals as goal

pub returns : goal.returns
returns c =
    let xs = c.args.offers.now in
    let place = c.args.place in
    let n = c.partition_point.result in
    let point = IsPartitionPoint-from_clause (λ (x : Offer). lt_z x.place place) _ _ c.partition_point.ensures.partitioned
    (parts_below (λ (x : Offer). x.place) xs place c.requires.rising) (λ a r q k. search rules) in
    let sums = c.requires.sums n (record { mw = pos 0; worth = pos 0 }) c.partition_point.ensures.bound in
    let below : (j : ℕ) (d : Offer) → j < n → (get_or xs j d).place <ℤ place = λ j d l. less (get_or xs j d).place place (point.0 j d (omega (arith, l, c.partition_point.ensures.bound)) l) in
    let rest : (j : ℕ) (d : Offer) → n ≤ j → j < length xs → place ≤ℤ (get_or xs j d).place = λ j d l m. not_less (get_or xs j d).place place (point.1 j d l m) in
    record {
      mw = sums.mw ∙ first_before mw_of n place xs c.partition_point.ensures.bound below rest;
      worth = sums.worth ∙ first_before worth_of n place xs c.partition_point.ensures.bound below rest;
    }

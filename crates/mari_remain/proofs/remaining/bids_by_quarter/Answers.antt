use Rattle.std.proofs.Common.{◌≡◌, ◌∙◌, ◌+◌, ℕ, List, ap, map, refl}
use Rattle.std.specs.List.{range_with_len}
use Rattle.mari_bids.specs.declared.bids.Bid.{Bid}
use Rattle.mari_remain.specs.Lists.{places_of}
use Rattle.mari_remain.proofs.Beginning.{by-quarter, quarters-fit}
use Rattle.mari_remain.proofs.remaining.bids_by_quarter.Goals as goal

pub index_of-requires-clause-keys : goal.index_of-requires-clause-keys
index_of-requires-clause-keys c = rw (c.deref.ensures.value, c.in_ok-quarters.ensures, c.as_slice.ensures) (quarters-fit c.args.books.now c.requires)

pub returns : goal.returns
returns c =
    let keys : c.deref.result.now ≡ map (λ (b : Bid). b.quarter) c.args.books.now.bids.bids = rw (c.deref.ensures.value, c.in_ok-quarters.ensures, c.as_slice.ensures) refl in
    c.in_ok-index.ensures ∙ ap (λ (ks : List ℕ). map (places_of ks) (range_with_len 0 (c.args.books.now.quarters + 1))) keys ∙ by-quarter c.args.books.now.bids.bids (c.args.books.now.quarters + 1)

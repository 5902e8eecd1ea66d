use Rattle.std.proofs.Common.{◌∙◌, ap, length}
use Rattle.std.proofs.lemmas.List.FromFn.{length-map-range_with_len}
use Rattle.mari_progress.proofs.Listing.{providers-there}
use Rattle.mari_check.proofs.Examining.{ledger-reported, ledger-unreported}
use Rattle.mari_check.proofs.ledger.reported_ledger.Goals as goal

pub states_ledger-is_stated-requires-clause-operators : goal.states_ledger-is_stated-requires-clause-operators
states_ledger-is_stated-requires-clause-operators c = ap length c.in_ok-ledger.ensures.operators ∙ length-map-range_with_len _ 0 (length c.args.books.now.zones.operators)

pub states_ledger-is_stated-requires-clause-providers : goal.states_ledger-is_stated-requires-clause-providers
states_ledger-is_stated-requires-clause-providers c = ap length c.in_ok-ledger.ensures.providers ∙ length-map-range_with_len _ 0 (length c.args.books.now.bids.providers)

pub states_ledger-is_stated-requires-clause-places : goal.states_ledger-is_stated-requires-clause-places
states_ledger-is_stated-requires-clause-places c =
    let books = c.args.books.now in
    rw (c.deref.ensures.value, c.in_ok-places.ensures, c.as_slice.ensures, c.as_slice-2.ensures)
    (providers-there books.bids.bids c.args.made.now.bids (length books.bids.providers) (λ k d l. (c.requires.accepted.bids.bids k d l).provider) c.requires.made.there)

pub returns-then-not-is_stated : goal.returns-then-not-is_stated
returns-then-not-is_stated c =
    ledger-unreported c.args.books.now c.args.made.now _ c.args.block.now c.in_ok-ledger.ledger c.args.activation.now c.args.prices.now c.requires.activation c.requires.prices
    c.in_ok-ledger.ensures.rents c.in_ok-ledger.ensures.operators c.in_ok-ledger.ensures.providers c.deref.result.now
    (c.deref.ensures.value ∙ rw (c.as_slice.ensures, c.as_slice-2.ensures) at c.in_ok-places.ensures)
    c.states_ledger-is_stated.result c.states_ledger-is_stated.ensures c.if-not-is_stated.true

pub returns : goal.returns
returns c =
    ledger-reported c.args.books.now c.args.made.now _ c.args.block.now c.in_ok-ledger.ledger c.args.activation.now c.args.prices.now c.requires.activation c.requires.prices
    c.in_ok-ledger.ensures.rents c.in_ok-ledger.ensures.operators c.in_ok-ledger.ensures.providers c.deref.result.now
    (c.deref.ensures.value ∙ rw (c.as_slice.ensures, c.as_slice-2.ensures) at c.in_ok-places.ensures)
    c.states_ledger-is_stated.result c.states_ledger-is_stated.ensures c.if-not-is_stated.false c.requires.made c.requires.consistent
    c.in_ok-ledger.ensures.balanced

use Rattle.std.proofs.Common.{◌∙◌, refl}
use Rattle.mari_day.proofs.BlockFits.{halves, have-nets}
use Rattle.mari_progress.proofs.Listing.{providers-there}
use Rattle.mari_day.proofs.block.block_without_tree.Goals as goal

pub bid_lines-requires-clause-there : goal.bid_lines-requires-clause-there
bid_lines-requires-clause-there c = rw c.requires.accepted.bids.named c.requires.there

pub money_lines-requires-clause-few : goal.money_lines-requires-clause-few
money_lines-requires-clause-few c = c.requires.accepted.zones.few_operators

pub money_lines-requires-clause-small : goal.money_lines-requires-clause-small
money_lines-requires-clause-small c = rw c.as_slice-5.ensures (have-nets _ (halves c.args.priced.now.ledger.operators c.requires.shapes.small.operators))

pub provider_lines-requires-clause-there : goal.provider_lines-requires-clause-there
provider_lines-requires-clause-there c = providers-there c.args.books.now.bids.bids _ _ (λ k d l. (c.requires.accepted.bids.bids k d l).provider) c.requires.there

pub returns : goal.returns
returns c = record {
  heading = c.heading.ensures;
  welfare = refl;
  tree = c.of-5.ensures ∙ c.new.ensures.items;
  names = record {
    zones = rw c.of.ensures c.in_ok-zones.ensures.names;
    from = rw c.of-2.ensures (rw c.as_slice-ends.ensures at c.in_ok-borders.ensures.from);
    to = rw c.of-2.ensures (rw c.as_slice-ends.ensures at c.in_ok-borders.ensures.to);
    bids = rw c.of-3.ensures c.in_ok-bids.ensures.ids;
  };
  zones = record {
    prices = rw c.of.ensures (c.in_ok-zones.ensures.prices ∙ c.as_slice.ensures);
    least = rw c.of.ensures (c.in_ok-zones.ensures.least ∙ c.as_slice-2.ensures);
    greatest = rw c.of.ensures (c.in_ok-zones.ensures.greatest ∙ c.as_slice-3.ensures);
    areas = rw c.of.ensures (c.in_ok-zones.ensures.areas ∙ c.deref.ensures.value);
  };
  flow = rw c.of-2.ensures (c.in_ok-borders.ensures.flow ∙ c.as_slice-flow.ensures);
  orders = record {
    mw = rw c.of-3.ensures (rw c.as_slice-mw.ensures at c.in_ok-bids.ensures.mw);
    demands = rw c.of-4.ensures (rw c.as_slice-mw.ensures at c.in_ok-demands.ensures);
  };
  ledger = record {
    rents = rw c.of-2.ensures (c.in_ok-borders.ensures.rents ∙ c.as_slice-4.ensures);
    operators = c.of-6.ensures ∙ rw c.as_slice-5.ensures at c.in_ok-operators.ensures;
    providers = c.of-7.ensures ∙ rw c.as_slice-6.ensures at c.in_ok-providers.ensures;
  };
}

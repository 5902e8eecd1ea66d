use Rattle.std.proofs.Common.{◌≡◌, ◌∙◌, ap, length, refl, subst, sym}
use Rattle.std.specs.List.{All}
use Rattle.mari_units.specs.Lists.{with_items}
use Rattle.mari_settle.specs.Conditions.{IsSmall}
use Rattle.mari_settle.specs.Ledger.{rents_of}
use Rattle.mari_settle.proofs.Books.{has_flows}
use Rattle.mari_settle.proofs.Lists.{written_over}
use Rattle.mari_blocks.proofs.printing.priced_of.Goals as goal

pub write_rents-requires-clause-flows : goal.write_rents-requires-clause-flows
write_rents-requires-clause-flows c = has_flows c.args.joint.now.market c.args.activation.now c.requires.admissible.feasible

pub returns : goal.returns
returns c =
    let old = c.of-rents.result in
    let new = c.write_rents.new.rents in
    let long : length new ≡ length old = c.write_rents.auto.rents ∙ ap length c.as_mut_slice.ensures.value in
    let rents : with_items old new ≡ rents_of c.args.joint.now.market c.args.activation.now c.in_ok-pricing.pricing.published.cents =
    written_over old new _ long (rw c.as_slice-prices.ensures at c.write_rents.ensures.value) in
    let whole : with_items old new ≡ new = written_over old new new long refl in
    record {
      prices = record {
        published = c.in_ok-pricing.ensures.published;
        consistent = c.in_ok-pricing.ensures.consistent;
        intervals = record { least = c.in_ok-pricing.ensures.least; greatest = c.in_ok-pricing.ensures.greatest };
        areas = c.in_ok-areas.ensures;
      };
      rents = rents;
      small = subst (All IsSmall) (sym whole) c.write_rents.ensures.small;
    }

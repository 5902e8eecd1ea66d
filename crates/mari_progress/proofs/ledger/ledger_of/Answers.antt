use Rattle.std.proofs.Common.{◌∙◌, length, ap, sym}
use Rattle.std.proofs.lemmas.List.{length-replicate}
use Rattle.mari_settle.specs.Lines.{no_line, nothing}
use Rattle.mari_progress.proofs.Small.{small-bids}
use Rattle.mari_progress.proofs.ledger.ledger_of.Goals as goal

pub settle_run-requires-clause-numbers : goal.settle_run-requires-clause-numbers
settle_run-requires-clause-numbers c = rw c.as_slice.ensures c.requires.made.named

pub settle_run-requires-clause-ledger : goal.settle_run-requires-clause-ledger
settle_run-requires-clause-ledger c =
    let books = c.args.books.now in
    record {
      operators = ap length c.in_ok-ledger.ensures.operators ∙ length-replicate (length books.zones.operators) no_line;
      providers = ap length c.in_ok-ledger.ensures.providers ∙ length-replicate (length books.bids.providers) nothing;
      rents = ap length c.in_ok-ledger.ensures.rents ∙ length-replicate (length books.borders.borders) nothing ∙ sym c.requires.made.borders;
    }

pub returns-clause-balanced : goal.returns-clause-balanced
returns-clause-balanced c =
    let few = small-bids c.args.made.now.market c.args.activation.now (length c.args.made.now.bids) c.requires.feasible c.requires.made.small in
    record {
      small = c.settle_run.ensures.small;
      operators_small = c.settle_run.ensures.operators_small;
      providers_small = c.settle_run.ensures.providers_small (rw c.as_slice.ensures few);
      nets = c.settle_run.ensures.nets_sum_to_0;
    }

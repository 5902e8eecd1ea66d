use Rattle.mari_progress.specs.Money.{StatesLedger}
use Rattle.mari_check.proofs.Providers.{rents-from, rents-to}
use Rattle.mari_check.proofs.Zips.{refuted}
use Rattle.mari_check.proofs.ledger.states_ledger.Goals as goal

pub returns-then-not-are_rents : goal.returns-then-not-are_rents
returns-then-not-are_rents c =
    refuted (StatesLedger c.args.books.now c.args.block.now c.args.ledger.now c.args.places.now) c.are_rents.result c.if-not-are_rents.true
    (λ h. c.are_rents.ensures.1 (rw (c.as_slice.ensures, c.as_slice-2.ensures) (rents-from c.args.block.now.borders c.args.ledger.now.rents h.rents)))

pub returns : goal.returns
returns c = (
  λ t. record {
    rents = rents-to c.args.block.now.borders c.args.ledger.now.rents (rw (c.as_slice.ensures, c.as_slice-2.ensures) at (c.are_rents.ensures.0 c.if-not-are_rents.false));
    operators = rw (c.as_slice-3.ensures, c.as_slice-operators.ensures) at (c.are_money_lines.ensures.0 c.if-not-are_money_lines.false);
    providers = rw (c.as_slice-4.ensures, c.as_slice-amounts.ensures) at (c.are_amount_lines.ensures.0 t);
  },
  λ h. c.are_amount_lines.ensures.1 (rw (c.as_slice-4.ensures, c.as_slice-amounts.ensures) h.providers),
)

use Rattle.std.proofs.Common.{refl}
use Rattle.mari_market.specs.Optimal.{IsConsistent}
use Rattle.mari_progress.specs.Reported.{activation_of, prices_of}
use Rattle.mari_check.specs.declared.fault.Fault.TheVariants as fault
use Rattle.mari_check.proofs.Least.{none-more}
use Rattle.mari_check.proofs.block.pricing_fault.Goals as goal

pub returns : goal.returns
returns c = λ books run made also budget e none.
    let here : IsConsistent made.market (activation_of c.args.block.now) (prices_of c.args.block.now) =
    rw e (rw (c.requires.activation, c.requires.prices) at (c.are_consistent.ensures.0 c.if-not-are_consistent.false)) in
    c.interval_fault.ensures books run made also budget e (none-more _ fault.Inconsistent 5 refl none here)

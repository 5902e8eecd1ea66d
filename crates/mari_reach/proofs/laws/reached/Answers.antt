use Rattle.mari_reach.specs.State.{bounds_in, flows_in}
use Rattle.mari_market.proofs.Cuts.{cut_has_none}
use Rattle.mari_market.proofs.Duality.{weak_duality_within}
use Rattle.mari_reach.proofs.Reaching.{above_low, all_opened, all_closed_there, below_high, void_has_none, within_bounds}
use Rattle.mari_reach.proofs.laws.reached.Goals as goal

pub returns-clause-opened : goal.returns-clause-opened
returns-clause-opened c = λ ds a ps r g e. all_opened c.args.market.now ds a ps r g e

pub returns-clause-shut : goal.returns-clause-shut
returns-clause-shut c = λ ds a ps r g e. all_closed_there c.args.market.now ds a ps r g e

pub returns-clause-low : goal.returns-clause-low
returns-clause-low c = λ ds a ps r z. above_low c.args.market.now ds a ps r z

pub returns-clause-high : goal.returns-clause-high
returns-clause-high c = λ ds a ps r z. below_high c.args.market.now ds a ps r z

pub returns-clause-bounds : goal.returns-clause-bounds
returns-clause-bounds c = λ ds a ps r. within_bounds c.args.market.now ds a ps r

pub returns-clause-void : goal.returns-clause-void
returns-clause-void c = λ ds a ps r v. void_has_none c.args.market.now ds a ps r v

pub returns-clause-cut : goal.returns-clause-cut
returns-clause-cut c = λ ds a ps cut r h.
    cut_has_none (bounds_in c.args.market.now ds) (flows_in c.args.market.now ds) c.args.market.now a cut.side cut.zones c.requires (within_bounds c.args.market.now ds a ps r) h.side

pub returns-clause-dual : goal.returns-clause-dual
returns-clause-dual c = λ ds a ps potentials r. weak_duality_within (bounds_in c.args.market.now ds) (flows_in c.args.market.now ds) c.args.market.now a potentials c.requires
    (within_bounds c.args.market.now ds a ps r)

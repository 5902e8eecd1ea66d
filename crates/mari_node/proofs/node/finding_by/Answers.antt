use Rattle.std.proofs.Common.{◌≡◌, ◌<◌, Bool, true, List, length, Some, None, subst}
use Rattle.std.specs.Prelude.{Option, IsSomeAnd, is_some, Result}
use Rattle.mari_market.specs.declared.market.Market.{Market}
use Rattle.mari_market.specs.declared.activation.Activation.{Activation}
use Rattle.mari_market.specs.declared.finding.Relaxed.{Relaxed}
use Rattle.mari_market.specs.Optimal.{IsAdmissible}
use Rattle.mari_market.specs.Prefix.{bounds_at, word_of}
use Rattle.mari_network.specs.declared.optimum.Optimum.{Optimum}
use Rattle.mari_network.specs.declared.optimum.SolveFault.{SolveFault}
use Rattle.mari_network.specs.Solving.{IsFoundOptimum, IsWritten}
use Rattle.mari_node.specs.Nodes.{left_by, IsOptimumOf, IsRelaxedOptimum, IsWrittenOf}
use Rattle.mari_node.proofs.node.finding_by.Goals as goal

-- an optimum that is written is left to start with
left_relaxed : (m : Market) (word : List Bool) (r : Relaxed) (o : Optimum) (optimum start : Option Activation) → IsRelaxedOptimum m word o
    → ((a : Activation) → IsWritten m o a → IsAdmissible m a → length word < length m.gates → is_some r.best ≡ true) → IsSomeAnd optimum (IsWritten m o)
    → IsSomeAnd (left_by optimum start) (IsOptimumOf m word r)
left_relaxed m word r o (Some a) start relaxed best written =
    let solution = relaxed.solution a written in
    record { within = solution.within; relaxed = solution.relaxed; best = λ undecided admissible. best a written admissible undecided }
left_relaxed m word r o None start relaxed best written = absurd written

pub returns-in_ok-relaxed-in-Ok-clause-left : goal.returns-in_ok-relaxed-in-Ok-clause-left
returns-in_ok-relaxed-in-Ok-clause-left c = λ optimum start written.
    let m = c.args.market.now in
    let word = word_of c.args.prefix.now in
    let found : IsRelaxedOptimum m word c.in-Ok.optimum =
    subst (λ (f : Result Optimum SolveFault). IsFoundOptimum (bounds_at m c.args.prefix.now) m f) c.in-Ok.is c.requires.found in
    left_relaxed m word c.in_ok-relaxed-in-Ok.relaxed c.in-Ok.optimum optimum start found c.in_ok-relaxed-in-Ok.ensures.best
    (subst (λ (f : Result Optimum SolveFault). IsWrittenOf m f optimum) c.in-Ok.is written)

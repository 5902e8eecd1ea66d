-- What an answer says, by the two ways that it can go.
use Rattle.std.proofs.Common.{◌≡◌, sym, subst}
use Rattle.std.specs.Prelude.{Result, Ok, Err, IfErr}
use Rattle.mari_market.specs.declared.market.Order.{Order}
use Rattle.mari_market.specs.declared.market.Market.{Market}
use Rattle.mari_market.specs.Bounds.{Span}
use Rattle.mari_market.specs.Market.{IsValid}
use Rattle.mari_market.proofs.Cuts.{cut_is_empty}
use Rattle.mari_network.specs.declared.optimum.Optimum.{Optimum}
use Rattle.mari_network.specs.declared.optimum.Solved.{Solved}
use Rattle.mari_network.specs.declared.optimum.SolveFault.{SolveFault}
use Rattle.mari_network.specs.declared.optimum.SolveFault.TheVariants.{Cut, Memory}
use Rattle.mari_network.specs.Solving.{OfCut, NoneWithin, IsSolution, IsWritten, IsOptimum, IsFoundOptimum}

-- an optimum with the activation that it is
pub solved_says : (spans : Order → Span) (m : Market) (o : Optimum) (s : Solved) → IsOptimum spans m o → IsWritten m o s.activation
    → s.potentials ≡ o.potentials → s.welfare ≡ o.welfare → IsSolution spans m s
solved_says spans m o s best written potentials welfare =
    subst (λ (ps : _). IsSolution spans m (record { activation = s.activation; potentials = ps; welfare = s.welfare })) (sym potentials)
    (subst (λ (w : _). IsSolution spans m (record { activation = s.activation; potentials = o.potentials; welfare = w })) (sym welfare) (best.solution s.activation written))

-- where there is a cut, nothing lies within the spans
pub none_says : (spans : Order → Span) (m : Market) → IsValid m → (r : Result Optimum SolveFault) → IsFoundOptimum spans m r
    → IfErr r (λ fault. OfCut fault (λ _. NoneWithin spans m))
none_says spans m valid (Ok s) found = tt
none_says spans m valid (Err (Cut cut)) found = λ a within. cut_is_empty spans m a cut.side cut.zones valid within found.side
none_says spans m valid (Err Memory) found = tt

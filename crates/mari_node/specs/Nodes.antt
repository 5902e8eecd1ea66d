-- A node of the search with the relaxed optimum that the solver gives.
use Rattle.std.specs.Prelude.{◌≡◌, ◌<◌, Bool, true, ℕ, List, length, Option, Some, None, IsSomeAnd, is_some, Result, Ok, Err}
use Rattle.mari_market.specs.declared.market.Market.{Market}
use Rattle.mari_market.specs.declared.activation.Activation.{Activation}
use Rattle.mari_market.specs.declared.finding.Relaxed.{Relaxed}
use Rattle.mari_market.specs.Activation.{welfare_of}
use Rattle.mari_market.specs.Optimal.{IsAdmissible}
use Rattle.mari_market.specs.Prefix.{bounds_of_word, IsFeasibleWord}
use Rattle.mari_market.specs.Relaxation.{IsWithinBounds, IsRelaxedWelfare}
use Rattle.mari_market.specs.declared.finding.Finding.{Finding}
use Rattle.mari_market.specs.declared.finding.Finding.TheVariants.{Empty, Relaxed as RelaxedFinding}
use Rattle.mari_market.specs.declared.activation.Prices.{Prices}
use Rattle.mari_network.specs.declared.optimum.Optimum.{Optimum}
use Rattle.mari_network.specs.declared.optimum.Solved.{Solved}
use Rattle.mari_network.specs.declared.optimum.SolveFault.{SolveFault}
use Rattle.mari_network.specs.Solving.{NoneWithin, IsOptimum, IsWritten}

-- the solved optimum as the best activation of its node
abbrev pub best_found : Solved → Relaxed
best_found s = record { potentials = s.potentials; bound = s.welfare; best = Some (record { activation = s.activation; welfare = s.welfare }); conflict = None }

-- potentials and a bound alone
abbrev pub bound_found : Prices → ℕ → Relaxed
bound_found potentials welfare = record { potentials = potentials; bound = welfare; best = None; conflict = None }

-- the solved optimum as a conflict, by a chain of zones
abbrev pub conflict_found : Solved → List ℕ → Relaxed
conflict_found s chain = record {
  potentials = s.potentials;
  bound = s.welfare;
  best = None;
  conflict = Some (record { chain = chain; potentials = s.potentials; activation = s.activation });
}

-- the relaxed optimum of a word
abbrev pub IsRelaxedOptimum : Market → List Bool → Optimum → Type 0
IsRelaxedOptimum m word = IsOptimum (bounds_of_word m word) m

-- the same with the activation that it is written as
pub record IsSolvedAs (m : Market) (o : Optimum) (s : Solved) : Type 0 where
  pub activation : IsWritten m o s.activation
  pub potentials : s.potentials ≡ o.potentials
  pub welfare : s.welfare ≡ o.welfare

-- the same at a feasible word that decides every gate
pub record IsLastNode (m : Market) (word : List Bool) (o : Optimum) : Type 0 where
  pub optimum : IsRelaxedOptimum m word o
  pub feasible : IsFeasibleWord m.gates word
  pub full : length word ≡ length m.gates

-- and at a word that leaves a gate undecided
pub record IsInnerNode (m : Market) (word : List Bool) (o : Optimum) : Type 0 where
  pub optimum : IsRelaxedOptimum m word o
  pub undecided : length word < length m.gates

-- some activation lies within the word's bounds
pub record SomeWithin (m : Market) (word : List Bool) : Type 0 where
  pub activation : Activation
  pub within : IsWithinBounds (bounds_of_word m word) m activation

-- a cut is found exactly where nothing lies within the word's bounds
abbrev pub IsEmptyWhereNone : Market → List Bool → Finding → Type 0
IsEmptyWhereNone m word (Empty cut) = NoneWithin (bounds_of_word m word) m
IsEmptyWhereNone m word (RelaxedFinding r) = SomeWithin m word

-- a relaxed optimum of the word; where a gate is undecided and it is admissible, the finding has an activation
pub record IsOptimumOf (m : Market) (word : List Bool) (r : Relaxed) (a : Activation) : Type 0 where
  pub within : IsWithinBounds (bounds_of_word m word) m a
  pub relaxed : IsRelaxedWelfare m word (welfare_of m a)
  pub best : length word < length m.gates → IsAdmissible m a → is_some r.best ≡ true

-- what is left to start with: the relaxed optimum, or what there was where nothing lies within the word's bounds
abbrev pub IsLeft : Market → List Bool → Finding → (old new : Option Activation) → Type 0
IsLeft m word (Empty cut) old new = new ≡ old
IsLeft m word (RelaxedFinding r) old new = IsSomeAnd new (IsOptimumOf m word r)

-- the optimum that is found is written as this activation, or there is neither
abbrev pub IsWrittenOf : Market → Result Optimum SolveFault → Option Activation → Type 0
IsWrittenOf m (Ok o) optimum = IsSomeAnd optimum (IsWritten m o)
IsWrittenOf m (Err fault) optimum = optimum ≡ None

-- what is left to start with: the optimum where there is one, and else what there was
abbrev pub left_by : (optimum start : Option Activation) → Option Activation
left_by (Some a) start = Some a
left_by None start = start

-- What the solver and the test of prices state is a finding.
use Rattle.std.proofs.Common.{◌≡◌, ◌≢◌, Bool, true, false, ℕ, ℤ, pos, ◌≤ℤ◌, List, length, Some, None, arith, refl, sym, ap, ◌∙◌, subst}
use Rattle.std.proofs.lemmas.Int.{ints, clamps}
use Rattle.std.proofs.lemmas.Bool.{both_ways}
use Rattle.std.proofs.lemmas.List.FromFn.{length-map-range_with_len}
use Rattle.std.specs.Int.{int_max}
use Rattle.std.specs.Prelude.{◌↔◌, ◌<◌, Option, IsTrue, MatchOption, is_some, Result, Ok, Err, IfOk}
use Rattle.mari_market.specs.declared.market.Market.{Market}
use Rattle.mari_market.specs.declared.market.GateInfo.{GateInfo}
use Rattle.mari_market.specs.declared.prefix.Prefix.{Prefix}
use Rattle.mari_market.specs.declared.activation.Activation.{Activation}
use Rattle.mari_market.specs.Activation.{welfare_of}
use Rattle.mari_market.specs.Conflict.{IsConflict, IsContradictoryChain}
use Rattle.mari_market.specs.Dual.{dual_value_of}
use Rattle.mari_market.specs.Finding.{IsAttained, IsRelaxedFinding}
use Rattle.mari_market.specs.Market.{IsValid}
use Rattle.mari_market.specs.Optimal.{IsAdmissible, IsFeasible}
use Rattle.mari_market.specs.Prefix.{bit_of, bounds_of_word, word_of, IsFeasiblePrefix}
use Rattle.mari_market.specs.Price.{ArePrices}
use Rattle.mari_market.specs.Relaxation.{IsRelaxedWelfare}
use Rattle.mari_market.proofs.Conflicts.{conflict_refutes, chain_refutes, price_in_cap}
use Rattle.mari_market.proofs.Surplus.{welfare_at_least_0}
use Rattle.mari_market.specs.declared.activation.Prices.{Prices}
use Rattle.mari_network.specs.declared.optimum.Optimum.{Optimum}
use Rattle.mari_network.specs.declared.optimum.Solved.{Solved}
use Rattle.mari_network.specs.Solving.{IsSolution, IsWritten}
use Rattle.mari_network.proofs.Written.{some_written}
use Rattle.mari_node.specs.Nodes.{best_found, bound_found, conflict_found, left_by, IsRelaxedOptimum, IsLastNode, IsInnerNode, IsSolvedAs}
use Rattle.mari_node.specs.Running.{IsBounded}
use Rattle.mari_node.proofs.Gated.{written_once}
use Rattle.mari_node.proofs.Running.{bounded}
use Rattle.mari_node.proofs.Decided.{has_word, decided_feasible, decided_tight}

-- ---- the optimum with its activation

pub solved_as : (m : Market) (word : List Bool) (o : Optimum) (s : Solved) → IsRelaxedOptimum m word o → IsSolvedAs m o s → IsSolution (bounds_of_word m word) m s
solved_as m word o s h is =
    let spans = bounds_of_word m word in
    let first = h.solution s.activation is.activation in
    let second = subst (λ (potentials : Prices). IsSolution spans m (record { activation = s.activation; potentials = potentials; welfare = o.welfare })) (sym is.potentials) first in
    subst (λ (welfare : ℕ). IsSolution spans m (record { activation = s.activation; potentials = s.potentials; welfare = welfare })) (sym is.welfare) second

pub are_prices : (m : Market) (word : List Bool) (o : Optimum) → IsRelaxedOptimum m word o → ArePrices m o.potentials.cents
are_prices m word o h = let some = some_written m o h.fits in (h.solution some.0 some.1).potentials

-- ---- what is reported

-- the greater of 0 and a number, the other way round
greater_of_0 : (n : ℕ) (v w : ℤ) → pos n ≡ int_max (pos 0) w → v ≡ w → pos n ≡ int_max v (pos 0)
greater_of_0 n v w e f = omega (arith, ints, clamps)

greater_is : (n : ℕ) (w : ℤ) → pos n ≡ int_max (pos 0) w → pos 0 ≤ℤ w → pos n ≡ w
greater_is n w e l = omega (arith, ints, clamps)

value_reported : (m : Market) (word : List Bool) (s : Solved) → IsSolution (bounds_of_word m word) m s → IsRelaxedWelfare m word (dual_value_of (bounds_of_word m word) m s.potentials.cents)
value_reported m word s h = subst (IsRelaxedWelfare m word) (sym h.dual) h.relaxed

bound_reported : (m : Market) (word : List Bool) (s : Solved) → IsSolution (bounds_of_word m word) m s → pos s.welfare ≡ int_max (dual_value_of (bounds_of_word m word) m s.potentials.cents) (pos 0)
bound_reported m word s h = greater_of_0 s.welfare (dual_value_of (bounds_of_word m word) m s.potentials.cents) (welfare_of m s.activation) h.stated h.dual

-- an admissible optimum has the welfare that is stated
welfare_reported : (m : Market) (word : List Bool) (s : Solved) → IsValid m → IsSolution (bounds_of_word m word) m s → IsAdmissible m s.activation → pos s.welfare ≡ welfare_of m s.activation
welfare_reported m word s v h adm = greater_is s.welfare (welfare_of m s.activation) h.stated (welfare_at_least_0 m s.activation v adm)

attained : (m : Market) (word : List Bool) (s : Solved) → IsValid m → IsSolution (bounds_of_word m word) m s → IsAdmissible m s.activation
    → IsAttained m (record { activation = s.activation; welfare = s.welfare })
attained m word s v h adm = record { admissible = adm; welfare = sym (welfare_reported m word s v h adm) }

pub last_feasible : (m : Market) (word : List Bool) (o : Optimum) (a : Activation) → IsValid m → IsLastNode m word o → IsWritten m o a → IsFeasible m a
last_feasible m word o a v n w = decided_feasible m a word v n.feasible n.full (n.optimum.solution a w).within

-- where every gate is decided, an admissible optimum is the best of its gate word
pub last_best : (m : Market) (word : List Bool) (o : Optimum) (s : Solved) → IsValid m → IsLastNode m word o → IsSolvedAs m o s → IsAdmissible m s.activation → IsRelaxedFinding m word (best_found s)
last_best m word o s v n is adm = let h = solved_as m word o s n.optimum is in record {
  prices = h.potentials;
  value = value_reported m word s h;
  bound = bound_reported m word s h;
  attained = attained m word s v h adm;
  at_the_end = λ _. record {
    gates = has_word m s.activation word v n.full h.within;
    value = welfare_reported m word s v h adm ∙ sym h.dual;
    conflict = refl;
  };
  before = λ l. let full = n.full in absurd (omega arith);
}

-- and where no prices are consistent with it, a chain is a conflict
holds : (m : Market) (word : List Bool) (o : Optimum) (s : Solved) (chain : List ℕ) → IsValid m → IsLastNode m word o → IsSolvedAs m o s
    → IsContradictoryChain m s.activation chain
    → IsConflict m word (record { chain = chain; potentials = s.potentials; activation = s.activation })
holds m word o s chain v n is bad = let h = solved_as m word o s n.optimum is in record {
  gates = has_word m s.activation word v n.full h.within;
  feasible = last_feasible m word o s.activation v n is.activation;
  prices = h.potentials;
  tight = decided_tight m s.activation word s.potentials.cents v n.full h.within h.tight;
  chain = bad;
}

pub last_conflict : (m : Market) (word : List Bool) (o : Optimum) (s : Solved) (chain : List ℕ) → IsValid m → IsLastNode m word o → IsSolvedAs m o s
    → IsContradictoryChain m s.activation chain → IsRelaxedFinding m word (conflict_found s chain)
last_conflict m word o s chain v n is bad = let h = solved_as m word o s n.optimum is in record {
  prices = h.potentials;
  value = value_reported m word s h;
  bound = bound_reported m word s h;
  attained = tt;
  at_the_end = λ _. record {
    conflict = holds m word o s chain v n is bad;
    none = λ a adm e. conflict_refutes m word (record { chain = chain; potentials = s.potentials; activation = s.activation }) a v (holds m word o s chain v n is bad) adm e;
  };
  before = λ l. let full = n.full in absurd (omega arith);
}

-- where a gate is undecided, the optimum is reported where it is admissible
pub inner_best : (m : Market) (word : List Bool) (o : Optimum) (s : Solved) → IsValid m → IsInnerNode m word o → IsSolvedAs m o s → IsAdmissible m s.activation → IsRelaxedFinding m word (best_found s)
inner_best m word o s v n is adm = let h = solved_as m word o s n.optimum is in record {
  prices = h.potentials;
  value = value_reported m word s h;
  bound = bound_reported m word s h;
  attained = attained m word s v h adm;
  at_the_end = λ full. let less = n.undecided in absurd (omega arith);
  before = λ _. record { conflict = refl; best = tt };
}

-- and where it isn't, it shows that some relaxed optimum isn't admissible
pub inner_bound : (m : Market) (word : List Bool) (o : Optimum) (s : Solved) → IsInnerNode m word o → IsSolvedAs m o s → (IsAdmissible m s.activation → ⊥)
    → IsRelaxedFinding m word (bound_found s.potentials s.welfare)
inner_bound m word o s n is none = let h = solved_as m word o s n.optimum is in record {
  prices = h.potentials;
  value = value_reported m word s h;
  bound = bound_reported m word s h;
  attained = tt;
  at_the_end = λ full. let less = n.undecided in absurd (omega arith);
  before = λ _. record {
    conflict = refl;
    best = record { activation = s.activation; within = h.within; welfare = sym h.dual; inadmissible = none };
  };
}

-- the same where the optimum doesn't keep the gates
pub inner_unkept : (m : Market) (word : List Bool) (o : Optimum) → IsInnerNode m word o → ((a : Activation) → IsWritten m o a → IsAdmissible m a → ⊥)
    → IsRelaxedFinding m word (bound_found o.potentials o.welfare)
inner_unkept m word o n none =
    let some = some_written m o n.optimum.fits in
    inner_bound m word o (record { activation = some.0; potentials = o.potentials; welfare = o.welfare }) n (record { activation = some.1; potentials = refl; welfare = refl }) (none some.0 some.1)

-- a contradictory chain leaves no consistent prices
pub contradicts : (m : Market) (a : Activation) (zs : List ℕ) → IsContradictoryChain m a zs → IsAdmissible m a → ⊥
contradicts m a zs bad adm =
    let h = adm.consistent.1 in
    chain_refutes m a adm.consistent.0 zs (price_in_cap m adm.consistent.0 h.prices) h.orders h.borders bad.chain

-- what the chain says, or that there is none
abbrev pub AnswersPrices : Market → Activation → Option (List ℕ) → Type 0
AnswersPrices m a chain = MatchOption chain (IsAdmissible m a) (IsContradictoryChain m a)

-- what keeps the gates is feasible, and what doesn't isn't admissible
pub kept_feasible : (m : Market) (word : List Bool) (o : Optimum) (a : Activation) (b : Bool) → IsInnerNode m word o → IsWritten m o a
    → ((a : Activation) → IsWritten m o a → IsBounded m a → IsTrue b ↔ IsFeasible m a) → b ≡ true → IsFeasible m a
kept_feasible m word o a b n w is kept = (is a w (bounded m word a (n.optimum.solution a w).within)).0 kept

pub unkept_inadmissible : (m : Market) (word : List Bool) (o : Optimum) (a : Activation) (b : Bool) → IsInnerNode m word o → IsWritten m o a
    → ((a : Activation) → IsWritten m o a → IsBounded m a → IsTrue b ↔ IsFeasible m a) → b ≡ false → IsAdmissible m a → ⊥
unkept_inadmissible m word o a b n w is unkept adm = both_ways b unkept ((is a w (bounded m word a (n.optimum.solution a w).within)).1 adm.feasible)

-- ---- what is left to start with

pub left_there : (optimum old : Option Activation) → is_some optimum ≡ true → left_by optimum old ≡ optimum
left_there (Some a) old some = refl
left_there None old some = absurd (cc)

pub left_as_it_was : (optimum old : Option Activation) → is_some optimum ≡ false → left_by optimum old ≡ old
left_as_it_was (Some a) old none = absurd (cc)
left_as_it_was None old none = refl

-- ---- the word of a prefix

pub last_at : (m : Market) (x : Prefix) (o : Optimum) (gates : List GateInfo) → gates ≡ m.gates
    → x.length ≡ length gates → IsFeasiblePrefix m x → IsRelaxedOptimum m (word_of x) o → IsLastNode m (word_of x) o
last_at m x o gates e l p h = record {
  optimum = h;
  feasible = p.word;
  full = length-map-range_with_len (bit_of x) 0 x.length ∙ l ∙ ap length e;
}

pub inner_at : (m : Market) (x : Prefix) (o : Optimum) (gates : List GateInfo) → gates ≡ m.gates
    → (x.length ≡ length gates → ⊥) → IsFeasiblePrefix m x → IsRelaxedOptimum m (word_of x) o
    → IsInnerNode m (word_of x) o
inner_at m x o gates e n p h =
    let long = length-map-range_with_len (bit_of x) 0 x.length in
    let same : length gates ≡ length m.gates = ap length e in
    let most = p.word.decided in
    let apart : length (word_of x) ≢ length m.gates = λ f. n (sym long ∙ f ∙ sym same) in
    record { optimum = h; undecided = omega arith }

-- where every gate is decided, nothing is asked of what is found where one isn't
pub none_is_inner : {X E : Type 0} {decided gates : ℕ} (Q : X → Type 0) (found : Result X E) → decided ≡ gates → IfOk found (λ x. decided < gates → Q x)
none_is_inner Q (Ok x) e = λ less. absurd (omega arith)
none_is_inner Q (Err fault) e = tt

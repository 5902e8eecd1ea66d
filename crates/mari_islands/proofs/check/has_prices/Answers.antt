use Rattle.std.proofs.Common.{◌≡◌, Bool, true, false, ℕ, List, Option, Some, None, refl}
use Rattle.std.specs.Prelude.{IsTrue, MatchOption, is_some, not}
use Rattle.std.proofs.lemmas.Bool.{false≢true}
use Rattle.mari_market.specs.declared.activation.Activation.{Activation}
use Rattle.mari_market.specs.declared.market.Market.{Market}
use Rattle.mari_market.specs.Conflict.{IsContradictoryChain}
use Rattle.mari_market.specs.Optimal.{IsAdmissible}
use Rattle.mari_market.proofs.Conflicts.{none_consistent}
use Rattle.mari_islands.proofs.check.has_prices.Goals as goal

-- a chain is found exactly where no prices are consistent
answered : (m : Market) (a : Activation) (chain : Option (List ℕ)) (none : Bool) → is_some chain ≡ not none
    → MatchOption chain (IsAdmissible m a) (IsContradictoryChain m a) → (IsTrue none → IsAdmissible m a) × (IsAdmissible m a → IsTrue none)
answered m a None true e h = (λ t. h, λ adm. refl)
answered m a None false e h = absurd (cc)
answered m a (Some chain) true e h = absurd (cc)
answered m a (Some chain) false e h = (λ t. absurd (false≢true t), λ adm. absurd (none_consistent m a chain adm.consistent.0 h adm.consistent.1))

pub returns : goal.returns
returns c = answered c.args.market.now c.args.activation.now _ c.is_none.result c.is_none.ensures c.in_ok-chain.ensures

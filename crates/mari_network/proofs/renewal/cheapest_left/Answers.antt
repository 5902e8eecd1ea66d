use Rattle.std.proofs.Common.{◌≡◌, ◌<ℤ◌, ℕ, Option, Some, subst, rules}
use Rattle.mari_market.specs.Sums.{int_at}
use Rattle.mari_network.specs.Slots.{slot_at, price_of}
use Rattle.mari_network.specs.Margins.{IsCheapestIn, IsCheapestFrom}
use Rattle.mari_network.proofs.Marginal.{cheapest_stays, cheapest_anew, some_same}
use Rattle.mari_network.proofs.renewal.cheapest_left.Goals as goal

pub returns-in-Some-clause-there : goal.returns-in-Some-clause-there
returns-in-Some-clause-there c = λ i e. (c.cheapest_from.ensures.one i e).0.0

pub returns-in-Some-clause-left : goal.returns-in-Some-clause-left
returns-in-Some-clause-left c =
    let slots = c.args.network.now.slots.now in
    let was : c.args.before ≡ Some c.args.source = search rules in
    let from : IsCheapestFrom c.args.network.now.slots.now c.args.amounts.now c.args.zone c.args.network.now.on_ladders (price_of c.args.network.now.slots.now c.args.source) c.cheapest_from.result =
    search rules in
    λ old sink moved d. cheapest_anew slots old c.args.amounts.now sink c.args.source moved c.args.zone c.args.network.now.on_ladders c.args.before c.cheapest_from.result was from d

pub returns-in_default-clause-left : goal.returns-in_default-clause-left
returns-in_default-clause-left c =
    let slots = c.args.network.now.slots.now in
    let below : int_at c.args.amounts.now c.args.source <ℤ (slot_at c.args.network.now.slots.now c.args.source).high = search rules in
    λ old sink moved d. cheapest_stays slots old c.args.amounts.now sink c.args.source moved c.args.zone c.args.network.now.on_ladders (Some c.in-Some.first) (λ e. below)
    (subst (λ (b : Option ℕ). IsCheapestIn slots old c.args.zone c.args.network.now.on_ladders b) c.in-Some.is d)

pub returns-in_default-2-clause-left : goal.returns-in_default-2-clause-left
returns-in_default-2-clause-left c =
    let slots = c.args.network.now.slots.now in
    let other : c.in-Some.first ≡ c.args.source → ⊥ = search rules in
    λ old sink moved d. cheapest_stays slots old c.args.amounts.now sink c.args.source moved c.args.zone c.args.network.now.on_ladders (Some c.in-Some.first)
    (λ e. absurd (other (some_same c.in-Some.first c.args.source e))) (subst (λ (b : Option ℕ). IsCheapestIn slots old c.args.zone c.args.network.now.on_ladders b) c.in-Some.is d)

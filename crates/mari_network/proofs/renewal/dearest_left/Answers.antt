use Rattle.std.proofs.Common.{◌≡◌, ◌<ℤ◌, ℕ, Option, Some, subst, rules}
use Rattle.mari_market.specs.Sums.{int_at}
use Rattle.mari_network.specs.Slots.{slot_at, price_of}
use Rattle.mari_network.specs.Margins.{IsDearestIn, IsDearestTo}
use Rattle.mari_network.proofs.Marginal.{dearest_stays, dearest_anew, some_same}
use Rattle.mari_network.proofs.renewal.dearest_left.Goals as goal

pub returns-in-Some-clause-there : goal.returns-in-Some-clause-there
returns-in-Some-clause-there c = λ i e. (c.dearest_to.ensures.one i e).0.0

pub returns-in-Some-clause-left : goal.returns-in-Some-clause-left
returns-in-Some-clause-left c =
    let slots = c.args.network.now.slots.now in
    let was : c.args.before ≡ Some c.args.sink = search rules in
    let to : IsDearestTo c.args.network.now.slots.now c.args.amounts.now c.args.zone c.args.network.now.on_ladders (price_of c.args.network.now.slots.now c.args.sink) c.dearest_to.result =
    search rules in
    λ old source moved d. dearest_anew slots old c.args.amounts.now c.args.sink source moved c.args.zone c.args.network.now.on_ladders c.args.before c.dearest_to.result was to d

pub returns-in_default-clause-left : goal.returns-in_default-clause-left
returns-in_default-clause-left c =
    let slots = c.args.network.now.slots.now in
    let above : (slot_at c.args.network.now.slots.now c.args.sink).low <ℤ int_at c.args.amounts.now c.args.sink = search rules in
    λ old source moved d. dearest_stays slots old c.args.amounts.now c.args.sink source moved c.args.zone c.args.network.now.on_ladders (Some c.in-Some.first) (λ e. above)
    (subst (λ (b : Option ℕ). IsDearestIn slots old c.args.zone c.args.network.now.on_ladders b) c.in-Some.is d)

pub returns-in_default-2-clause-left : goal.returns-in_default-2-clause-left
returns-in_default-2-clause-left c =
    let slots = c.args.network.now.slots.now in
    let other : c.in-Some.first ≡ c.args.sink → ⊥ = search rules in
    λ old source moved d. dearest_stays slots old c.args.amounts.now c.args.sink source moved c.args.zone c.args.network.now.on_ladders (Some c.in-Some.first)
    (λ e. absurd (other (some_same c.in-Some.first c.args.sink e))) (subst (λ (b : Option ℕ). IsDearestIn slots old c.args.zone c.args.network.now.on_ladders b) c.in-Some.is d)

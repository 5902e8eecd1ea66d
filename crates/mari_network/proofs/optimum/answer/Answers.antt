use Rattle.std.proofs.Common.{◌≡◌, List, length, take, pos, ap, ◌∙◌, arith, to_z-of_z, rules, FitsSigned, w64}
use Rattle.std.proofs.lemmas.List.{get_or_default}
use Rattle.mari_market.specs.declared.market.Order.{Order}
use Rattle.std.specs.Int.{int_max, w128}
use Rattle.mari_market.specs.Sums.{int_at, sum_along}
use Rattle.mari_network.specs.declared.slots.Slot.{Slot}
use Rattle.mari_network.specs.Slots.{slot_gain, IsWithinSlot}
use Rattle.mari_network.proofs.Lists.{zip_take}
use Rattle.std.proofs.lemmas.Int.{ints}
use Rattle.mari_network.proofs.Settles.{zip_can, answer_optimum, answer_cut}
use Rattle.mari_network.proofs.Worths.{worth_is, worth_small}
use Rattle.mari_network.proofs.optimum.answer.Goals as goal

pub optimum_of-requires : goal.optimum_of-requires
optimum_of-requires c =
    let n = ap (λ (os : List Order). length os) c.as_slice.ensures in
    let none = rw c.deref.ensures.value at c.in-None.ensures in
    let small = worth_small c.args.market.now.orders c.args.network.now.slots.now c.args.amounts.items c.requires.network.small
    (zip_can c.args.market.now.orders (take (length c.args.market.now.orders) c.args.network.now.slots.now) (take (length c.args.market.now.orders) c.args.amounts.items) c.requires.same.orders
    (zip_take IsWithinSlot (length c.args.market.now.orders) c.args.network.now.slots.now c.args.amounts.items c.requires.runs.amounts))
    (λ k l h. none k (omega (arith, n, l)) h) in
    omega (arith, ints, small, c.requires.worth, c.requires.market.few_orders)

pub returns-in_ok-optimum_of-in-None : goal.returns-in_ok-optimum_of-in-None
returns-in_ok-optimum_of-in-None c = λ spans more e.
    let n = ap (λ (os : List Order). length os) c.as_slice.ensures in
    let worth : FitsSigned w128 c.args.worth = search rules in
    let none = rw c.deref.ensures.value at c.in-None.ensures in
    answer_optimum spans c.args.market.now more c.args.network.now c.in_ok-optimum_of-in-None.field-0 c.args.amounts.items c.args.flows.items
    c.args.prices.now e c.requires.market c.requires.network c.requires.same c.requires.runs c.requires.tight
    (ap (λ (v : _). v.items) c.in_ok-optimum_of-in-None.ensures.amounts) (ap (λ (v : _). v.items) c.in_ok-optimum_of-in-None.ensures.flows)
    c.in_ok-optimum_of-in-None.ensures.potentials
    (rw (to_z-of_z worth) at c.in_ok-optimum_of-in-None.ensures.stated ∙ ap (int_max (pos 0)) (c.requires.worth ∙ ap (λ (ss : List Slot). sum_along slot_gain ss c.args.amounts.items) e.made
    ∙ worth_is spans c.args.market.now.orders more c.args.amounts.items (λ k l h. none k (omega (arith, n, l)) h)))
    c.requires.long
    (zip_can c.args.market.now.orders (take (length c.args.market.now.orders) c.args.network.now.slots.now) (take (length c.args.market.now.orders) c.args.amounts.items) c.requires.same.orders
    (zip_take IsWithinSlot (length c.args.market.now.orders) c.args.network.now.slots.now c.args.amounts.items c.requires.runs.amounts))
    (λ k l h. none k (omega (arith, n, l)) h)

pub returns-in_ok-cut-in-Some : goal.returns-in_ok-cut-in-Some
returns-in_ok-cut-in-Some c = λ spans more e.
    let n = ap (λ (os : List Order). length os) c.as_slice.ensures in
    let found = rw c.deref.ensures.value at c.in-Some.ensures in
    let fits : FitsSigned w64 c.index.result.now = search rules in
    let read : c.index.result.now ≡ int_at c.args.amounts.items c.in-Some.short = c.index.ensures ∙ get_or_default c.args.amounts.items c.in-Some.short c.index.result.now (pos 0) found.1 in
    answer_cut spans c.args.market.now more c.args.network.now c.args.amounts.items c.args.flows.items c.args.prices.now c.side_of.result
    c.in_ok-cut-in-Some.cut c.in-Some.short e c.requires.market c.requires.network c.requires.same c.requires.runs c.requires.tight
    c.in_ok-cut-in-Some.ensures.side
    c.in_ok-cut-in-Some.ensures.rising c.in_ok-cut-in-Some.ensures.inside
    (omega (arith, n, found.0)) found.1 found.2
    (rw (to_z-of_z fits, read) at c.side_of.ensures.out) (rw (to_z-of_z fits, read) at c.side_of.ensures.into)

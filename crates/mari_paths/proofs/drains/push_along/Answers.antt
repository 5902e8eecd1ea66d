use Rattle.std.proofs.Common.{◌≡◌, ◌≢◌, ◌<◌, ◌^◌, ℕ, ℤ, length, get_or, sym, ap, ◌∙◌, subst, rules, to_z, of_z, to_z-of_z, FitsSigned}
use Rattle.std.specs.Int.{w128}
use Rattle.mari_network.specs.declared.margins.Margin.{Margin}
use Rattle.mari_market.specs.Sums.{sum_along}
use Rattle.mari_network.specs.Slots.{no_slot, slot_gain, zone_of}
use Rattle.mari_network.specs.Margins.{no_margin, IsMarginIn}
use Rattle.mari_network.proofs.Marginal.{margins_after, margins_at}
use Rattle.mari_network.proofs.Worths.{worth_fits}
use Rattle.mari_paths.proofs.Steps.{rise_step}
use Rattle.mari_paths.proofs.drains.push_along.Goals as goal

pub returns-then-from-to-clause-margins : goal.returns-then-from-to-clause-margins
returns-then-from-to-clause-margins c =
    let slots = c.args.network.now.slots.now in
    let old = c.args.amounts.now in
    let new = c.improve.new.amounts in
    let zones = length c.args.network.now.meeting.now in
    let sink = c.args.chain.now.sink in
    let source = c.args.chain.now.source in
    let moved = c.improve.ensures.moved in
    let was = c.args.margins.now.on_ladders.items in
    let n = c.args.network.now.on_ladders in
    let apart : zone_of c.args.network.now.slots.now c.args.chain.now.source ≢ zone_of c.args.network.now.slots.now c.args.chain.now.sink = search rules in
    let away : zone_of slots sink ≢ zone_of slots source = λ e. apart (sym e) in
    let to_there : zone_of slots sink < zones = c.requires.network.zones sink no_slot c.requires.chain.less.0 in
    let from_there : zone_of slots source < zones = c.requires.network.zones source no_slot c.requires.chain.more.0 in
    let to = c.renew.ensures.here old moved (margins_at slots old zones n was (zone_of slots sink) c.requires.margins.on_ladders to_there) in
    let from = c.renew-then-from-to.ensures.here old moved
    (subst (λ (m : Margin). IsMarginIn slots old (zone_of slots source) n m) (sym (c.renew.ensures.others (zone_of slots source) apart).0)
    (margins_at slots old zones n was (zone_of slots source) c.requires.margins.on_ladders from_there)) in
    let stays = c.renew-then-from-to.ensures.others (zone_of slots sink) away in
    let long = c.renew-then-from-to.ensures.long in
    record {
      on_ladders = margins_after slots old new zones n sink source was c.renew-then-from-to.new.margins.on_ladders.items moved (long.0 ∙ c.renew.ensures.long.0 ∙ c.requires.margins.on_ladders.long)
          (subst (λ (m : Margin). IsMarginIn slots new (zone_of slots sink) n m) (sym stays.0) to.0) from.0
          (λ z first other. (c.renew-then-from-to.ensures.others z other).0 ∙ (c.renew.ensures.others z first).0) c.requires.margins.on_ladders;
      all = margins_after slots old new zones (length slots) sink source c.args.margins.now.all.items c.renew-then-from-to.new.margins.all.items moved
          (long.1 ∙ c.renew.ensures.long.1 ∙ c.requires.margins.all.long)
          (subst (λ (m : Margin). IsMarginIn slots new (zone_of slots sink) (length slots) m) (sym stays.1) to.1) from.1
          (λ z first other. (c.renew-then-from-to.ensures.others z other).1 ∙ (c.renew.ensures.others z first).1) c.requires.margins.all;
    }

pub returns-else-from-to-clause-margins : goal.returns-else-from-to-clause-margins
returns-else-from-to-clause-margins c =
    let slots = c.args.network.now.slots.now in
    let old = c.args.amounts.now in
    let new = c.improve.new.amounts in
    let zones = length c.args.network.now.meeting.now in
    let sink = c.args.chain.now.sink in
    let source = c.args.chain.now.source in
    let moved = c.improve.ensures.moved in
    let was = c.args.margins.now.on_ladders.items in
    let n = c.args.network.now.on_ladders in
    let same : zone_of c.args.network.now.slots.now c.args.chain.now.source ≡ zone_of c.args.network.now.slots.now c.args.chain.now.sink = search rules in
    let to_there : zone_of slots sink < zones = c.requires.network.zones sink no_slot c.requires.chain.less.0 in
    let to = c.renew.ensures.here old moved (margins_at slots old zones n was (zone_of slots sink) c.requires.margins.on_ladders to_there) in
    record {
      on_ladders = margins_after slots old new zones n sink source was c.renew.new.margins.on_ladders.items moved (c.renew.ensures.long.0 ∙ c.requires.margins.on_ladders.long)
          to.0 (subst (λ (z : ℕ). IsMarginIn slots new z n (get_or c.renew.new.margins.on_ladders.items z no_margin)) (sym same) to.0)
          (λ z first other. (c.renew.ensures.others z first).0) c.requires.margins.on_ladders;
      all = margins_after slots old new zones (length slots) sink source c.args.margins.now.all.items c.renew.new.margins.all.items moved (c.renew.ensures.long.1 ∙ c.requires.margins.all.long)
          to.1 (subst (λ (z : ℕ). IsMarginIn slots new z (length slots) (get_or c.renew.new.margins.all.items z no_margin)) (sym same) to.1)
          (λ z first other. (c.renew.ensures.others z first).1) c.requires.margins.all;
    }

pub overflow_add-worth : goal.overflow_add-worth
overflow_add-worth c =
    let few : length c.args.network.now.slots.now < 2 ^ 60 = search rules in
    let rise : FitsSigned w128 c.improve.result = search rules in
    let old = worth_fits c.args.network.now.slots.now c.args.amounts.now c.requires.network.small c.requires.runs.amounts few in
    let new = worth_fits c.args.network.now.slots.now c.improve.new.amounts c.requires.network.small c.improve.ensures.runs.amounts few in
    subst (λ (x : ℤ). FitsSigned w128 x) (sym (rise_step c.args.worth.now (sum_along slot_gain c.args.network.now.slots.now c.args.amounts.now) c.improve.result
    (sum_along slot_gain c.args.network.now.slots.now c.improve.new.amounts) old rise c.requires.worth c.improve.ensures.worth)) new

pub renew-requires-then-from-to-clause-dearest : goal.renew-requires-then-from-to-clause-dearest
renew-requires-then-from-to-clause-dearest c = λ i e.
    let slots = c.args.network.now.slots.now in
    let to = zone_of slots c.args.chain.now.sink in
    let from = zone_of slots c.args.chain.now.source in
    let apart : from ≢ to = search rules in
    let there : from < length c.args.network.now.meeting.now = c.requires.network.zones c.args.chain.now.source no_slot c.requires.chain.more.0 in
    ((c.requires.margins.on_ladders.dearest from there).one i (ap (λ (m : Margin). m.dearest) (sym (c.renew.ensures.others from apart).0) ∙ e)).0.0

pub renew-requires-then-from-to-clause-cheapest : goal.renew-requires-then-from-to-clause-cheapest
renew-requires-then-from-to-clause-cheapest c = λ i e.
    let slots = c.args.network.now.slots.now in
    let to = zone_of slots c.args.chain.now.sink in
    let from = zone_of slots c.args.chain.now.source in
    let apart : from ≢ to = search rules in
    let there : from < length c.args.network.now.meeting.now = c.requires.network.zones c.args.chain.now.source no_slot c.requires.chain.more.0 in
    ((c.requires.margins.on_ladders.cheapest from there).one i (ap (λ (m : Margin). m.cheapest) (sym (c.renew.ensures.others from apart).0) ∙ e)).0.0

pub returns-then-from-to-clause-worth : goal.returns-then-from-to-clause-worth
returns-then-from-to-clause-worth c =
    let few : length c.args.network.now.slots.now < 2 ^ 60 = search rules in
    let rise : FitsSigned w128 c.improve.result = search rules in
    let old = worth_fits c.args.network.now.slots.now c.args.amounts.now c.requires.network.small c.requires.runs.amounts few in
    let new = worth_fits c.args.network.now.slots.now c.improve.new.amounts c.requires.network.small c.improve.ensures.runs.amounts few in
    ap (λ (x : ℤ). to_z w128 (of_z w128 x)) (rise_step c.args.worth.now (sum_along slot_gain c.args.network.now.slots.now c.args.amounts.now) c.improve.result
    (sum_along slot_gain c.args.network.now.slots.now c.improve.new.amounts) old rise c.requires.worth c.improve.ensures.worth) ∙ to_z-of_z new

pub returns-else-from-to-clause-worth : goal.returns-else-from-to-clause-worth
returns-else-from-to-clause-worth c =
    let few : length c.args.network.now.slots.now < 2 ^ 60 = search rules in
    let rise : FitsSigned w128 c.improve.result = search rules in
    let old = worth_fits c.args.network.now.slots.now c.args.amounts.now c.requires.network.small c.requires.runs.amounts few in
    let new = worth_fits c.args.network.now.slots.now c.improve.new.amounts c.requires.network.small c.improve.ensures.runs.amounts few in
    ap (λ (x : ℤ). to_z w128 (of_z w128 x)) (rise_step c.args.worth.now (sum_along slot_gain c.args.network.now.slots.now c.args.amounts.now) c.improve.result
    (sum_along slot_gain c.args.network.now.slots.now c.improve.new.amounts) old rise c.requires.worth c.improve.ensures.worth) ∙ to_z-of_z new

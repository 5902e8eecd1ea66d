use Rattle.std.proofs.Common.{◌≡◌, ◌<◌, length, get_or, get_or-set_other, arith, sym, subst, ◌∙◌}
use Rattle.std.proofs.lemmas.List.{get_or_default, get_or-set_same}
use Rattle.mari_network.specs.declared.margins.Margin.{Margin}
use Rattle.mari_network.specs.Margins.{no_margin, IsMarginIn}
use Rattle.mari_network.proofs.renewal.renew.Goals as goal

pub margin_with_stand_in-requires-clause-dearest : goal.margin_with_stand_in-requires-clause-dearest
margin_with_stand_in-requires-clause-dearest c = c.dearest_after.ensures.there

pub margin_with_stand_in-requires-clause-cheapest : goal.margin_with_stand_in-requires-clause-cheapest
margin_with_stand_in-requires-clause-cheapest c = c.cheapest_after.ensures.there

pub returns-clause-here : goal.returns-clause-here
returns-clause-here c =
    let slots = c.args.network.now.slots.now in
    let n = c.args.network.now.on_ladders in
    let before = c.args.margins.now.on_ladders.items in
    let ladder : c.args.zone < length before = omega (arith, c.requires.zone, c.requires.long.0) in
    let whole : c.args.zone < length c.args.margins.now.all.items = omega (arith, c.requires.zone, c.requires.long.1) in
    let read : get_or before c.args.zone no_margin ≡ c.index-before.result.now = get_or_default before c.args.zone no_margin c.index-before.result.now ladder ∙ sym c.index-before.ensures in
    λ old moved was.
    let right : IsMarginIn slots old c.args.zone n c.index-before.result.now = subst (λ (m : Margin). IsMarginIn slots old c.args.zone n m) read was in
    let new : IsMarginIn slots c.args.amounts.now c.args.zone n (record { dearest = c.dearest_after.result; cheapest = c.cheapest_after.result }) =
    record { dearest = c.dearest_after.ensures.right old moved right.dearest; cheapest = c.cheapest_after.ensures.right old moved right.cheapest } in (
      subst (λ (m : Margin). IsMarginIn slots c.args.amounts.now c.args.zone n m)
          (sym (get_or-set_same before c.args.zone (record { dearest = c.dearest_after.result; cheapest = c.cheapest_after.result }) no_margin ladder)) new,
      subst (λ (m : Margin). IsMarginIn slots c.args.amounts.now c.args.zone (length slots) m)
          (sym (get_or-set_same c.args.margins.now.all.items c.args.zone c.margin_with_stand_in.result no_margin whole)) (c.margin_with_stand_in.ensures new),
    )

pub returns-clause-others : goal.returns-clause-others
returns-clause-others c = λ z other. (
  get_or-set_other c.args.margins.now.on_ladders.items c.args.zone z (record { dearest = c.dearest_after.result; cheapest = c.cheapest_after.result }) no_margin other,
  get_or-set_other c.args.margins.now.all.items c.args.zone z c.margin_with_stand_in.result no_margin other,
)

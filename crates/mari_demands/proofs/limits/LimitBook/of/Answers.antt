use Rattle.std.proofs.Common.{◌∙◌, ◌+◌, ◌-◌, ◌*◌, Option, None, length, arith, ap, refl, sym}
use Rattle.std.specs.Prelude.{unwrap_or}
use Rattle.std.proofs.lemmas.List.{get_or_read_under}
use Rattle.mari_demands.specs.LimitPairs.{no_limits}
use Rattle.mari_demands.specs.declared.limits.Limits.{Limits}
use Rattle.mari_demands.proofs.LimitTables.{placed}
use Rattle.mari_demands.proofs.limits.LimitBook.of.Goals as goal

pub index-requires : goal.index-requires
index-requires c =
    let inside = c.self.inside in
    let here = placed inside.runs inside.borders inside.limits.items c.args.self.now c.args.run c.args.border c.self.view_is c.requires.first c.requires.last c.requires.border in
    omega (arith, here.within, c.self.invariant.0)

pub returns-in-Some : goal.returns-in-Some
returns-in-Some c =
    let inside = c.self.inside in
    let here = placed inside.runs inside.borders inside.limits.items c.args.self.now c.args.run c.args.border c.self.view_is c.requires.first c.requires.last c.requires.border in
    let read = get_or_read_under inside.limits.items ((c.args.run - 1) * inside.borders + c.args.border) (length inside.limits.items) c.index.result.now None c.index.ensures
    (omega (arith, here.within, c.self.invariant.0)) refl in
    let same = ap (λ (o : Option Limits). unwrap_or o no_limits) (sym c.in-Some.is ∙ read) ∙ here.limits in
    ap (λ (l : Limits). (l.limit, l.back)) same

pub returns-in-None : goal.returns-in-None
returns-in-None c =
    let inside = c.self.inside in
    let here = placed inside.runs inside.borders inside.limits.items c.args.self.now c.args.run c.args.border c.self.view_is c.requires.first c.requires.last c.requires.border in
    let read = get_or_read_under inside.limits.items ((c.args.run - 1) * inside.borders + c.args.border) (length inside.limits.items) c.index.result.now None c.index.ensures
    (omega (arith, here.within, c.self.invariant.0)) refl in
    let same = ap (λ (o : Option Limits). unwrap_or o no_limits) (sym c.in-None.is ∙ read) ∙ here.limits in
    ap (λ (l : Limits). (l.limit, l.back)) same

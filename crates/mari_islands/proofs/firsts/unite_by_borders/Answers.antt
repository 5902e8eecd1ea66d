use Rattle.std.proofs.Common.{length, subst, sym}
use Rattle.std.specs.List.{All}
use Rattle.std.proofs.lemmas.Bool.{both_ways}
use Rattle.mari_market.specs.Market.{IsBetween}
use Rattle.mari_islands.proofs.Uniting.{UnitesUsable, all_step, all_taken, borders_lie, no_border, usable_stays}
use Rattle.mari_islands.proofs.firsts.unite_by_borders.Goals as goal
use Rattle.mari_islands.proofs.firsts.unite_by_borders.Goals.{then-is_usable, else-is_usable}

pub loop-border-preserved : goal.loop-border-preserved
loop-border-preserved c =
    let m = c.args.market.now in
    let olds = c.loop-border.firsts in
    let items = c.as_slice-border-items.result.now in
    let all : All (IsBetween (length olds)) items = subst (All (IsBetween (length olds))) (sym c.as_slice-border-items.ensures) (borders_lie m olds c.requires.valid c.loop-border.invariant.sound) in
    elim c.if-is_usable.branch [
      | then-is_usable w ↦ rw w.firsts-is (record {
        sound = w.unite_joined.ensures.sound;
        united = all_step (IsBetween (length olds)) (UnitesUsable olds) (UnitesUsable w.unite_joined.new.firsts) items c.loop-border.border-index no_border c.loop-border-test.true all
            (usable_stays olds w.unite_joined.new.firsts w.unite_joined.ensures.stay) c.loop-border.invariant.united (λ u. w.unite_joined.ensures.united);
      })
      | else-is_usable w ↦ rw w.firsts-is (record {
        sound = c.loop-border.invariant.sound;
        united = all_step (IsBetween (length olds)) (UnitesUsable olds) (UnitesUsable olds) items c.loop-border.border-index no_border c.loop-border-test.true all
            (λ b l h. h) c.loop-border.invariant.united (λ u. absurd (both_ways _ w.if-is_usable.false (c.is_usable.ensures.1 u)));
      })
    ]

pub returns-clause-united : goal.returns-clause-united
returns-clause-united c =
    all_taken (UnitesUsable c.loop-border.firsts) c.as_slice-border-items.result.now c.args.market.now.borders c.loop-border.border-index
    c.loop-border-test.false c.as_slice-border-items.ensures c.loop-border.invariant.united

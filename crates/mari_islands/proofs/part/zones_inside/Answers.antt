use Rattle.std.proofs.Common.{◌≡◌, ◌++◌, ◌∷◌, [], sym, ◌∙◌, rules}
use Rattle.mari_islands.specs.Islands.{has_first}
use Rattle.mari_islands.proofs.Numbers.{kept_more, kept_same}
use Rattle.mari_islands.proofs.part.zones_inside.Goals as goal
use Rattle.mari_islands.proofs.part.zones_inside.Goals.{then-is_inside+in_ok-push, else-is_inside}

pub loop-zone-preserved : goal.loop-zone-preserved
loop-zone-preserved c = elim c.if-is_inside.branch [
  | then-is_inside+in_ok-push w ↦ rw w.zones-is (
      let pushed : w.push.new.self.items ≡ c.loop-zone.zones.items ++ c.loop-zone.zone ∷ [] = search rules in
      kept_more (has_first c.args.firsts.now c.args.first) c.loop-zone.zone c.loop-zone.zones.items w.push.new.self.items c.loop-zone.invariant (sym c.is_inside.ensures ∙ w.if-is_inside.true) pushed)
  | else-is_inside w ↦ rw w.zones-is
      (kept_same (has_first c.args.firsts.now c.args.first) c.loop-zone.zone c.loop-zone.zones.items c.loop-zone.invariant (sym c.is_inside.ensures ∙ w.if-is_inside.false))
]

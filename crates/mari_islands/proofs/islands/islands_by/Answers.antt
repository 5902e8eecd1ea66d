use Rattle.std.proofs.Common.{◌≡◌, ◌++◌, ◌∷◌, [], ℕ, sym, ◌∙◌, rules}
use Rattle.mari_islands.specs.declared.islands.Island.{Island}
use Rattle.mari_islands.specs.Islands.{has_first}
use Rattle.mari_islands.specs.Part.{part_of}
use Rattle.mari_islands.proofs.Numbers.{mapped_more, mapped_same}
use Rattle.mari_islands.proofs.islands.islands_by.Goals as goal
use Rattle.mari_islands.proofs.islands.islands_by.Goals.{then-is_inside+in_ok-island+in_ok-push, else-is_inside}

pub loop-zone-preserved : goal.loop-zone-preserved
loop-zone-preserved c =
    let part : ℕ → Island = λ first. part_of c.args.market.now (has_first c.args.firsts.now first) in
    elim c.if-is_inside.branch [
      | then-is_inside+in_ok-island+in_ok-push w ↦ rw w.islands-is (
          let pushed : w.push.new.self.items ≡ c.loop-zone.islands.items ++ w.in_ok-island.island ∷ [] = search rules in
          mapped_more part (λ z. has_first c.args.firsts.now z z) c.loop-zone.zone c.loop-zone.islands.items w.push.new.self.items w.in_ok-island.island c.loop-zone.invariant
          (sym c.is_inside.ensures ∙ w.if-is_inside.true) w.in_ok-island.ensures pushed)
      | else-is_inside w ↦ rw w.islands-is
          (mapped_same part (λ z. has_first c.args.firsts.now z z) c.loop-zone.zone c.loop-zone.islands.items c.loop-zone.invariant (sym c.is_inside.ensures ∙ w.if-is_inside.false))
    ]

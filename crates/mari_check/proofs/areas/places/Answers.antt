use Rattle.std.proofs.Common.{◌∙◌, ◌++◌, ◌∷◌, [], ap, sym, ℕ, add-one, arith}
use Rattle.std.specs.List.{range_with_len}
use Rattle.mari_units.proofs.Lists.{range_more}
use Rattle.mari_check.proofs.areas.places.Goals as goal

pub loop-zone-preserved : goal.loop-zone-preserved
loop-zone-preserved c =
    rw (c.in_ok-push.ensures.items, c.loop-zone.invariant, add-one)
    (ap (λ (k : ℕ). range_with_len 0 c.loop-zone.zone ++ k ∷ []) c.from.ensures ∙ sym (range_more 0 c.loop-zone.zone c.loop-zone.zone (omega arith)))

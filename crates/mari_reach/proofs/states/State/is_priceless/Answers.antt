use Rattle.std.proofs.Common.{sym, ◌∙◌, arith}
use Rattle.mari_reach.specs.Tables.{is_priceless}
use Rattle.mari_reach.proofs.Ranges.{none_in_range, one_in_range}
use Rattle.mari_reach.proofs.states.State.is_priceless.Goals as goal

pub returns-then-is_dearer : goal.returns-then-is_dearer
returns-then-is_dearer c = sym (one_in_range (is_priceless c.args.self.now) c.args.zones c.loop-zone.zone c.loop-zone-test.true (sym c.is_dearer.ensures ∙ c.if-is_dearer.true))

pub returns : goal.returns
returns c = sym (none_in_range (is_priceless c.args.self.now) c.args.zones (λ h l. c.loop-zone.invariant h (omega arith)))

use Rattle.std.proofs.Common.{◌≡◌, Option, subst, sym}
use Rattle.mari_market.specs.declared.prefix.Prefix.{Prefix}
use Rattle.mari_market.specs.Prefix.{word_of}
use Rattle.mari_gates.specs.Preorder.{left_at, waiting_after}
use Rattle.mari_workers.specs.Cutting.{IsBelow}
use Rattle.mari_workers.proofs.Cuts.{ends_at_last, ends_below}
use Rattle.mari_workers.proofs.cutting.Cutting.drop_below.Goals as goal

pub returns-then-at-above-clause-next : goal.returns-then-at-above-clause-next
returns-then-at-above-clause-next c =
    let m = c.args.market.now in
    let above = c.args.above.now in
    let left = c.loop-self.self.left.items in
    subst (λ (next : Option Prefix). left_at m.gates next ≡ waiting_after m.gates (word_of above)) (sym c.in-Some.is)
    (ends_below m c.args.welfare above c.in-Some.at left (subst (IsBelow m c.args.welfare (word_of above) left) c.in-Some.is c.loop-self.invariant.below) c.if-at-above.true)

pub returns-clause-next : goal.returns-clause-next
returns-clause-next c =
    let m = c.args.market.now in
    let above = c.args.above.now in
    let left = c.loop-self.self.left.items in
    subst (λ (next : Option Prefix). left_at m.gates next ≡ waiting_after m.gates (word_of above)) (sym c.in_default.is)
    (ends_at_last m c.args.welfare (word_of above) left (subst (IsBelow m c.args.welfare (word_of above) left) c.in_default.is c.loop-self.invariant.below))

use Rattle.std.proofs.Common.{◌==◌, ◌<◌, ◌-◌, length}
use Rattle.mari_market.specs.Prefix.{opens_in}
use Rattle.mari_reach.proofs.Lines.{line_ends, marks_end, marks_step, parent_there, some_there}
use Rattle.mari_reach.proofs.marks.Marks.mark_line.Goals as goal

pub returns-in_default : goal.returns-in_default
returns-in_default c g = marks_end _ _ _ (c.loop-step.invariant.rest g) (line_ends (λ h. h == g) (length c.args.gates.now - c.loop-step.step) c.args.gates.now c.loop-step.next c.in_default.is)

pub loop-step-preserved : goal.loop-step-preserved
loop-step-preserved c =
    let there : c.in-Some.at < length c.args.gates.now = some_there _ _ _ c.in-Some.is c.loop-step.invariant.there in
    record {
      rest = λ g. marks_step c.args.gates.now (λ h. h == g) _ _ (opens_in c.args.self.now g) _ c.loop-step.step c.in-Some.at _ _ c.loop-step-test.true there c.in-Some.is
          (c.loop-step.invariant.rest g) (c.mark.ensures g);
      there = parent_there c.args.gates.now c.in-Some.at _ c.requires.earlier there;
    }

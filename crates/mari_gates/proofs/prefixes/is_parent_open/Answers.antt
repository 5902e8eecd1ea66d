use Rattle.std.proofs.Common.{arith, sym, ap, ◌∙◌}
use Rattle.std.specs.Prelude.{nat_lt}
use Rattle.std.proofs.lemmas.Bool.Decides.{nat_tests}
use Rattle.mari_market.specs.Prefix.{parent_opens}
use Rattle.mari_gates.specs.Prefixes.{decisions}
use Rattle.mari_gates.proofs.Decisions.{opens_test}
use Rattle.mari_gates.proofs.prefixes.is_parent_open.Goals as goal

pub returns-then-parent-decided : goal.returns-then-parent-decided
returns-then-parent-decided c =
    opens_test c.args.prefix.now c.args.decided c.in-Some.parent c.opens.result (λ h. c.opens.ensures) (λ h. absurd (omega arith))
    ∙ ap (parent_opens (decisions c.args.prefix.now c.args.decided)) (sym c.in-Some.is)

pub returns-else-parent-decided : goal.returns-else-parent-decided
returns-else-parent-decided c =
    opens_test c.args.prefix.now c.args.decided c.in-Some.parent (nat_lt c.in-Some.parent c.args.decided) (λ h. absurd (omega arith)) (λ h. grind (arith, nat_tests))
    ∙ ap (parent_opens (decisions c.args.prefix.now c.args.decided)) (sym c.in-Some.is)

use Rattle.std.proofs.Common.{arith, ap, ◌∙◌, length}
use Rattle.mari_market.specs.Prefix.{IsFeasibleWord, word_of}
use Rattle.mari_gates.proofs.Decisions.{length-decisions}
use Rattle.mari_market.proofs.Search.{parents_earlier}
use Rattle.mari_gates.proofs.prefixes.prefix_feasible.Goals as goal
use Rattle.mari_gates.proofs.prefixes.prefix_feasible.Goals.{then-prefix-gates, else-prefix-gates}

pub keeps_rules-requires-clause-earlier : goal.keeps_rules-requires-clause-earlier
keeps_rules-requires-clause-earlier c = rw c.as_slice-gates.ensures (parents_earlier c.args.market.now c.requires)

pub returns-else-keeps_rules : goal.returns-else-keeps_rules
returns-else-keeps_rules c = (
  λ yes. absurd (cc),
  λ f. elim c.if-prefix-gates.branch [
    | then-prefix-gates w ↦
        let word : IsFeasibleWord c.as_slice-gates.result.now (word_of c.args.prefix.now) = rw c.as_slice-gates.ensures f.word in
        w.value-is ∙ w.keeps_rules.ensures.1 word
    | else-prefix-gates w ↦ absurd (omega (arith, ap length c.as_slice-gates.ensures, f.word.decided, length-decisions c.args.prefix.now c.args.prefix.now.length))
  ],
)

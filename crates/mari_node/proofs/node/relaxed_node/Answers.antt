use Rattle.std.specs.Prelude.{◌≡◌, is_some, true}
use Rattle.mari_node.proofs.Findings.{last_at, inner_at, none_is_inner}
use Rattle.mari_market.specs.Prefix.{word_of}
use Rattle.mari_node.proofs.node.relaxed_node.Goals as goal

pub last_node-requires-clause-optimum : goal.last_node-requires-clause-optimum
last_node-requires-clause-optimum c =
    (word_of c.args.prefix.now, last_at c.args.market.now c.args.prefix.now c.args.optimum c.as_slice.result.now c.as_slice.ensures c.if-prefix-as_slice.true c.requires.prefix c.requires.optimum)

pub inner_node-requires-clause-optimum : goal.inner_node-requires-clause-optimum
inner_node-requires-clause-optimum c =
    (word_of c.args.prefix.now, inner_at c.args.market.now c.args.prefix.now c.args.optimum c.as_slice.result.now c.as_slice.ensures c.if-prefix-as_slice.false c.requires.prefix c.requires.optimum)

pub returns-then-prefix-as_slice-clause-finding : goal.returns-then-prefix-as_slice-clause-finding
returns-then-prefix-as_slice-clause-finding c =
    c.last_node.ensures (word_of c.args.prefix.now)
    (last_at c.args.market.now c.args.prefix.now c.args.optimum c.as_slice.result.now c.as_slice.ensures c.if-prefix-as_slice.true c.requires.prefix c.requires.optimum)

pub returns-else-prefix-as_slice-clause-finding : goal.returns-else-prefix-as_slice-clause-finding
returns-else-prefix-as_slice-clause-finding c =
    c.inner_node.ensures.finding (word_of c.args.prefix.now)
    (inner_at c.args.market.now c.args.prefix.now c.args.optimum c.as_slice.result.now c.as_slice.ensures c.if-prefix-as_slice.false c.requires.prefix c.requires.optimum)

pub returns-then-prefix-as_slice-clause-best : goal.returns-then-prefix-as_slice-clause-best
returns-then-prefix-as_slice-clause-best c = λ a w adm.
    let at = last_at c.args.market.now c.args.prefix.now c.args.optimum c.as_slice.result.now c.as_slice.ensures c.if-prefix-as_slice.true c.requires.prefix c.requires.optimum in
    none_is_inner (λ relaxed. is_some relaxed.best ≡ true) c.last_node.result at.full

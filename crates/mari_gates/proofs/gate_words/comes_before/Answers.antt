use Rattle.mari_gates.proofs.GateWords.{differs_at, none_differs}
use Rattle.mari_gates.proofs.gate_words.comes_before.Goals as goal

pub returns-then-opens-opened : goal.returns-then-opens-opened
returns-then-opens-opened c =
    differs_at c.args.prefix.now c.args.word.now c.loop-gate.gate c.opens.result c.opens-opened.result c.requires.prefix c.requires.few
    c.loop-gate-test.true c.loop-gate.invariant c.opens.ensures c.opens-opened.ensures c.if-opens-opened.true

pub returns : goal.returns
returns c = none_differs c.args.prefix.now c.args.word.now c.loop-gate.gate c.requires.prefix c.requires.few c.loop-gate-test.false c.loop-gate.invariant

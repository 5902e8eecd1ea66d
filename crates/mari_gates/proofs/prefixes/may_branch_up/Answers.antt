use Rattle.std.proofs.Common.{◌≡◌, arith, ap, ◌∙◌, List}
use Rattle.mari_market.specs.declared.market.GateInfo.{GateInfo}
use Rattle.mari_market.specs.Prefix.{word_of, may_open}
use Rattle.mari_market.proofs.Prefixes.{closed_child}
use Rattle.mari_market.proofs.Search.{parents_earlier}
use Rattle.mari_gates.proofs.Decisions.{length-decisions, may_open_iff, children_read}
use Rattle.mari_gates.proofs.prefixes.may_branch_up.Goals as goal

pub returns-clause-may_open : goal.returns-clause-may_open
returns-clause-may_open c =
    let m = c.args.market.now in
    let x = c.args.prefix.now in
    let test : c.may_open_next.result ≡ may_open m.gates (word_of x) x.length = c.may_open_next.ensures ∙ ap (λ (gates : List GateInfo). may_open gates (word_of x) x.length) c.as_slice.ensures in
    may_open_iff m.gates x x.length c.may_open_next.result (parents_earlier m c.requires.market) c.requires.undecided c.requires.prefix.word test

pub returns-clause-may_close : goal.returns-clause-may_close
returns-clause-may_close c =
    closed_child c.args.market.now.gates (word_of c.args.prefix.now) c.requires.prefix.word (omega (arith, length-decisions c.args.prefix.now c.args.prefix.now.length))

pub returns-clause-children : goal.returns-clause-children
returns-clause-children c =
    let m = c.args.market.now in
    let x = c.args.prefix.now in
    let test : c.may_open_next.result ≡ may_open m.gates (word_of x) x.length = c.may_open_next.ensures ∙ ap (λ (gates : List GateInfo). may_open gates (word_of x) x.length) c.as_slice.ensures in
    children_read m.gates x x.length c.may_open_next.result test

use Rattle.mari_market.specs.Prefix.{word_of}
use Rattle.mari_workers.proofs.Closed.{closed_found, closed_has_best, closed_is_relaxed, closed_whole}
use Rattle.mari_workers.proofs.first.closed_optimum.Goals as goal

pub unreachable-requires : goal.unreachable-requires
unreachable-requires c =
    closed_is_relaxed c.args.market.now (word_of c.closed_prefix.result) c.in_ok-relaxed.field-0 c.requires c.closed_prefix.ensures.word
    c.in_ok-relaxed.ensures.finding c.in_default.not-Relaxed

pub unreachable-requires-in-None : goal.unreachable-requires-in-None
unreachable-requires-in-None c =
    let f = closed_found c.args.market.now (word_of c.closed_prefix.result) c.in_ok-relaxed.field-0 c.in-Relaxed.relaxed c.closed_prefix.ensures.word c.in-Relaxed.is c.in_ok-relaxed.ensures.finding in
    closed_has_best c.args.market.now c.in-Relaxed.relaxed c.requires f c.in-None.is

pub returns : goal.returns
returns c =
    let f = closed_found c.args.market.now (word_of c.closed_prefix.result) c.in_ok-relaxed.field-0 c.in-Relaxed.relaxed c.closed_prefix.ensures.word c.in-Relaxed.is c.in_ok-relaxed.ensures.finding in
    closed_whole c.args.market.now c.in-Relaxed.relaxed c.in-Some.first f c.in-Some.is

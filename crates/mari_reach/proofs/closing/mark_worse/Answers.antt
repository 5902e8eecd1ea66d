use Rattle.std.proofs.Common.{◌∙◌, sym}
use Rattle.mari_market.specs.Prefix.{opens_in}
use Rattle.mari_reach.specs.Tables.{outranks_in}
use Rattle.mari_reach.specs.Twins.{outranks}
use Rattle.mari_reach.proofs.LoneTables.{none_below, same_outranks, stays}
use Rattle.mari_reach.proofs.Ranges.{marked_from, marked_to}
use Rattle.mari_reach.proofs.closing.mark_worse.Goals as goal

pub returns-then-not-may_have : goal.returns-then-not-may_have
returns-then-not-may_have c = λ g l.
    let m = c.args.market.now in
    let t = c.args.twins.now in
    stays (opens_in c.args.marks.now g) (outranks m c.args.gate g)
    (sym (same_outranks m t.lone c.args.gate g c.requires.twins.lone c.requires.there l)
    ∙ none_below m t c.args.gate g c.requires.twins c.requires.there l (sym c.may_have.ensures ∙ c.if-not-may_have.true))

pub loop-other-preserved : goal.loop-other-preserved
loop-other-preserved c = record {
  done = marked_to c.loop-other.other c.outranks.result (λ g. outranks_in c.args.twins.now.lone c.args.gate g) (opens_in c.args.marks.now) (opens_in c.loop-other.marks) (opens_in c.mark_if.new.self)
      c.outranks.ensures c.loop-other.invariant.done c.loop-other.invariant.left c.mark_if.ensures;
  left = marked_from c.loop-other.other c.outranks.result (opens_in c.args.marks.now) (opens_in c.loop-other.marks) (opens_in c.mark_if.new.self) c.loop-other.invariant.left c.mark_if.ensures;
}

use Rattle.std.proofs.Common.{arith}
use Rattle.mari_settle.specs.Conditions.{AddUp}
use Rattle.mari_settle.specs.Lines.{together}
use Rattle.mari_settle.proofs.Lists.{changed_all, changed_more, same_after, unchanged_at}
use Rattle.mari_settle.proofs.addition.add_amounts.Goals as goal

pub sum_of-requires : goal.sum_of-requires
sum_of-requires c = unchanged_at AddUp c.loop-i.amounts c.args.amounts.now c.args.others.now c.loop-i.i _ (omega arith) c.loop-i.auto.amounts c.requires c.loop-i.invariant.rest

pub loop-i-preserved : goal.loop-i-preserved
loop-i-preserved c = record {
  written = changed_more together AddUp c.loop-i.amounts c.args.amounts.now c.args.others.now c.loop-i.i _ _
      (omega arith) c.loop-i.auto.amounts c.requires c.loop-i.invariant.rest c.loop-i.invariant.written c.sum_of.ensures;
  rest = same_after c.loop-i.amounts c.args.amounts.now c.loop-i.i _ c.loop-i.invariant.rest;
}

pub returns : goal.returns
returns c = changed_all together AddUp c.loop-i.amounts c.args.amounts.now c.args.others.now c.loop-i.i (omega arith) c.loop-i.auto.amounts c.requires c.loop-i.invariant.written

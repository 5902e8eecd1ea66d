use Rattle.std.proofs.Common.{◌∙◌, false, sym, arith}
use Rattle.std.proofs.lemmas.List.{ext_get_or}
use Rattle.mari_network.proofs.Marks.{none_marked}
use Rattle.mari_network.proofs.Resumed.{taken_back}
use Rattle.mari_network.proofs.search.take_back.Goals as goal

pub returns-then-left-marked : goal.returns-then-left-marked
returns-then-left-marked c = λ bs fs old start s left.
    ext_get_or false old c.unmark.new.marked (omega (arith, s.long))
    (λ z l. none_marked old z (omega (arith, s.long, left, c.if-left-marked.true)) ∙ sym (c.unmark.ensures z))

pub returns-else-left-marked : goal.returns-else-left-marked
returns-else-left-marked c = λ bs fs old start s left.
    taken_back bs fs old c.args.marked.now c.unmark_hops.new.marked c.args.hops.now start s (omega arith) c.unmark_hops.ensures.here c.unmark_hops.ensures.others

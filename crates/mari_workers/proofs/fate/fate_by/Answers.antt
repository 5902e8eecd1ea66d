use Rattle.std.proofs.Common.{◌∙◌, Some, None, sym}
use Rattle.mari_workers.proofs.Fates.{fate_apart}
use Rattle.mari_workers.proofs.fate.fate_by.Goals as goal

pub returns-in-Some : goal.returns-in-Some
returns-in-Some c =
    fate_apart c.args.finding c.take_best-best.new.finding (Some c.in-Some.other) c.take_best-best.result c.args.leaf c.args.most c.args.decided
    c.take_best-best.ensures.rest c.take_best-best.ensures.best (sym (sym c.closing_leaf.ensures ∙ c.in-Some.is))

pub returns-in-None : goal.returns-in-None
returns-in-None c =
    c.unbounded.ensures
    ∙ fate_apart c.args.finding c.take_best-best.new.finding None c.take_best-best.result c.args.leaf c.args.most c.args.decided
    c.take_best-best.ensures.rest c.take_best-best.ensures.best (sym (sym c.closing_leaf.ensures ∙ c.in-None.is))

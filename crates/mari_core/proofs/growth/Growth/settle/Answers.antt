use Rattle.std.proofs.Common.{ap, sym, ◌∙◌}
use Rattle.mari_core.specs.Growth.{grown, in_journal, settling_by}
use Rattle.mari_core.proofs.Entries.{return_passes}
use Rattle.mari_core.proofs.Settling.{may_close, may_branch}
use Rattle.mari_core.proofs.growth.Growth.settle.Goals as goal

pub close-requires : goal.close-requires
close-requires c = record {
  actor = c.args.actor;
  may = may_close c.args.self.now c.args.actor c.args.node c.args.cutoff c.args.finding c.in-Some.leaf c.in_ok-check_taken.ensures.facts c.requires.cutoff c.requires.finding
      (return_passes c.args.actor _ c.in_ok-check_taken.ensures.answer) (sym c.closing_leaf.ensures ∙ c.in-Some.is);
}

pub branch_or_mark-requires : goal.branch_or_mark-requires
branch_or_mark-requires c = record {
  actor = c.args.actor;
  cutoff = c.args.cutoff;
  may = may_branch c.args.self.now c.args.actor c.args.node c.args.cutoff c.args.finding c.in_ok-check_taken.ensures.facts c.requires.cutoff c.requires.finding
      (return_passes c.args.actor _ c.in_ok-check_taken.ensures.answer) (sym c.closing_leaf.ensures ∙ c.in-None.is);
}

pub returns-in-Some-clause-change : goal.returns-in-Some-clause-change
returns-in-Some-clause-change c =
    c.close.ensures.change c.args.actor ∙ ap (λ o. grown c.args.self.now (settling_by c.args.self.now c.args.actor c.args.node c.args.cutoff o)) (sym (sym c.closing_leaf.ensures ∙ c.in-Some.is))

pub returns-in-Some-clause-entry : goal.returns-in-Some-clause-entry
returns-in-Some-clause-entry c =
    ap (λ o. in_journal (settling_by c.args.self.now c.args.actor c.args.node c.args.cutoff o)) (sym (sym c.closing_leaf.ensures ∙ c.in-Some.is))

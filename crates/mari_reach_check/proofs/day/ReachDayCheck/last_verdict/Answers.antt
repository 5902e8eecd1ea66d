use Rattle.std.proofs.Common.{arith}
use Rattle.mari_reach_text.proofs.Accepted.{both_claims}
use Rattle.mari_reach_check.proofs.Verdicts.{is-missing, is-valid, other-totals, own-sums, those-sums}
use Rattle.mari_reach_check.proofs.day.ReachDayCheck.last_verdict.Goals as goal

pub returns-in-Missing : goal.returns-in-Missing
returns-in-Missing c = λ p head budget checked first second.
    let ends = c.in-Missing.ensures p.blocks checked in
    is-missing c.args.books.now p head c.args.self.now budget checked c.in-Missing.run' c.number.result ends.0 ends.1 c.number.ensures

pub returns-in-OtherTotals : goal.returns-in-OtherTotals
returns-in-OtherTotals c = λ p head budget checked first second.
    let ends = c.in-OtherTotals.ensures p.blocks checked in
    other-totals c.args.books.now p head c.args.self.now budget checked ends.0 c.run_count.result c.number-in-OtherTotals.result
    (λ own. ends.1 (those-sums c.args.books.now p.blocks p.operators _ p.providers _ first second own)) c.run_count.ensures c.number-in-OtherTotals.ensures

pub returns-in-Whole : goal.returns-in-Whole
returns-in-Whole c = λ p head budget checked first second.
    let ends = c.in-Whole.ensures p.blocks checked in (
      is-valid c.args.books.now p head c.args.self.now budget checked ends.0 (own-sums c.args.books.now p.blocks p.operators _ p.providers _ first second ends.1),
      ends.2,
      omega (arith, ends.2, ends.3, both_claims p.blocks),
    )

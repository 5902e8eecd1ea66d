use Rattle.std.proofs.Common.{arith}
use Rattle.std.proofs.lemmas.Result.{err_from_is_err_and}
use Rattle.serde_json.specs.Data.{no_members}
use Rattle.serde_json.specs.View.{view}
use Rattle.mari_feed.proofs.NotRead.{begins, after, going_on, member_unread}
use Rattle.mari_feed.proofs.part.read_head.Goals as goal

pub returns-in_err-budget : goal.returns-in_err-budget
returns-in_err-budget c = grind (arith, member_unread, err_from_is_err_and, begins)

pub returns-in_err-date : goal.returns-in_err-date
returns-in_err-date c = grind (arith, member_unread, err_from_is_err_and, begins, after)

pub returns-in_err-quarters : goal.returns-in_err-quarters
returns-in_err-quarters c = member_unread _ _ _ _ no_members _ _ (view c.args.value.now) _ c.from_residual-in_err-quarters.result
    (err_from_is_err_and c.from_residual-in_err-quarters.result c.from_residual-in_err-quarters.ensures.1) c.in_err-quarters.ensures (λ z r e.
    let m0 = begins _ _ _ c.in_ok-members.ensures e in
    let m1 = after _ _ _ _ _ _ c.in_ok-budget.ensures.1 m0 in
    let m2 = after _ _ _ _ _ _ c.in_ok-date.ensures.1 m1 in
    (z.1, no_members, r.1, m2))

pub returns : goal.returns
returns c = grind (arith, going_on)

use Rattle.std.proofs.Common.{codes, arith}
use Rattle.std.proofs.lemmas.Result.{err_from_is_err_and}
use Rattle.serde_json.specs.Data.{member, no_members}
use Rattle.serde_json.specs.View.{view}
use Rattle.mari_feed.specs.Values.{money_value}
use Rattle.mari_feed.proofs.NotRead.{begins, after, going_on, member_unread}
use Rattle.mari_feed.proofs.lines.MoneyLineForm.read.Goals as goal

pub returns-in_err-name : goal.returns-in_err-name
returns-in_err-name c = grind (arith, member_unread, err_from_is_err_and, begins)

pub returns-in_err-net : goal.returns-in_err-net
returns-in_err-net c = grind (arith, member_unread, err_from_is_err_and, begins, after)

pub returns-in_err-payment : goal.returns-in_err-payment
returns-in_err-payment c = member_unread _ _ _ _ no_members _ _ (view c.args.value.now) _ c.from_residual-in_err-payment.result
    (err_from_is_err_and c.from_residual-in_err-payment.result c.from_residual-in_err-payment.ensures.1) c.in_err-payment.ensures (λ o r e.
    let m0 = begins _ _ _ c.in_ok-members.ensures e in
    let m1 = after _ _ _ _ _ _ c.in_ok-name.ensures.1 m0 in
    let m2 = after _ _ _ _ _ _ c.in_ok-net.ensures.1 m1 in
    (o.payment, member (codes "rent") (money_value o.rent) no_members, r.1, m2))

pub returns-in_err-rent : goal.returns-in_err-rent
returns-in_err-rent c = grind (arith, member_unread, err_from_is_err_and, begins, after)

pub returns : goal.returns
returns c = grind (arith, going_on)

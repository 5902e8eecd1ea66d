use Rattle.std.proofs.Common.{codes, arith}
use Rattle.std.proofs.lemmas.Result.{err_from_is_err_and}
use Rattle.serde_json.specs.Data.{member, no_members}
use Rattle.serde_json.specs.View.{view}
use Rattle.mari_feed.specs.Values.{list_of, natural, whole}
use Rattle.mari_feed.proofs.NotRead.{begins, after, going_on, member_unread}
use Rattle.mari_feed.proofs.tree.ConflictForm.read.Goals as goal

pub returns-in_err-cents : goal.returns-in_err-cents
returns-in_err-cents c = grind (arith, member_unread, err_from_is_err_and, begins)

pub returns-in_err-chain : goal.returns-in_err-chain
returns-in_err-chain c = member_unread _ _ _ _ no_members _ _ (view c.args.value.now) _ c.from_residual-in_err-chain.result
    (err_from_is_err_and c.from_residual-in_err-chain.result c.from_residual-in_err-chain.ensures.1) c.in_err-chain.ensures (λ z r e.
    let m0 = begins _ _ _ c.in_ok-members.ensures e in
    let m1 = after _ _ _ _ _ _ c.in_ok-cents.ensures.1 m0 in
    (z.chain, member (codes "flows") (list_of whole z.activation.flow) (member (codes "mws") (list_of natural z.activation.mw) no_members), r.0, m1))

pub returns-in_err-flow : goal.returns-in_err-flow
returns-in_err-flow c = grind (arith, member_unread, err_from_is_err_and, begins, after)

pub returns-in_err-mw : goal.returns-in_err-mw
returns-in_err-mw c = grind (arith, member_unread, err_from_is_err_and, begins, after)

pub returns : goal.returns
returns c = grind (arith, going_on)

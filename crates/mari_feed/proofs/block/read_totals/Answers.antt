use Rattle.std.proofs.Common.{arith, rules}
use Rattle.std.proofs.lemmas.Result.{err_from_is_err_and}
use Rattle.serde_json.specs.Data.{no_members}
use Rattle.serde_json.specs.View.{view}
use Rattle.mari_feed.proofs.NotRead.{begins, after, going_on, member_unread}
use Rattle.mari_feed.proofs.block.read_totals.Goals as goal

pub returns-in_err-operators : goal.returns-in_err-operators
returns-in_err-operators c = search (rules, member_unread, err_from_is_err_and, begins)

pub returns-in_err-providers : goal.returns-in_err-providers
returns-in_err-providers c = member_unread _ _ _ _ no_members _ _ (view c.args.value.now) _ c.from_residual-in_err-providers.result
    (err_from_is_err_and c.from_residual-in_err-providers.result c.from_residual-in_err-providers.ensures.1) c.in_err-providers.ensures (λ z r e.
    let m0 = begins _ _ _ c.in_ok-members.ensures e in
    let m1 = after _ _ _ _ _ _ c.in_ok-operators.ensures.1 m0 in
    (z.1, no_members, r.1, m1))

pub returns : goal.returns
returns c = grind (arith, going_on)

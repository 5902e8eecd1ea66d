use Rattle.std.proofs.Common.{sym, ap, ◌∙◌}
use Rattle.std.proofs.lemmas.Result.{err_from_is_err_and}
use Rattle.serde_json.specs.Data.{no_members, object}
use Rattle.serde_json.specs.View.{view}
use Rattle.mari_feed.proofs.NotRead.{begins, going_on, member_unread}
use Rattle.mari_feed.proofs.tree.PricesForm.read.Goals as goal

pub returns-in_err-cents : goal.returns-in_err-cents
returns-in_err-cents c = member_unread _ _ _ _ no_members _ _ (view c.args.value.now) _ c.from_residual-in_err-cents.result
    (err_from_is_err_and c.from_residual-in_err-cents.result c.from_residual-in_err-cents.ensures.1) c.in_err-cents.ensures (λ p r e. (p.cents, no_members, r, begins _ _ _ c.in_ok-members.ensures e))

pub returns : goal.returns
returns c =
    let m0 = going_on _ _ _ _ _ c.in_ok-cents.ensures.1 c.in_ok-end.ensures in
    (c.in_ok-cents.ensures.0, sym (c.in_ok-members.ensures ∙ ap object m0))

use Rattle.std.proofs.Common.{codes, arith, rules}
use Rattle.std.proofs.lemmas.Result.{err_from_is_err_and}
use Rattle.serde_json.specs.Data.{member, no_members, string}
use Rattle.serde_json.specs.View.{view}
use Rattle.mari_feed.specs.Values.{price_value}
use Rattle.mari_feed.proofs.NotRead.{begins, after, going_on, member_unread}
use Rattle.mari_feed.proofs.lines.ZoneLineForm.read.Goals as goal

pub returns-in_err-area : goal.returns-in_err-area
returns-in_err-area c = grind (arith, member_unread, err_from_is_err_and, begins)

pub returns-in_err-greatest : goal.returns-in_err-greatest
returns-in_err-greatest c = member_unread _ _ _ _ no_members _ _ (view c.args.value.now) _ c.from_residual-in_err-greatest.result
    (err_from_is_err_and c.from_residual-in_err-greatest.result c.from_residual-in_err-greatest.ensures.1) c.in_err-greatest.ensures (λ z r e.
    let m0 = begins _ _ _ c.in_ok-members.ensures e in
    let m1 = after _ _ _ _ _ _ c.in_ok-area.ensures.1 m0 in
    (z.greatest, member (codes "least") (price_value z.least) (member (codes "name") (string z.name) (member (codes "price") (price_value z.price) no_members)), r.3, m1))

pub returns-in_err-least : goal.returns-in_err-least
returns-in_err-least c = grind (arith, member_unread, err_from_is_err_and, begins, after)

pub returns-in_err-name : goal.returns-in_err-name
returns-in_err-name c = search (rules, member_unread, err_from_is_err_and, begins, after)

pub returns-in_err-price : goal.returns-in_err-price
returns-in_err-price c = member_unread _ _ _ _ no_members _ _ (view c.args.value.now) _ c.from_residual-in_err-price.result
    (err_from_is_err_and c.from_residual-in_err-price.result c.from_residual-in_err-price.ensures.1) c.in_err-price.ensures (λ z r e.
    let m0 = begins _ _ _ c.in_ok-members.ensures e in
    let m1 = after _ _ _ _ _ _ c.in_ok-area.ensures.1 m0 in
    let m2 = after _ _ _ _ _ _ c.in_ok-greatest.ensures.1 m1 in
    let m3 = after _ _ _ _ _ _ c.in_ok-least.ensures.1 m2 in
    let m4 = after _ _ _ _ _ _ c.in_ok-name.ensures.1 m3 in
    (z.price, no_members, r.1, m4))

pub returns : goal.returns
returns c = grind (arith, going_on)

use Rattle.std.proofs.Common.{codes, refl, sym, ap, ◌∙◌, arith, rules}
use Rattle.std.proofs.lemmas.Result.{err_from_is_err_and}
use Rattle.serde_json.specs.Data.{member, no_members, object}
use Rattle.serde_json.specs.View.{view}
use Rattle.mari_feed.specs.Values.{item_value, kind_value, list_of, natural, operator_value, provider_value, zone_value}
use Rattle.mari_feed.proofs.NotRead.{begins, after, going_on, member_unread, no_object, not_the_end}
use Rattle.mari_feed.proofs.block.FullBlockForm.read.Goals as goal

pub returns-in_err-bids : goal.returns-in_err-bids
returns-in_err-bids c = grind (arith, member_unread, err_from_is_err_and, begins)

pub returns-in_err-borders : goal.returns-in_err-borders
returns-in_err-borders c = grind (arith, member_unread, err_from_is_err_and, begins, after)

pub returns-in_err-demands : goal.returns-in_err-demands
returns-in_err-demands c = member_unread _ _ _ _ no_members _ _ (view c.args.value.now) _ c.from_residual-in_err-demands.result
    (err_from_is_err_and c.from_residual-in_err-demands.result c.from_residual-in_err-demands.ensures.1) c.in_err-demands.ensures (λ b r e.
    let m0 = begins _ _ _ c.in_ok-members.ensures e in
    let m1 = after _ _ _ _ _ _ c.in_ok-bids.ensures.1 m0 in
    let m2 = after _ _ _ _ _ _ c.in_ok-borders.ensures.1 m1 in (
      b.demands,
      member (codes "kind") (kind_value b.heading.direct) (member (codes "operators") (list_of operator_value b.operators)
          (member (codes "providers") (list_of provider_value b.providers) (member (codes "quarter") (natural b.heading.quarter) (member (codes "run") (natural b.heading.run)
          (member (codes "tree") (list_of item_value b.tree) (member (codes "welfare") (natural b.welfare) (member (codes "zones") (list_of zone_value b.zones) no_members))))))),
      r.demands,
      m2,
    ))

pub returns-in_err-direct : goal.returns-in_err-direct
returns-in_err-direct c = search (rules, member_unread, err_from_is_err_and, begins, after)

pub returns-in_err-operators : goal.returns-in_err-operators
returns-in_err-operators c = member_unread _ _ _ _ no_members _ _ (view c.args.value.now) _ c.from_residual-in_err-operators.result
    (err_from_is_err_and c.from_residual-in_err-operators.result c.from_residual-in_err-operators.ensures.1) c.in_err-operators.ensures (λ b r e.
    let m0 = begins _ _ _ c.in_ok-members.ensures e in
    let m1 = after _ _ _ _ _ _ c.in_ok-bids.ensures.1 m0 in
    let m2 = after _ _ _ _ _ _ c.in_ok-borders.ensures.1 m1 in
    let m3 = after _ _ _ _ _ _ c.in_ok-demands.ensures.1 m2 in
    let m4 = after _ _ _ _ _ _ c.in_ok-direct.ensures.1 m3 in (
      b.operators,
      member (codes "providers") (list_of provider_value b.providers) (member (codes "quarter") (natural b.heading.quarter) (member (codes "run") (natural b.heading.run)
          (member (codes "tree") (list_of item_value b.tree) (member (codes "welfare") (natural b.welfare) (member (codes "zones") (list_of zone_value b.zones) no_members))))),
      r.operators,
      m4,
    ))

pub returns-in_err-providers : goal.returns-in_err-providers
returns-in_err-providers c = member_unread _ _ _ _ no_members _ _ (view c.args.value.now) _ c.from_residual-in_err-providers.result
    (err_from_is_err_and c.from_residual-in_err-providers.result c.from_residual-in_err-providers.ensures.1) c.in_err-providers.ensures (λ b r e.
    let m0 = begins _ _ _ c.in_ok-members.ensures e in
    let m1 = after _ _ _ _ _ _ c.in_ok-bids.ensures.1 m0 in
    let m2 = after _ _ _ _ _ _ c.in_ok-borders.ensures.1 m1 in
    let m3 = after _ _ _ _ _ _ c.in_ok-demands.ensures.1 m2 in
    let m4 = after _ _ _ _ _ _ c.in_ok-direct.ensures.1 m3 in
    let m5 = after _ _ _ _ _ _ c.in_ok-operators.ensures.1 m4 in (
      b.providers,
      member (codes "quarter") (natural b.heading.quarter) (member (codes "run") (natural b.heading.run)
          (member (codes "tree") (list_of item_value b.tree) (member (codes "welfare") (natural b.welfare) (member (codes "zones") (list_of zone_value b.zones) no_members)))),
      r.providers,
      m5,
    ))

pub returns-in_err-quarter : goal.returns-in_err-quarter
returns-in_err-quarter c = member_unread _ _ _ _ no_members _ _ (view c.args.value.now) _ c.from_residual-in_err-quarter.result
    (err_from_is_err_and c.from_residual-in_err-quarter.result c.from_residual-in_err-quarter.ensures.1) c.in_err-quarter.ensures (λ b r e.
    let m0 = begins _ _ _ c.in_ok-members.ensures e in
    let m1 = after _ _ _ _ _ _ c.in_ok-bids.ensures.1 m0 in
    let m2 = after _ _ _ _ _ _ c.in_ok-borders.ensures.1 m1 in
    let m3 = after _ _ _ _ _ _ c.in_ok-demands.ensures.1 m2 in
    let m4 = after _ _ _ _ _ _ c.in_ok-direct.ensures.1 m3 in
    let m5 = after _ _ _ _ _ _ c.in_ok-operators.ensures.1 m4 in
    let m6 = after _ _ _ _ _ _ c.in_ok-providers.ensures.1 m5 in (
      b.heading.quarter,
      member (codes "run") (natural b.heading.run)
          (member (codes "tree") (list_of item_value b.tree) (member (codes "welfare") (natural b.welfare) (member (codes "zones") (list_of zone_value b.zones) no_members))),
      r.heading.1,
      m6,
    ))

pub returns-in_err-run : goal.returns-in_err-run
returns-in_err-run c = member_unread _ _ _ _ no_members _ _ (view c.args.value.now) _ c.from_residual-in_err-run.result
    (err_from_is_err_and c.from_residual-in_err-run.result c.from_residual-in_err-run.ensures.1) c.in_err-run.ensures (λ b r e.
    let m0 = begins _ _ _ c.in_ok-members.ensures e in
    let m1 = after _ _ _ _ _ _ c.in_ok-bids.ensures.1 m0 in
    let m2 = after _ _ _ _ _ _ c.in_ok-borders.ensures.1 m1 in
    let m3 = after _ _ _ _ _ _ c.in_ok-demands.ensures.1 m2 in
    let m4 = after _ _ _ _ _ _ c.in_ok-direct.ensures.1 m3 in
    let m5 = after _ _ _ _ _ _ c.in_ok-operators.ensures.1 m4 in
    let m6 = after _ _ _ _ _ _ c.in_ok-providers.ensures.1 m5 in
    let m7 = after _ _ _ _ _ _ c.in_ok-quarter.ensures.1 m6 in
    (b.heading.run, member (codes "tree") (list_of item_value b.tree) (member (codes "welfare") (natural b.welfare) (member (codes "zones") (list_of zone_value b.zones) no_members)), r.heading.0, m7))

pub returns-in_err-tree : goal.returns-in_err-tree
returns-in_err-tree c = member_unread _ _ _ _ no_members _ _ (view c.args.value.now) _ c.from_residual-in_err-tree.result
    (err_from_is_err_and c.from_residual-in_err-tree.result c.from_residual-in_err-tree.ensures.1) c.in_err-tree.ensures (λ b r e.
    let m0 = begins _ _ _ c.in_ok-members.ensures e in
    let m1 = after _ _ _ _ _ _ c.in_ok-bids.ensures.1 m0 in
    let m2 = after _ _ _ _ _ _ c.in_ok-borders.ensures.1 m1 in
    let m3 = after _ _ _ _ _ _ c.in_ok-demands.ensures.1 m2 in
    let m4 = after _ _ _ _ _ _ c.in_ok-direct.ensures.1 m3 in
    let m5 = after _ _ _ _ _ _ c.in_ok-operators.ensures.1 m4 in
    let m6 = after _ _ _ _ _ _ c.in_ok-providers.ensures.1 m5 in
    let m7 = after _ _ _ _ _ _ c.in_ok-quarter.ensures.1 m6 in
    let m8 = after _ _ _ _ _ _ c.in_ok-run.ensures.1 m7 in
    (b.tree, member (codes "welfare") (natural b.welfare) (member (codes "zones") (list_of zone_value b.zones) no_members), r.tree, m8))

pub returns-in_err-welfare : goal.returns-in_err-welfare
returns-in_err-welfare c = member_unread _ _ _ _ no_members _ _ (view c.args.value.now) _ c.from_residual-in_err-welfare.result
    (err_from_is_err_and c.from_residual-in_err-welfare.result c.from_residual-in_err-welfare.ensures.1) c.in_err-welfare.ensures (λ b r e.
    let m0 = begins _ _ _ c.in_ok-members.ensures e in
    let m1 = after _ _ _ _ _ _ c.in_ok-bids.ensures.1 m0 in
    let m2 = after _ _ _ _ _ _ c.in_ok-borders.ensures.1 m1 in
    let m3 = after _ _ _ _ _ _ c.in_ok-demands.ensures.1 m2 in
    let m4 = after _ _ _ _ _ _ c.in_ok-direct.ensures.1 m3 in
    let m5 = after _ _ _ _ _ _ c.in_ok-operators.ensures.1 m4 in
    let m6 = after _ _ _ _ _ _ c.in_ok-providers.ensures.1 m5 in
    let m7 = after _ _ _ _ _ _ c.in_ok-quarter.ensures.1 m6 in
    let m8 = after _ _ _ _ _ _ c.in_ok-run.ensures.1 m7 in
    let m9 = after _ _ _ _ _ _ c.in_ok-tree.ensures.1 m8 in
    (b.welfare, member (codes "zones") (list_of zone_value b.zones) no_members, r.welfare, m9))

pub returns-in_err-zones : goal.returns-in_err-zones
returns-in_err-zones c = search (rules, member_unread, err_from_is_err_and, begins, after)

pub returns-in_err-members : goal.returns-in_err-members
returns-in_err-members c =
    no_object _ _ (view c.args.value.now) _ c.from_residual.result (err_from_is_err_and c.from_residual.result c.from_residual.ensures.1) c.in_err-members.ensures (λ b. (_, refl))

pub returns-in_err-end : goal.returns-in_err-end
returns-in_err-end c = search (rules, not_the_end, err_from_is_err_and, begins, after)

pub returns : goal.returns
returns c =
    let m10 = going_on _ _ _ _ _ c.in_ok-zones.ensures.1 c.in_ok-end.ensures in
    let m9 = going_on _ _ _ _ _ c.in_ok-welfare.ensures.1 m10 in
    let m8 = going_on _ _ _ _ _ c.in_ok-tree.ensures.1 m9 in
    let m7 = going_on _ _ _ _ _ c.in_ok-run.ensures.1 m8 in
    let m6 = going_on _ _ _ _ _ c.in_ok-quarter.ensures.1 m7 in
    let m5 = going_on _ _ _ _ _ c.in_ok-providers.ensures.1 m6 in
    let m4 = going_on _ _ _ _ _ c.in_ok-operators.ensures.1 m5 in
    let m3 = going_on _ _ _ _ _ c.in_ok-direct.ensures.1 m4 in
    let m2 = going_on _ _ _ _ _ c.in_ok-demands.ensures.1 m3 in
    let m1 = going_on _ _ _ _ _ c.in_ok-borders.ensures.1 m2 in
    let m0 = going_on _ _ _ _ _ c.in_ok-bids.ensures.1 m1 in (
      record {
        heading = (c.in_ok-run.ensures.0, c.in_ok-quarter.ensures.0);
        welfare = c.in_ok-welfare.ensures.0;
        zones = c.in_ok-zones.ensures.0;
        borders = c.in_ok-borders.ensures.0;
        bids = c.in_ok-bids.ensures.0;
        demands = c.in_ok-demands.ensures.0;
        tree = c.in_ok-tree.ensures.0;
        operators = c.in_ok-operators.ensures.0;
        providers = c.in_ok-providers.ensures.0;
      },
      sym (c.in_ok-members.ensures ∙ ap object m0),
    )

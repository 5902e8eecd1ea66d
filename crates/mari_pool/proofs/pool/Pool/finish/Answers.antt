use Rattle.std.proofs.Common.{◌≤◌, pos, ap, subst, arith}
use Rattle.mari_market.specs.declared.market.Market.{Market}
use Rattle.mari_market.specs.Tree.{TreeHolds}
use Rattle.mari_core.proofs.Journals.{leads_above, cut_by_journal}
use Rattle.mari_pool.specs.Pooled.{Pooled}
use Rattle.mari_pool.proofs.pool.Pool.finish.Goals as goal

pub returns-in-Ok-clause-holds : goal.returns-in-Ok-clause-holds
returns-in-Ok-clause-holds g c = λ w l.
    let seen : c.self.inside.seat.seen ≤ w = omega (arith, l, ap (λ (p : Pooled). p.seat.seen) c.self.view_is) in
    subst (λ (m : Market). TreeHolds m (pos w) c.in-Ok.items.items) c.self.invariant.0.market_is
    (c.in-Ok.ensures.holds w
    (cut_by_journal c.self.inside.journal.items w c.self.inside.tree (leads_above c.self.inside.journal.items c.self.inside.seat.seen w c.self.inside.tree seen c.self.invariant.0.leads)))

use Rattle.std.proofs.Common.{◌≡◌, ◌≤◌, ◌∙◌, max, pos, List, [], ◌∷◌, length, map, arith, refl, sym, subst, ap}
use Rattle.std.specs.Option.{unwrap_or}
use Rattle.mari_market.specs.declared.certificate.TreeItem.{TreeItem}
use Rattle.mari_market.specs.declared.finding.Attained.{Attained}
use Rattle.mari_market.specs.Clearing.{ArePartsOfSearch}
use Rattle.mari_market.specs.Finding.{IsAttained}
use Rattle.mari_market.specs.Tree.{TreeHolds}
use Rattle.mari_core.specs.Preorder.{shape_of}
use Rattle.mari_incumbent.specs.Incumbent.{SeatView}
use Rattle.mari_pool.specs.declared.pool.PoolFault.{PoolFault}
use Rattle.mari_pool.specs.Taking.{IsOpenAt}
use Rattle.mari_workers.proofs.Rest.{all_done, best_of_all, clearing_by_tree, refinable}
use Rattle.mari_workers.proofs.together.optimum_of_pool.Goals as goal

pub unreachable-requires : goal.unreachable-requires
unreachable-requires g c =
    let fault = subst (λ (f : PoolFault). IsOpenAt c.args.pool.tree.nodes f) c.in-Err-NotClosed.field-0-is c.in-Err-NotClosed.ensures.not_closed in
    all_done c.args.pool.tree.nodes c.in-Err-NotClosed.field-0-0 fault c.requires.idle.none_waits c.requires.idle.taken

pub returns : goal.returns
returns g c =
    let m = g.N.SearchName.market in
    let incumbent = g.N.SearchName.incumbent in
    let best = best_of_all m incumbent.first c.args.mine.seat.offered c.args.mine.best c.args.first c.requires.mine.best c.requires.first.0 c.requires.first.1 in
    let a : Attained = c.unwrap_or-best.result in
    let is : unwrap_or c.args.mine.best c.args.first ≡ a = sym c.unwrap_or-best.ensures in
    let attained : IsAttained m a = subst (IsAttained m) is best.0 in
    let offered : c.close-welfare.result ≡ max c.args.mine.seat.offered c.into_seat.result.offered = c.close-welfare.ensures.offered ∙ ap (λ (s : SeatView). s.offered) c.join.ensures in
    let welfare : c.close-welfare.result ≡ a.welfare = omega (arith, offered, c.into_seat.ensures.fresh.2, best.2, best.1, ap (λ (b : Attained). b.welfare) is) in
    let seen : c.close-welfare.result ≡ max c.args.mine.seat.seen c.into_seat.result.seen = c.close-welfare.ensures.seen ∙ ap (λ (s : SeatView). s.seen) c.join.ensures in
    let above : c.args.pool.seat.seen ≤ c.close-welfare.result = omega (arith, seen, ap (λ (s : SeatView). s.seen) c.into_seat.ensures.seat) in
    refinable m g.N.SearchName.budget incumbent.first c.args.mine.seat.offered c.args.mine.best c.args.first _
    (clearing_by_tree m g.N.SearchName.budget _ a c.requires.market attained refl welfare
    (subst (λ (items : List TreeItem). TreeHolds m (pos c.close-welfare.result) items) (sym c.of.ensures) (c.in-Ok.ensures.holds c.close-welfare.result above))
    (omega (arith, ap length c.of.ensures, c.in-Ok.ensures.within_budget)))
    (subst (λ (items : List TreeItem). ArePartsOfSearch m ([] ∷ []) (map shape_of items)) (sym c.of.ensures) c.in-Ok.ensures.search)
    c.requires.closed c.requires.gates c.requires.mine.best (ap (λ (b : Attained). b.activation) (sym is)) (welfare ∙ ap (λ (b : Attained). b.welfare) (sym is))

use Rattle.std.proofs.Common.{◌≡◌, List, arith, refl, length, pos, sym, ap, subst, ◌∙◌}
use Rattle.mari_market.specs.declared.certificate.TreeItem.{TreeItem}
use Rattle.mari_market.specs.declared.finding.Attained.{Attained}
use Rattle.mari_market.specs.Clearing.{IsOptimalClearing}
use Rattle.mari_market.specs.Tree.{TreeHolds}
use Rattle.mari_core.specs.Machine.{Machine}
use Rattle.mari_core.proofs.Machines.{clearing_by, first_is_best}
use Rattle.mari_core.proofs.search.Search.finish.Goals as goal

pub returns-clause-clearing : goal.returns-clause-clearing
returns-clause-clearing c =
    subst
    (λ (s : Machine). IsOptimalClearing s.tree.market s.tree.budget (record { activation = c.best_of-best.result.activation; welfare = c.self.inside.incumbent; tree = c.of.result }))
    c.self.view_is
    (clearing_by (record { tree = c.self.inside.tree; incumbent = c.self.inside.incumbent; actors = c.self.inside.actors.items; first = c.self.inside.first }) _ c.self.invariant
    (ap (λ (a : Attained). a.activation) c.best_of-best.ensures) refl
    (subst (λ (items : List TreeItem). TreeHolds c.self.inside.tree.market (pos c.self.inside.incumbent) items) (sym c.of.ensures)
    (c.in_ok-tree.ensures.holds c.self.inside.incumbent c.self.invariant.cutoffs))
    (omega (arith, ap length c.of.ensures, c.in_ok-tree.ensures.within_budget)))

pub returns-clause-first : goal.returns-clause-first
returns-clause-first c = λ e.
    ap (λ (a : Attained). a.activation) (c.best_of-best.ensures ∙ first_is_best (record {
      tree = c.self.inside.tree;
      incumbent = c.self.inside.incumbent;
      actors = c.self.inside.actors.items;
      first = c.self.inside.first;
    }) c.self.invariant
    (subst (λ (s : Machine). s.incumbent ≡ s.first.welfare) (sym c.self.view_is) e))
    ∙ ap (λ (s : Machine). s.first.activation) c.self.view_is

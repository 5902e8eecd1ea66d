use Rattle.std.proofs.Common.{ℕ, List, ◌∙◌, ap, map}
use Rattle.mari_islands.specs.declared.islands.Island.{Island}
use Rattle.mari_islands.specs.Islands.{AreIslands, has_first, first_zones}
use Rattle.mari_islands.specs.Part.{part_of}
use Rattle.mari_islands.proofs.Laws.{islands_valid}
use Rattle.mari_islands.proofs.islands.islands_of.Goals as goal

pub returns-clause-valid : goal.returns-clause-valid
returns-clause-valid c =
    let m = c.args.market.now in
    let firsts : List ℕ = c.in_ok-firsts.firsts.items in
    let parts : List ℕ → List Island = λ fs. map (λ first. part_of m (has_first fs first)) (first_zones fs) in
    let are : AreIslands m c.in_ok-islands.islands.items = record {
      firsts = firsts;
      are_firsts = c.in_ok-firsts.ensures;
      parts = c.in_ok-islands.ensures ∙ ap parts c.deref-3.ensures.value;
    } in
    islands_valid m c.in_ok-islands.islands.items c.requires are

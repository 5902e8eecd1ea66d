use Rattle.std.proofs.Common.{List, map, sym, ap, subst, ◌∙◌, IsPermutation, Vec, Global}
use Rattle.std.proofs.lemmas.List.Sorted.{IsPermutation-map}
use Rattle.std.proofs.lemmas.Result.{IfOk-weaker}
use Rattle.mari_network.specs.declared.network.Rung.{Rung}
use Rattle.mari_network.specs.Network.{IsRising}
use Rattle.mari_network.specs.Words.{rung_in}
use Rattle.mari_network.proofs.Words.{rising}
use Rattle.mari_network.proofs.network.ladder_of.Goals as goal

pub returns-clause-same : goal.returns-clause-same
returns-clause-same c =
    let moved = IsPermutation-map rung_in c.args.words.now.items c.sort_unstable.new.self.items c.sort_unstable.ensures.permutation in
    IfOk-weaker c.rungs_of.result _ _
    (λ (v : Vec Rung Global) e. subst (λ (rs : List Rung). IsPermutation (map rung_in c.args.words.now.items) rs) (sym (e ∙ ap (map rung_in) c.deref.ensures.value)) moved) c.rungs_of.ensures

pub returns-clause-rising : goal.returns-clause-rising
returns-clause-rising c =
    let up = rising c.sort_unstable.new.self.items c.sort_unstable.ensures.sorted in
    IfOk-weaker c.rungs_of.result _ _ (λ (v : Vec Rung Global) e. subst (λ (rs : List Rung). IsRising rs) (sym (e ∙ ap (map rung_in) c.deref.ensures.value)) up) c.rungs_of.ensures

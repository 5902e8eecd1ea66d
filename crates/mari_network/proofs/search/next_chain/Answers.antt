use Rattle.std.proofs.Common.{◌∙◌, Bool, ℤ, List, Option, Some, None, Result, Ok, Err, MatchOption, IfOk, length, ap, sym, subst}
use Rattle.std.specs.Option.{IfSome}
use Rattle.std.proofs.lemmas.List.{with_items_is}
use Rattle.mari_network.specs.Searching.{AreTightPrices, AreUnmarked}
use Rattle.mari_network.specs.Chain.{IsImproving}
use Rattle.mari_network.proofs.search.next_chain.Goals as goal

-- two facts of one answer
both : {X E : Type 0} {P Q R : Type 0} (r : Result (Option X) E) → (P → Q → R) → IfOk r (λ o. IfSome o (λ _. P)) → IfOk r (λ o. IfSome o (λ _. Q)) → IfOk r (λ o. IfSome o (λ _. R))
both (Ok (Some x)) f p q = f p q
both (Ok None) f p q = tt
both (Err e) f p q = tt

pub returns-clause-found : goal.returns-clause-found
returns-clause-found c =
    let n = c.args.network.now in
    let prices = with_items_is c.args.search.now.prices c.chain_by_levels.new.prices (c.chain_by_levels.auto.prices ∙ c.deref_mut-2.ensures.len) in
    subst (λ (ps : List ℤ). IfOk c.chain_by_levels.result (λ r. MatchOption r (AreTightPrices n c.args.amounts.now c.args.flows.now ps) (IsImproving n c.args.amounts.now c.args.flows.now)))
    (sym prices) c.chain_by_levels.ensures.found

pub returns-clause-zones : goal.returns-clause-zones
returns-clause-zones c =
    let marked = with_items_is c.args.search.now.marked c.chain_by_levels.new.marked (c.chain_by_levels.auto.marked ∙ c.deref_mut.ensures.len) in
    let prices = with_items_is c.args.search.now.prices c.chain_by_levels.new.prices (c.chain_by_levels.auto.prices ∙ c.deref_mut-2.ensures.len) in
    record {
      marks = ap length marked ∙ c.chain_by_levels.auto.marked ∙ ap length c.deref_mut.ensures.value ∙ c.requires.levels.zones.marks;
      prices = ap length prices ∙ c.chain_by_levels.auto.prices ∙ ap length c.deref_mut-2.ensures.value ∙ c.requires.levels.zones.prices;
    }

pub returns-clause-levels : goal.returns-clause-levels
returns-clause-levels c =
    let marked = with_items_is c.args.search.now.marked c.chain_by_levels.new.marked (c.chain_by_levels.auto.marked ∙ c.deref_mut.ensures.len) in
    let prices = with_items_is c.args.search.now.prices c.chain_by_levels.new.prices (c.chain_by_levels.auto.prices ∙ c.deref_mut-2.ensures.len) in
    both c.chain_by_levels.result
    (λ levels left. record { zones = returns-clause-zones c; levels = rw (marked, prices) levels; left = rw marked left })
    c.chain_by_levels.ensures.levels c.chain_by_levels.ensures.left

pub returns-clause-unmarked : goal.returns-clause-unmarked
returns-clause-unmarked c =
    let marked = with_items_is c.args.search.now.marked c.chain_by_levels.new.marked (c.chain_by_levels.auto.marked ∙ c.deref_mut.ensures.len) in
    subst (λ (marks : List Bool). IfOk c.chain_by_levels.result (λ r. IfSome r (λ chain. AreUnmarked marks chain.hops.items))) (sym marked) c.chain_by_levels.ensures.unmarked

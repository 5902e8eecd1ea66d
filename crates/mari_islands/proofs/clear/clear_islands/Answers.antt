use Rattle.std.proofs.Common.{◌≡◌, ◌++◌, ◌∷◌, [], sym, arith, rules}
use Rattle.std.specs.Prelude.{Contains}
use Rattle.std.proofs.lemmas.List.Elements.{All-contains}
use Rattle.mari_market.specs.Market.{IsValid}
use Rattle.mari_islands.specs.declared.islands.Island.{Island}
use Rattle.mari_islands.proofs.Cleared.{all_cleared, cleared_more, few_islands, spent_at}
use Rattle.mari_islands.proofs.Laws.{islands_valid}
use Rattle.mari_islands.proofs.clear.clear_islands.Goals as goal

pub clear-requires-clause-market : goal.clear-requires-clause-market
clear-requires-clause-market g c =
    let islands = c.args.islands.now in
    let there : Contains islands c.index-islands-place.result = (c.loop-place.place, c.loop-place-test.true, sym c.index-islands-place.is) in
    All-contains (λ (i : Island). IsValid i.market) islands c.index-islands-place.result (islands_valid c.args.market.now islands c.requires.valid c.requires.islands) there

pub overflow_cast-result : goal.overflow_cast-result
overflow_cast-result g c = omega (arith, few_islands c.args.market.now c.args.islands.now c.requires.valid c.requires.islands, c.requires.valid.zones.1, c.loop-place-test.true)

pub returns-in-Spent-clause-law : goal.returns-in-Spent-clause-law
returns-in-Spent-clause-law g c =
    spent_at c.args.budget c.args.islands.now c.loop-place.clearings.items c.loop-place.place c.index-islands-place.result c.in-Spent.spent
    c.loop-place-test.true c.index-islands-place.is c.loop-place.invariant.cleared c.in-Spent.ensures.law

pub loop-place-preserved : goal.loop-place-preserved
loop-place-preserved g c =
    let pushed : c.push.new.self.items ≡ c.loop-place.clearings.items ++ c.in-Published.clearing ∷ [] = search rules in
    record {
      cleared = cleared_more c.args.budget c.args.islands.now c.loop-place.clearings.items c.push.new.self.items c.loop-place.place c.index-islands-place.result c.in-Published.clearing
          c.loop-place-test.true c.index-islands-place.is c.loop-place.invariant.cleared c.in-Published.ensures.law pushed;
      ready = c.in-Published.ensures.ready;
    }

pub joined_of-requires-clause-firsts : goal.joined_of-requires-clause-firsts
joined_of-requires-clause-firsts g c =
    all_cleared c.args.budget c.args.islands.now c.loop-place.clearings.items c.deref.result.now c.loop-place.place c.loop-place-test.false
    c.loop-place.invariant.cleared c.deref.ensures.value

use Rattle.std.proofs.Common.{◌≡◌, ◌<◌, ℕ, List, length, get_or, take, subst, sym, ◌∙◌, arith}
use Rattle.std.specs.Prelude.{Contains}
use Rattle.std.proofs.lemmas.List.{take_all}
use Rattle.std.proofs.lemmas.List.Elements.{All-contains}
use Rattle.std.proofs.lemmas.Slice.Zip.{AllZip-long}
use Rattle.mari_market.specs.declared.clearing.Clearing.{Clearing}
use Rattle.mari_market.proofs.Sums.{AllZip-at}
use Rattle.mari_islands.specs.declared.islands.Island.{Island}
use Rattle.mari_islands.specs.Placing.{AreNumbersOf, ArePlaced, FitsIsland, IsPlaced}
use Rattle.mari_islands.proofs.Placing.{border_numbers, borders_long, order_numbers, orders_long, placed_more}
use Rattle.mari_islands.proofs.join.place_all.Goals as goal

pub bounds-clearings-place : goal.bounds-clearings-place
bounds-clearings-place c = omega (arith, AllZip-long FitsIsland c.args.islands.now c.args.clearings.now c.requires.clearings, c.loop-place-test.true)

pub place_island-requires-clause-orders : goal.place_island-requires-clause-orders
place_island-requires-clause-orders c =
    let islands : List Island = c.args.islands.now in
    let island : Island = c.index-islands-place.result in
    let m = c.args.market.now in
    let there : Contains islands island = (c.loop-place.place, c.loop-place-test.true, sym c.index-islands-place.is) in
    let own = All-contains (λ (i : Island). AreNumbersOf (length m.orders) i.orders) islands island (order_numbers m islands c.requires.valid c.requires.islands) there in
    subst (λ (n : ℕ). AreNumbersOf n island.orders) (sym (c.loop-place.auto.mw ∙ c.requires.mw)) own

pub place_island-requires-clause-borders : goal.place_island-requires-clause-borders
place_island-requires-clause-borders c =
    let islands : List Island = c.args.islands.now in
    let island : Island = c.index-islands-place.result in
    let m = c.args.market.now in
    let there : Contains islands island = (c.loop-place.place, c.loop-place-test.true, sym c.index-islands-place.is) in
    let own = All-contains (λ (i : Island). AreNumbersOf (length m.borders) i.borders) islands island (border_numbers m islands c.requires.valid c.requires.islands) there in
    subst (λ (n : ℕ). AreNumbersOf n island.borders) (sym (c.loop-place.auto.flow ∙ c.requires.flow)) own

pub place_island-requires-clause-mw : goal.place_island-requires-clause-mw
place_island-requires-clause-mw c =
    let islands : List Island = c.args.islands.now in
    let island : Island = c.index-islands-place.result in
    let there : Contains islands island = (c.loop-place.place, c.loop-place-test.true, sym c.index-islands-place.is) in
    let long = All-contains (λ (i : Island). length i.orders ≡ length i.market.orders) islands island (orders_long c.args.market.now islands c.requires.valid c.requires.islands) there in
    let fits : FitsIsland island (get_or c.args.clearings.now c.loop-place.place c.index-clearings-place.result) =
    subst (λ (i : Island). FitsIsland i (get_or c.args.clearings.now c.loop-place.place c.index-clearings-place.result)) (sym c.index-islands-place.is)
    (AllZip-at FitsIsland islands c.args.clearings.now c.loop-place.place island c.index-clearings-place.result c.loop-place-test.true c.requires.clearings) in
    fits.orders ∙ sym long

pub place_island-requires-clause-flow : goal.place_island-requires-clause-flow
place_island-requires-clause-flow c =
    let islands : List Island = c.args.islands.now in
    let island : Island = c.index-islands-place.result in
    let there : Contains islands island = (c.loop-place.place, c.loop-place-test.true, sym c.index-islands-place.is) in
    let long = All-contains (λ (i : Island). length i.borders ≡ length i.market.borders) islands island (borders_long c.args.market.now islands c.requires.valid c.requires.islands) there in
    let fits : FitsIsland island (get_or c.args.clearings.now c.loop-place.place c.index-clearings-place.result) =
    subst (λ (i : Island). FitsIsland i (get_or c.args.clearings.now c.loop-place.place c.index-clearings-place.result)) (sym c.index-islands-place.is)
    (AllZip-at FitsIsland islands c.args.clearings.now c.loop-place.place island c.index-clearings-place.result c.loop-place-test.true c.requires.clearings) in
    fits.borders ∙ sym long

pub loop-place-preserved : goal.loop-place-preserved
loop-place-preserved c =
    let islands : List Island = c.args.islands.now in
    let clearings : List Clearing = c.args.clearings.now in
    let island : Island = c.index-islands-place.result in
    let place = c.loop-place.place in
    let there : place < length clearings = omega (arith, AllZip-long FitsIsland islands clearings c.requires.clearings, c.loop-place-test.true) in
    let here = subst (λ (i : Island). IsPlaced i (get_or clearings place c.index-clearings-place.result).activation c.loop-place.mw c.loop-place.flow c.place_island.new.mw c.place_island.new.flow)
    c.index-islands-place.is c.place_island.ensures in
    placed_more c.args.market.now islands c.requires.valid c.requires.islands clearings place island c.index-clearings-place.result c.loop-place.mw
    c.loop-place.flow c.place_island.new.mw c.place_island.new.flow c.loop-place-test.true there c.loop-place.invariant here

pub returns : goal.returns
returns c =
    let islands : List Island = c.args.islands.now in
    let clearings : List Clearing = c.args.clearings.now in
    let place = c.loop-place.place in
    let long = AllZip-long FitsIsland islands clearings c.requires.clearings in
    let is = take_all place islands c.loop-place-test.false in
    let cs = take_all place clearings (omega (arith, long, c.loop-place-test.false)) in
    subst (λ (xs : List Island). ArePlaced xs clearings c.loop-place.mw c.loop-place.flow) is
    (subst (λ (ys : List Clearing). ArePlaced (take place islands) ys c.loop-place.mw c.loop-place.flow) cs c.loop-place.invariant)

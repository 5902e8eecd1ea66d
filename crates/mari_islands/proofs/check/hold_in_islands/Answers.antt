use Rattle.std.proofs.Common.{◌≡◌, ◌<◌, ℕ, List, true, length, get_or, subst, sym, ap, ◌∙◌, arith}
use Rattle.std.specs.Prelude.{◌↔◌, Contains, Vec}
use Rattle.std.proofs.lemmas.List.{get_or-map, length-map}
use Rattle.std.proofs.lemmas.List.Elements.{All-contains, All-weaker}
use Rattle.mari_market.specs.Market.{IsValid}
use Rattle.mari_market.specs.Optimal.{IsFeasible}
use Rattle.mari_market.proofs.Lists.{fails_at, passes_more}
use Rattle.mari_islands.specs.declared.islands.Island.{Island}
use Rattle.mari_islands.specs.Checked.{HoldsInIsland}
use Rattle.mari_islands.specs.Lists.{lists_of}
use Rattle.mari_islands.specs.Part.{activation_in}
use Rattle.mari_islands.specs.Placing.{AreNumbersOf}
use Rattle.mari_islands.proofs.Laws.{islands_feasible, islands_valid, lengths_of}
use Rattle.mari_islands.proofs.Placing.{border_numbers, order_numbers}
use Rattle.mari_islands.proofs.check.hold_in_islands.Goals as goal

pub holds_in_island-requires-clause-valid : goal.holds_in_island-requires-clause-valid
holds_in_island-requires-clause-valid c =
    let there : Contains c.args.islands.now c.index-islands-place.result = (c.loop-place.place, c.loop-place-test.true, sym c.index-islands-place.is) in
    All-contains (λ (i : Island). IsValid i.market) c.args.islands.now c.index-islands-place.result (islands_valid c.args.market.now c.args.islands.now c.requires.valid c.requires.islands) there

pub holds_in_island-requires-clause-feasible : goal.holds_in_island-requires-clause-feasible
holds_in_island-requires-clause-feasible c =
    let m = c.args.market.now in
    let islands = c.args.islands.now in
    let a = c.args.activation.now in
    let there : Contains islands c.index-islands-place.result = (c.loop-place.place, c.loop-place-test.true, sym c.index-islands-place.is) in
    All-contains (λ (i : Island). IsFeasible i.market (activation_in i a)) islands c.index-islands-place.result
    (islands_feasible m islands c.requires.valid c.requires.islands a (lengths_of m islands c.requires.valid c.requires.islands a c.requires.feasible) c.requires.feasible)
    there

pub holds_in_island-requires-clause-orders : goal.holds_in_island-requires-clause-orders
holds_in_island-requires-clause-orders c =
    let m = c.args.market.now in
    let islands = c.args.islands.now in
    let a = c.args.activation.now in
    let there : Contains islands c.index-islands-place.result = (c.loop-place.place, c.loop-place-test.true, sym c.index-islands-place.is) in
    let numbers = All-contains (λ (i : Island). AreNumbersOf (length m.orders) i.orders) islands c.index-islands-place.result (order_numbers m islands c.requires.valid c.requires.islands) there in
    let long = (lengths_of m islands c.requires.valid c.requires.islands a c.requires.feasible).orders in
    All-weaker (λ k. k < length m.orders) (λ k. k < length a.mw) (λ k l. omega (arith, l, long)) c.index-islands-place.result.orders numbers.below

pub holds_in_island-requires-clause-borders : goal.holds_in_island-requires-clause-borders
holds_in_island-requires-clause-borders c =
    let m = c.args.market.now in
    let islands = c.args.islands.now in
    let a = c.args.activation.now in
    let there : Contains islands c.index-islands-place.result = (c.loop-place.place, c.loop-place-test.true, sym c.index-islands-place.is) in
    let numbers = All-contains (λ (i : Island). AreNumbersOf (length m.borders) i.borders) islands c.index-islands-place.result (border_numbers m islands c.requires.valid c.requires.islands) there in
    let long = (lengths_of m islands c.requires.valid c.requires.islands a c.requires.feasible).borders in
    All-weaker (λ k. k < length m.borders) (λ k. k < length a.flow) (λ k l. omega (arith, l, long)) c.index-islands-place.result.borders numbers.below

-- the list of a vector that stands at a place
tree_at : {X A : Type 0} (vectors : List (Vec X A)) (i : ℕ) (v : Vec X A) (xs : List X) → i < length vectors → v ≡ get_or vectors i v → xs ≡ v.items → xs ≡ get_or (lists_of vectors) i v.items
tree_at vectors i v xs l e f = f ∙ ap (λ w. w.items) e ∙ sym (get_or-map (λ w. w.items) vectors i v v.items l)

pub returns-then-not-branch : goal.returns-then-not-branch
returns-then-not-branch c =
    let a = c.args.activation.now in
    let trees = lists_of c.args.trees.now in
    let there : c.loop-place.place < length c.args.trees.now = omega (arith, c.requires.lengths, c.loop-place-test.true) in
    let read : c.deref.result.now ≡ get_or trees c.loop-place.place c.index-trees-place.result.items =
    tree_at c.args.trees.now c.loop-place.place c.index-trees-place.result c.deref.result.now there c.index-trees-place.is c.deref.ensures.value in
    let test : (c.in_ok-holds_in_island.field-0 ≡ true) ↔ HoldsInIsland a (get_or c.args.islands.now c.loop-place.place c.index-islands-place.result) c.deref.result.now =
    subst (λ (i : Island). (c.in_ok-holds_in_island.field-0 ≡ true) ↔ HoldsInIsland a i c.deref.result.now) c.index-islands-place.is c.in_ok-holds_in_island.ensures in
    fails_at (HoldsInIsland a) c.args.islands.now trees c.loop-place.place c.index-islands-place.result c.index-trees-place.result.items
    c.deref.result.now c.in_ok-holds_in_island.field-0 c.loop-place-test.true read test c.if-not-branch.true

pub loop-place-preserved : goal.loop-place-preserved
loop-place-preserved c =
    let a = c.args.activation.now in
    let trees = lists_of c.args.trees.now in
    let there : c.loop-place.place < length c.args.trees.now = omega (arith, c.requires.lengths, c.loop-place-test.true) in
    let read : c.deref.result.now ≡ get_or trees c.loop-place.place c.index-trees-place.result.items =
    tree_at c.args.trees.now c.loop-place.place c.index-trees-place.result c.deref.result.now there c.index-trees-place.is c.deref.ensures.value in
    let test : (c.in_ok-holds_in_island.field-0 ≡ true) ↔ HoldsInIsland a (get_or c.args.islands.now c.loop-place.place c.index-islands-place.result) c.deref.result.now =
    subst (λ (i : Island). (c.in_ok-holds_in_island.field-0 ≡ true) ↔ HoldsInIsland a i c.deref.result.now) c.index-islands-place.is c.in_ok-holds_in_island.ensures in
    passes_more (HoldsInIsland a) c.args.islands.now trees c.loop-place.place c.index-islands-place.result c.index-trees-place.result.items
    c.deref.result.now c.in_ok-holds_in_island.field-0 c.loop-place-test.true (omega (arith, length-map c.args.trees.now (λ v. v.items), there)) read
    test c.if-not-branch.false c.loop-place.invariant

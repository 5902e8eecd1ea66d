use Rattle.std.proofs.Common.{◌≡◌, ℕ, ℤ, List, Option, Some, None, MatchOption, length, subst, sym}
use Rattle.std.specs.Option.{IfNone}
use Rattle.mari_market.specs.declared.market.Market.{Market}
use Rattle.mari_market.specs.declared.activation.Activation.{Activation}
use Rattle.mari_market.specs.Conflict.{IsContradictoryChain}
use Rattle.mari_market.specs.Optimal.{IsAdmissible, IsFeasible}
use Rattle.mari_prices.specs.declared.bounds.PriceBounds.{PriceBounds}
use Rattle.mari_prices.specs.declared.bounds.End.{End}
use Rattle.mari_prices.specs.declared.bounds.End.TheVariants.{Least, Greatest}
use Rattle.mari_prices.specs.declared.spread.SettledZone.{SettledZone}
use Rattle.mari_prices.specs.Ends.{IsBoundedAt, IsEnd, AreEnds, ArePriced, ArePricesOf, AreUncontradicted}
use Rattle.mari_prices.specs.Tightest.{AreTightest}
use Rattle.mari_prices.proofs.EndLaws.{priced, least_keeps, greatest_keeps, are_least, are_greatest, none_consistent}
use Rattle.mari_prices.proofs.intervals.price_test.Goals as goal

-- what the spread of a slice of the bounds says of the bounds
end_read : (end : End) (m : Market) (a : Activation) (flow slice bounds : List ℤ) (xs : List (Option SettledZone)) → IsFeasible m a → flow ≡ a.flow → slice ≡ bounds
    → AreTightest end m.orders a.mw m.zones bounds → ((b : Activation) → IsBoundedAt end m flow slice b → IsEnd end m b slice xs) → IsEnd end m a bounds xs
end_read end m a flow slice bounds xs f same e own h =
    subst (λ (us : List ℤ). IsEnd end m a us xs) e (h a (record { feasible = f; flows = sym same; own = subst (AreTightest end m.orders a.mw m.zones) (sym e) own }))

ends_read : (m : Market) (a : Activation) (b : PriceBounds) (xs xs' : List (Option SettledZone)) → xs' ≡ xs → IsFeasible m a → IsEnd Least m a b.least.items xs
    → AreTightest Greatest m.orders a.mw m.zones b.greatest.items → AreEnds m a b xs'
ends_read m a b xs xs' same f e g = record { feasible = f; least = subst (IsEnd Least m a b.least.items) (sym same) e; greatest = g }

fits_read : (xs xs' : List (Option SettledZone)) (uppers : List ℤ) → xs' ≡ xs → AreUncontradicted (length xs') xs' uppers → AreUncontradicted (length xs) xs uppers
fits_read xs xs' uppers e = subst (λ (ys : List (Option SettledZone)). AreUncontradicted (length ys) ys uppers) e

contradictory : (m : Market) (a : Activation) (chain : Option (List ℕ)) (zs : List ℕ) → chain ≡ Some zs → MatchOption chain (IsAdmissible m a) (IsContradictoryChain m a) → IsContradictoryChain m a zs
contradictory m a chain zs e h = rw e at h

none_above : (xs : List (Option SettledZone)) (uppers : List ℤ) (chain : Option (List ℕ)) → chain ≡ None → IfNone chain (AreUncontradicted (length xs) xs uppers)
    → AreUncontradicted (length xs) xs uppers
none_above xs uppers chain e h = rw e at h

pub chain_by-requires-clause-ends : goal.chain_by-requires-clause-ends
chain_by-requires-clause-ends c =
    let m = c.args.market.now in
    let a = c.args.activation.now in
    let e = end_read Least m a c.as_slice-flow.result.now c.deref.result.now c.in_ok-bounds.bounds.least.items c.in_ok-least.least.items c.requires.feasible c.as_slice-flow.ensures
    c.deref.ensures.value c.in_ok-bounds.ensures.least c.in_ok-least.ensures in
    (a, ends_read m a c.in_ok-bounds.bounds c.in_ok-least.least.items c.deref-2.result.now c.deref-2.ensures.value c.requires.feasible e c.in_ok-bounds.ensures.greatest)

pub returns-in-Some-clause-none : goal.returns-in-Some-clause-none
returns-in-Some-clause-none c = λ ps h.
    let m = c.args.market.now in
    let a = c.args.activation.now in
    let e = end_read Least m a c.as_slice-flow.result.now c.deref.result.now c.in_ok-bounds.bounds.least.items c.in_ok-least.least.items c.requires.feasible c.as_slice-flow.ensures
    c.deref.ensures.value c.in_ok-bounds.ensures.least c.in_ok-least.ensures in
    let ends = ends_read m a c.in_ok-bounds.bounds c.in_ok-least.least.items c.deref-2.result.now c.deref-2.ensures.value c.requires.feasible e c.in_ok-bounds.ensures.greatest in
    none_consistent m a c.in-Some.chain ps (contradictory m a c.in_ok-chain.field-0 c.in-Some.chain c.in-Some.is (c.in_ok-chain.ensures.chain a ends)) h

pub prices_of_settled-requires : goal.prices_of_settled-requires
prices_of_settled-requires c =
    let m = c.args.market.now in
    let a = c.args.activation.now in
    let e = end_read Least m a c.as_slice-flow.result.now c.deref.result.now c.in_ok-bounds.bounds.least.items c.in_ok-least.least.items c.requires.feasible c.as_slice-flow.ensures
    c.deref.ensures.value c.in_ok-bounds.ensures.least c.in_ok-least.ensures in
    subst ArePriced (sym c.deref-4.ensures.value) (priced Least m a c.in_ok-bounds.bounds.least.items c.in_ok-least.least.items c.requires.valid e)

pub prices_of_settled-requires-2 : goal.prices_of_settled-requires-2
prices_of_settled-requires-2 c =
    let m = c.args.market.now in
    let a = c.args.activation.now in
    let g = end_read Greatest m a c.as_slice-flow.result.now c.deref-3.result.now c.in_ok-bounds.bounds.greatest.items c.in_ok-greatest.greatest.items c.requires.feasible c.as_slice-flow.ensures
    c.deref-3.ensures.value c.in_ok-bounds.ensures.greatest c.in_ok-greatest.ensures in
    subst ArePriced (sym c.deref-5.ensures.value) (priced Greatest m a c.in_ok-bounds.bounds.greatest.items c.in_ok-greatest.greatest.items c.requires.valid g)

pub returns-clause-least : goal.returns-clause-least
returns-clause-least c =
    let m = c.args.market.now in
    let a = c.args.activation.now in
    let xs = c.in_ok-least.least.items in
    let lows = c.in_ok-bounds.bounds.least.items in
    let highs = c.in_ok-bounds.bounds.greatest.items in
    let ps = c.in_ok-prices_of_settled.field-0.cents in
    let e = end_read Least m a c.as_slice-flow.result.now c.deref.result.now c.in_ok-bounds.bounds.least.items c.in_ok-least.least.items c.requires.feasible c.as_slice-flow.ensures
    c.deref.ensures.value c.in_ok-bounds.ensures.least c.in_ok-least.ensures in
    let fit = fits_read xs c.deref-2.result.now highs c.deref-2.ensures.value (none_above c.deref-2.result.now highs c.in_ok-chain.field-0 c.in_default.is c.in_ok-chain.ensures.none) in
    let p = subst (λ (ys : List (Option SettledZone)). ArePricesOf Least ys ps) c.deref-4.ensures.value c.in_ok-prices_of_settled.ensures in
    are_least m a lows xs ps c.requires.valid c.requires.feasible e (least_keeps m a lows highs xs ps c.requires.valid c.requires.feasible e c.in_ok-bounds.ensures.greatest fit p) p

pub returns-clause-greatest : goal.returns-clause-greatest
returns-clause-greatest c =
    let m = c.args.market.now in
    let a = c.args.activation.now in
    let xs = c.in_ok-least.least.items in
    let ys = c.in_ok-greatest.greatest.items in
    let lows = c.in_ok-bounds.bounds.least.items in
    let highs = c.in_ok-bounds.bounds.greatest.items in
    let ps = c.in_ok-prices_of_settled.field-0.cents in
    let qs = c.in_ok-prices_of_settled-2.field-0.cents in
    let e = end_read Least m a c.as_slice-flow.result.now c.deref.result.now c.in_ok-bounds.bounds.least.items c.in_ok-least.least.items c.requires.feasible c.as_slice-flow.ensures
    c.deref.ensures.value c.in_ok-bounds.ensures.least c.in_ok-least.ensures in
    let g = end_read Greatest m a c.as_slice-flow.result.now c.deref-3.result.now c.in_ok-bounds.bounds.greatest.items c.in_ok-greatest.greatest.items c.requires.feasible c.as_slice-flow.ensures
    c.deref-3.ensures.value c.in_ok-bounds.ensures.greatest c.in_ok-greatest.ensures in
    let fit = fits_read xs c.deref-2.result.now highs c.deref-2.ensures.value (none_above c.deref-2.result.now highs c.in_ok-chain.field-0 c.in_default.is c.in_ok-chain.ensures.none) in
    let p = subst (λ (zs : List (Option SettledZone)). ArePricesOf Least zs ps) c.deref-4.ensures.value c.in_ok-prices_of_settled.ensures in
    let q = subst (λ (zs : List (Option SettledZone)). ArePricesOf Greatest zs qs) c.deref-5.ensures.value c.in_ok-prices_of_settled-2.ensures in
    let low = least_keeps m a lows highs xs ps c.requires.valid c.requires.feasible e c.in_ok-bounds.ensures.greatest fit p in
    are_greatest m a highs ys qs c.requires.valid c.requires.feasible g (greatest_keeps m a highs ys ps qs c.requires.valid c.requires.feasible g low q) q

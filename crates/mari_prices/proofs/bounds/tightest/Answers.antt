use Rattle.std.proofs.Common.{◌≡◌, ◌≤◌, ℕ, ℤ, pos, neg_ℤ, List, [], None, length, take, replicate, arith, ap, inl, inr, ◌∙◌}
use Rattle.std.proofs.lemmas.Int.{ints}
use Rattle.std.proofs.lemmas.List.{length-replicate, get_or-replicate, take_all}
use Rattle.mari_units.specs.declared.numbers.TheConstants.{CAP}
use Rattle.mari_market.specs.Sums.{int_at}
use Rattle.mari_market.specs.declared.market.Side.TheVariants.{Inject}
use Rattle.mari_market.specs.declared.market.Order.{Order}
use Rattle.mari_prices.specs.declared.bounds.End.{End}
use Rattle.mari_prices.specs.declared.bounds.End.TheVariants.{Least, Greatest}
use Rattle.mari_prices.specs.Tightest.{AreTightest}
use Rattle.mari_prices.proofs.Tight.{raised_more}
use Rattle.mari_prices.proofs.bounds.tightest.Goals as goal

-- without orders the cap is each zone's tightest bound
capped : (end : End) (zones : ℕ) (bounds : List ℤ) → bounds ≡ replicate zones (neg_ℤ CAP) → AreTightest end [] [] zones bounds
capped end zones bounds same = record {
  one_each = ap length same ∙ length-replicate zones (neg_ℤ CAP);
  tightest = λ z there.
      let cap : int_at bounds z ≡ neg_ℤ CAP = ap (λ (xs : List ℤ). int_at xs z) same ∙ get_or-replicate zones z (neg_ℤ CAP) (pos 0) there in
      record { bound = inl cap; tightest = λ d b. elim b [ inl e ↦ omega (arith, ints, e, cap) | inr n ↦ absurd n ] };
}

-- the bounds of all orders
all_orders : (end : End) (os : List Order) (qs : List ℕ) (i zones : ℕ) (bounds : List ℤ) → length qs ≡ length os → length os ≤ i
    → AreTightest end (take i os) (take i qs) zones bounds → AreTightest end os qs zones bounds
all_orders end os qs i zones bounds long past so_far =
    let orders : take i os ≡ os = take_all i os past in
    let amounts : take i qs ≡ qs = take_all i qs (omega (arith, long, past)) in
    rw (orders, amounts) at so_far

pub loop-i-init : goal.loop-i-init
loop-i-init c = record {
  least = capped Least c.args.zones c.in_ok-least.least.items (c.in_ok-least.ensures.items_if_clones_equal (λ y q. q));
  greatest = capped Greatest c.args.zones c.in_ok-greatest.greatest.items (c.in_ok-greatest.ensures.items_if_clones_equal (λ y q. q));
}

pub returns-clause-least : goal.returns-clause-least
returns-clause-least c = all_orders Least c.args.orders.now c.args.mw.now c.loop-i.i c.args.zones c.loop-i.bounds.least.items c.requires.lengths c.loop-i-test.false c.loop-i.invariant.least

pub returns-clause-greatest : goal.returns-clause-greatest
returns-clause-greatest c =
    all_orders Greatest c.args.orders.now c.args.mw.now c.loop-i.i c.args.zones c.loop-i.bounds.greatest.items c.requires.lengths c.loop-i-test.false c.loop-i.invariant.greatest

pub loop-i-preserved : goal.loop-i-preserved
loop-i-preserved c =
    let os = c.args.orders.now in
    let qs = c.args.mw.now in
    let i = c.loop-i.i in
    let n = c.args.zones in
    let none : Order = record { zone = 0; side = Inject; price = record { 0 = pos 0 }; least = 0; greatest = 0; gate = None } in
    let raised = c.raise.ensures in
    let new = c.raise.new.self in
    record {
      least = raised_more Least os qs i n none c.loop-i.bounds.least.items new.least.items c.loop-i-test.true (omega arith) c.loop-i.invariant.least raised.lows raised.least;
      greatest = raised_more Greatest os qs i n none c.loop-i.bounds.greatest.items new.greatest.items c.loop-i-test.true (omega arith) c.loop-i.invariant.greatest raised.highs raised.greatest;
    }

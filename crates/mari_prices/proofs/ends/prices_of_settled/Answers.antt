use Rattle.std.proofs.Common.{arith, ◌≡◌, Some, None, subst, sym}
use Rattle.std.proofs.lemmas.Int.{ints}
use Rattle.mari_units.specs.declared.Cents.{Cents}
use Rattle.std.proofs.Common.{List}
use Rattle.mari_market.specs.Price.{IsPrice}
use Rattle.mari_prices.specs.Ends.{ArePricesOf}
use Rattle.mari_prices.specs.Spread.{entry_at}
use Rattle.mari_prices.proofs.Extremes.{entry_within}
use Rattle.mari_prices.proofs.ends.prices_of_settled.Goals as goal

pub price-requires : goal.price-requires
price-requires c =
    let p : IsPrice c.in-Some.zone.value = c.requires.priced c.loop-entry.entry-index c.in-Some.zone c.in-Some.is in
    record { low = omega (arith, ints, p.low, p.high); high = omega (arith, ints, p.low, p.high) }

pub unreachable-requires : goal.unreachable-requires
unreachable-requires c =
    let s = c.requires.settled c.loop-entry.entry-index c.loop-entry-test.true in
    let some : entry_at c.args.settled.now c.loop-entry.entry-index ≡ Some s.0 = s.1 in
    let none : entry_at c.args.settled.now c.loop-entry.entry-index ≡ None = c.in-None.is in
    absurd (cc)

pub returns : goal.returns
returns c =
    let cents : c.of.result ≡ c.loop-entry.cents.items = c.of.ensures in
    subst (λ (ps : List Cents). ArePricesOf c.args.end c.args.settled.now ps) (sym cents) (record {
      one_each = omega (arith, c.loop-entry.invariant.long);
      each = λ z s e. c.loop-entry.invariant.each z s (omega (arith, entry_within c.args.settled.now z s e)) e;
    })

use Rattle.std.proofs.Common.{ℤ, List, length, sym, subst}
use Rattle.std.specs.List.{All}
use Rattle.mari_market.specs.Along.{LeadsTo}
use Rattle.mari_market.specs.Conflict.{IsContradictoryChain}
use Rattle.mari_market.specs.Price.{IsPrice}
use Rattle.mari_market.specs.Sums.{int_at}
use Rattle.mari_market.specs.declared.along.Along.TheVariants.{Rising}
use Rattle.mari_prices.specs.Ends.{AreUncontradicted, IsContradicted}
use Rattle.mari_prices.specs.declared.bounds.End.TheVariants.{Least, Greatest}
use Rattle.mari_prices.proofs.EndLaws.{priced, bounds_priced, trails, trail_contradicts, uncontradicted}
use Rattle.mari_prices.proofs.conflicts.chain_by.Goals as goal

pub contradicted-requires-clause-priced : goal.contradicted-requires-clause-priced
contradicted-requires-clause-priced c = priced Least c.args.market.now c.requires.ends.0 c.args.bounds.now.least.items c.args.least.now c.requires.valid c.requires.ends.1.least

pub contradicted-requires-clause-uppers : goal.contradicted-requires-clause-uppers
contradicted-requires-clause-uppers c =
    subst (All IsPrice) (sym c.deref.ensures.value) (bounds_priced Greatest c.args.market.now c.requires.ends.0 c.args.bounds.now.greatest.items c.requires.valid c.requires.ends.1.greatest)

pub chain_to-requires-clause-trails : goal.chain_to-requires-clause-trails
chain_to-requires-clause-trails c =
    let e = c.requires.ends.1.least in
    trails (LeadsTo Rising c.args.market.now.borders c.requires.ends.0.flow) (int_at c.args.bounds.now.least.items) c.args.least.now e.spread.spreading e.spread.settled

pub returns-in_ok-chain_to-in-Some-clause-chain : goal.returns-in_ok-chain_to-in-Some-clause-chain
returns-in_ok-chain_to-in-Some-clause-chain c = λ a e.
    let m = c.args.market.now in
    let uppers = c.args.bounds.now.greatest.items in
    let above = subst (λ (us : List ℤ). IsContradicted c.args.least.now us c.in-Some.zone) c.deref.ensures.value c.in-Some.ensures in
    subst (IsContradictoryChain m a) (sym c.of.ensures)
    (trail_contradicts m a c.args.bounds.now.least.items uppers c.args.least.now c.in-Some.zone _ c.requires.valid e.feasible e.least e.greatest above c.in_ok-chain_to-in-Some.ensures)

pub returns-in-None-clause-chain : goal.returns-in-None-clause-chain
returns-in-None-clause-chain c = λ a e.
    let fit = subst (λ (us : List ℤ). AreUncontradicted (length c.args.least.now) c.args.least.now us) c.deref.ensures.value c.in-None.ensures in
    uncontradicted c.args.market.now a c.args.bounds.now.least.items c.args.bounds.now.greatest.items c.args.least.now c.requires.valid e.feasible e.least e.greatest fit

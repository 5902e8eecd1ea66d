use Rattle.std.proofs.Common.{◌≡◌, [], ap, arith, subst}
use Rattle.std.specs.Prelude.{IfOk}
use Rattle.mari_remain.specs.declared.market.RunMarket.{RunMarket}
use Rattle.mari_remain.specs.Available.{Taken}
use Rattle.mari_remain.specs.RunMarket.{run_market_left, taken_before}
use Rattle.mari_remain.proofs.Standing.{kept-mws, kept-small, same-taken}
use Rattle.mari_remain.proofs.Validity.{valid, valid-made}
use Rattle.mari_remain.proofs.remaining.Remaining.market_alone.Goals as goal

pub run_market-requires-clause-small : goal.run_market-requires-clause-small
run_market-requires-clause-small c = kept-small c.args.books.now c.requires.accepted [] c.args.self.now c.requires.nothing

pub run_market-requires-clause-mws : goal.run_market-requires-clause-mws
run_market-requires-clause-mws c = kept-mws c.args.books.now c.requires.accepted [] c.args.self.now c.requires.nothing

pub returns-clause-market : goal.returns-clause-market
returns-clause-market c =
    let same = same-taken c.args.books.now c.requires.accepted [] c.args.self.now c.requires.nothing c.args.run (omega (arith, c.requires.first)) c.requires.last in
    subst (λ (m : RunMarket). IfOk c.run_market.result (λ made. made ≡ m)) (ap (λ (taken : Taken). run_market_left c.args.books.now taken c.args.run) same) c.run_market.ensures

pub returns-clause-valid : goal.returns-clause-valid
returns-clause-valid c =
    let books = c.args.books.now in
    let run = c.args.run in
    valid-made c.run_market.result _ (returns-clause-market c) (valid books (taken_before books [] run) run c.requires.accepted (λ k. omega arith) c.requires.first c.requires.last)

use Rattle.std.proofs.Common.{◌≡◌, ◌≤◌, ℕ, ap, arith, subst, sym}
use Rattle.std.specs.Prelude.{IfOk, unsigned_abs}
use Rattle.mari_remain.specs.declared.market.RunMarket.{RunMarket}
use Rattle.mari_remain.specs.Available.{Taken}
use Rattle.mari_remain.specs.FirstBlocks.{taken_in}
use Rattle.mari_remain.specs.Lists.{run_numbered}
use Rattle.mari_remain.specs.RunMarket.{run_market_left}
use Rattle.mari_remain.proofs.History.{bounded}
use Rattle.mari_remain.proofs.Standing.{kept-mws, kept-small, same-taken}
use Rattle.mari_remain.proofs.Validity.{valid, valid-made}
use Rattle.mari_remain.proofs.remaining.Remaining.market_of.Goals as goal

pub run_market-requires-clause-small : goal.run_market-requires-clause-small
run_market-requires-clause-small c = kept-small c.args.books.now c.requires.accepted c.requires.stands.0 c.args.self.now c.requires.stands.1

pub run_market-requires-clause-mws : goal.run_market-requires-clause-mws
run_market-requires-clause-mws c = kept-mws c.args.books.now c.requires.accepted c.requires.stands.0 c.args.self.now c.requires.stands.1

pub returns-clause-market : goal.returns-clause-market
returns-clause-market c = λ blocks stands next.
    let e = ap (λ (taken : Taken). run_market_left c.args.books.now taken c.args.run)
    (same-taken c.args.books.now c.requires.accepted blocks c.args.self.now stands c.args.run (omega (arith, next)) c.requires.last) in
    subst (λ (m : RunMarket). IfOk c.run_market.result (λ made. made ≡ m)) e c.run_market.ensures

pub returns-clause-valid : goal.returns-clause-valid
returns-clause-valid c =
    let books = c.args.books.now in
    let run = c.args.run in
    let blocks = c.requires.stands.0 in
    let stands = c.requires.stands.1 in
    let quarter = (run_numbered books run).quarter in
    let same = same-taken books c.requires.accepted blocks c.args.self.now stands run (omega (arith, c.requires.stands.2)) c.requires.last in
    let small : (k : ℕ) → unsigned_abs ((taken_in books c.args.self.now quarter).flow k) ≤ 99999 =
    λ k. let P : Taken → Type 0 = λ taken. unsigned_abs (taken.flow k) ≤ 99999 in subst P (sym same) (bounded books c.requires.accepted blocks stands.first quarter k) in
    valid-made c.run_market.result _ c.run_market.ensures (valid books (taken_in books c.args.self.now quarter) run c.requires.accepted small (omega (arith, c.requires.stands.2)) c.requires.last)

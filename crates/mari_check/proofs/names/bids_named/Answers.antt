use Rattle.std.proofs.Common.{arith, refl}
use Rattle.mari_check.specs.Lines.{NamesBid}
use Rattle.mari_check.proofs.Zips.{fail, pass, uneven}
use Rattle.mari_check.proofs.names.bids_named.Goals as goal

pub returns-then-lines-numbers : goal.returns-then-lines-numbers
returns-then-lines-numbers c = uneven (NamesBid c.args.ids.now) c.args.lines.now c.args.numbers.now (λ e. omega (arith, e, c.if-lines-numbers.true))

pub returns-then-not-is_named : goal.returns-then-not-is_named
returns-then-not-is_named c =
    fail (NamesBid c.args.ids.now) c.args.lines.now c.args.numbers.now c.loop-bid.bid c.index-lines-bid.result 0 _ c.is_named.result
    c.loop-bid-test.true c.index-lines-bid.is refl c.is_named.ensures c.if-not-is_named.true

pub loop-bid-preserved : goal.loop-bid-preserved
loop-bid-preserved c =
    pass (NamesBid c.args.ids.now) c.args.lines.now c.args.numbers.now c.loop-bid.bid c.index-lines-bid.result 0 _ c.is_named.result
    c.loop-bid-test.true (omega (arith, c.if-lines-numbers.false)) c.index-lines-bid.is refl c.is_named.ensures c.if-not-is_named.false
    c.loop-bid.invariant

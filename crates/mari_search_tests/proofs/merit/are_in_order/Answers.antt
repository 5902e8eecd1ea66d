use Rattle.std.proofs.Common.{ℕ, ◌≤◌, arith}
use Rattle.mari_market.proofs.Lists.{AllZip_more}
use Rattle.mari_search_tests.proofs.merit.are_in_order.Goals as goal

pub loop-i-preserved : goal.loop-i-preserved
loop-i-preserved c = AllZip_more (λ (lo hi : ℕ). lo ≤ hi) c.args.least.now c.args.greatest.now c.loop-i.i 0 0 c.loop-i-test.true (omega arith) c.loop-i.invariant (omega arith)

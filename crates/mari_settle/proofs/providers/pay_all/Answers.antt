use Rattle.std.proofs.Common.{◌≡◌, ◌==◌, ◌∙◌, ◌<◌, arith, length, to_z-of_z, get_or}
use Rattle.std.specs.Int.{w128}
use Rattle.std.specs.Prelude.{FitsSigned, slice_get}
use Rattle.std.proofs.lemmas.Int.{ints, fits_signed_from_abs}
use Rattle.mari_bids.specs.Bids.{no_bid}
use Rattle.mari_market.proofs.Sums.{sum_along_step}
use Rattle.mari_settle.specs.Ledger.{bid_amount}
use Rattle.mari_settle.proofs.Amounts.{amount_here, named_there, small_if, sum_along-cut}
use Rattle.mari_settle.proofs.providers.pay_all.Goals as goal

pub loop-i-preserved : goal.loop-i-preserved
loop-i-preserved c =
    let bs : c.as_slice.result.now ≡ c.args.bids.now.bids = c.as_slice.ensures in
    let number = get_or c.args.numbers.now c.loop-i.i 0 in
    let fits : FitsSigned w128 c.earned.result = fits_signed_from_abs w128 c.earned.result (omega arith) in
    let there : number < length c.args.bids.now.bids = named_there c.args.bids.now (length c.args.prices.now) number (c.requires.numbers c.loop-i.i 0 c.loop-i-test.true) in
    let bid = get_or c.args.bids.now.bids number no_bid in
    record {
      paid = λ k.
          sum_along_step (λ number q. bid_amount c.args.prices.now c.args.scheduled.now k (slice_get c.args.bids.now.bids number) q)
          c.args.numbers.now c.args.mw.now c.loop-i.i 0 0 _ _ _ c.loop-i-test.true (omega arith)
          (c.loop-i.invariant.paid k)
          (amount_here c.args.prices.now c.args.scheduled.now c.args.bids.now.bids number (get_or c.args.mw.now c.loop-i.i 0) k c.earned.result there (rw bs at c.earned.ensures.value))
          (rw (to_z-of_z fits, bs) at (c.pay.ensures.paid k));
      small = λ k. let paid =
          rw (to_z-of_z fits, bs) at (c.pay.ensures.paid k) in omega (arith, ints, paid, c.loop-i.invariant.small k, small_if (bid.provider == k) c.earned.result 1000000000000 c.earned.ensures.small);
    }

pub returns-clause-paid : goal.returns-clause-paid
returns-clause-paid c k =
    c.loop-i.invariant.paid k ∙ sum_along-cut
    (λ number q. bid_amount c.args.prices.now c.args.scheduled.now k (slice_get c.args.bids.now.bids number) q) c.args.numbers.now c.args.mw.now
    c.loop-i.i c.loop-i-test.false

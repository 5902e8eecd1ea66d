use Rattle.std.proofs.Common.{sym, subst, ℤ, ◌≤ℤ◌, pos, neg_ℤ, ◌*◌}
use Rattle.mari_market.specs.declared.limits.TheConstants.{MOST_ORDERS, MOST_WORTH}
use Rattle.mari_reach.proofs.Offers.{gain_read}
use Rattle.mari_reach.proofs.ladders.gain_of.Goals as goal

pub returns-clause-value : goal.returns-clause-value
returns-clause-value c =
    let s = c.requires.sums in
    (gain_read c.args.price c.args.sums.mw c.args.sums.worth c.requires.price s.least s.most s.low s.high).0

pub returns-clause-low : goal.returns-clause-low
returns-clause-low c =
    let s = c.requires.sums in
    let read = gain_read c.args.price c.args.sums.mw c.args.sums.worth c.requires.price s.least s.most s.low s.high in
    subst (λ (x : ℤ). neg_ℤ (pos (2 * (MOST_WORTH * MOST_ORDERS))) ≤ℤ x) (sym (read.0)) (read.1.0)

pub returns-clause-high : goal.returns-clause-high
returns-clause-high c =
    let s = c.requires.sums in
    let read = gain_read c.args.price c.args.sums.mw c.args.sums.worth c.requires.price s.least s.most s.low s.high in
    subst (λ (x : ℤ). x ≤ℤ pos (2 * (MOST_WORTH * MOST_ORDERS))) (sym (read.0)) (read.1.1)

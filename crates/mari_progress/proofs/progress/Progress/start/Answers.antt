use Rattle.std.proofs.Common.{refl, arith}
use Rattle.mari_progress.proofs.Sums.{no-totals}
use Rattle.mari_progress.proofs.progress.Progress.start.Goals as goal

pub returns : goal.returns
returns c = record {
  few = omega arith;
  stands = c.in_ok-remaining.ensures;
  totals = no-totals c.args.books.now _ c.in_ok-totals.ensures.operators c.in_ok-totals.ensures.providers c.in_ok-totals.ensures.rents c.in_ok-totals.ensures.within;
  scheduled = record { last = refl; same = λ r l there. refl; priced = tt };
  published = refl;
}

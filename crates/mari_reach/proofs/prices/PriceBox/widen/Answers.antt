use Rattle.std.proofs.Common.{arith, neg_ℤ}
use Rattle.std.proofs.lemmas.Int.{ints}
use Rattle.mari_units.specs.declared.numbers.TheConstants.{CAP}
use Rattle.mari_reach.proofs.Ranges.{all_from, all_one, all_to}
use Rattle.mari_reach.proofs.prices.PriceBox.widen.Goals as goal

pub returns-clause-low : goal.returns-clause-low
returns-clause-low c = λ z l. all_one 64 z (neg_ℤ CAP) l

pub returns-clause-high : goal.returns-clause-high
returns-clause-high c = λ z l. all_one 64 z CAP l

pub returns-clause-low_kept : goal.returns-clause-low_kept
returns-clause-low_kept c = λ z. all_from 64 z (neg_ℤ CAP) (neg_ℤ CAP) (omega (arith, ints)) (omega (arith, ints))

pub returns-clause-high_kept : goal.returns-clause-high_kept
returns-clause-high_kept c = λ z. all_to 64 z CAP CAP (omega (arith, ints)) (omega (arith, ints))

use Rattle.mari_prices.specs.Spread.{NoneOverBefore}
use Rattle.mari_prices.proofs.spread.next_led.Given as goal

abbrev pub invariant-loop-i : goal.invariant-loop-i
invariant-loop-i l = NoneOverBefore l.along l.borders l.flow l.settled l.i

use Rattle.std.proofs.Common.{◌≡◌, ◌≤◌, take}
use Rattle.mari_units.specs.Numbers.{value_of_digits}
use Rattle.mari_units.proofs.Digits.{AreDigits}
use Rattle.mari_lines.proofs.reading.leading.long_number.Given as goal

-- the number of the digits so far, which is not too great
abbrev pub invariant-loop-i : goal.invariant-loop-i
invariant-loop-i l = record {
  digits : AreDigits (take l.i l.text);
  value : l.number ≡ value_of_digits (take l.i l.text);
  low : l.number ≤ l.fn.greatest;
}

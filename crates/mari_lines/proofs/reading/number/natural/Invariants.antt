use Rattle.std.proofs.Common.{◌≡◌, ◌≤◌, take}
use Rattle.mari_units.specs.Numbers.{value_of_digits}
use Rattle.mari_units.proofs.Digits.{AreDigits}
use Rattle.mari_lines.proofs.reading.number.natural.Given as goal

-- the number of the digits so far, which is not too great
abbrev pub invariant-loop-byte : goal.invariant-loop-byte
invariant-loop-byte l = record {
  digits : AreDigits (take l.byte-index l.text);
  value : l.value ≡ value_of_digits (take l.byte-index l.text);
  low : l.value ≤ l.fn.greatest;
}

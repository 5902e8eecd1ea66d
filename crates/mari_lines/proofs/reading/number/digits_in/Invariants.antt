use Rattle.std.proofs.Common.{◌≡◌, ◌-◌, ◌^◌, min, take}
use Rattle.mari_lines.specs.Reading.{digits_in}
use Rattle.mari_lines.proofs.reading.number.digits_in.Given as goal

-- the number of the bytes so far, as far as it fits
abbrev pub invariant-loop-byte : goal.invariant-loop-byte
invariant-loop-byte l = l.value ≡ min (digits_in (take l.byte-index l.text)) (2 ^ 128 - 1)

use Rattle.std.proofs.Common.{◌≡◌, true, take}
use Rattle.std.specs.List.{list_all}
use Rattle.mari_units.specs.Names.{is_name_byte}
use Rattle.mari_lines.proofs.reading.bids.leading_name.Given as goal

-- each byte so far may stand in a name
abbrev pub invariant-loop-i : goal.invariant-loop-i
invariant-loop-i l = list_all is_name_byte (take l.i l.first) ≡ true

use Rattle.std.proofs.Common.{◌≡◌, take, drop}
use Rattle.mari_settle.specs.Lines.{map_along, together}
use Rattle.mari_settle.proofs.addition.add_amounts.Given as goal

abbrev pub invariant-loop-i : goal.invariant-loop-i
invariant-loop-i l = record {
  written : take l.i l.amounts ≡ map_along together (take l.i l.fn.amounts) (take l.i l.others);
  rest : drop l.i l.amounts ≡ drop l.i l.fn.amounts;
}

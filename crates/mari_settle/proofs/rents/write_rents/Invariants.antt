use Rattle.std.proofs.Common.{◌≡◌, take}
use Rattle.std.specs.List.{All}
use Rattle.mari_settle.specs.Conditions.{IsSmall}
use Rattle.mari_settle.specs.Ledger.{rent_of}
use Rattle.mari_settle.specs.Lines.{map_along}
use Rattle.mari_settle.proofs.rents.write_rents.Given as goal

abbrev pub invariant-loop-i : goal.invariant-loop-i
invariant-loop-i l = record {
  written : take l.i l.rents ≡ map_along (λ b f. record { 0 = rent_of l.prices b f }) (take l.i l.market.borders) (take l.i l.activation.flow);
  small : All IsSmall (take l.i l.rents);
}

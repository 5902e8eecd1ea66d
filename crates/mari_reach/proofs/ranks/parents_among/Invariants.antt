use Rattle.std.proofs.Common.{◌≡◌, ℕ, take}
use Rattle.std.specs.List.{list_any}
use Rattle.mari_market.specs.Prefix.{opens_in}
use Rattle.mari_reach.specs.Twins.{is_child}
use Rattle.mari_reach.proofs.ranks.parents_among.Given as goal

abbrev pub invariant-loop-gate : goal.invariant-loop-gate
invariant-loop-gate l = (g : ℕ) → opens_in l.parents g ≡ list_any (is_child g) (take l.gate l.gates)

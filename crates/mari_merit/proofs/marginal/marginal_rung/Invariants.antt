use Rattle.std.proofs.Common.{◌≡◌, ◌≤◌, ◌<◌, ◌⊎◌, ◌*◌, take}
use Rattle.mari_merit.proofs.Rungs.{room}
use Rattle.mari_merit.proofs.marginal.marginal_rung.Given as goal

-- `met` is the room of the rungs before this one, in MW, and is less than the need unless this is the first
abbrev pub invariant-loop-rung : goal.invariant-loop-rung
invariant-loop-rung l = record {
  met : l.met ≡ room (take l.rung-index l.rungs);
  bound : l.met ≤ 99999 * l.rung-index;
  less : (l.met < l.need) ⊎ (l.rung-index ≡ 0);
}

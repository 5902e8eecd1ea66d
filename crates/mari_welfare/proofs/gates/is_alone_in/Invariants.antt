use Rattle.std.proofs.Common.{◌≡◌, ℕ, ◌<◌, Some, true}
use Rattle.mari_market.specs.Gates.{group_of}
use Rattle.mari_market.specs.Prefix.{opens_in}
use Rattle.mari_welfare.proofs.gates.is_alone_in.Given as goal

abbrev pub invariant-loop-other : goal.invariant-loop-other
invariant-loop-other l = (h : ℕ) → h < l.other → opens_in l.opened h ≡ true → group_of l.gates h ≡ Some l.group → l.place ≡ h

use Rattle.std.proofs.Common.{◌≡◌, ◌<◌, ℕ, true}
use Rattle.mari_market.specs.Prefix.{opens_in}
use Rattle.mari_reach.specs.Tables.{AreMarked}
use Rattle.mari_reach.proofs.ranks.Lone.mark_twins.Given as goal

abbrev pub invariant-loop-other : goal.invariant-loop-other
invariant-loop-other l = record {
  kept : (g : ℕ) → opens_in l.fn.twinned g ≡ true → opens_in l.twinned g ≡ true;
  pairs : (h : ℕ) → h < l.other → AreMarked l.self l.twinned l.gate h;
}

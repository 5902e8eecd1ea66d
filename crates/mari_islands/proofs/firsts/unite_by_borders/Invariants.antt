use Rattle.std.proofs.Common.{take}
use Rattle.std.specs.List.{All}
use Rattle.mari_market.specs.declared.market.Border.{Border}
use Rattle.mari_islands.specs.Islands.{IsUsable}
use Rattle.mari_islands.specs.Uniting.{AreSound, AreUnited}
use Rattle.mari_islands.proofs.firsts.unite_by_borders.Given as goal

-- the zones of the borders so far are united
abbrev pub invariant-loop-border : goal.invariant-loop-border
invariant-loop-border l = record {
  sound : AreSound l.market l.firsts;
  united : All (λ (b : Border). IsUsable b → AreUnited l.firsts b.from b.to) (take l.border-index l.border-items);
}

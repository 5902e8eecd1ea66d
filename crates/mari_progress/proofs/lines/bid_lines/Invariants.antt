use Rattle.std.proofs.Common.{◌≡◌, map, take}
use Rattle.mari_lines.specs.declared.line.BidLine.{BidLine}
use Rattle.mari_rows.specs.Names.{name_at}
use Rattle.mari_progress.proofs.lines.bid_lines.Given as goal

-- the lines of the bids before this one
abbrev pub invariant-loop-order : goal.invariant-loop-order
invariant-loop-order l = record {
  ids : map (λ (x : BidLine). x.id) l.lines.items ≡ map (name_at l.ids) (take l.order l.numbers);
  mw : map (λ (x : BidLine). x.mw) l.lines.items ≡ take l.order l.mw;
}

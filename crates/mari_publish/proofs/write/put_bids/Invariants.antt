use Rattle.std.proofs.Common.{◌≡◌, ◌++◌, drop, map}
use Rattle.mari_publish.specs.Texts.{text_of_lines}
use Rattle.mari_lines.specs.declared.line.Line.TheVariants as line
use Rattle.mari_publish.proofs.write.put_bids.Given as goal

-- with the texts of those still to come it is the whole
abbrev pub invariant-loop-bid : goal.invariant-loop-bid
invariant-loop-bid l = l.out.items ++ text_of_lines (map line.Bid (drop l.bid-index l.bids)) ≡ l.fn.out.items ++ text_of_lines (map line.Bid l.bids)

use Rattle.std.proofs.Common.{take}
use Rattle.std.specs.List.{AllZip}
use Rattle.mari_check.specs.Lines.{NamesBid}
use Rattle.mari_check.proofs.names.bids_named.Given as goal

abbrev pub invariant-loop-bid : goal.invariant-loop-bid
invariant-loop-bid l = AllZip (NamesBid l.ids) (take l.bid l.lines) (take l.bid l.numbers)

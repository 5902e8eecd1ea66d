use Rattle.std.proofs.Common.{◌≡◌, ◌++◌, drop, filter}
use Rattle.mari_links.specs.Links.{has_gate}
use Rattle.mari_reach_text.proofs.numbers.gated_bids.Given as goal

-- with those still to come it is the whole
abbrev pub invariant-loop-number : goal.invariant-loop-number
invariant-loop-number l = l.gated.items ++ filter (has_gate l.links) (drop l.number-index l.numbers) ≡ filter (has_gate l.links) l.numbers

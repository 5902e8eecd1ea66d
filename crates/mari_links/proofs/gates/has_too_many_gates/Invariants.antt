use Rattle.std.proofs.Common.{◌≡◌, ◌≤◌, ◌+◌, ℕ, get_or, filter, length}
use Rattle.std.specs.List.{range_with_len}
use Rattle.mari_links.specs.Gates.{has_gate_at}
use Rattle.mari_links.specs.Links.{count_of, quarter_of}
use Rattle.mari_links.proofs.gates.has_too_many_gates.Given as goal

-- the bids so far that have a gate are counted by their quarters, and no quarter has too many
abbrev pub invariant-loop-bid : goal.invariant-loop-bid
invariant-loop-bid l = (last : ℕ) × record {
  sized : length l.counts.items ≡ last + 1;
  within : (bid : ℕ) → quarter_of l.bids bid ≤ last;
  counts : (k : ℕ) → k ≤ last → get_or l.counts.items k 0 ≡ count_of l.bids (filter (has_gate_at l.entries) (range_with_len 0 l.bid)) k;
  few : (k : ℕ) → count_of l.bids (filter (has_gate_at l.entries) (range_with_len 0 l.bid)) k ≤ 512;
}

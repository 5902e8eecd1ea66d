use Rattle.std.proofs.Common.{◌≡◌, ◌<◌, ◌++◌, ◌==◌, ℕ, [], drop, get_or, length}
use Rattle.mari_remain.specs.Lists.{places_from, places_of}
use Rattle.mari_remain.proofs.index.index_of.Given as goal

-- each list, with the places of the items still to come, is the whole
abbrev pub invariant-loop-place : goal.invariant-loop-place
invariant-loop-place l = record {
  sized : length l.index.items ≡ l.count;
  whole : (key : ℕ) → key < l.count → get_or l.index.items key [] ++ places_from (λ k. k == key) l.place (drop l.place l.keys) ≡ places_of l.keys key;
}

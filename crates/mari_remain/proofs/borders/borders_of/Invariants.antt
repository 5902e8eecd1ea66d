use Rattle.std.proofs.Common.{◌≡◌, map}
use Rattle.std.specs.List.{range_with_len}
use Rattle.mari_remain.specs.FirstBlocks.{taken_in}
use Rattle.mari_remain.specs.RunMarket.{border_left, ends_at, run_limits}
use Rattle.mari_remain.proofs.borders.borders_of.Given as goal

-- the borders so far
abbrev pub invariant-loop-number : goal.invariant-loop-number
invariant-loop-number l = l.left.items
    ≡ map (λ k. border_left (ends_at l.books.borders.borders k) (run_limits l.books l.run k) ((taken_in l.books l.remaining l.quarter).flow k)) (range_with_len 0 l.number)

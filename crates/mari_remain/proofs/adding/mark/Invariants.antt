use Rattle.std.proofs.Common.{◌≡◌, ℕ, drop, false, get_or}
use Rattle.std.specs.Prelude.{◌||◌, nat_lt}
use Rattle.mari_remain.specs.Blocks.{mw_beside}
use Rattle.mari_remain.proofs.adding.mark.Given as goal

-- with what is still to come it is the whole
abbrev pub invariant-loop-place : goal.invariant-loop-place
invariant-loop-place l =
    (i : ℕ) → (get_or l.marks i false || nat_lt 0 (mw_beside i (drop l.place l.bids) (drop l.place l.more)))
    ≡ (get_or l.initial.marks i false || nat_lt 0 (mw_beside i l.bids l.more))

use Rattle.std.proofs.Common.{◌≡◌, ◌+◌, ℕ, drop, get_or}
use Rattle.mari_remain.specs.Blocks.{mw_beside}
use Rattle.mari_remain.proofs.adding.add_mw.Given as goal

-- with what is still to come it is the whole
abbrev pub invariant-loop-place : goal.invariant-loop-place
invariant-loop-place l = (i : ℕ) → get_or l.mw i 0 + mw_beside i (drop l.place l.bids) (drop l.place l.more) ≡ get_or l.initial.mw i 0 + mw_beside i l.bids l.more

-- How many blocks of either kind there are.
use Rattle.std.proofs.Common.{◌≡◌, ◌+◌, List, [], ◌∷◌, ◌++◌, length, refl, arith}
use Rattle.mari_reach_text.specs.Claims.{one_if_first}
use Rattle.mari_reach_text.proofs.Accepted.{one_of_both}
use Rattle.mari_reach_day.specs.declared.block.ReachBlock.{ReachBlock}
use Rattle.mari_reach_day.specs.Reach.{first_in, within_in}

-- each block is of one kind
pub both_kinds : (blocks : List ReachBlock) → first_in blocks + within_in blocks ≡ length blocks
both_kinds [] = refl
both_kinds (r ∷ rs) = omega (arith, one_of_both r.claim, both_kinds rs)

-- with one block more
pub first_more : (blocks : List ReachBlock) (r : ReachBlock) → first_in (blocks ++ r ∷ []) ≡ first_in blocks + one_if_first r.claim
first_more [] r = omega arith
first_more (b ∷ bs) r = omega (arith, first_more bs r)

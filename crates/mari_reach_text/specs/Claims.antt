-- What blocks say of their activations.
use Rattle.std.specs.Prelude.{ℕ, ◌+◌, List, [], ◌∷◌}
use Rattle.mari_reach_lines.specs.declared.line.Claim.{Claim}
use Rattle.mari_reach_lines.specs.declared.line.Claim.TheVariants.{First, Within}
use Rattle.mari_reach_text.specs.declared.named.NamedBlock.{NamedBlock}

-- 1 where a block states the first activation of its market, 0 where one within a gap; and the other way round
abbrev pub one_if_first : Claim → ℕ
one_if_first First = 1
one_if_first (Within gap) = 0

abbrev pub one_if_within : Claim → ℕ
one_if_within First = 0
one_if_within (Within gap) = 1

-- how many of the blocks state the first activation of their market
abbrev pub first_among : List NamedBlock → ℕ
first_among [] = 0
first_among (b ∷ bs) = one_if_first b.claim + first_among bs

-- and how many one within a gap
abbrev pub within_among : List NamedBlock → ℕ
within_among [] = 0
within_among (b ∷ bs) = one_if_within b.claim + within_among bs

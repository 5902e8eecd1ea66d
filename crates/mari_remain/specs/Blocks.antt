-- The blocks of a day, as far as the market of a later run depends on them.
use Rattle.std.specs.Prelude.{ℕ, ◌+◌, ◌==◌, ℤ, pos, Bool, List, [], ◌∷◌, Option, if◌then◌else◌, filter, get_or, nat_lt, sum_by}
use Rattle.std.specs.Option.{option_map_or}
use Rattle.mari_market.specs.Sums.{int_sum}
use Rattle.mari_market.specs.declared.activation.Activation.{Activation}

-- what a published block states: the numbers of the bids that are the first orders of its run's market, and the
-- activation
pub record PastRun : Type 0 where
  pub bids : List ℕ
  pub activation : Activation

-- a block: its heading, and what it states where it is published
pub record PastBlock : Type 0 where
  pub run : ℕ
  pub quarter : ℕ
  pub direct : Bool
  pub published : Option PastRun

-- the MW of a bid in a list of bids with MW beside them
abbrev pub mw_beside : ℕ → List ℕ → List ℕ → ℕ
mw_beside bid [] mws = 0
mw_beside bid (n ∷ ns) [] = 0
mw_beside bid (n ∷ ns) (q ∷ qs) = (if n == bid then q else 0) + mw_beside bid ns qs

-- the MW of a bid in a block, which has none unless it is published
abbrev pub mw_in_block : ℕ → PastBlock → ℕ
mw_in_block bid b = option_map_or (λ (r : PastRun). mw_beside bid r.bids r.activation.mw) b.published 0

-- the MW of a bid over blocks
abbrev pub mw_of : List PastBlock → ℕ → ℕ
mw_of blocks bid = sum_by (mw_in_block bid) blocks

-- blocks activate a bid where it has more than 0 MW in them
abbrev pub is_activated : List PastBlock → ℕ → Bool
is_activated blocks bid = nat_lt 0 (mw_of blocks bid)

-- the flow over a border in a block, which has none unless it is published
abbrev pub flow_in : ℕ → PastBlock → ℤ
flow_in border b = option_map_or (λ (r : PastRun). get_or r.activation.flow border (pos 0)) b.published (pos 0)

-- the sum of a border's flows over blocks
abbrev pub flow_of : List PastBlock → ℕ → ℤ
flow_of blocks border = int_sum (flow_in border) blocks

-- the blocks of a quarter
abbrev pub of_quarter : ℕ → List PastBlock → List PastBlock
of_quarter quarter blocks = filter (λ (b : PastBlock). b.quarter == quarter) blocks

-- the blocks of direct runs
abbrev pub of_direct_runs : List PastBlock → List PastBlock
of_direct_runs blocks = filter (λ (b : PastBlock). b.direct) blocks

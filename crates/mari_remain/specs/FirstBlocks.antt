-- The blocks of the first runs of a day, and what stands in memory for them.
use Rattle.std.specs.Prelude.{◌≡◌, ◌≤◌, ◌+◌, ◌==◌, ◌+ℤ◌, ◌&&◌, ◌||◌, ℕ, ℤ, pos, Bool, false, get_or, nat_lt, List, Option, Some, None, IfSome, if◌then◌else◌, fold, is_some, length, map, slice_get, take, unwrap_or}
use Rattle.std.specs.List.{range_with_len}
use Rattle.std.specs.Option.{option_map_or}
use Rattle.mari_bids.specs.Bids.{bid_numbered}
use Rattle.mari_market.specs.Optimal.{IsFeasible}
use Rattle.mari_market.specs.declared.activation.Activation.{Activation}
use Rattle.mari_remain.specs.declared.books.Books.{Books}
use Rattle.mari_remain.specs.Blocks.{PastBlock, PastRun, flow_in, flow_of, is_activated, mw_in_block, mw_of, of_direct_runs, of_quarter}
use Rattle.mari_remain.specs.Available.{Taken}
use Rattle.mari_remain.specs.Lists.{bids_of_quarter, numbers_of_run, run_numbered}
use Rattle.mari_remain.specs.RunMarket.{market_at, numbers_of}

-- what a published block of a run states: the bids of the run's market after these blocks, and an activation that is
-- feasible there
pub record IsPastRun (books : Books) (blocks : List PastBlock) (run : ℕ) (past : PastRun) : Type 0 where
  pub bids : past.bids ≡ numbers_of books blocks run
  pub feasible : IsFeasible (market_at books blocks run) past.activation

-- a block of the next run after these blocks
pub record IsNextBlock (books : Books) (blocks : List PastBlock) (b : PastBlock) : Type 0 where
  pub run : b.run ≡ length blocks + 1
  pub there : b.run ≤ length books.runs.runs
  pub quarter : b.quarter ≡ (run_numbered books b.run).quarter
  pub direct : b.direct ≡ (run_numbered books b.run).direct
  pub published : IfSome b.published (IsPastRun books blocks b.run)

-- the published block of a run, with these bids and this activation
abbrev pub block_of : Books → (run : ℕ) → List ℕ → Activation → PastBlock
block_of books run bids a = record {
  run = run;
  quarter = (run_numbered books run).quarter;
  direct = (run_numbered books run).direct;
  published = Some (record { bids = bids; activation = a });
}

-- the blocks are those of the first runs, in order: each is the next after those before it
abbrev pub AreFirstBlocks : Books → List PastBlock → Type 0
AreFirstBlocks books blocks = (k : ℕ) (b : PastBlock) → slice_get blocks k ≡ Some b → IsNextBlock books (take k blocks) b

-- the quarter of the last published block, if there is one
abbrev pub last_published_quarter : List PastBlock → Option ℕ
last_published_quarter blocks = fold (λ before (b : PastBlock). if is_some b.published then Some b.quarter else before) None blocks

-- what is kept of the blocks: the MW of each bid, whether a direct run activated it, the quarter of the last published
-- block, and the sum of each border's flows in that quarter
pub record Tally : Type 0 where
  pub mw : List ℕ
  pub direct : List Bool
  pub quarter : Option ℕ
  pub flow : List ℤ
  -- the bids of each quarter, from quarter 0 on
  pub of_quarter : List (List ℕ)
  -- the numbers of the demands of each run, from run 0 on, which has none
  pub of_run : List (List ℕ)

-- whether a bid was activated, and whether a direct run activated it
abbrev pub activated_in : Tally → ℕ → Bool
activated_in kept i = nat_lt 0 (get_or kept.mw i 0)

abbrev pub direct_in : Tally → ℕ → Bool
direct_in kept i = get_or kept.direct i false

-- whether the kept flows are those of a quarter, and a border's kept flow, if it is of the quarter
abbrev pub is_kept_of : Tally → (quarter : ℕ) → Bool
is_kept_of kept quarter = option_map_or (λ last. last == quarter) kept.quarter false

abbrev pub kept_flow : Tally → (quarter border : ℕ) → ℤ
kept_flow kept quarter border = if is_kept_of kept quarter then get_or kept.flow border (pos 0) else pos 0

-- what is kept stands for a list of blocks: they are those of the first runs, and the MW, the marks, the quarter and
-- the flows are theirs; and the lists of bids and demands are those of the books
pub record StandsFor (books : Books) (blocks : List PastBlock) (kept : Tally) : Type 0 where
  pub first : AreFirstBlocks books blocks
  pub mw : kept.mw ≡ map (mw_of blocks) (range_with_len 0 (length books.bids.bids))
  pub direct : kept.direct ≡ map (is_activated (of_direct_runs blocks)) (range_with_len 0 (length books.bids.bids))
  pub quarter : kept.quarter ≡ last_published_quarter blocks
  pub flow : kept.flow ≡ map (flow_of (of_quarter (unwrap_or kept.quarter 0) blocks)) (range_with_len 0 (length books.borders.borders))
  pub of_quarter : kept.of_quarter ≡ map (bids_of_quarter books.bids.bids) (range_with_len 0 (books.quarters + 1))
  pub of_run : kept.of_run ≡ map (numbers_of_run books.demands.demands) (range_with_len 0 (length books.runs.runs + 1))

-- what is taken, as it is read off what is kept, for a run of a quarter
abbrev pub taken_in : Books → Tally → (quarter : ℕ) → Taken
taken_in books kept quarter = record {
  mw = λ i. if (bid_numbered books.bids.bids i).quarter == quarter then get_or kept.mw i 0 else 0;
  activated = λ i. activated_in kept i;
  by_direct_run = λ i. direct_in kept i;
  flow = λ k. kept_flow kept quarter k;
}

-- what is kept after one more published block: its MW and marks are added, its quarter is the last, its flows are added
-- to those of its quarter, and the lists of bids and demands stay
pub record IsKeptAfter (b : PastBlock) (kept after : Tally) : Type 0 where
  pub mws : length after.mw ≡ length kept.mw
  pub mw : (i : ℕ) → get_or after.mw i 0 ≡ get_or kept.mw i 0 + mw_in_block i b
  pub marks : length after.direct ≡ length kept.direct
  pub direct : (i : ℕ) → direct_in after i ≡ (direct_in kept i || (b.direct && nat_lt 0 (mw_in_block i b)))
  pub quarter : after.quarter ≡ Some b.quarter
  pub flows : length after.flow ≡ length kept.flow
  pub flow : (k : ℕ) → get_or after.flow k (pos 0) ≡ kept_flow kept b.quarter k +ℤ flow_in k b
  pub of_quarter : after.of_quarter ≡ kept.of_quarter
  pub of_run : after.of_run ≡ kept.of_run
